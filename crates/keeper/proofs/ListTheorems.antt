-- THE THEOREMS OF A DAY FILE'S LINES, about the promises as they stand in the source: `Pre` is what `shelf::put_lines`, `open_end`, `judge` and `list` ask for,
-- `Post` what `look`, `look_at_end`, `turn` and `go_over` promise. The numbers in the statements are document 02's. Assumes nothing.
use Rattle.std.specs.Prelude.{Ok, Result, IfSome}
use Rattle.std.proofs.lemmas.Option.{IfSome_then}
use mathlib.Core.Path.{◌≡◌, sym, ap, ◌∙◌}
use mathlib.Core.Bool.{Bool, true, false}
use mathlib.Core.List.{List, []}
use mathlib.Core.Logic.{⊎_elim}
use Prim.Native.Nat.{ℕ, ◌+◌, ◌*◌, ◌-◌, ◌≤◌, ◌<◌}
use native.Mathlib.Omega.{arith}
use lib.ListN.{length, take, get_or}
use borrow.Author.Tests.{eq-eqb}
use Rattle.text.proofs.Logic.{and_left, and_right}
use Rattle.shapes.specs.Cut.{has}
use Rattle.dayfile.specs.DayFile.{version1, lines_text, each_may_keep}
use Rattle.dayfile.specs.Opening.{open_by, tail_of, open_of, open_number, lines_by, lines_in}
use Rattle.dayfile.specs.Cases.{OpenCase}
use Rattle.dayfile.specs.Windows.{Swept, Shows}
use Rattle.dayfile.specs.declared.Contents.{Contents}
use Rattle.dayfile.proofs.Files.{each_append, each_at, kept_line, texts_lines}
use Rattle.dayfile.proofs.Opens.{open_case}
use Rattle.dayfile.proofs.Windows.{swept_first, swept_size, swept_all}
use Rattle.keeper.specs.Lists.{ReadFrom, Turns, lines_window, index_window, goes_on, verdict_of, Over, begun, turned}
use Rattle.keeper.specs.declared.pass.Pass.{Pass}
use Rattle.keeper.proofs.Passes.{too_few, last_told, day_end, goes_no_further}
use Rattle.keeper.proofs.shelf.Shelf.put_lines.Reads as put-lines
use Rattle.keeper.proofs.lists.open_end.Reads as open-end
use Rattle.keeper.proofs.lists.look_at_end.Reads as look-at-end
use Rattle.keeper.proofs.pass.judge.Reads as judge
use Rattle.keeper.proofs.pass.turn.Reads as turn
use Rattle.keeper.proofs.pass.go_over.Reads as go-over
use Rattle.keeper.proofs.lists.look.Reads as look
use Rattle.keeper.proofs.lists.list.Reads as list
use Rattle.dayfile.specs.declared.NotOpened.{NotOpened}

-- ---- WHAT IS ANSWERED IS WHAT `open` ANSWERS, and in the document's order: to a file of this size

pub record Answered (size : ℕ) (r : Result Contents NotOpened) : Type 0 where
  pub file : List ℕ
  pub sized : length file ≡ size
  pub answer : r ≡ open_of version1 file
  pub number : OpenCase version1 file (open_number r)

pub answered : (κs : _) (a : _) (r : _) (s : _) → look.Post κs a r s → IfSome r (λ o. Answered a.0.size o)
answered κs a r s p = IfSome_then r p (λ o j. record { file = j.file; sized = j.sized; answer = j.answer; number = rw j.answer (open_case version1 j.file) })

-- the last eight bytes, as they were left in the buffer: any file that ends in them is told so
pub end_told : (κs : _) (a : _) (r : _) (s : _) → look-at-end.Post κs a r s
    → (file : List ℕ) → length file ≡ a.0.size → tail_of version1 file ≡ s.1.1.0.now → IfSome r (λ o. o ≡ open_by version1 (length file) (tail_of version1 file))
end_told κs a r s p file n t = IfSome_then r p (λ o e. e ∙ ap (λ (m : ℕ). open_by version1 m s.1.1.0.now) (sym n) ∙ ap (open_by version1 (length file)) (sym t))

-- ---- EACH WINDOW THAT IS JUDGED WAS READ FROM ITS PLACE: the last bytes; the lines from where the pass stands; the index from its next offset

pub end_read : (κs : _) (a : _) → open-end.Pre κs a → ReadFrom (a.0 - 8) a.1.1.0.now a.1.0
end_read κs a p = p.0.1

pub windows_read : (κs : _) (a : _) → judge.Pre κs a
    → ReadFrom a.1.1.0.sweep.at a.1.1.1.1.0.now a.1.1.1.0
    × ReadFrom (a.0.start + 4 * a.1.1.0.sweep.lines) a.1.1.1.1.1.1.0.now a.1.1.1.1.1.0
windows_read κs a p = (p.1.0, p.1.1.0)

-- and as many bytes of it came as it has
pub end_whole : (κs : _) (a : _) → open-end.Pre κs a → a.1.0.came ≡ a.1.0.size
end_whole κs a p = p.0.1.2

pub windows_whole : (κs : _) (a : _) → judge.Pre κs a → (a.1.1.1.0.came ≡ a.1.1.1.0.size) × (a.1.1.1.1.1.0.came ≡ a.1.1.1.1.1.0.size)
windows_whole κs a p = (p.1.0.2, p.1.1.0.2)

-- ---- TURN AFTER TURN, THE WINDOWS ANSWER WHAT `open` ANSWERS ON THE WHOLE FILE, whatever file shows them

pub turn_promise : (κs : _) (a : _) (r : _) (s : _) → turn.Post κs a r s
    → Turns a.0.size a.1.1.0 a.1.1.1.0 a.1.1.1.1.0 s.1.1.1.1.1.0.now s.1.1.1.1.1.1.0.now r
turn_promise κs a r s p = p

module _ {size : ℕ} {c : Contents} {writes : Bool} {file : List ℕ} (told : open_by version1 (length file) (tail_of version1 file) ≡ Ok c) where
  pub over_swept : {p : Pass} → Over size c writes file p → Swept version1 file c p.sweep
  over_swept (begun p e) = rw e (swept_first version1 file c told)
  over_swept (turned o t r s i) = ((t.windows r).judged version1 file (over_swept o) s i).0

  -- where the turns end: no line more, or the last
  pub over_answers : {p p' : Pass} {lines index : List ℕ} → Over size c writes file p → Turns size c writes p lines index p' → p'.read ≡ true
      → Shows file p.sweep.at (lines_window c p lines) → Shows file (c.start + 4 * p.sweep.lines) (index_window c p index)
      → p'.shelf.live ≡ true → goes_on c p.sweep.lines p' ≡ false → p.sweep.lines < c.lines → verdict_of c p' ≡ open_of version1 file
  over_answers {p = p} {p' = p'} o t r s i live off short =
      let j = (t.windows r).judged version1 file (over_swept o) s i in
      ⊎_elim
      (λ e. sym (too_few c p' (λ q. omega arith)) ∙ sym (j.1 e))
      (λ h. let e : p'.sweep.lines ≡ c.lines = omega (arith, j.0.fewer) in last_told c p' e ∙ sym (swept_all j.0 e))
      (goes_no_further c p.sweep.lines p' off r live)

-- a file of no lines takes no turn
pub none_answers : (file : List ℕ) (c : Contents) → open_by version1 (length file) (tail_of version1 file) ≡ Ok c → (p : Pass) → p.sweep ≡ record { at = 0; lines = 0 } → c.lines ≡ 0
    → verdict_of c p ≡ open_of version1 file
none_answers file c told p e z =
    let v : Swept version1 file c p.sweep = rw e (swept_first version1 file c told) in
    let f : p.sweep.lines ≡ c.lines = rw e (sym z) in
    last_told c p f ∙ sym (swept_all v f)

-- ---- EACH PIECE IS WHOLE LINES AFTER WHOLE LINES, "each with its line feed, of at most 2,048 bytes"

pub record WholeLines (ls : List (List ℕ)) : Type 0 where
  pub short : (k : ℕ) → k < length ls → length (get_or ls k []) ≤ 2048
  pub plain : (k : ℕ) → k < length ls → has 10 (get_or ls k []) ≡ false

whole_lines : (ls : List (List ℕ)) → each_may_keep ls ≡ true → WholeLines ls
whole_lines ls e = record { short = λ k h. (kept_line (get_or ls k []) (each_at ls e k h)).0; plain = λ k h. (kept_line (get_or ls k []) (each_at ls e k h)).1 }

pub record Piece (put : ℕ) (text : List ℕ) : Type 0 where
  pub done : List (List ℕ)
  pub next : List (List ℕ)
  pub before : WholeLines done
  pub now_lines : WholeLines next
  pub place : put ≡ length (lines_text done)
  pub lines : text ≡ lines_text next

pub put_piece : (κs : _) (a : _) → put-lines.Pre κs a → Piece a.0.total a.1.1.0.now
put_piece κs a p =
    let e = sym (each_append p.done p.next) ∙ p.each in
    record {
      done = p.done;
      next = p.next;
      before = whole_lines p.done (and_left (each_may_keep p.done) (each_may_keep p.next) e);
      now_lines = whole_lines p.next (and_right (each_may_keep p.done) (each_may_keep p.next) e);
      place = p.place;
      lines = p.lines;
    }

-- ---- NOTHING IS PUT AWAY BY A PASS THAT JUDGES, and lines only of a file of this size that opens

pub judges_silently : (κs : _) (a : _) (r : _) (s : _) → go-over.Post κs a r s → a.1.1.1.0 ≡ false → r.shelf.total ≡ 0
judges_silently κs a r s p e = (p.passing.silent e).0

pub lists_what_opens : (κs : _) (a : _) → list.Pre κs a → (file : List ℕ) × (length file ≡ a.0.size) × (open_of version1 file ≡ Ok a.1.1.0)
lists_what_opens κs a p = let j = p in (j.file, j.sized, sym j.answer)

-- ---- IF ALL WAS READ AND PUT AWAY, and judged as it was before, as many bytes went out as the lines have of a file of this size that opens

pub record PutAll (size : ℕ) (c : Contents) (put : ℕ) : Type 0 where
  pub file : List ℕ
  pub sized : length file ≡ size
  pub opens : open_of version1 file ≡ Ok c
  pub all : put ≡ c.start
  pub lines : put ≡ length (lines_text (lines_in version1 file))

pub put_all : (κs : _) (a : _) (r : _) (s : _) → go-over.Post κs a r s → a.1.1.1.0 ≡ true → r.read ≡ true → r.shelf.live ≡ true
    → verdict_of a.1.1.0 r ≡ Ok a.1.1.0 → PutAll a.0.size a.1.1.0 r.shelf.total
unfolding lines_by
put_all κs a r s p w e live v =
    let c = a.1.1.0 in
    let k = p.passing.swept in
    let d = day_end c r v in
    let opens : open_of version1 p.passing.file ≡ Ok c = swept_all k d.0 ∙ rw (eq-eqb r.sweep.at c.start d.1) in
    let at = p.passing.put w live in
    let text : take c.start p.passing.file ≡ lines_text k.run = rw (← d.1) k.text in
    record {
      file = p.passing.file;
      sized = p.passing.sized;
      opens = opens;
      all = at ∙ d.1;
      lines = at ∙ sym (swept_size k) ∙ rw (opens, text, (texts_lines k.run k.each).0);
    }
