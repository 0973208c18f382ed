-- The laws of a walk: the size of the line at the start of bytes, and lines walked beside their offsets, which both loops keep alike. Assumes nothing.
use mathlib.Core.Path.{◌≡◌, refl, sym, ap, ◌∙◌}
use mathlib.Core.Bool.{Bool, true, false, ◌&&◌, not}
use mathlib.Core.List.{List, [], ◌∷◌, ◌++◌, append_assoc}
use mathlib.Core.Logic.{inl, inr}
use Prim.Native.Nat.{ℕ, zero, suc, ◌+◌, ◌-◌, ◌*◌, ◌/◌, ◌≤◌, ◌<◌, min}
use native.Mathlib.Nat.{add-zero}
use native.Mathlib.Numerals.{add-one}
use native.Mathlib.Omega.{arith}
use lib.Dec.{eqb, ltb, leb}
use lib.ListN.{length, take, drop, get_or, length-append, length-drop, take-append-drop}
use lib.Seq.{length-take-le, take_all, take-suc, take-add, take_at, drop_at}
use borrow.Author.Tests.{ltb-true, leb-true, lt-ltb, le-leb}
use Rattle.text.specs.Place.{value}
use Rattle.text.proofs.Logic.{and_left, and_right, not_holds, not_fails}
use Rattle.shapes.specs.Cut.{up_to, has, before, after}
use Rattle.shapes.specs.Pieces.{none_has}
use Rattle.shapes.proofs.Laws.{rest_all, up_to_le, up_to_here}
use Rattle.shapes.proofs.Joins.{cut_whole, before_none, whole_has, up_to_past, no_cut, joined_has}
use Rattle.rules.specs.Frame.{line_feed, longest_line}
use Rattle.cutter.specs.Feed.{feed_of, texts_of, rest_of}
use Rattle.cutter.proofs.Feeds.{feed_text, feed_none, feed_only}
use Rattle.dayfile.specs.DayFile.{lines_text, starts_from, may_keep, each_may_keep}
use Rattle.dayfile.specs.Opening.{offsets_in, agree}
use Rattle.dayfile.specs.Walk.{line_size, Stops, Walks}
use Rattle.dayfile.specs.declared.walking.Walked.{Walked}
use Rattle.dayfile.proofs.Bytes.{length-offsets}
use Rattle.dayfile.proofs.Files.{feed_rest, lines_append, length-starts, starts_append, each_append, each_none, kept_line, line_kept, texts_lines, agree_lines, lines_agree}

-- ---- the size of a line

up_to_take : (b m : ℕ) (s : List ℕ) → up_to b (take m s) ≡ min m (up_to b s)
unfolding up_to
up_to_take b zero s = omega arith
up_to_take b (suc m) [] = omega arith
up_to_take b (suc m) (x ∷ s) = go (eqb x b) refl (up_to_take b m s)
  where
    go : (t : Bool) → eqb x b ≡ t → up_to b (take m s) ≡ min m (up_to b s) → up_to b (x ∷ take m s) ≡ min (suc m) (up_to b (x ∷ s))
    go true q r = rw q (omega arith)
    go false q r = rw q (omega arith)

-- a line feed that was looked for among so many bytes
module _ (s : List ℕ) (m n : ℕ) (most : m ≡ min (length s) 2049) (at : n ≡ up_to line_feed (take m s)) where
  pub near : n ≤ 2049
  near = omega (arith, up_to_take line_feed m s)

  pub no_line : n ≡ m → 0 ≡ line_size s
  unfolding line_size has
  no_line e =
      let u = up_to_take line_feed m s in
      let far = ltb (up_to line_feed s) (length s) in
      let near = leb (up_to line_feed s) longest_line in
      rw (not_holds (far && near) (λ t. omega (arith, ltb-true (up_to line_feed s) (length s) (and_left far near t), leb-true (up_to line_feed s) longest_line (and_right far near t))))

  pub one_line : (n ≡ m → ⊥) → n + 1 ≡ line_size s
  unfolding line_size has
  one_line e =
      let u = up_to_take line_feed m s in
      let same : up_to line_feed s ≡ n = omega arith in
      rw (lt-ltb (up_to line_feed s) (length s) (omega arith), le-leb (up_to line_feed s) longest_line (omega arith), same)

-- what a size that is not 0 says of the bytes: a line that may be kept, its line feed, and what is left
pub record Sized (s : List ℕ) (n : ℕ) : Type 0 where
  pub line : List ℕ
  pub rest : List ℕ
  pub kept : may_keep line ≡ true
  pub size : n ≡ length line + 1
  pub whole : s ≡ line ++ line_feed ∷ rest

pub sized_text_lem : {s : List ℕ} {n : ℕ} (l : Sized s n) → take n s ≡ l.line ++ line_feed ∷ []
sized_text_lem {s = s} {n = n} l =
    let e : s ≡ (l.line ++ line_feed ∷ []) ++ l.rest = l.whole ∙ sym (append_assoc l.line (line_feed ∷ []) l.rest) in
    rw e (take_at (l.line ++ line_feed ∷ []) l.rest n (simp length-append (sym l.size)))

pub sized : (s : List ℕ) (n : ℕ) → n ≡ line_size s → (n ≡ 0 → ⊥) → Sized s n
unfolding line_size before
sized s n e some =
    let here = has line_feed s in
    let near = leb (up_to line_feed s) longest_line in
    let t : (here && near) ≡ true = not_fails (here && near) (λ q. some (rw q at e)) in
    let h = and_left here near t in
    let u : length (before line_feed s) ≡ up_to line_feed s = length-take-le (up_to line_feed s) s (up_to_le line_feed s) in
    let k : up_to line_feed s ≤ 2048 = leb-true (up_to line_feed s) longest_line (and_right here near t) in
    record {
      line = before line_feed s;
      rest = after line_feed s;
      kept = line_kept (before line_feed s) (omega arith) (whole_has line_feed (before line_feed s) (before_none line_feed s));
      size = e ∙ rw (t, u);
      whole = sym (cut_whole line_feed s h);
    }

-- it ends in these bytes
pub line_inside : (s : List ℕ) (i n : ℕ) → i ≤ length s → n ≡ line_size (take (length s - i) (drop i s)) → (n ≡ 0 → ⊥) → i + n ≤ length s
line_inside s i n h size some =
    let next = sized (drop i s) n (rw rest_all at size) some in
    omega (arith, h, next.size, ap length next.whole, length-drop i s, length-append next.line (line_feed ∷ next.rest))

-- ---- lines walked beside their offsets

pub record Walking (from : ℕ) (s os : List ℕ) (i k : ℕ) : Type 0 where
  pub run : List (List ℕ)
  pub inside : i ≤ length s
  pub text : take i s ≡ lines_text run
  pub each : each_may_keep run ≡ true
  pub many : k ≡ length run
  pub fewer : k ≤ length os
  pub starts : take k os ≡ starts_from from run

pub begin : (from : ℕ) (s os : List ℕ) → Walking from s os 0 0
unfolding feed_of each_may_keep starts_from
begin from s os = record { run = []; inside = omega arith; text = refl; each = refl; many = refl; fewer = omega arith; starts = refl }

module _ {from : ℕ} {s os : List ℕ} {i k : ℕ} (v : Walking from s os i k) where
  -- one line more
  pub turn : (n : ℕ) → n ≡ line_size (take (length s - i) (drop i s)) → (n ≡ 0 → ⊥) → k < length os → get_or os k 0 ≡ from + i → Walking from s os (i + n) (k + 1)
  unfolding starts_from each_may_keep feed_of
  turn n size some more at =
      let next = sized (drop i s) n (rw rest_all at size) some in
      let w : length (lines_text v.run) ≡ i = ap length (sym v.text) ∙ length-take-le i s v.inside in
      record {
        run = v.run ++ next.line ∷ [];
        inside = line_inside s i n v.inside size some;
        text = take-add i n s ∙ rw (v.text, lines_append, sized_text_lem next);
        each = rw (each_append, v.each, next.kept);
        many = rw (length-append) (omega (arith, v.many));
        fewer = omega arith;
        starts = rw (add-one, take-suc os k 0, v.starts, starts_append, w, at);
      }

-- ---- the numbers of an index

pub number_at : (s : List ℕ) (k : ℕ) → k < length s / 4 → get_or (offsets_in s) k 0 ≡ value 256 4 (take 4 (drop (4 * k) s))
unfolding offsets_in
number_at [] k h = absurd (omega arith)
number_at (a ∷ []) k h = absurd (omega arith)
number_at (a ∷ (b ∷ [])) k h = absurd (omega arith)
number_at (a ∷ (b ∷ (c ∷ []))) k h = absurd (omega arith)
number_at (a ∷ (b ∷ (c ∷ (d ∷ s)))) zero h = refl
number_at (a ∷ (b ∷ (c ∷ (d ∷ s)))) (suc k) h =
    let e : 4 * suc k ≡ suc (suc (suc (suc (4 * k)))) = omega arith in
    rw e (number_at s k (omega arith))

-- four bytes of an index, as a walk takes them
pub four_number : (s : List ℕ) (k n : ℕ) → k < length (offsets_in s) → (let four = take (4 * k + 4 - 4 * k) (drop (4 * k) s) in n ≡ value 256 (length four) four) → n ≡ get_or (offsets_in s) k 0
four_number s k n h e =
    let more : k < length s / 4 = omega (arith, length-offsets s) in
    let w : 4 * k + 4 - 4 * k ≡ 4 = omega arith in
    let four_long : length (take 4 (drop (4 * k) s)) ≡ 4 = length-take-le 4 (drop (4 * k) s) (omega (arith, length-drop (4 * k) s)) in
    (rw (w, four_long) at e) ∙ sym (number_at s k more)

-- ---- what a walk tells: it used everything exactly if the bytes are these lines, each beginning at its offset

pub size_of : (l rest : List ℕ) → may_keep l ≡ true → line_size (l ++ line_feed ∷ rest) ≡ length l + 1
unfolding line_size
size_of l rest e =
    let k = kept_line l e in
    let none = no_cut line_feed l k.1 in
    let at : up_to line_feed (l ++ line_feed ∷ rest) ≡ length l = up_to_past line_feed l (line_feed ∷ rest) none ∙ rw (up_to_here line_feed line_feed rest refl, add-zero) in
    rw (joined_has line_feed l rest none, at, le-leb (length l) longest_line k.0)

none_append : (ls ms : List (List ℕ)) → none_has line_feed ls ≡ true → none_has line_feed ms ≡ true → none_has line_feed (ls ++ ms) ≡ true
unfolding none_has
none_append [] ms e f = f
none_append (l ∷ ls) ms e f =
    let one = not (has line_feed l) in
    rw (and_left one (none_has line_feed ls) e) (none_append ls ms (and_right one (none_has line_feed ls) e) f)

module _ {from : ℕ} {s os : List ℕ} {r : Walked} (v : Walks from s os r) where
  abbrev left : List ℕ
  left = drop r.used s

  used_long : length (lines_text v.run) ≡ r.used
  used_long = ap length (sym v.text) ∙ length-take-le r.used s v.inside

  -- the lines of s are those that were walked, and then those of what is left
  walked_texts : (texts_of s ≡ v.run ++ texts_of left) × (rest_of s ≡ rest_of left)
  walked_texts =
      let n = feed_none left in
      let e : feed_of (v.run ++ texts_of left) (rest_of left) ≡ s =
      feed_rest (v.run ++ texts_of left) (rest_of left) ∙ rw (lines_append, append_assoc, ← feed_rest (texts_of left) (rest_of left), feed_text, ← v.text) (take-append-drop r.used s) in
      rw e at (feed_only (v.run ++ texts_of left) (rest_of left) (none_append v.run (texts_of left) (each_none v.run v.each) n.0) n.1)

  module _ (ls : List (List ℕ)) (text : s ≡ lines_text ls) (each : each_may_keep ls ≡ true) (starts : os ≡ starts_from from ls) where
    used_all : (ns : List (List ℕ)) → ls ≡ v.run ++ ns → left ≡ lines_text ns → (r.lines ≡ length os) × (r.used ≡ length s)
    unfolding feed_of starts_from each_may_keep
    used_all [] e l =
        (omega (arith, v.many, ap length starts, length-starts from ls, ap length e, length-append v.run []), omega (arith, v.inside, ap length l, length-drop r.used s))
    used_all (n ∷ ns) e l = absurd (stop v.stops)
      where
        next : drop r.lines os ≡ (from + r.used) ∷ starts_from (from + r.used + length n + 1) ns
        next = rw (starts, e, starts_append, used_long) (drop_at (starts_from from v.run) _ r.lines (length-starts from v.run ∙ sym v.many))

        kept : may_keep n ≡ true
        kept =
            let a = each_may_keep v.run in
            let b = each_may_keep ns in
            and_left (may_keep n) b (and_right a (may_keep n && b) (sym (each_append v.run (n ∷ ns)) ∙ ap each_may_keep (sym e) ∙ each))

        stop : Stops (from + r.used) left (drop r.lines os) → ⊥
        stop (inl z) = let k : suc (length (starts_from (from + r.used + length n + 1) ns)) ≡ 0 = rw next at z in omega arith
        stop (inr (inl q)) = q (rw next)
        stop (inr (inr z)) = let k : length n + 1 ≡ 0 = sym (size_of n (lines_text ns) kept) ∙ (rw l at z) in omega arith

    pub walked_whole : (r.lines ≡ length os) × (r.used ≡ length s)
    walked_whole =
        let k = texts_lines ls each in
        let w = walked_texts in
        used_all (texts_of left) (sym (ap texts_of text ∙ k.0) ∙ w.0) (sym (feed_text left) ∙ ap (feed_of (texts_of left)) (sym w.1 ∙ ap rest_of text ∙ k.1))

-- as a test
module _ {s os : List ℕ} {r : Walked} (v : Walks 0 s os r) where
  pub walked_agree : r.lines ≡ length os → r.used ≡ length s → agree s os ≡ true
  walked_agree e f =
      lines_agree s os
      record {
        run = v.run;
        text = sym (take_all r.used s (omega arith)) ∙ v.text;
        each = v.each;
        starts = sym (take_all r.lines os (omega arith)) ∙ v.starts;
      }

  walked_all : agree s os ≡ true → (r.lines ≡ length os) × (r.used ≡ length s)
  walked_all e = let l = agree_lines s os e in walked_whole v l.run l.text l.each l.starts

  pub fewer_lines : (r.lines ≡ length os → ⊥) → agree s os ≡ false
  fewer_lines n = not_holds (agree s os) (λ e. n (walked_all e).0)

  pub fewer_bytes : (r.used ≡ length s → ⊥) → agree s os ≡ false
  fewer_bytes n = not_holds (agree s os) (λ e. n (walked_all e).1)
