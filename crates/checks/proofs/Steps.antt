-- One call of `cut`, and what is said of the line that it told of: what the bytes that it used add. Assumes nothing.
use Rattle.std.specs.Prelude.{None, Option, Some}
use mathlib.Core.Path.{◌≡◌, refl, sym, ap, ◌∙◌}
use mathlib.Core.Bool.{true, false, cond}
use mathlib.Core.List.{List, [], ◌∷◌, ◌++◌, append-nil}
use Prim.Native.Nat.{ℕ, suc, ◌+◌, ◌≤◌, ◌<◌}
use native.Mathlib.Numerals.{add-one}
use native.Mathlib.Omega.{arith}
use lib.Dec.{eqb}
use lib.ListN.{length, take, length-append}
use lib.Seq.{take-length, take_at, append_snoc, length-take-le}
use Rattle.text.specs.Text.{spliced}
use Rattle.text.proofs.Logic.{true_false}
use Rattle.text.proofs.Splice.{spliced_none}
use Rattle.shapes.specs.Cut.{up_to, has, before, after}
use Rattle.shapes.specs.Pieces.{pieces}
use Rattle.shapes.proofs.Joins.{cut_whole, whole_has, before_none, no_cut}
use Rattle.shapes.proofs.Laws.{up_to_le}
use Rattle.shapes.proofs.Pieces.{pieces_one}
use Rattle.rules.specs.Frame.{line_feed}
use Rattle.rules.specs.declared.Rule.{Rule}
use Rattle.cutter.specs.Feed.{Line, Whole, TooLong}
use Rattle.cutter.specs.State.{State, Bytes, state_in, is_allowed, more}
use Rattle.cutter.specs.Calls.{cut_of, held_cut, line_in}
use Rattle.cutter.specs.Cases.{told_by, CutCase, NotAllowed, NoLineFeed, LineEnded, OverlongEnded, CutIs}
use Rattle.cutter.specs.Told.{ended, told, state_after}
use Rattle.cutter.specs.declared.Begun.{Begun}
use Rattle.cutter.specs.declared.AfterCut.{AfterCut}
use Rattle.cutter.specs.declared.CutAnswer.{CutAnswer}
use Rattle.cutter.specs.declared.CutAnswer.TheVariants as cut
use Rattle.cutter.proofs.Feeds.{cut_same}
use Rattle.cutter.proofs.Runs.{cut_still, cut_used}
use Rattle.checks.specs.Check.{said_of}
use Rattle.checks.specs.Feed.{checks_from, reads_in}
use Rattle.checks.specs.Part.{verdict_of, judged_of, is_verdict, verdict_said, counted, lines_in, Steps}
use Rattle.checks.specs.declared.Asked.{Asked}
use Rattle.checks.specs.declared.Sums.{Sums}
use Rattle.checks.specs.declared.Verdict.{Verdict}
use Rattle.checks.proofs.Lines.{verdict_is, verdict_taken, verdict_said_lem}

-- ---- the bytes that a call used

-- the first line of a text, with its line feed
first_line : (rest : List ℕ) → has line_feed rest ≡ true → take (up_to line_feed rest + 1) rest ≡ before line_feed rest ++ line_feed ∷ []
unfolding before
first_line rest q =
    let p = before line_feed rest in
    let t = after line_feed rest in
    let n : length p ≡ up_to line_feed rest = length-take-le (up_to line_feed rest) rest (up_to_le line_feed rest) in
    let k : length (p ++ line_feed ∷ []) ≡ up_to line_feed rest + 1 = omega (arith, n, length-append p (line_feed ∷ [])) in
    let w : (p ++ line_feed ∷ []) ++ t ≡ rest = append_snoc p line_feed t ∙ cut_whole line_feed rest q in
    ap (take (up_to line_feed rest + 1)) (sym w) ∙ take_at (p ++ line_feed ∷ []) t (up_to line_feed rest + 1) k

-- the lines that they end, and the state that they lead to
pub record Used (h : State) (s : List ℕ) (ts : List Line) (h' : State) : Type 0 where
  pub lines : ts ≡ told h (pieces line_feed s)
  pub state : h' ≡ state_after h (pieces line_feed s)

used_free : (h : State) (rest : List ℕ) → has line_feed rest ≡ false → Used h (take (length rest) rest) [] (more h rest)
unfolding told state_after
used_free h rest q =
    let p : pieces line_feed (take (length rest) rest) ≡ rest ∷ [] = ap (pieces line_feed) (take-length rest) ∙ pieces_one line_feed rest (no_cut line_feed rest q) in
    record { lines = rw p; state = rw p }

used_line : (h : State) (rest : List ℕ) → has line_feed rest ≡ true → (l : Line) → ended (more h (before line_feed rest)) ≡ l → Used h (take (up_to line_feed rest + 1) rest) (l ∷ []) (Bytes [])
unfolding told state_after pieces more
used_line h rest q l z =
    let p = before line_feed rest in
    let c = cut_same h p [] (whole_has line_feed p (before_none line_feed rest)) in
    rw (first_line rest q) (record { lines = sym (c.0 ∙ rw z); state = sym c.1 })

pub used_by : {held : List ℕ} {begun : Begun} {rest : List ℕ} {n u : ℕ} {ts : List Line} {h : State} → CutCase held begun rest n u ts h → is_allowed held begun ≡ true → Used (state_in held begun) (take u rest) ts h
used_by (NotAllowed p) a = true_false a p
used_by {held} {begun} {rest} (NoLineFeed p q) a = used_free (state_in held begun) rest q
used_by {held} {begun} {rest} (LineEnded p q l z) a = used_line (state_in held begun) rest q (Whole l) (ap ended z)
used_by {held} {begun} {rest} (OverlongEnded p q z) a = used_line (state_in held begun) rest q TooLong (ap ended z)

-- ---- at most one line is told of

told_none : (ρ : Rule) (ts : List Line) → judged_of ρ ts ≡ None → ts ≡ []
told_none ρ [] e = refl
told_none ρ (l ∷ ts) e = absurd (let z : ◌≡◌ {A = ℕ} 0 1 = cc in omega arith)

pub record Told (ρ : Rule) (ts : List Line) (v : Verdict) : Type 0 where
  pub line : Line
  pub is : ts ≡ line ∷ []
  pub verdict : v ≡ verdict_of ρ line

told_line : (ρ : Rule) (ts : List Line) → length ts ≤ 1 → (v : Verdict) → judged_of ρ ts ≡ Some v → Told ρ ts v
told_line ρ [] h v e = absurd (let z : ◌≡◌ {A = ℕ} 0 1 = cc in omega arith)
told_line ρ (l ∷ []) h v e = let z : verdict_of ρ l ≡ v = cc in record { line = l; is = refl; verdict = sym z }
told_line ρ (l ∷ (k ∷ ts)) h v e = absurd (omega arith)

told_few : (a : CutAnswer) (l : List ℕ) → length (told_by a l) ≤ 1
unfolding told_by
told_few cut.Taken l = omega arith
told_few (cut.InBuffer n) l = omega arith
told_few (cut.InPart n) l = omega arith
told_few cut.TooLong l = omega arith
told_few cut.NotAllowed l = omega arith

-- ---- THE STEP

module _ (asked : Asked) (held : List ℕ) (s : Sums) (rest out : List ℕ) (at : ℕ) (a : is_allowed held s.begun ≡ true) (done : AfterCut) (held' : List ℕ)
    (d : (done ≡ cut_of held s.begun rest) × ((held' ≡ held_cut held s.begun rest) × CutIs held s.begun rest done held')) where
  abbrev the_lines : List Line
  the_lines = told_by done.answer (line_in done.answer held' rest)

  -- the counts as they were, with the state that the call left
  abbrev moved : Sums
  moved = record { begun = done.begun; lines = s.lines; read = s.read }

  the_used : Used (state_in held s.begun) (take done.used rest) the_lines (state_in held' done.begun)
  the_used = used_by d.1.1 a

  still : is_allowed held' done.begun ≡ true
  still = rw (d.0, d.1.0) (cut_still held s.begun rest a)

  within : (0 < length rest) → (0 < done.used) × (done.used ≤ length rest)
  within h = rw d.0 (cut_used held s.begun rest a h)

  -- the same lines as the definition has
  lines_are : (ls : List Line) → the_lines ≡ ls → lines_in held s (take done.used rest) ≡ ls
  lines_are ls e = sym the_used.lines ∙ e

  -- no line ended
  pub step_none : (0 < length rest) → (j : Option Verdict) → j ≡ judged_of asked.rule the_lines → j ≡ None
      → Steps asked held s rest out at held' (record { sums = moved; used = done.used; next = at }) out
  unfolding checks_from reads_in
  step_none h j e f =
      let l = lines_are [] (told_none asked.rule the_lines (sym e ∙ f)) in
      record {
        adds = record {
          allowed = still;
          state = the_used.state;
          lines = rw l (omega arith);
          read = rw l (omega arith);
          place = rw l (omega arith);
          bytes = rw l (sym (spliced_none out at));
        };
        within = (within h).1;
        some = (within h).0;
      }

  -- a line ended
  module _ (j : Option Verdict) (e : j ≡ judged_of asked.rule the_lines) (v : Verdict) (f : j ≡ Some v) where
    the_told : Told asked.rule the_lines v
    the_told = told_line asked.rule the_lines (told_few done.answer (line_in done.answer held' rest)) v (sym e ∙ f)

    pub step_verdict : is_verdict v ≡ true
    step_verdict = rw the_told.verdict (verdict_is asked.rule the_told.line)

    reads_one : (l : Line) → cond (eqb (verdict_of asked.rule l).answer 0) 1 0 ≡ reads_in asked.rule (l ∷ [])
    unfolding reads_in
    reads_one l = rw (verdict_taken asked.rule l)

    says_one : (l : Line) → verdict_said asked.refused (s.lines + 1) (verdict_of asked.rule l) ≡ checks_from asked (suc s.lines) (l ∷ [])
    unfolding checks_from
    says_one l = rw (verdict_said_lem asked (s.lines + 1) l, add-one s.lines) (sym (append-nil (said_of asked (suc s.lines) l)))

    pub step_line : (0 < length rest) → (next : ℕ) (out' : List ℕ) → (next ≡ at + length (verdict_said asked.refused (s.lines + 1) v)) × (out' ≡ spliced out at (verdict_said asked.refused (s.lines + 1) v))
        → (s' : Sums) → s' ≡ counted moved v → Steps asked held s rest out at held' (record { sums = s'; used = done.used; next = next }) out'
    step_line h next out' w s' c =
        let l = the_told.line in
        let k = lines_are (l ∷ []) the_told.is in
        let x : cond (eqb v.answer 0) 1 0 ≡ reads_in asked.rule (l ∷ []) = ap (λ (w : Verdict). cond (eqb w.answer 0) 1 0) the_told.verdict ∙ reads_one l in
        let y : verdict_said asked.refused (s.lines + 1) v ≡ checks_from asked (suc s.lines) (l ∷ []) = ap (verdict_said asked.refused (s.lines + 1)) the_told.verdict ∙ says_one l in
        rw c (record {
          adds = record {
            allowed = still;
            state = the_used.state;
            lines = rw k (omega arith);
            read = rw k (ap (λ (n : ℕ). s.read + n) x);
            place = rw (k, ← y) w.0;
            bytes = rw (k, ← y) w.1;
          };
          within = (within h).1;
          some = (within h).0;
        })
