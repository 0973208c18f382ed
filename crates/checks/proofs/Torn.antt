-- The end of a feed: what is said of the unended rest, from the cutter's state. Assumes nothing.
use mathlib.Core.Path.{◌≡◌, refl, sym, ap, ◌∙◌}
use mathlib.Core.Bool.{Bool, true, false}
use mathlib.Core.List.{List, [], ◌∷◌}
use Prim.Native.Nat.{ℕ, suc, ◌+◌, ◌≤◌}
use native.Mathlib.Numerals.{add-one}
use native.Mathlib.Omega.{arith}
use lib.Dec.{leb}
use lib.ListN.{length, take}
use denote.Enum.Declared.{tag_of}
use types.Run.{OneOf, miss}
use Rattle.text.specs.Text.{spliced}
use Rattle.text.proofs.Logic.{true_false}
use Rattle.text.proofs.Splice.{length-spliced, take-spliced, spliced_none}
use Rattle.rules.specs.Frame.{longest_line}
use Rattle.cutter.specs.Feed.{rest_of}
use Rattle.cutter.specs.State.{State, Bytes, Mark, state_in, state_of, is_allowed}
use Rattle.cutter.specs.Calls.{end_number}
use Rattle.cutter.specs.Cases.{EndCase, EndNotAllowed, AtLineStart, InsideLine}
use Rattle.cutter.specs.declared.Begun.{Begun}
use Rattle.cutter.specs.declared.EndAnswer.{EndAnswer}
use Rattle.cutter.specs.declared.EndAnswer.TheVariants as end
use Rattle.cutter.specs.contracts.EndAnswer.{the_type}
use Rattle.cutter.proofs.Feeds.{start_rest}
use Rattle.printer.specs.RowText.{hyphen}
use Rattle.checks.specs.Check.{saying, torn_of}
use Rattle.checks.specs.Feed.{Checked}
use Rattle.checks.specs.Part.{verdict_text, is_verdict, longest_saying, torn_in, EndsFeed}
use Rattle.checks.specs.declared.Asked.{Asked}
use Rattle.checks.specs.declared.Sums.{Sums}
use Rattle.checks.specs.declared.Verdict.{Verdict}
use Rattle.checks.proofs.Lines.{zero_part, zero_packed, text_few}

-- what is said of a rest is said of the state that holds it
torn_state : (n : ℕ) (rest : List ℕ) → torn_in n (state_of rest) ≡ torn_of n rest
unfolding torn_in torn_of
torn_state n rest = go rest (leb (length rest) longest_line) refl
  where
    go : (s : List ℕ) (b : Bool) → leb (length s) longest_line ≡ b → torn_in n (state_of s) ≡ torn_of n s
    go s true q = rw q
    go [] false q = true_false refl q
    go (x ∷ s) false q = rw q

pub torn_feed : {asked : Asked} {feed held : List ℕ} {s : Sums} {said : List ℕ} → Checked asked feed held s said → torn_in (suc s.lines) (state_in held s.begun) ≡ torn_of (suc s.lines) (rest_of feed)
torn_feed {asked} {feed} {held} {s} c = rw (c.state, start_rest feed) (torn_state (suc s.lines) (rest_of feed))

module _ (held : List ℕ) (s : Sums) (out : List ℕ) {r : ℕ} {out' : List ℕ} (e : r ≡ length (torn_in (suc s.lines) (state_in held s.begun))) (f : out' ≡ spliced out 0 (torn_in (suc s.lines) (state_in held s.begun))) where
  pub ends_feed : EndsFeed held s (take r out')
  ends_feed asked feed said c = rw f (take-spliced out (torn_in (suc s.lines) (state_in held s.begun)) r e) ∙ torn_feed c

-- a feed that did not end at a line's start has a rest
pub inside_rest : {asked : Asked} {feed held : List ℕ} {s : Sums} {said : List ℕ} → Checked asked feed held s said → (state_in held s.begun ≡ Bytes [] → ⊥) → 1 ≤ length (rest_of feed)
inside_rest {asked} {feed} c q = go (rest_of feed) refl
  where
    go : (l : List ℕ) → rest_of feed ≡ l → 1 ≤ length l
    go [] e = absurd (q (c.state ∙ start_rest feed ∙ rw e))
    go (x ∷ l) e = omega arith

-- ---- what `end` answered

abbrev pub torn : Verdict
torn = record { answer = 17; place = 0; kind = 0; key = 0 }

pub torn_verdict : is_verdict torn ≡ true
unfolding is_verdict
torn_verdict = rw zero_packed

torn_text : (n : ℕ) → verdict_text n torn ≡ saying n 17 0 hyphen hyphen
unfolding verdict_text
torn_text n = rw zero_part

torn_few : (n : ℕ) (h : State) → length (torn_in n h) ≤ longest_saying
unfolding torn_in torn_of
torn_few n (Bytes []) = omega arith
torn_few n (Bytes (x ∷ s)) = rw (← (torn_text n)) (text_few n torn torn_verdict)
torn_few n Mark = rw (← (torn_text n)) (text_few n torn torn_verdict)

-- what is written for it stands inside the buffer
pub torn_inside : (n : ℕ) (h : State) (out : List ℕ) {r : ℕ} {out' : List ℕ} → longest_saying ≤ length out → r ≡ length (torn_in n h) → out' ≡ spliced out 0 (torn_in n h) → r ≤ length out'
torn_inside n h out k e f =
    let t = torn_few n h in
    omega (arith, e, ap length f, length-spliced out (torn_in n h) 0 (omega (arith, t)), t)

inside_text : (n : ℕ) (h : State) → (h ≡ Bytes [] → ⊥) → verdict_text n torn ≡ torn_in n h
unfolding torn_in torn_of
inside_text n (Bytes []) q = absurd (q refl)
inside_text n (Bytes (x ∷ s)) q = torn_text n
inside_text n Mark q = torn_text n

start_text : (n : ℕ) (h : State) → h ≡ Bytes [] → torn_in n h ≡ []
unfolding torn_in torn_of
start_text n h e = rw e

inside_case : {held : List ℕ} {begun : Begun} {n : ℕ} {h : State} → EndCase held begun n h → n ≡ 17 → state_in held begun ≡ Bytes [] → ⊥
inside_case (EndNotAllowed p) e = absurd (omega arith)
inside_case (AtLineStart p q) e = absurd (omega arith)
inside_case (InsideLine p q) e = q

start_case : {held : List ℕ} {begun : Begun} {n : ℕ} {h : State} → EndCase held begun n h → is_allowed held begun ≡ true → (n ≡ 17 → ⊥) → state_in held begun ≡ Bytes []
start_case (EndNotAllowed p) a e = true_false a p
start_case (AtLineStart p q) a e = q
start_case (InsideLine p q) a e = absurd (e refl)

other_answer : (a : EndAnswer) → OneOf (0 ∷ 2 ∷ []) (tag_of the_type a) → end_number a ≡ 17 → ⊥
unfolding end_number
other_answer end.AtStart h e = omega arith
other_answer end.InsideLine h e = absurd (miss (0 ∷ 2 ∷ []) 1 tt h)
other_answer end.NotAllowed h e = omega arith

inside_answer : (a : EndAnswer) → a ≡ end.InsideLine → end_number a ≡ 17
unfolding end_number
inside_answer a e = rw e

module _ (held : List ℕ) (s : Sums) (allowed : is_allowed held s.begun ≡ true) (a : EndAnswer) {h : State} (c : EndCase held s.begun (end_number a) h) where
  abbrev the_text : List ℕ
  the_text = torn_in (suc s.lines) (state_in held s.begun)

  -- inside a line
  pub is_inside : a ≡ end.InsideLine → state_in held s.begun ≡ Bytes [] → ⊥
  is_inside e = inside_case c (inside_answer a e)

  pub end_inside : a ≡ end.InsideLine → (out : List ℕ) {r : ℕ} {out' : List ℕ} → (r ≡ 0 + length (verdict_text (s.lines + 1) torn)) × (out' ≡ spliced out 0 (verdict_text (s.lines + 1) torn))
      → (r ≡ length the_text) × ((out' ≡ spliced out 0 the_text) × EndsFeed held s (take r out'))
  end_inside e out {r} {out'} w =
      let t : verdict_text (s.lines + 1) torn ≡ the_text = rw (add-one s.lines) (inside_text (suc s.lines) (state_in held s.begun) (is_inside e)) in
      let p : r ≡ length the_text = omega (arith, w.0, ap length t) in
      let q : out' ≡ spliced out 0 the_text = w.1 ∙ rw t in
      (p, (q, ends_feed held s out p q))

  -- at a line's start
  pub end_start : OneOf (0 ∷ 2 ∷ []) (tag_of the_type a) → (out : List ℕ) → (0 ≡ length the_text) × ((out ≡ spliced out 0 the_text) × EndsFeed held s (take 0 out))
  end_start o out =
      let t : the_text ≡ [] = start_text (suc s.lines) (state_in held s.begun) (start_case c allowed (other_answer a o)) in
      let p : 0 ≡ length the_text = rw t in
      let q : out ≡ spliced out 0 the_text = rw t (sym (spliced_none out 0)) in
      (p, (q, ends_feed held s out p q))
