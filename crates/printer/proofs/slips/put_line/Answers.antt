-- `printer::slips::put_line` meets its contract: what is left, written from the place that is reached, makes what the whole line makes.
-- Assumes nothing.
use mathlib.Core.Path.{◌≡◌, refl, sym, ap, ◌∙◌}
use mathlib.Core.Bool.{true}
use mathlib.Core.List.{List, [], ◌∷◌, ◌++◌}
use Prim.Native.Nat.{ℕ, ◌+◌, ◌≤◌, ◌<◌}
use native.Mathlib.Omega.{arith}
use lib.ListN.{length, get_or, take, drop, length-append, length-take}
use lib.Seq.{get_or-take}
use Rattle.text.specs.Text.{is_packed, spliced}
use Rattle.text.proofs.Splice.{length-spliced}
use Rattle.rules.specs.Frame.{line_feed}
use Rattle.printer.specs.RowText.{space}
use Rattle.printer.specs.Parts.{part_text, slip_text, SlipWords}
use Rattle.printer.proofs.Lines.{slip_last, next_size, last_size, next_wrote, part_packed}
use Rattle.printer.proofs.slips.put_line.Invariants.{Inv}
use Rattle.printer.proofs.slips.put_line.Goals as goal

-- whether a word is one of the first seven
early : (ws : List ℕ) (k : ℕ) → length ws ≡ 8 → k < length (take 7 ws) → k < 7
early ws k e h = omega (arith, length-take 7 ws)

late : (ws : List ℕ) (k : ℕ) → length ws ≡ 8 → length (take 7 ws) ≤ k → 7 ≤ k
late ws k e h = omega (arith, length-take 7 ws)

start : (ws out : List ℕ) → SlipWords ws → length (slip_text ws) ≤ length out → Inv ws out out 0 0
start ws out e h = record { eight = e; few = omega arith; room = h; same = refl; size = omega arith; text = refl }

module _ {ws out₀ out : List ℕ} {at k : ℕ} (v : Inv ws out₀ out at k) where
  packed : is_packed (get_or ws k 0) ≡ true
  packed = part_packed ws k v.eight.good (omega (arith, v.eight.count))

  module _ (more : k < 7) where
    inside : k + 1 < length ws
    inside = omega (arith, v.eight.count)

    next : at + length (part_text (get_or ws k 0)) + 1 + length (slip_text (drop (k + 1) ws)) ≡ length (slip_text ws)
    next = omega (arith, v.size, next_size ws k inside)

    roomy : at + length (part_text (get_or ws k 0)) + 1 ≤ length out
    roomy = omega (arith, next, v.room, v.same)

    again : {n : ℕ} {o : List ℕ} → n ≡ at + length (part_text (get_or ws k 0)) + 1 → o ≡ spliced out at (part_text (get_or ws k 0) ++ space ∷ []) → Inv ws out₀ o n (k + 1)
    again {n} {o} ends is =
        let wide = length-append (part_text (get_or ws k 0)) (space ∷ []) in
        record {
          eight = v.eight;
          few = omega arith;
          room = v.room;
          same = omega (arith, ap length is, length-spliced out (part_text (get_or ws k 0) ++ space ∷ []) at (omega (arith, roomy, wide)), v.same);
          size = omega (arith, next, ends);
          text = rw (is, ends) (next_wrote ws k out at inside roomy ∙ v.text);
        }

  module _ (over : 7 ≤ k) where
    at_last : k ≡ 7
    at_last = omega arith

    packed_last : is_packed (get_or ws 7 0) ≡ true
    packed_last = rw at_last at packed

    done : at + length (part_text (get_or ws 7 0)) + 1 ≡ length (slip_text ws)
    done =
        let e : at + length (slip_text (drop 7 ws)) ≡ length (slip_text ws) = rw at_last at v.size in
        omega (arith, last_size ws 7 (omega (arith, v.eight.count)))

    roomy_last : at + length (part_text (get_or ws 7 0)) + 1 ≤ length out
    roomy_last = omega (arith, done, v.room, v.same)

    wrote : {o : List ℕ} → o ≡ spliced out at (part_text (get_or ws 7 0) ++ line_feed ∷ []) → o ≡ spliced out₀ 0 (slip_text ws)
    wrote is =
        let e : spliced out at (slip_text (drop 7 ws)) ≡ spliced out₀ 0 (slip_text ws) = rw at_last at v.text in
        is ∙ ap (spliced out at) (sym (slip_last ws 7 (omega (arith, v.eight.count)))) ∙ e

pub loop-word-init : goal.loop-word-init
loop-word-init c = start _ _ c.requires.0 c.requires.1

pub put_part-at-requires : goal.put_part-at-requires
put_part-at-requires c =
    let ws = c.args.words.now in
    let v = c.loop-word.invariant in
    let more = early ws c.loop-word.word-index c.requires.0.count c.loop-word-test.true in
    rw (get_or-take 7 ws c.loop-word.word-index 0 more) (packed v, roomy v more)

pub loop-word-preserved : goal.loop-word-preserved
loop-word-preserved c =
    let ws = c.args.words.now in
    let more = early ws c.loop-word.word-index c.requires.0.count c.loop-word-test.true in
    let e = rw (get_or-take 7 ws c.loop-word.word-index 0 more) at c.put_part-at.ensures in
    again c.loop-word.invariant more e.value e.out_after

pub bounds-words-7 : goal.bounds-words-7
bounds-words-7 c = omega (arith, c.requires.0.count)

pub put_part-requires : goal.put_part-requires
put_part-requires c =
    let over = late c.args.words.now c.loop-word.word-index c.requires.0.count c.loop-word-test.false in
    (packed_last c.loop-word.invariant over, roomy_last c.loop-word.invariant over)

pub returns : goal.returns
returns c =
    let over = late c.args.words.now c.loop-word.word-index c.requires.0.count c.loop-word-test.false in
    record { value = c.put_part.ensures.value ∙ done c.loop-word.invariant over; out_after = wrote c.loop-word.invariant over c.put_part.ensures.out_after }
