-- `printer::print_counts` meets its contract: a line that has room is written. Assumes nothing.
use Rattle.std.specs.Prelude.{Ok}
use mathlib.Core.Path.{◌≡◌, refl, ap, ◌∙◌}
use mathlib.Core.Bool.{true}
use mathlib.Core.List.{List}
use Prim.Native.Nat.{ℕ, ◌+◌, ◌≤◌}
use native.Mathlib.Omega.{arith}
use lib.ListN.{length}
use Rattle.text.specs.Text.{spliced, written_next, written_bytes}
use Rattle.text.proofs.Laws.{has_room_lem, no_room_told, room_told}
use Rattle.text.specs.Decimal.{decimal}
use Rattle.text.proofs.Decimal.{decimal_short}
use Rattle.printer.specs.Text.{counts_text}
use Rattle.printer.proofs.Cases.{in_counts_case}
use Rattle.printer.proofs.Counts.{counts_size}
use Rattle.printer.proofs.print_counts.Goals as goal

-- what the two calls of `text::decimals::size` told
module _ (lines taken : ℕ) {a b : ℕ} (first : a ≡ length (decimal lines)) (second : b ≡ length (decimal taken)) where
  small : 14 + a + b ≤ 54
  small = omega (arith, decimal_short lines, decimal_short taken)

  size : 14 + a + b ≡ length (counts_text lines taken)
  size = omega (arith, counts_size lines taken)

  puts : (out : List ℕ) (at : ℕ) → at + length (counts_text lines taken) ≤ length out → {o : List ℕ} → o ≡ spliced out at (counts_text lines taken)
      → (Ok (at + (14 + a + b)) ≡ written_next true (counts_text lines taken) out at) × (o ≡ written_bytes true (counts_text lines taken) out at)
  puts out at room w =
      let h = has_room_lem (counts_text lines taken) out at refl room in
      (ap (λ (i : ℕ). Ok (at + i)) size ∙ h.0, w ∙ h.1)

pub overflow_add-n : goal.overflow_add-n
overflow_add-n c = omega (arith, c.size.ensures, decimal_short c.args.lines)

pub overflow_add-n-2 : goal.overflow_add-n-2
overflow_add-n-2 c = let a = c.args in omega (arith, small a.lines a.taken c.size.ensures c.size-2.ensures)

pub returns-then-not-has_room : goal.returns-then-not-has_room
returns-then-not-has_room c =
    let both = in_counts_case _ _ _ _ (no_room_told _ _ _ (size _ _ c.size.ensures c.size-2.ensures) c.has_room.ensures refl c.if-not-has_room.true-raw) in
    record { value = both.0; out_after = both.1.0; counts_case = both.1.1 }

pub put_counts-requires : goal.put_counts-requires
put_counts-requires c =
    let a = c.args in room_told (counts_text a.lines a.taken) a.out.now a.at (size a.lines a.taken c.size.ensures c.size-2.ensures) c.has_room.ensures c.if-not-has_room.false-raw

pub overflow_add-result : goal.overflow_add-result
overflow_add-result c =
    let roomy : let a = c.args in a.at + length (counts_text a.lines a.taken) ≤ length a.out.now = let a = c.args in room_told (counts_text a.lines a.taken) a.out.now a.at (size a.lines a.taken c.size.ensures c.size-2.ensures) c.has_room.ensures c.if-not-has_room.false-raw in
    let a = c.args in
    omega (arith, roomy, size a.lines a.taken c.size.ensures c.size-2.ensures)

pub returns : goal.returns
returns c =
    let roomy : let a = c.args in a.at + length (counts_text a.lines a.taken) ≤ length a.out.now = let a = c.args in room_told (counts_text a.lines a.taken) a.out.now a.at (size a.lines a.taken c.size.ensures c.size-2.ensures) c.has_room.ensures c.if-not-has_room.false-raw in
    let both = in_counts_case _ _ _ _ (puts _ _ c.size.ensures c.size-2.ensures _ _ roomy c.put_counts.ensures) in
    record { value = both.0; out_after = both.1.0; counts_case = both.1.1 }
