-- `numbers::read_number` meets its contract: n is the number of the bytes read. Assumes nothing.
use mathlib.Core.Path.{refl}
use native.Mathlib.Nat.{pow-suc}
use native.Mathlib.Numerals.{add-one}
use native.Mathlib.Omega.{arith}
use lib.Arith.{digits_lt}
use Rattle.text.specs.Place.{value}
use Rattle.dayfile.proofs.Bytes.{value_next}
use Rattle.dayfile.proofs.numbers.read_number.Goals as goal

pub loop-b-init : goal.loop-b-init
unfolding value
loop-b-init c = record { number = refl; below = omega arith }

pub loop-b-preserved : goal.loop-b-preserved
loop-b-preserved c =
    let l = c.loop-b in
    record {
      number = omega (arith, l.invariant.number, value_next 256 l.b-index c.args.s.now);
      below = rw (add-one, pow-suc) (digits_lt l.invariant.below (omega (arith, c.type_inv.s l.b-index)));
    }
