-- `numbers::read_number` meets its contract: n is the number of the bytes read. Assumes nothing.
use mathlib.Core.Path.{◌≡◌}
use Prim.Native.Nat.{◌^◌, ◌<◌}
use Rattle.text.specs.Place.{value}
use Rattle.dayfile.proofs.numbers.read_number.Given as goal

abbrev pub invariant-loop-b : goal.invariant-loop-b
invariant-loop-b l = record { number : l.n ≡ value 256 l.b-index l.s; below : l.n < 256 ^ l.b-index }
