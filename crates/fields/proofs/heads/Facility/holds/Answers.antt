-- `fields::heads::Facility::holds` meets its contract. Assumes nothing.
use mathlib.Core.Path.{◌∙◌}
use Prim.Native.Nat.{◌^◌}
use native.Mathlib.Omega.{arith}
use borrow.Author.Tests.{lt-ltb, le-ltb, lt-leb}
use Rattle.fields.specs.Facility.{is_facility_value}
use Rattle.fields.proofs.heads.Facility.holds.Goals as goal

pub returns-then-self-le-LAST_FACILITY : goal.returns-then-self-le-LAST_FACILITY
unfolding is_facility_value
returns-then-self-le-LAST_FACILITY c = c.is_facility.ensures ∙ rw (c.bytes.ensures, lt-ltb c.args.self.0 (256 ^ 4) (omega arith))

pub returns-else-self-le-LAST_FACILITY : goal.returns-else-self-le-LAST_FACILITY
unfolding is_facility_value
returns-else-self-le-LAST_FACILITY c = rw (lt-leb c.args.self.0 4294967295 (omega arith), le-ltb c.args.self.0 (256 ^ 4) (omega arith))
