-- THE PLACES OF AIRCRAFT (document 01, the table; 003: "This field exists on AF (potentially), DZ, FZ, and UZ messages"), of a body with the fields fs; the
-- ident is the field 0, as in `Fault`. Assumes nothing.
use Rattle.std.specs.Prelude.{ℕ, ◌+◌, ◌*◌, ◌≡◌, List}
use Rattle.text.specs.Bytes.{bytes}
use Rattle.fields.specs.declared.heads.MessageType.{MessageType}
use Rattle.fields.specs.declared.heads.MessageType.TheVariants as type
use Rattle.table.specs.Fault.{field_at}

pub data AircraftAt (fs : List (List ℕ)) : MessageType → ℕ → Type 0 where
  -- "ident, aircraft, .."
  OfDz : AircraftAt fs type.Dz 1
  OfFz : AircraftAt fs type.Fz 1
  OfUz : AircraftAt fs type.Uz 1
  -- after n amendments an 03
  Of03 : (n : ℕ) → field_at fs (2 * n + 3) ≡ bytes "03" → AircraftAt fs type.Af (2 * n + 4)
