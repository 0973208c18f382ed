-- THE PLACES OF LEVELS (document 02, d: "FZ, UZ and both AF level amendments"), of a body with the fields fs; the ident is the field 0, as in
-- `Fault`. Assumes nothing.
use Rattle.std.specs.Prelude.{ℕ, ◌+◌, ◌*◌, ◌≡◌, List}
use Rattle.text.specs.Bytes.{bytes}
use Rattle.fields.specs.declared.heads.MessageType.{MessageType}
use Rattle.fields.specs.declared.heads.MessageType.TheVariants as type
use Rattle.table.specs.Fault.{field_at}

pub data LevelAt (fs : List (List ℕ)) : MessageType → ℕ → Type 0 where
  -- "ident, aircraft, filed speed, fix, time, level, route"
  OfFz : LevelAt fs type.Fz 5
  OfUz : LevelAt fs type.Uz 5
  -- "ident, point, point, then 1 to 8 amendments", each "a number .. and its content": after n of them an 08, or an 09
  Of08 : (n : ℕ) → field_at fs (2 * n + 3) ≡ bytes "08" → LevelAt fs type.Af (2 * n + 4)
  Of09 : (n : ℕ) → field_at fs (2 * n + 3) ≡ bytes "09" → LevelAt fs type.Af (2 * n + 4)
