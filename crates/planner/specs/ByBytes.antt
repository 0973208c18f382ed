-- WHAT A LINE IS TO THE BOARD, by its bytes (document 01, "The line", "Fields", "Board"). The letters, places and numbers here are the
-- document's own. Assumes nothing.
use Rattle.std.specs.Prelude.{ℕ, ◌-◌, ◌≡◌, List, [], get_or, drop}
use Prim.Native.Char.{code}
use Rattle.text.specs.Bytes.{bytes}
use Rattle.text.specs.Text.{packed}
use Rattle.shapes.specs.Cut.{before}
use Rattle.shapes.specs.Picture.{part}
use Rattle.table.specs.Spacing.{fields_of, fields_in}
use Rattle.line.specs.Read.{read_of, line_number}
use Rattle.board.specs.declared.rows.Arrival.{Arrival}
use Rattle.board.specs.declared.rows.Track.{Track}

-- the field at a place of the body, "1 for the ident"; the body is what comes after four, eight, four and two bytes
abbrev pub field : ℕ → List ℕ → List ℕ
field i s = get_or (fields_in (fields_of (drop 18 s))) (i - 1) []

-- "The flight's key is the part before the slash", or all of the ident where there is none
abbrev pub key_field : List ℕ → List ℕ
key_field s = before (code "/") (field 1 s)

-- "DZ: ident, aircraft, point, time, point, four-digit clock"; the stamp is the line's bytes 5 to 12
pub record DzOf (s : List ℕ) (k : ℕ) (a : Arrival) : Type 0 where
  pub reads : line_number (read_of s) ≡ 0
  pub type : part 16 2 s ≡ bytes "DZ"
  pub key : k ≡ packed (key_field s)
  pub departure : a.departure.0 ≡ packed (field 3 s)
  pub destination : a.destination.0 ≡ packed (field 5 s)
  pub clock : a.clock.0 ≡ packed (field 6 s)
  pub stamp : a.stamp.0 ≡ packed (part 4 8 s)

-- "AZ: ident, point, point, arrival clock"
pub record AzOf (s : List ℕ) (k : ℕ) (a : Arrival) : Type 0 where
  pub reads : line_number (read_of s) ≡ 0
  pub type : part 16 2 s ≡ bytes "AZ"
  pub key : k ≡ packed (key_field s)
  pub departure : a.departure.0 ≡ packed (field 2 s)
  pub destination : a.destination.0 ≡ packed (field 3 s)
  pub clock : a.clock.0 ≡ packed (field 4 s)
  pub stamp : a.stamp.0 ≡ packed (part 4 8 s)

-- "TZ: ident, ground speed, track level, position"
pub record TzOf (s : List ℕ) (k : ℕ) (t : Track) : Type 0 where
  pub reads : line_number (read_of s) ≡ 0
  pub type : part 16 2 s ≡ bytes "TZ"
  pub key : k ≡ packed (key_field s)
  pub speed : t.speed.0 ≡ packed (field 2 s)
  pub level : t.level.0 ≡ packed (field 3 s)
  pub position : t.position.0 ≡ packed (field 4 s)
  pub stamp : t.stamp.0 ≡ packed (part 4 8 s)

-- "Other types change nothing and need no room"
pub record OtherOf (s : List ℕ) : Type 0 where
  pub reads : line_number (read_of s) ≡ 0
  pub not_dz : part 16 2 s ≡ bytes "DZ" → ⊥
  pub not_az : part 16 2 s ≡ bytes "AZ" → ⊥
  pub not_tz : part 16 2 s ≡ bytes "TZ" → ⊥
