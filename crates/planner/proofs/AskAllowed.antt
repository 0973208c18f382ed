-- THE LAWS of what a line asks: key, arrival entry and track are such as the board may hold, "keys of ident form
-- without slash or computer number", "entries such as a line could give". Assumes nothing.
use Rattle.std.specs.Prelude.{Err, Ok, Result, Some}
use mathlib.Core.Path.{◌≡◌, refl, subst}
use mathlib.Core.Bool.{Bool, true}
use mathlib.Core.List.{List}
use Prim.Native.Nat.{ℕ}
use Rattle.rules.specs.Kind.{KEY, STAMP}
use Rattle.rules.specs.declared.Rule.TheVariants.{New}
use Rattle.fields.specs.Word.{is_word}
use Rattle.fields.specs.declared.flight.Key.{Key}
use Rattle.fields.specs.declared.frame.Stamp.{Stamp}
use Rattle.board.specs.Row.{is_arrival, is_track}
use Rattle.board.specs.declared.rows.Arrival.{Arrival}
use Rattle.board.specs.declared.rows.Track.{Track}
use Rattle.messages.specs.Allowed.{is_body}
use Rattle.messages.specs.Reading.{reading_of}
use Rattle.messages.specs.declared.Message.{Message}
use Rattle.messages.specs.declared.Body.{Body}
use Rattle.messages.specs.declared.Body.TheVariants as body
use Rattle.line.specs.Read.{read_of, free_of}
use Rattle.line.proofs.Steps.{allowed_allows}
use Rattle.line.proofs.Theorems.{reads_allowed}
use Rattle.planner.specs.Asked.{asked_in, asked_by, asked_from, asked_of}
use Rattle.planner.specs.declared.asks.Asked.{Asked}
use Rattle.planner.specs.declared.asks.Asked.TheVariants.{Dz, Az, Tz, Other}
use Rattle.planner.proofs.Fields.{clock_arrival, key_dz, from_dz, to_dz, clock_dz, key_az, from_az, to_az, clock_az, key_tz, speed_tz, level_tz, position_tz}
use Rattle.line.specs.declared.Refusal.{Refusal}

-- what is asked may stand on the board
abbrev May : Result Asked Refusal → Type 0
May (Ok (Dz k a)) = (is_word KEY k.0 ≡ true) × (is_arrival (Some a) ≡ true)
May (Ok (Az k a)) = (is_word KEY k.0 ≡ true) × (is_arrival (Some a) ≡ true)
May (Ok (Tz k t)) = (is_word KEY k.0 ≡ true) × (is_track (Some t) ≡ true)
May (Ok Other) = Unit {0}
May (Err x) = Unit {0}

-- a body that a line can have, with a line's stamp
in_body : (s : Stamp) (b : Body) (r : List ℕ) (t : Bool) → is_word STAMP s.0 ≡ true → is_body New b r t ≡ true → May (Ok (asked_in s b))
unfolding is_arrival is_track
in_body s (body.Dz m) r t p e = (key_dz m r t e, rw (from_dz m r t e, to_dz m r t e, clock_arrival m.clock.0 (clock_dz m r t e), p))
in_body s (body.Az m) r t p e = (key_az m r t e, rw (from_az m r t e, to_az m r t e, clock_az m r t e, p))
in_body s (body.Tz m) r t p e = (key_tz m r t e, rw (speed_tz m r t e, level_tz m r t e, position_tz m r t e, p))
in_body s (body.Af m) r t p e = tt
in_body s (body.Fz m) r t p e = tt
in_body s (body.Rz m) r t p e = tt
in_body s (body.Uz m) r t p e = tt
in_body s body.Rt r t p e = tt
in_body s body.To r t p e = tt
in_body s body.Hb r t p e = tt

in_message : (s : List ℕ) (m : Message) → read_of s ≡ Ok m → May (Ok (asked_by m))
unfolding asked_by
in_message s m e =
    let a = allowed_allows New (reading_of m) (free_of New s) (reads_allowed New s m e).0 in
    in_body m.stamp m.body (free_of New s) m.trailing a.stamp_held a.body

in_line : (s : List ℕ) → May (asked_of s)
unfolding asked_of
in_line s = go (read_of s) refl
  where
    go : (r : Result Message Refusal) → read_of s ≡ r → May (asked_from r)
    go (Ok m) e = in_message s m e
    go (Err x) e = tt

-- a DZ's clock has no letter before it, and is an arrival's too
pub asks_dz : (s : List ℕ) (k : Key) (a : Arrival) → asked_of s ≡ Ok (Dz k a) → (is_word KEY k.0 ≡ true) × (is_arrival (Some a) ≡ true)
asks_dz s k a e = subst May e (in_line s)

pub asks_az : (s : List ℕ) (k : Key) (a : Arrival) → asked_of s ≡ Ok (Az k a) → (is_word KEY k.0 ≡ true) × (is_arrival (Some a) ≡ true)
asks_az s k a e = subst May e (in_line s)

pub asks_tz : (s : List ℕ) (k : Key) (t : Track) → asked_of s ≡ Ok (Tz k t) → (is_word KEY k.0 ≡ true) × (is_track (Some t) ≡ true)
asks_tz s k t e = subst May e (in_line s)
