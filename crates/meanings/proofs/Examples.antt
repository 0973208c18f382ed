-- What the promises of `meanings` require on inputs written out, and so wrong answers that they do not allow: of each, `Post` is the function's
-- `ensures` as it stands in the source, r any result that meets it, s the state at exit. Assumes nothing.
use Rattle.std.specs.Prelude.{None, Some}
use Prim.Native.Nat.{ℕ}
use Prim.Native.String.{String}
use mathlib.Core.Path.{◌≡◌, ap, ◌∙◌}
use lib.IntN.{pos, negsuc}
use Rattle.text.specs.Bytes.{bytes}
use Rattle.text.specs.Class.{all, is_digit, is_letter}
use Rattle.text.specs.Code.{code_of, byte_of}
use Rattle.text.specs.Number.{is_digit_to, digit_of, is_numeral, number_of, read_number}
use Rattle.text.specs.Place.{value, digits, tight}
use Rattle.text.specs.Text.{packed, text_of, is_packed}
use Rattle.shapes.specs.Cut.{up_to, has, before, after, joins}
use Rattle.shapes.specs.Picture.{is_of, fits, run, within}
use Rattle.rules.specs.Form.{is_stamp, is_block, is_level, is_position}
use Rattle.meanings.specs.Age.{is_last_day, day_before, age_of, age_in}
use Rattle.meanings.specs.Meaning.{decimal_of, in_minutes, moment_of, moment_in, minutes_of, minutes_in, levels_of, levels_in}
use Rattle.meanings.specs.declared.Levels.TheVariants as levels
use Rattle.meanings.specs.declared.ages.Aged.TheVariants as aged
use Rattle.meanings.proofs.ages.age.Reads as age
use Rattle.meanings.proofs.level_numbers.Reads as level-numbers
use Rattle.meanings.proofs.position_minutes.Reads as position-minutes
use Rattle.meanings.proofs.stamp_moment.Reads as stamp-moment

-- the hour is 14 and not the day
pub day_for_hour : (κs : _) (a : _) (r : _) (s : _) → stamp-moment.Post κs a r s
    → a.0.0 ≡ packed (bytes "06143655") → r ≡ Some (record { day = 6; hour = 14; minute = 36; second = 55; seconds = 52615 })
unfolding moment_in moment_of is_stamp fits is_of is_digit within decimal_of read_number is_numeral all is_digit_to digit_of number_of value is_packed tight text_of digits byte_of packed code_of
day_for_hour κs a r s p e = p ∙ ap moment_in e

-- an hour has 3,600 seconds
pub hour_of_360_seconds : (κs : _) (a : _) (r : _) (s : _) → stamp-moment.Post κs a r s
    → a.0.0 ≡ packed (bytes "31010000") → r ≡ Some (record { day = 31; hour = 1; minute = 0; second = 0; seconds = 3600 })
unfolding moment_in moment_of is_stamp fits is_of is_digit within decimal_of read_number is_numeral all is_digit_to digit_of number_of value is_packed tight text_of digits byte_of packed code_of
hour_of_360_seconds κs a r s p e = p ∙ ap moment_in e

-- south is negative
pub south_is_positive : (κs : _) (a : _) (r : _) (s : _) → position-minutes.Post κs a r s
    → a.0.0 ≡ packed (bytes "0001S/00000E") → r ≡ Some (negsuc 0, pos 0)
unfolding minutes_in minutes_of is_position fits is_of is_digit is_letter within decimal_of read_number is_numeral all is_digit_to digit_of number_of value is_packed tight text_of digits byte_of packed code_of in_minutes
south_is_positive κs a r s p e = p ∙ ap minutes_in e

-- a degree has 60 minutes
pub degrees_of_100 : (κs : _) (a : _) (r : _) (s : _) → position-minutes.Post κs a r s
    → a.0.0 ≡ packed (bytes "0100N/00000E") → r ≡ Some (pos 60, pos 0)
unfolding minutes_in minutes_of is_position fits is_of is_digit is_letter within decimal_of read_number is_numeral all is_digit_to digit_of number_of value is_packed tight text_of digits byte_of packed code_of in_minutes
degrees_of_100 κs a r s p e = p ∙ ap minutes_in e

-- a longitude has five digits, and west is negative
pub longitude_cut : (κs : _) (a : _) (r : _) (s : _) → position-minutes.Post κs a r s
    → a.0.0 ≡ packed (bytes "3015N/08430W") → r ≡ Some (pos 1815, negsuc 5069)
unfolding minutes_in minutes_of is_position fits is_of is_digit is_letter within decimal_of read_number is_numeral all is_digit_to digit_of number_of value is_packed tight text_of digits byte_of packed code_of in_minutes
longitude_cut κs a r s p e = p ∙ ap minutes_in e

-- a block is cut at its B
pub level_cut_at_c : (κs : _) (a : _) (r : _) (s : _) → level-numbers.Post κs a r s → a.0.0 ≡ packed (bytes "120B140") → r ≡ Some (levels.Block 120 140)
unfolding levels_in levels_of is_level is_block joins run is_of is_digit is_letter has up_to before after decimal_of read_number is_numeral all is_digit_to digit_of number_of value is_packed tight text_of digits byte_of packed code_of
level_cut_at_c κs a r s p e = p.0 ∙ ap levels_in e

-- and has its lower end first: one that falls has no numbers, neither as they stand nor turned round
pub falling_block_told : (κs : _) (a : _) (r : _) (s : _) → level-numbers.Post κs a r s → a.0.0 ≡ packed (bytes "140B120") → r ≡ None
unfolding levels_in levels_of is_level is_block joins run is_of is_digit is_letter has up_to before after decimal_of read_number is_numeral all is_digit_to digit_of number_of value is_packed tight text_of digits byte_of packed code_of
falling_block_told κs a r s p e = p.0 ∙ ap levels_in e

-- ---- ages

-- a call with these stamps and this last day
abbrev pub Asks : ℕ → ℕ → ℕ → String → ℕ → String → Type 0
Asks n l t now last stamp = (n ≡ packed (bytes now)) × (l ≡ last) × (t ≡ packed (bytes stamp))

asked : {n l t : ℕ} (now : String) (last : ℕ) (stamp : String) → Asks n l t now last stamp → age_in n l t ≡ age_in (packed (bytes now)) last (packed (bytes stamp))
asked now last stamp e = rw (e.0, e.1, e.2)

-- the previous month's last day is the day before the 1st alone: on the 2nd it is old
pub last_day_on_any_day : (κs : _) (a : _) (r : _) (s : _) → age.Post κs a r s → Asks a.0.0 a.1.0 a.1.1.0.0 "02000010" 30 "30235950" → r ≡ Some aged.Old
unfolding age_in is_last_day age_of day_before moment_in moment_of is_stamp fits is_of is_digit within decimal_of read_number is_numeral all is_digit_to digit_of number_of value is_packed tight text_of digits byte_of packed code_of
last_day_on_any_day κs a r s p e = p.0 ∙ asked "02000010" 30 "30235950" e

-- a later second of the same day is ahead
pub ahead_is_old : (κs : _) (a : _) (r : _) (s : _) → age.Post κs a r s → Asks a.0.0 a.1.0 a.1.1.0.0 "06081659" 30 "06081700" → r ≡ Some aged.Ahead
unfolding age_in is_last_day age_of day_before moment_in moment_of is_stamp fits is_of is_digit within decimal_of read_number is_numeral all is_digit_to digit_of number_of value is_packed tight text_of digits byte_of packed code_of
ahead_is_old κs a r s p e = p.0 ∙ asked "06081659" 30 "06081700" e

-- this very second is 0 seconds old
pub same_second_is_ahead : (κs : _) (a : _) (r : _) (s : _) → age.Post κs a r s → Asks a.0.0 a.1.0 a.1.1.0.0 "06081700" 30 "06081700" → r ≡ Some (aged.Seconds 0)
unfolding age_in is_last_day age_of day_before moment_in moment_of is_stamp fits is_of is_digit within decimal_of read_number is_numeral all is_digit_to digit_of number_of value is_packed tight text_of digits byte_of packed code_of
same_second_is_ahead κs a r s p e = p.0 ∙ asked "06081700" 30 "06081700" e

-- a month may have 28 days
pub last_day_of_28_refused : (κs : _) (a : _) (r : _) (s : _) → age.Post κs a r s → Asks a.0.0 a.1.0 a.1.1.0.0 "01000010" 28 "28235950" → r ≡ Some (aged.Seconds 20)
unfolding age_in is_last_day age_of day_before moment_in moment_of is_stamp fits is_of is_digit within decimal_of read_number is_numeral all is_digit_to digit_of number_of value is_packed tight text_of digits byte_of packed code_of
last_day_of_28_refused κs a r s p e = p.0 ∙ asked "01000010" 28 "28235950" e

-- and none has 32
pub last_day_of_32_taken : (κs : _) (a : _) (r : _) (s : _) → age.Post κs a r s → Asks a.0.0 a.1.0 a.1.1.0.0 "06081800" 32 "06081700" → r ≡ None
unfolding age_in is_last_day age_of day_before moment_in moment_of is_stamp fits is_of is_digit within decimal_of read_number is_numeral all is_digit_to digit_of number_of value is_packed tight text_of digits byte_of packed code_of
last_day_of_32_taken κs a r s p e = p.0 ∙ asked "06081800" 32 "06081700" e
