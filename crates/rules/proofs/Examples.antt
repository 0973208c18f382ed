-- What the promises of `rules` require on inputs written out, and so wrong answers that they do not allow: of each, `Post` is the function's
-- `ensures` as it stands in the source, r any result that meets it, s the state at exit. Assumes nothing.
use Prim.Native.Char.{code}
use Prim.Native.Nat.{ℕ}
use Prim.Native.String.{String}
use mathlib.Core.Bool.{false, Bool, true}
use mathlib.Core.List.{List, [], ◌∷◌, ◌++◌, map}
use mathlib.Core.Path.{◌≡◌, ap, ◌∙◌, refl}
use lib.ListN.{get_or, drop}
use Rattle.text.specs.Bytes.{bytes}
use Rattle.text.specs.Class.{all, is_digit, is_letter, is_alnum}
use Rattle.text.specs.Code.{code_of}
use Rattle.text.specs.Number.{is_digit_to, digit_of, is_numeral, number_of}
use Rattle.text.specs.Place.{value}
use Rattle.shapes.specs.Cut.{up_to, has, before, after, joins}
use Rattle.shapes.specs.Picture.{is_of, fits, fits_any, one_of, within, run}
use Rattle.shapes.specs.Pieces.{pieces}
use Rattle.rules.specs.Form.{is_facility, is_position, is_route, is_stamp, is_old_stamp, is_key, is_fix, is_clock, is_time, is_arrival, is_block, is_level}
use Rattle.rules.specs.Kind as kinds
use Rattle.rules.specs.Kind.{is_form}
use Rattle.rules.proofs.clocks.is_stamp.Reads as is-stamp
use Rattle.rules.proofs.is_facility.Reads as is-facility
use Rattle.rules.proofs.is_form.Reads as is-form
use Rattle.rules.proofs.is_position.Reads as is-position
use Rattle.rules.proofs.is_route.Reads as is-route

-- four spaces are no facility
pub facility_blank : (κs : _) (a : _) (r : _) (s : _) → is-facility.Post κs a r s → a.0.now ≡ bytes "    " → r ≡ false
unfolding one_of fits_any pieces fits is_of is_alnum is_digit is_letter
facility_blank κs a r s p e = p ∙ ap is_facility e

-- nor is one with its space at the end
pub facility_left_justified : (κs : _) (a : _) (r : _) (s : _) → is-facility.Post κs a r s → a.0.now ≡ bytes "KZA " → r ≡ false
unfolding one_of fits_any pieces fits is_of is_alnum is_digit is_letter
facility_left_justified κs a r s p e = p ∙ ap is_facility e

-- no latitude is past the pole
pub position_9001 : (κs : _) (a : _) (r : _) (s : _) → is-position.Post κs a r s → a.0.now ≡ bytes "9001N/00000E" → r ≡ false
unfolding is_position fits is_of within is_numeral is_digit_to number_of digit_of value all code_of is_digit is_letter
position_9001 κs a r s p e = p ∙ ap is_position e

-- a degree has 60 minutes, 00 to 59
pub position_minute_60 : (κs : _) (a : _) (r : _) (s : _) → is-position.Post κs a r s → a.0.now ≡ bytes "8960N/00000E" → r ≡ false
unfolding is_position fits is_of within is_numeral is_digit_to number_of digit_of value all code_of is_digit is_letter
position_minute_60 κs a r s p e = p ∙ ap is_position e

-- a route has a byte at least
pub route_empty : (κs : _) (a : _) (r : _) (s : _) → is-route.Post κs a r s → a.0.now ≡ bytes "" → r ≡ false
unfolding is_route
route_empty κs a r s p e = p ∙ ap is_route e

-- and no space
pub route_space : (κs : _) (a : _) (r : _) (s : _) → is-route.Post κs a r s → a.0.now ≡ bytes "MIA ATL" → r ≡ false
unfolding is_route all is_of
route_space κs a r s p e = p ∙ ap is_route e

-- ---- clocks

-- no day is 00
pub stamp_day_00 : (κs : _) (a : _) (r : _) (s : _) → is-stamp.Post κs a r s → a.0.now ≡ bytes "00143655" → r ≡ false
unfolding is_stamp fits is_of within is_numeral is_digit_to number_of digit_of value all code_of is_digit is_letter
stamp_day_00 κs a r s p e = p ∙ ap is_stamp e

-- no second is 60
pub stamp_second_60 : (κs : _) (a : _) (r : _) (s : _) → is-stamp.Post κs a r s → a.0.now ≡ bytes "06143660" → r ≡ false
unfolding is_stamp fits is_of within is_numeral is_digit_to number_of digit_of value all code_of is_digit is_letter
stamp_second_60 κs a r s p e = p ∙ ap is_stamp e

-- ---- rules

-- a kind, a text, and the answer
pub record Row : Type 0 where
  pub kind : ℕ
  pub text : String
  pub told : Bool

-- the rows of a kind: texts that have its form, and texts that have not
abbrev rows : ℕ → List String → List String → List Row
rows k right wrong = map (λ t. record { kind = k; text = t; told = true }) right ++ map (λ t. record { kind = k; text = t; told = false }) wrong

-- beside each kind what its wrong texts are; `arrival_letter_in_the_clock` would refuse the right A1200
abbrev pub table : List Row
table =
    rows kinds.SEQUENCE ("0000" ∷ "09AF" ∷ []) ("09A" ∷ "09AG" ∷ [])  -- sequence_3, sequence_g
    ++ (rows kinds.STAMP ("01000000" ∷ "31235959" ∷ []) ("00143655" ∷ "06143660" ∷ [])  -- stamp_day_00, stamp_second_60
    ++ (rows kinds.OLD_STAMP ("000000" ∷ "235959" ∷ []) ("240000" ∷ "236000" ∷ "235960" ∷ "06143655" ∷ [])  -- old_stamp_hour_24, old_stamp_minute_60, old_stamp_second_60, old_stamp_with_day
    ++ (rows kinds.KEY ("N5" ∷ "ABCDEF7" ∷ []) ("ABCDEF78" ∷ "5N" ∷ [])  -- key_8, key_digit_first
    ++ (rows kinds.NUMBER ("123" ∷ "12Z" ∷ []) ("12" ∷ "1A2" ∷ [])  -- number_2, number_letter_second
    ++ (rows kinds.PREFIX ("T" ∷ "2H" ∷ []) ("22H" ∷ "H2" ∷ [])  -- prefix_3, prefix_letter_first
    ++ (rows kinds.MODEL ("B7" ∷ "C172" ∷ []) ("C172A" ∷ "B" ∷ [])  -- model_5, model_1
    ++ (rows kinds.LETTER ("A" ∷ []) ("1" ∷ "AA" ∷ [])  -- letter_digit, letter_2
    ++ (rows kinds.FILED_SPEED ("45" ∷ "0450" ∷ "M082" ∷ "SC" ∷ []) ("4" ∷ "04500" ∷ [])  -- filed_speed_1, filed_speed_5
    ++ (rows kinds.GROUND_SPEED ("045" ∷ []) ("45" ∷ "0450" ∷ [])  -- ground_speed_2, ground_speed_4
    ++ (rows kinds.POINT ("MI" ∷ "ABCDEFGHIJ12" ∷ []) ("M" ∷ "ABCDEFGHIJ123" ∷ [])  -- point_1, point_13
    ++ (rows kinds.FIX ("OM" ∷ "ABCDEFGHI12" ∷ "MIA/180025" ∷ []) ("ABCDEFGHIJ12" ∷ "MIA/1800250" ∷ [])  -- fix_12, fix_back_7
    ++ (rows kinds.TIME ("D1200" ∷ "E0000" ∷ "P2359" ∷ []) ("D12000" ∷ "A1200" ∷ [])  -- time_6, time_any_letter
    ++ (rows kinds.CLOCK ("0000" ∷ "2359" ∷ []) ("2400" ∷ "1260" ∷ "A1200" ∷ [])  -- clock_2400, clock_minute_60, clock_with_a_letter
    ++ (rows kinds.ARRIVAL ("1200" ∷ "A1200" ∷ "E2359" ∷ []) ("P1200" ∷ "A2400" ∷ [])  -- arrival_p, arrival_2400
    ++ (rows kinds.LEVEL ("05" ∷ "350" ∷ "35B350" ∷ []) ("5" ∷ "35C350" ∷ "0350" ∷ "35B3500" ∷ [])  -- level_1, level_c_between, level_4, block_4
    -- block_falls, block_as_texts, block_equal_refused: of every pair of widths the second below, at and above the first
    ++ (rows kinds.LEVEL ("34B35" ∷ "35B35" ∷ "34B035" ∷ "99B100" ∷ "05B005" ∷ "034B35" ∷ "005B05" ∷ "349B350" ∷ "350B350" ∷ []) ("36B35" ∷ "36B035" ∷ "036B35" ∷ "100B99" ∷ "351B350" ∷ "350B310" ∷ [])
    ++ (rows kinds.TRACK_LEVEL ("350" ∷ "350C" ∷ "350B" ∷ []) ("35" ∷ "350CC" ∷ "110B130" ∷ [])  -- track_level_2, track_level_two_letters, track_level_block
    ++ (rows kinds.POSITION ("9000N/18000W" ∷ "0000S/00000E" ∷ []) ("9001N/00000E" ∷ "8960N/00000E" ∷ [])  -- position_9001, position_minute_60
    ++ rows (code "Z") [] ("12" ∷ "" ∷ [])))))))))))))))))))  -- a letter that names no kind

-- the kind k and the text t being a row's, r is the row's answer; and so of each row
abbrev pub Tells : ℕ → List ℕ → Bool → List Row → Type 0
Tells k t r [] = Unit {0}
Tells k t r (x ∷ l) = (k ≡ x.kind → t ≡ bytes x.text → r ≡ x.told) × Tells k t r l

tells : (k : ℕ) (t : List ℕ) (l : List Row) → map (λ (x : Row). is_form x.kind (bytes x.text)) l ≡ map (λ (x : Row). x.told) l → Tells k t (is_form k t) l
tells k t [] e = tt
tells k t (x ∷ l) e = ((λ p q. rw (p, q) (ap (λ bs. get_or bs 0 true) e)), tells k t l (ap (drop 1) e))

pub every_form : (κs : _) (a : _) (r : _) (s : _) → is-form.Post κs a r s → Tells a.0 a.1.0.now r table
unfolding is_form is_stamp is_old_stamp is_key is_fix is_clock is_time is_arrival is_block is_level is_position joins has before after up_to is_of fits fits_any one_of run within
    pieces all is_digit is_letter is_alnum code_of value is_digit_to digit_of is_numeral number_of
every_form κs a r s p = rw p (tells a.0 a.1.0.now table refl)

-- a letter that names no kind has no texts
pub no_kind : (κs : _) (a : _) (r : _) (s : _) → is-form.Post κs a r s → a.0 ≡ code "Z" → r ≡ false
unfolding is_form
no_kind κs a r s p e = p ∙ ap (λ k. is_form k a.1.0.now) e
