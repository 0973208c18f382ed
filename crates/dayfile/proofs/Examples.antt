-- What the promises of `dayfile` require on inputs written out, and so wrong answers that they do not allow: of each, `Post` is the function's
-- `ensures` as it stands in the source, r any result that meets it, s the state at exit. Assumes nothing.
use Rattle.std.specs.Prelude.{Err, Ok}
use Prim.Native.Nat.{ℕ, ◌+◌, ◌-◌}
use mathlib.Core.Bool.{false}
use mathlib.Core.List.{List, [], ◌∷◌, ◌++◌}
use mathlib.Core.Path.{◌≡◌, refl, sym, ap, ◌∙◌}
use native.Mathlib.Omega.{arith}
use lib.ListN.{length, take, length-append}
use lib.Seq.{take-append-add, drop-append-add, length-take-le}
use Rattle.text.specs.Bytes.{bytes}
use Rattle.text.specs.Text.{has_room, spliced}
use Rattle.text.specs.Place.{value, places}
use Rattle.shapes.specs.Cut.{up_to, has}
use Rattle.shapes.specs.Pieces.{pieces, none_has}
use Rattle.shapes.specs.Picture.{starts_at}
use Rattle.cutter.specs.Feed.{feed_of, all_but_last, last, texts_of, rest_of}
use Rattle.cutter.proofs.Feeds.{feed_only}
use Rattle.dayfile.specs.DayFile.{version1, trailer_size, trailer_of, starts_from, index_of, file_of, may_keep, each_may_keep}
use Rattle.dayfile.specs.Opening.{offsets_in, open_by, same_numbers, is_empty, agree, tail_of, open_of, lines_by, lines_in, numbered, place_of}
use Rattle.dayfile.specs.Keeping.{is_full, has_place, kept_of, out_after, run_after, is_agreed, is_over, closing, ended_of, out_ended}
use Rattle.dayfile.specs.Cases.{AreLines, IsVersioned, IsMeasured}
use Rattle.dayfile.proofs.version_1.Reads as version-1
use Rattle.dayfile.proofs.walking.least.Reads as least
use Rattle.dayfile.proofs.«open».Reads as opening
use Rattle.dayfile.proofs.line.Reads as line
use Rattle.dayfile.proofs.keep_line.Reads as keep-line
use Rattle.dayfile.proofs.ending.end_file.Reads as end-file
use Rattle.dayfile.proofs.Files.{kept_line, each_at, lines_run, length-starts}
use Rattle.dayfile.proofs.Opens.{lines_is}
use Rattle.dayfile.proofs.KeptCases.{disagree_is}
use Rattle.dayfile.specs.declared.NotEnded.TheVariants.{Disagree, NoRoom}
use Rattle.dayfile.specs.declared.NotKept.TheVariants.{LineFeed, NoRoom, TooLong, TooMany}
use Rattle.dayfile.specs.declared.NotOpened.TheVariants.{TooShort, UnknownVersion, WrongLength, WrongLines}

-- ---- version 1

pub count_of_four_bytes : (κs : _) (a : _) (r : _) (s : _) → version-1.Post κs a r s → r.wide ≡ 2
count_of_four_bytes κs a r s p = rw p

pub version_0_or_65536_lines : (κs : _) (a : _) (r : _) (s : _) → version-1.Post κs a r s → (r.version ≡ 1) × (r.most ≡ 65535)
version_0_or_65536_lines κs a r s p = rw p (refl, refl)

-- ---- the file of the lines AB and an empty one, byte for byte

abbrev two : List ℕ
two = 65 ∷ 66 ∷ 10 ∷ 10 ∷ 0 ∷ 0 ∷ 0 ∷ 0 ∷ 0 ∷ 0 ∷ 0 ∷ 3 ∷ 0 ∷ 0 ∷ 0 ∷ 4 ∷ 0 ∷ 2 ∷ 0 ∷ 1 ∷ []

pub file_of_two_lines : file_of version1 (bytes "AB" ∷ [] ∷ []) ≡ two
unfolding file_of feed_of starts_from index_of trailer_of places
file_of_two_lines = refl

-- what files written out are told, all computed at once
told : (open_of version1 two ≡ Ok (record { lines = 2; start = 4 }))
    × (open_of version1 (0 ∷ 0 ∷ 0 ∷ 0 ∷ 0 ∷ 0 ∷ 0 ∷ 1 ∷ []) ≡ Ok (record { lines = 0; start = 0 }))
    × (open_of version1 (65 ∷ 66 ∷ 10 ∷ 10 ∷ 0 ∷ 0 ∷ 0 ∷ 0 ∷ 0 ∷ 0 ∷ 0 ∷ 3 ∷ 0 ∷ 0 ∷ 0 ∷ 4 ∷ 0 ∷ 2 ∷ 1 ∷ 0 ∷ []) ≡ Err UnknownVersion)
    × (open_of version1 (65 ∷ 66 ∷ 10 ∷ 10 ∷ 0 ∷ 0 ∷ 0 ∷ 0 ∷ 0 ∷ 0 ∷ 0 ∷ 3 ∷ 4 ∷ 0 ∷ 0 ∷ 0 ∷ 0 ∷ 2 ∷ 0 ∷ 1 ∷ []) ≡ Err WrongLength)
    × (open_of version1 (65 ∷ 66 ∷ 10 ∷ 10 ∷ 0 ∷ 0 ∷ 0 ∷ 0 ∷ 0 ∷ 0 ∷ 0 ∷ 3 ∷ 0 ∷ 0 ∷ 0 ∷ 4 ∷ 2 ∷ 0 ∷ 0 ∷ 1 ∷ []) ≡ Err WrongLength)
    × (open_of version1 (255 ∷ 255 ∷ 255 ∷ 252 ∷ 0 ∷ 1 ∷ 0 ∷ 1 ∷ []) ≡ Err WrongLength)
    × (open_of version1 (65 ∷ 66 ∷ 10 ∷ 10 ∷ 0 ∷ 0 ∷ 0 ∷ 0 ∷ 0 ∷ 0 ∷ 0 ∷ 2 ∷ 0 ∷ 0 ∷ 0 ∷ 4 ∷ 0 ∷ 2 ∷ 0 ∷ 1 ∷ []) ≡ Err WrongLines)
    × (open_of version1 (65 ∷ 10 ∷ 66 ∷ 0 ∷ 0 ∷ 0 ∷ 0 ∷ 0 ∷ 0 ∷ 0 ∷ 3 ∷ 0 ∷ 1 ∷ 0 ∷ 1 ∷ []) ≡ Err WrongLines)
    × (open_of version1 (65 ∷ 10 ∷ 0 ∷ 0 ∷ 0 ∷ 2 ∷ 0 ∷ 0 ∷ 0 ∷ 1 ∷ []) ≡ Err WrongLines)
unfolding open_of open_by trailer_size value agree offsets_in same_numbers is_empty each_may_keep may_keep texts_of rest_of all_but_last last pieces starts_from has up_to
told = (refl, refl, refl, refl, refl, refl, refl, refl, refl)

pub refuses_two_lines : (κs : _) (a : _) (r : _) (s : _) → opening.Post κs a r s → a.0.now ≡ two → r ≡ Ok (record { lines = 2; start = 4 })
refuses_two_lines κs a r s p e = p ∙ rw e told.0

-- no line at all is a file of eight bytes
pub refuses_no_line : (κs : _) (a : _) (r : _) (s : _) → opening.Post κs a r s → a.0.now ≡ 0 ∷ 0 ∷ 0 ∷ 0 ∷ 0 ∷ 0 ∷ 0 ∷ 1 ∷ []
    → r ≡ Ok (record { lines = 0; start = 0 })
refuses_no_line κs a r s p e = p ∙ rw e told.1

-- 20: seven bytes are none
pub opens_seven_bytes : (κs : _) (a : _) (r : _) (s : _) → opening.Post κs a r s → length a.0.now ≡ 7 → r ≡ Err TooShort
unfolding open_of open_by trailer_size
opens_seven_bytes κs a r s p e = p ∙ rw e

-- 21: the version's two bytes exchanged
pub version_exchanged : (κs : _) (a : _) (r : _) (s : _) → opening.Post κs a r s
    → a.0.now ≡ 65 ∷ 66 ∷ 10 ∷ 10 ∷ 0 ∷ 0 ∷ 0 ∷ 0 ∷ 0 ∷ 0 ∷ 0 ∷ 3 ∷ 0 ∷ 0 ∷ 0 ∷ 4 ∷ 0 ∷ 2 ∷ 1 ∷ 0 ∷ [] → r ≡ Err UnknownVersion
version_exchanged κs a r s p e = p ∙ rw e told.2

-- 22: the start, or the count, low byte first
pub start_low_byte_first : (κs : _) (a : _) (r : _) (s : _) → opening.Post κs a r s
    → a.0.now ≡ 65 ∷ 66 ∷ 10 ∷ 10 ∷ 0 ∷ 0 ∷ 0 ∷ 0 ∷ 0 ∷ 0 ∷ 0 ∷ 3 ∷ 4 ∷ 0 ∷ 0 ∷ 0 ∷ 0 ∷ 2 ∷ 0 ∷ 1 ∷ [] → r ≡ Err WrongLength
start_low_byte_first κs a r s p e = p ∙ rw e told.3

pub count_low_byte_first : (κs : _) (a : _) (r : _) (s : _) → opening.Post κs a r s
    → a.0.now ≡ 65 ∷ 66 ∷ 10 ∷ 10 ∷ 0 ∷ 0 ∷ 0 ∷ 0 ∷ 0 ∷ 0 ∷ 0 ∷ 3 ∷ 0 ∷ 0 ∷ 0 ∷ 4 ∷ 2 ∷ 0 ∷ 0 ∷ 1 ∷ [] → r ≡ Err WrongLength
count_low_byte_first κs a r s p e = p ∙ rw e told.4

-- 22: a sum that wraps at 4,294,967,296 would be the length of the file
pub sum_that_wraps : (κs : _) (a : _) (r : _) (s : _) → opening.Post κs a r s → a.0.now ≡ 255 ∷ 255 ∷ 255 ∷ 252 ∷ 0 ∷ 1 ∷ 0 ∷ 1 ∷ [] → r ≡ Err WrongLength
sum_that_wraps κs a r s p e = p ∙ rw e told.5

-- 23: an index that is out by one
pub index_out_by_one : (κs : _) (a : _) (r : _) (s : _) → opening.Post κs a r s
    → a.0.now ≡ 65 ∷ 66 ∷ 10 ∷ 10 ∷ 0 ∷ 0 ∷ 0 ∷ 0 ∷ 0 ∷ 0 ∷ 0 ∷ 2 ∷ 0 ∷ 0 ∷ 0 ∷ 4 ∷ 0 ∷ 2 ∷ 0 ∷ 1 ∷ [] → r ≡ Err WrongLines
index_out_by_one κs a r s p e = p ∙ rw e told.6

-- 23: a byte after the last line feed
pub byte_after_last_feed : (κs : _) (a : _) (r : _) (s : _) → opening.Post κs a r s
    → a.0.now ≡ 65 ∷ 10 ∷ 66 ∷ 0 ∷ 0 ∷ 0 ∷ 0 ∷ 0 ∷ 0 ∷ 0 ∷ 3 ∷ 0 ∷ 1 ∷ 0 ∷ 1 ∷ [] → r ≡ Err WrongLines
byte_after_last_feed κs a r s p e = p ∙ rw e told.7

-- 23: a count of 0 with a start over 0
pub lines_not_counted : (κs : _) (a : _) (r : _) (s : _) → opening.Post κs a r s → a.0.now ≡ 65 ∷ 10 ∷ 0 ∷ 0 ∷ 0 ∷ 2 ∷ 0 ∷ 0 ∷ 0 ∷ 1 ∷ [] → r ≡ Err WrongLines
lines_not_counted κs a r s p e = p ∙ rw e told.8

-- 23: a line of 2,049 bytes, with its offset 0, the start 2,050 and the count 1
module _ (l : List ℕ) (long : length l ≡ 2049) (none : has 10 l ≡ false) where
  abbrev after : List ℕ
  after = 10 ∷ 0 ∷ 0 ∷ 0 ∷ 0 ∷ 0 ∷ 0 ∷ 8 ∷ 2 ∷ 0 ∷ 1 ∷ 0 ∷ 1 ∷ []

  last_eight : tail_of version1 (l ++ after) ≡ 0 ∷ 0 ∷ 8 ∷ 2 ∷ 0 ∷ 1 ∷ 0 ∷ 1 ∷ []
  unfolding trailer_size
  last_eight =
      let e : length (l ++ after) - 8 ≡ length l + 5 = omega (arith, length-append l after) in
      rw e (drop-append-add l after 5)

  its_bytes : take 2050 (l ++ after) ≡ l ++ 10 ∷ []
  its_bytes = let e : 2050 ≡ length l + 1 = omega arith in rw e (take-append-add l after 1)

  not_lines : (os : List ℕ) → AreLines (take 2050 (l ++ after)) os → ⊥
  unfolding feed_of none_has has up_to
  not_lines os k =
      let e : texts_of (take 2050 (l ++ after)) ≡ l ∷ [] = rw its_bytes (feed_only (l ∷ []) [] (rw none) refl).0 in
      let f : k.run ≡ l ∷ [] = sym (lines_run k) ∙ e in
      let g = (kept_line l (each_at (l ∷ []) (rw f at k.each) 0 (omega arith))).0 in
      omega arith

  pub takes_2049 : (κs : _) (a : _) (r : _) (s : _) → opening.Post κs a r s → a.0.now ≡ l ++ (10 ∷ 0 ∷ 0 ∷ 0 ∷ 0 ∷ 0 ∷ 0 ∷ 8 ∷ 2 ∷ 0 ∷ 1 ∷ 0 ∷ 1 ∷ []) → r ≡ Err WrongLines
  unfolding trailer_size value
  takes_2049 κs a r s p e =
      let file = l ++ after in
      let size : length file ≡ 2062 = omega (arith, length-append l after) in
      let v : IsVersioned version1 file = (omega arith, rw last_eight) in
      let m : IsMeasured version1 file = rw (last_eight, size) in
      p ∙ rw e (lines_is version1 file v m (rw last_eight (λ k. not_lines _ k)))

-- ---- the lines of that file

lines_of_two : lines_in version1 two ≡ bytes "AB" ∷ [] ∷ []
unfolding lines_by texts_of all_but_last pieces
lines_of_two = rw told.0

-- the first is 1
pub line_0 : (κs : _) (a : _) (r : _) (s : _) → line.Post κs a r s → a.0.now ≡ two → a.1.0 ≡ 0 → r.now ≡ []
unfolding numbered
line_0 κs a r s p e n = p.0 ∙ rw (e, lines_of_two, n)

-- without its line feed, and not a copy
pub line_1 : (κs : _) (a : _) (r : _) (s : _) → line.Post κs a r s → a.0.now ≡ two → a.1.0 ≡ 1 → (r.now ≡ bytes "AB") × (r.ref_ptr ≡ starts_at a.0.ref_ptr 0)
unfolding numbered place_of starts_from
line_1 κs a r s p e n = (p.0 ∙ rw (e, lines_of_two, n), p.1 ∙ rw (e, lines_of_two, n))

-- an empty line lies where it begins
pub line_2 : (κs : _) (a : _) (r : _) (s : _) → line.Post κs a r s → a.0.now ≡ two → a.1.0 ≡ 2 → (r.now ≡ []) × (r.ref_ptr ≡ starts_at a.0.ref_ptr 3)
unfolding numbered place_of starts_from
line_2 κs a r s p e n = (p.0 ∙ rw (e, lines_of_two, n), p.1 ∙ rw (e, lines_of_two, n))

-- past the last there is none
pub line_3 : (κs : _) (a : _) (r : _) (s : _) → line.Post κs a r s → a.0.now ≡ two → a.1.0 ≡ 3 → r.now ≡ []
unfolding numbered
line_3 κs a r s p e n = p.0 ∙ rw (e, lines_of_two, n)

-- ---- a line kept

-- its bytes and a line feed, and where it begins in the run
pub keeps_without_line_feed : (κs : _) (a : _) (r : _) (s : _) → keep-line.Post κs a r s → a.0.now ≡ bytes "AB" → a.1.0.now ≡ 10 ∷ 0 ∷ 0 ∷ 0 ∷ 7 ∷ []
    → a.1.1.0.now ≡ 0 ∷ 9 ∷ [] → a.1.1.1.0 ≡ record { at = 1; count = 1 }
    → (r ≡ Ok (record { at = 4; count = 2 })) × (s.1.0.now ≡ 10 ∷ 65 ∷ 66 ∷ 10 ∷ 7 ∷ []) × (s.1.1.0.now ≡ 0 ∷ 1 ∷ [])
unfolding kept_of is_full has_place has_room has up_to out_after run_after spliced
keeps_without_line_feed κs a r s p l o f q =
    let e : r ≡ Ok (record { at = 4; count = 2 }) = p.0 ∙ rw (l, o, f, q) in
    (e, p.1.0 ∙ rw (e, l, o, q), p.1.1 ∙ rw (e, f, q))

-- 2: 2,049 bytes, also with a line feed among them
pub keeps_2049 : (κs : _) (a : _) (r : _) (s : _) → keep-line.Post κs a r s → length a.0.now ≡ 2049 → (r ≡ Err TooLong) × (s.1.0.now ≡ a.1.0.now)
unfolding kept_of out_after
keeps_2049 κs a r s p h = let e : r ≡ Err TooLong = p.0 ∙ rw h in (e, p.1.0 ∙ rw e)

-- 25: a line feed
pub keeps_a_line_feed : (κs : _) (a : _) (r : _) (s : _) → keep-line.Post κs a r s → a.0.now ≡ 65 ∷ 10 ∷ 66 ∷ []
    → (r ≡ Err LineFeed) × (s.1.0.now ≡ a.1.0.now) × (s.1.1.0.now ≡ a.1.1.0.now)
unfolding kept_of has up_to out_after run_after
keeps_a_line_feed κs a r s p l = let e : r ≡ Err LineFeed = p.0 ∙ rw l in (e, p.1.0 ∙ rw e, p.1.1 ∙ rw e)

-- 24: a line after 65,535, also where there is no room for it
pub keeps_65536 : (κs : _) (a : _) (r : _) (s : _) → keep-line.Post κs a r s → a.0.now ≡ [] → a.1.0.now ≡ [] → a.1.1.1.0 ≡ record { at = 65535; count = 65535 } → r ≡ Err TooMany
unfolding kept_of is_full has up_to
keeps_65536 κs a r s p l o q = p.0 ∙ rw (l, q)

-- 24: an empty line after 4,294,967,295 bytes
pub starts_too_far : (κs : _) (a : _) (r : _) (s : _) → keep-line.Post κs a r s → a.0.now ≡ [] → a.1.1.1.0 ≡ record { at = 4294967295; count = 1 } → r ≡ Err TooMany
unfolding kept_of is_full has up_to
starts_too_far κs a r s p l q = p.0 ∙ rw (l, q)

-- 15: an offset is not written where the line has no room, nor the line where the run is full
pub offset_without_its_line : (κs : _) (a : _) (r : _) (s : _) → keep-line.Post κs a r s → a.0.now ≡ bytes "AB" → a.1.0.now ≡ 0 ∷ 0 ∷ [] → a.1.1.0.now ≡ 9 ∷ []
    → a.1.1.1.0 ≡ record { at = 0; count = 0 } → (r ≡ Err NoRoom) × (s.1.0.now ≡ 0 ∷ 0 ∷ []) × (s.1.1.0.now ≡ 9 ∷ [])
unfolding kept_of is_full has_place has_room has up_to out_after run_after
offset_without_its_line κs a r s p l o f q = let e : r ≡ Err NoRoom = p.0 ∙ rw (l, o, f, q) in (e, p.1.0 ∙ rw (e, o), p.1.1 ∙ rw (e, f))

pub line_without_its_offset : (κs : _) (a : _) (r : _) (s : _) → keep-line.Post κs a r s → a.0.now ≡ bytes "AB" → a.1.0.now ≡ 0 ∷ 0 ∷ 0 ∷ [] → a.1.1.0.now ≡ []
    → a.1.1.1.0 ≡ record { at = 0; count = 0 } → (r ≡ Err NoRoom) × (s.1.0.now ≡ 0 ∷ 0 ∷ 0 ∷ [])
unfolding kept_of is_full has_place has_room has up_to out_after
line_without_its_offset κs a r s p l o f q = let e : r ≡ Err NoRoom = p.0 ∙ rw (l, o, f, q) in (e, p.1.0 ∙ rw (e, o))

-- ---- the file ended

abbrev room : List ℕ
room = 65 ∷ 66 ∷ 10 ∷ 10 ∷ 9 ∷ 9 ∷ 9 ∷ 9 ∷ 9 ∷ 9 ∷ 9 ∷ 9 ∷ 9 ∷ 9 ∷ 9 ∷ 9 ∷ 9 ∷ 9 ∷ 9 ∷ 9 ∷ []

-- index and trailer, high byte first
pub writes_low_byte_first : (κs : _) (a : _) (r : _) (s : _) → end-file.Post κs a r s → a.0.now ≡ room → a.1.0.now ≡ 0 ∷ 3 ∷ [] → a.1.1.0 ≡ record { at = 4; count = 2 }
    → (r ≡ Ok 20) × (s.0.now ≡ two)
unfolding ended_of is_agreed agree same_numbers is_empty each_may_keep may_keep texts_of rest_of all_but_last last pieces starts_from has up_to is_over has_room closing index_of trailer_of places out_ended spliced
writes_low_byte_first κs a r s p o f q = let e : r ≡ Ok 20 = p.0 ∙ rw (o, f, q) in (e, p.1 ∙ rw (e, o, f, q))

-- 13: an offset changed
pub ends_with_an_offset_changed : (κs : _) (a : _) (r : _) (s : _) → end-file.Post κs a r s → a.0.now ≡ room → a.1.0.now ≡ 0 ∷ 2 ∷ [] → a.1.1.0 ≡ record { at = 4; count = 2 }
    → (r ≡ Err Disagree) × (s.0.now ≡ room)
unfolding ended_of is_agreed agree same_numbers is_empty each_may_keep may_keep texts_of rest_of all_but_last last pieces starts_from has up_to out_ended
ends_with_an_offset_changed κs a r s p o f q = let e : r ≡ Err Disagree = p.0 ∙ rw (o, f, q) in (e, p.1 ∙ rw (e, o))

-- 13: a line that no line feed ends
pub ends_inside_a_line : (κs : _) (a : _) (r : _) (s : _) → end-file.Post κs a r s → a.0.now ≡ room → a.1.0.now ≡ 0 ∷ [] → a.1.1.0 ≡ record { at = 2; count = 1 }
    → (r ≡ Err Disagree) × (s.0.now ≡ room)
unfolding ended_of is_agreed agree is_empty rest_of last pieces out_ended
ends_inside_a_line κs a r s p o f q = let e : r ≡ Err Disagree = p.0 ∙ rw (o, f, q) in (e, p.1 ∙ rw (e, o))

-- 13 before 24: 65,536 offsets that disagree
no_bytes_no_lines : (os : List ℕ) → length os ≡ 65536 → AreLines [] (take 65536 os) → ⊥
unfolding texts_of all_but_last pieces
no_bytes_no_lines os h k =
    let none : [] ≡ k.run = lines_run k in
    let all : length (take 65536 os) ≡ 65536 = length-take-le 65536 os (omega arith) in
    omega (arith, ap length k.starts, length-starts 0 k.run, ap length none)

pub many_that_disagree : (κs : _) (a : _) (r : _) (s : _) → end-file.Post κs a r s → length a.1.0.now ≡ 65536 → a.1.1.0 ≡ record { at = 0; count = 65536 } → r ≡ Err Disagree
many_that_disagree κs a r s p h q =
    p.0 ∙ rw q (disagree_is version1 a.0.now a.1.0.now (record { at = 0; count = 65536 }) (λ g. no_bytes_no_lines a.1.0.now h g.2))

-- 15: one byte too few for the trailer
pub ends_without_room : (κs : _) (a : _) (r : _) (s : _) → end-file.Post κs a r s → a.0.now ≡ 65 ∷ 10 ∷ 9 ∷ 9 ∷ 9 ∷ 9 ∷ 9 ∷ 9 ∷ 9 ∷ 9 ∷ 9 ∷ 9 ∷ 9 ∷ [] → a.1.0.now ≡ 0 ∷ []
    → a.1.1.0 ≡ record { at = 2; count = 1 } → (r ≡ Err NoRoom) × (s.0.now ≡ a.0.now)
unfolding ended_of is_agreed agree same_numbers is_empty each_may_keep may_keep texts_of rest_of all_but_last last pieces starts_from has up_to is_over has_room closing index_of trailer_of places out_ended
ends_without_room κs a r s p o f q = let e : r ≡ Err NoRoom = p.0 ∙ rw (o, f, q) in (e, p.1 ∙ rw e)

-- ---- `least`

pub the_greater : (κs : _) (a : _) (r : _) (s : _) → least.Post κs a r s → a.0 ≡ 3 → a.1.0 ≡ 2048 → r ≡ 3
the_greater κs a r s p e f = p ∙ rw (e, f)

pub the_first : (κs : _) (a : _) (r : _) (s : _) → least.Post κs a r s → a.0 ≡ 9 → a.1.0 ≡ 4 → r ≡ 4
the_first κs a r s p e f = p ∙ rw (e, f)
