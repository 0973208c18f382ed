-- What `keep_line` and `end_file` answer, and what they write: document 02's "writing 2, 25, 24, then 15, also for a full run of offsets; ending a file 13
-- where lines and offsets disagree, 24, 15". Assumes nothing.
use Rattle.std.specs.Prelude.{ℕ, ◌+◌, ◌-◌, Bool, cond, ◌&&◌, ◌||◌, not, List, [], ◌∷◌, ◌++◌, leb, ltb, length, take, Err, Ok, Result}
use Rattle.text.specs.Text.{has_room, spliced}
use Rattle.shapes.specs.Cut.{has}
use Rattle.rules.specs.Frame.{line_feed, longest_line}
use Rattle.dayfile.specs.DayFile.{trailer_of, index_of, too_far}
use Rattle.dayfile.specs.Opening.{agree}
use Rattle.dayfile.specs.declared.Trailer.{Trailer}
use Rattle.dayfile.specs.declared.Place.{Place}
use Rattle.dayfile.specs.declared.NotEnded.TheVariants.{Disagree, NoRoom, TooMany}
use Rattle.dayfile.specs.declared.NotKept.TheVariants.{LineFeed, NoRoom, TooLong, TooMany}
use Rattle.dayfile.specs.declared.NotEnded.{NotEnded}
use Rattle.dayfile.specs.declared.NotKept.{NotKept}

-- ---- `keep_line`, into a buffer that is the file from its byte `base` on

-- "each with its line feed"
abbrev pub fed : List ℕ → List ℕ
fed l = l ++ line_feed ∷ []

-- 24: as many lines as there may be are kept, or the index would start too far
unfoldable pub is_full : ℕ → Place → List ℕ → Bool
is_full most p l = leb most p.count || leb too_far (p.at + length (fed l))

-- 15: "also for a full run of offsets"
unfoldable pub has_place : ℕ → List ℕ → List ℕ → List ℕ → Place → Bool
has_place base l out offsets p = has_room (fed l) out (p.at - base) && ltb p.count (length offsets)

unfoldable pub kept_of : ℕ → ℕ → List ℕ → List ℕ → List ℕ → Place → Result Place NotKept
kept_of most base l out offsets p =
    cond (ltb longest_line (length l)) (Err TooLong)
    (cond (has line_feed l) (Err LineFeed)
    (cond (is_full most p l) (Err TooMany)
    (cond (has_place base l out offsets p) (Ok (record { at = p.at + length (fed l); count = p.count + 1 }))
    (Err NoRoom))))

-- the buffer and the run of offsets after an answer
unfoldable pub out_after : Result Place NotKept → ℕ → List ℕ → List ℕ → Place → List ℕ
out_after (Ok q) base l out p = spliced out (p.at - base) (fed l)
out_after (Err TooLong) base l out p = out
out_after (Err LineFeed) base l out p = out
out_after (Err TooMany) base l out p = out
out_after (Err NoRoom) base l out p = out

unfoldable pub run_after : Result Place NotKept → List ℕ → Place → List ℕ
run_after (Ok q) offsets p = spliced offsets p.count (p.at ∷ [])
run_after (Err TooLong) offsets p = offsets
run_after (Err LineFeed) offsets p = offsets
run_after (Err TooMany) offsets p = offsets
run_after (Err NoRoom) offsets p = offsets

unfoldable pub kept_number : Result Place NotKept → ℕ
kept_number (Ok q) = 0
kept_number (Err TooLong) = 2
kept_number (Err LineFeed) = 25
kept_number (Err TooMany) = 24
kept_number (Err NoRoom) = 15

-- ---- `end_file`

-- what 23 asks of a file, here of what was kept: 13 otherwise
unfoldable pub is_agreed : List ℕ → List ℕ → Place → Bool
is_agreed out offsets p = leb p.at (length out) && (leb p.count (length offsets) && agree (take p.at out) (take p.count offsets))

-- 24
unfoldable pub is_over : Trailer → Place → Bool
is_over t p = ltb t.most p.count || leb too_far p.at

-- what is written: index and trailer
unfoldable pub closing : Trailer → List ℕ → Place → List ℕ
closing t offsets p = index_of (take p.count offsets) ++ trailer_of t p.at p.count

unfoldable pub ended_of : Trailer → List ℕ → List ℕ → Place → Result ℕ NotEnded
ended_of t out offsets p =
    cond (not (is_agreed out offsets p)) (Err Disagree)
    (cond (is_over t p) (Err TooMany)
    (cond (has_room (closing t offsets p) out p.at) (Ok (p.at + length (closing t offsets p)))
    (Err NoRoom)))

unfoldable pub out_ended : Result ℕ NotEnded → Trailer → List ℕ → List ℕ → Place → List ℕ
out_ended (Ok n) t out offsets p = spliced out p.at (closing t offsets p)
out_ended (Err Disagree) t out offsets p = out
out_ended (Err TooMany) t out offsets p = out
out_ended (Err NoRoom) t out offsets p = out

unfoldable pub ended_number : Result ℕ NotEnded → ℕ
ended_number (Ok n) = 0
ended_number (Err Disagree) = 13
ended_number (Err TooMany) = 24
ended_number (Err NoRoom) = 15
