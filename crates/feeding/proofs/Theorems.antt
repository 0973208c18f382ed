-- What a call of `feed` or `feed_allowed` promises, its case, and what follows of it. Assumes nothing.
use mathlib.Core.Path.{◌≡◌, sym, ◌∙◌}
use mathlib.Core.Bool.{true}
use mathlib.Core.List.{List}
use Prim.Native.Nat.{ℕ, ◌≤◌, ◌<◌}
use lib.ListN.{length}
use Rattle.shapes.specs.Pieces.{pieces}
use Rattle.board.specs.Board.{is_allowed as is_board}
use Rattle.rules.specs.Frame.{line_feed}
use Rattle.cutter.specs.State.{state_in, is_allowed}
use Rattle.cutter.specs.Told.{told}
use Rattle.cutter.specs.declared.Begun.{Begun}
use Rattle.feeding.specs.Tally.{line_feeds}
use Rattle.feeding.specs.Fed.{read_in, fed_with, Feeds, feed_number}
use Rattle.feeding.specs.Cases.{Outcome, FeedCase, outcome_of}
use Rattle.feeding.specs.declared.AfterFeed.{AfterFeed}
use Rattle.feeding.proofs.feed.Reads as feed
use Rattle.feeding.proofs.feed_allowed.Reads as feed-allowed
use Rattle.feeding.proofs.Tallies.{read_le, read_some, lines_told}
use Rattle.feeding.proofs.Turns.{fed_ready, board_still, held_still}
use Rattle.feeding.proofs.Cases.{read_all, feed_case, case_one, fed_back}

-- ---- the promise in the source, as three equations: `feed` and `feed_allowed` have the same

pub feed_promise : (κs : _) (a : _) (r : _) (s : _) → feed.Post κs a r s
    → Feeds a.0.now a.1.0.now a.1.1.0 a.1.1.1.0 a.1.1.1.1.0.now r s.0.now s.1.0.now
feed_promise κs a r s p = record { result = p.0; words = p.1.0; buffer = p.1.1.0 }

pub feed_allowed_promise : (κs : _) (a : _) (r : _) (s : _) → feed-allowed.Post κs a r s
    → Feeds a.0.now a.1.0.now a.1.1.0 a.1.1.1.0 a.1.1.1.1.0.now r s.0.now s.1.0.now
feed_allowed_promise κs a r s p = record { result = p.0; words = p.1.0; buffer = p.1.1 }

-- ---- THE COUNT OF LINES is that of the lines told

pub lines_fed_lem : (held : List ℕ) (begun : Begun) (s : List ℕ) → length (told (state_in held begun) (pieces line_feed s)) ≡ line_feeds s
lines_fed_lem held begun s = lines_told (state_in held begun) s

-- ---- AN ALLOWED BOARD AND STATE STAY ALLOWED

pub fed_allowed : (board held : List ℕ) (begun : Begun) (most : ℕ) (part : List ℕ) (r : AfterFeed) (board' held' : List ℕ) → Feeds board held begun most part r board' held'
    → is_board board ≡ true → is_allowed held begun ≡ true → (is_board board' ≡ true) × (is_allowed held' r.begun ≡ true)
fed_allowed board held begun most part r board' held' f b a =
    (rw f.words (board_still board held begun b a most part), rw (f.buffer, f.result) (held_still board held begun b a most part))

-- ---- EACH CALL IS IN ITS CASE, and in no other

pub feed_in_case : (board held : List ℕ) (begun : Begun) (most : ℕ) (part : List ℕ) (r : AfterFeed) (board' held' : List ℕ) → Feeds board held begun most part r board' held'
    → FeedCase board held begun most part (outcome_of r board' held')
feed_in_case board held begun most part r board' held' f = rw (f.result, f.words, f.buffer) (feed_case board held begun most part)

pub feed_in_one : (board held : List ℕ) (begun : Begun) (most : ℕ) (part : List ℕ) (o o' : Outcome) → FeedCase board held begun most part o → FeedCase board held begun most part o' → o ≡ o'
feed_in_one board held begun most part o o' c d = case_one board held begun most part c ∙ sym (case_one board held begun most part d)

-- ---- A REFUSED CALL LEAVES BOTH AS THEY WERE, and reads nothing

pub feed_refused : (board held : List ℕ) (begun : Begun) (most : ℕ) (part : List ℕ) (r : AfterFeed) (board' held' : List ℕ) → Feeds board held begun most part r board' held'
    → feed_number r.answer ≡ 13 → (board' ≡ board) × (held' ≡ held) × (r.begun ≡ begun) × (r.used ≡ 0)
feed_refused board held begun most part r board' held' f e = rw (f.words, f.buffer, f.result) (fed_back board held begun most part (rw (← f.result) e))

-- ---- A CALL GOES ON: it uses a byte of a part that has one, where a line may be read, and none that it has not

pub feed_goes_on : (board held : List ℕ) (begun : Begun) (most : ℕ) (part : List ℕ) (r : AfterFeed) (board' held' : List ℕ) → Feeds board held begun most part r board' held'
    → is_board board ≡ true → is_allowed held begun ≡ true → 0 < most → 0 < length part → (0 < r.used) × (r.used ≤ length part)
unfolding fed_with
feed_goes_on board held begun most part r board' held' f b a h k = rw (f.result, fed_ready board held begun b a most part) (read_some most part h k, read_le most part)

-- ---- ALL IS READ, where fewer lines end in it than may be

pub reads_all : (most : ℕ) (s : List ℕ) → line_feeds s < most → read_in most s ≡ s
reads_all most s h = read_all most s h
