-- THE THEOREMS OF A KEPT FEED, about the promises as they stand in the source: `Pre` is what `shelf::put_day` asks for, `Post` what `work::keep_feed` promises. The
-- numbers in the statements are document 02's. Assumes nothing.
use Rattle.std.specs.Prelude.{Ok}
use mathlib.Core.Path.{◌≡◌, refl, sym, ap, ◌∙◌}
use mathlib.Core.Bool.{Bool, true, false}
use mathlib.Core.List.{List, [], ◌∷◌, ◌++◌, append-nil, append_assoc}
use mathlib.Core.Logic.{◌⊎◌, inl, inr}
use Prim.Native.Nat.{ℕ, ◌+◌, ◌≤◌, ◌<◌}
use native.Mathlib.Omega.{arith}
use lib.Dec.{eqb}
use lib.ListN.{length, take, drop, get_or, length-append}
use lib.Seq.{take-append_seam, drop_at}
use Rattle.shapes.specs.Pieces.{pieces}
use Rattle.rules.specs.Frame.{line_feed}
use Rattle.cutter.specs.Feed.{feed_of, texts_of, rest_of, lines_of}
use Rattle.cutter.specs.State.{Bytes}
use Rattle.cutter.specs.Run.{at_end}
use Rattle.cutter.specs.Told.{told, state_after}
use Rattle.cutter.proofs.Feeds.{feed_text}
use Rattle.dayfile.specs.DayFile.{version1, trailer_of, lines_text, starts_from, index_of, file_of, is_run}
use Rattle.dayfile.specs.Opening.{open_of, lines_in}
use Rattle.dayfile.proofs.Files.{lines_append, sound_1}
use Rattle.dayfile.proofs.Opens.{opens_file, lines_file}
use Rattle.keeper.specs.Keep.{is_past, looked_at, kept_in, day_file_of}
use Rattle.keeper.specs.Work.{Piece, Lines, Closing}
use Rattle.keeper.specs.declared.work.Outcome.{Outcome}
use Rattle.keeper.proofs.Kept.{goes_on, stops, grows, kept_run}
use Rattle.keeper.proofs.Parts.{more_lines}
use Rattle.keeper.proofs.Wholes.{wholes, the_first, keeps_all, texts_run}
use Rattle.keeper.proofs.shelf.Shelf.put_day.Reads as put-day
use Rattle.keeper.proofs.work.keep_feed.Reads as keep-feed

-- ---- what comes later changes nothing of what is kept already

pub kept_stays : (feed more : List ℕ) → (ms : List (List ℕ)) × (kept_in (feed ++ more) ≡ kept_in feed ++ ms)
kept_stays feed more = go (is_past [] (lines_of feed)) refl
  where
    go : (b : Bool) → is_past [] (lines_of feed) ≡ b → (ms : List (List ℕ)) × (kept_in (feed ++ more) ≡ kept_in feed ++ ms)
    go true q =
        let ls = told (state_after (Bytes []) (pieces line_feed feed)) (pieces line_feed more) in
        ([], rw (more_lines feed more) ((stops [] (lines_of feed) ls q).kept_same ∙ sym (append-nil (kept_in feed))))
    go false q =
        let ls = told (state_after (Bytes []) (pieces line_feed feed)) (pieces line_feed more) in
        let g = grows (kept_in feed) ls in
        (g.more, rw (more_lines feed more) ((goes_on [] (lines_of feed) ls q).kept_then ∙ g.begins))

-- ---- EACH PIECE STANDS IN ITS PLACE: after so many bytes, the text is what stands there in the day file of a feed of as many bytes as came; and in that of every
-- longer feed too, but for the last piece, which ends the file

abbrev pub StandsIn : List ℕ → ℕ → List ℕ → Type 0
StandsIn file place text = take (length text) (drop place file) ≡ text

pub record InPlace (came put : ℕ) (text : List ℕ) : Type 0 where
  pub feed : List ℕ
  pub came_all : length feed ≡ came
  pub there : StandsIn (day_file_of feed) put text
  pub stays : ((more : List ℕ) → StandsIn (day_file_of (feed ++ more)) put text) ⊎ (put + length text ≡ length (day_file_of feed))

stands : (file a text rest : List ℕ) (n : ℕ) → file ≡ a ++ (text ++ rest) → n ≡ length a → StandsIn file n text
stands file a text rest n e f = rw (e, drop_at a (text ++ rest) n (sym f)) (take-append_seam text rest)

-- the lines that were kept first stand at the start of the file, whatever comes
file_lines : (feed more : List ℕ) → (rest : List ℕ) × (day_file_of (feed ++ more) ≡ lines_text (kept_in feed) ++ rest)
unfolding day_file_of file_of
file_lines feed more =
    let k = kept_stays feed more in
    let ls = kept_in (feed ++ more) in
    let closing = index_of (starts_from 0 ls) ++ trailer_of version1 (length (lines_text ls)) (length ls) in
    let e : lines_text ls ≡ lines_text (kept_in feed) ++ lines_text k.0 = ap (λ (ms : List (List ℕ)). lines_text ms) k.1 ∙ lines_append (kept_in feed) k.0 in
    (lines_text k.0 ++ closing, ap (λ (s : List ℕ). s ++ closing) e ∙ append_assoc (lines_text (kept_in feed)) (lines_text k.0) closing)

in_place : (came put : ℕ) (text : List ℕ) → Piece came put text → InPlace came put text
in_place came put text (Lines feed a l h e) =
    let s : (more : List ℕ) → StandsIn (day_file_of (feed ++ more)) put text =
    λ more.
    let f = file_lines feed more in
    stands (day_file_of (feed ++ more)) a text f.0 put (f.1 ∙ ap (λ (t : List ℕ). t ++ f.0) e ∙ append_assoc a text f.0) h
    in
    record { feed = feed; came_all = l; there = rw append-nil at (s []); stays = inl s }
in_place came put text (Closing feed a l h e) =
    record {
      feed = feed;
      came_all = l;
      there = stands (day_file_of feed) a text [] put (e ∙ ap (λ (x : List ℕ). a ++ x) (sym (append-nil text))) h;
      stays = inr (omega (arith, h, ap length e, length-append a text));
    }

pub put_in_place : (κs : _) (a : _) → put-day.Pre κs a → InPlace a.1.1.0.total a.0.total a.1.1.1.0.now
put_in_place κs a p = in_place _ _ _ p

-- ---- THE DAY FILE OF ANY FEED OPENS, and gives back exactly the lines that were kept

pub day_opens : (feed : List ℕ) → (open_of version1 (day_file_of feed) ≡ Ok (record { lines = length (kept_in feed); start = length (lines_text (kept_in feed)) }))
    × (lines_in version1 (day_file_of feed) ≡ kept_in feed)
unfolding day_file_of
day_opens feed = (opens_file version1 sound_1 (kept_in feed) (kept_run feed), lines_file version1 sound_1 (kept_in feed) (kept_run feed))

-- ---- AND THE WHOLE: as many bytes came as the feed has; and if each write was taken, no more comes or a line did not fit, and as many bytes were put away as the day
-- file of the feed has, which opens with the count that is told

pub record KeptFeed (r : Outcome) : Type 0 where
  pub feed : List ℕ
  pub came : length feed ≡ r.work.input.total
  pub looked : r.work.keep.lines ≡ looked_at [] (lines_of feed)
  pub full : r.work.keep.full ≡ is_past [] (lines_of feed)
  pub torn : r.work.keep.full ≡ false → r.torn ≡ eqb (at_end (rest_of feed)) 17
  pub put : r.work.shelf.live ≡ true → ((r.work.input.live ≡ false) ⊎ (r.work.keep.full ≡ true)) × (r.work.shelf.total ≡ length (day_file_of feed))
  pub opens : open_of version1 (day_file_of feed) ≡ Ok (record { lines = r.work.keep.place.count; start = length (lines_text (kept_in feed)) })
  pub gives : lines_in version1 (day_file_of feed) ≡ kept_in feed

pub kept_feed : (κs : _) (a : _) (r : _) (s : _) → keep-feed.Post κs a r s → KeptFeed r
kept_feed κs a r s p =
    let o = day_opens p.feed in
    record { feed = p.feed; came = p.came; looked = p.lines; full = p.full; torn = p.torn; put = p.put; opens = rw p.kept o.0; gives = o.1 }

-- ---- WHICH LINES ARE KEPT: the first whole lines of the feed, in order; all of them, or as many as may be kept together, and with the next they are too many

pub record KeptLines (feed : List ℕ) : Type 0 where
  pub rest : List (List ℕ)
  pub first : wholes (lines_of feed) ≡ kept_in feed ++ rest
  pub all : is_past [] (lines_of feed) ≡ false → kept_in feed ≡ wholes (lines_of feed)
  pub next : is_past [] (lines_of feed) ≡ true → (l : List ℕ) × ((ms : List (List ℕ)) × ((rest ≡ l ∷ ms) × (is_run version1 (kept_in feed ++ l ∷ []) ≡ false)))

pub which_lines : (feed : List ℕ) → KeptLines feed
which_lines feed =
    let f = the_first [] (lines_of feed) in
    record { rest = f.rest; first = f.first; all = λ e. sym (f.first ∙ ap (λ (ls : List (List ℕ)). kept_in feed ++ ls) (f.all e) ∙ append-nil (kept_in feed)); next = f.next }

-- ---- A FEED WITHIN THE LIMITS IS KEPT WHOLE: no line is over 2,048 bytes, there are at most 65,535, and fewer than 4,294,967,296 bytes; then all its lines are kept, and
-- if it does not end inside a line, the bytes before the index are the feed

pub keeps_whole : (feed : List ℕ) → ((k : ℕ) → k < length (texts_of feed) → length (get_or (texts_of feed) k []) ≤ 2048) → length (texts_of feed) ≤ 65535 → length feed < 4294967296
    → (kept_in feed ≡ texts_of feed) × (is_past [] (lines_of feed) ≡ false) × (looked_at [] (lines_of feed) ≡ length (texts_of feed)) × (rest_of feed ≡ [] → lines_text (kept_in feed) ≡ feed)
unfolding lines_of
keeps_whole feed short few near =
    let k = keeps_all [] (texts_of feed) (texts_run feed short few near) in
    (k.kept_all, k.past_none, k.looked_all, λ e. ap (λ (ls : List (List ℕ)). lines_text ls) k.kept_all ∙ sym (ap (feed_of (texts_of feed)) e) ∙ feed_text feed)
