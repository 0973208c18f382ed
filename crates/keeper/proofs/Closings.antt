-- Index and trailer, put after the lines: the day file of the feed. Assumes nothing.
use mathlib.Core.Path.{◌≡◌, refl, sym, ap, ◌∙◌}
use mathlib.Core.Bool.{Bool, true, false}
use mathlib.Core.List.{List, [], ◌∷◌, ◌++◌}
use Prim.Native.Nat.{ℕ, ◌+◌, ◌*◌, ◌≤◌, ◌<◌}
use native.Mathlib.Omega.{arith}
use lib.Dec.{eqb}
use lib.ListN.{length, take, length-append}
use lib.Seq.{length-take-le}
use borrow.Author.Tests.{le-ltb, lt-leb}
use Rattle.text.specs.Text.{spliced}
use Rattle.text.proofs.Logic.{true_false}
use Rattle.text.proofs.Splice.{take-spliced}
use Rattle.cutter.specs.Feed.{rest_of, lines_of}
use Rattle.cutter.specs.Run.{at_end}
use Rattle.cutter.proofs.Cases.{end_case}
use Rattle.cutter.proofs.Feeds.{start_rest}
use Rattle.cutter.proofs.Runs.{at_end_lem}
use Rattle.dayfile.specs.DayFile.{version1, Sound, trailer_size, trailer_of, lines_text, index_of, file_of, too_far}
use Rattle.dayfile.specs.Keeping.{is_over, closing}
use Rattle.dayfile.specs.declared.Trailer.{Trailer}
use Rattle.dayfile.proofs.Bytes.{length_index}
use Rattle.dayfile.proofs.Files.{run_parts, length_trailer, sound_1}
use Rattle.dayfile.proofs.Puts.{then_put}
use Rattle.intake.specs.Day.{is_torn}
use Rattle.keeper.specs.Keep.{kept_in, day_file_of, Keeping}
use Rattle.keeper.specs.Work.{Piece, Closing, PutAway, Stored, Whole, Led, Closes, Done}
use Rattle.keeper.specs.declared.keep.Keep.{Keep}
use Rattle.keeper.specs.declared.work.Work.{Work}
use Rattle.keeper.specs.declared.shelf.Shelf.{Shelf}
use Rattle.keeper.proofs.Kept.{kept_run, kept_few}
use Rattle.keeper.proofs.Blocks.{off_is, lines_inside}

-- where nothing more is taken
pub closes_shut : (offsets : List ℕ) (w : Work) → w.shelf.live ≡ false → Closes offsets w w.shelf
closes_shut offsets w e q = true_false q e

-- the lines and then index and trailer are the file
file_closing : (feed held offsets : List ℕ) (w : Work) → Stored feed held offsets w → day_file_of feed ≡ lines_text (kept_in feed) ++ closing version1 offsets w.keep.place
unfolding day_file_of file_of closing
file_closing feed held offsets w s = let k = s.keeping in rw (k.starts, k.at, k.count)

module _ (offsets : List ℕ) (w : Work) (l : Led offsets w) where
  abbrev feed : List ℕ
  feed = l.1.0

  abbrev stored : Stored feed l.0 offsets w
  stored = l.1.1

  abbrev count : ℕ
  count = w.keep.place.count

  pub few : count ≤ 65535
  few = omega (arith, stored.keeping.count, (run_parts version1 (kept_in feed) (kept_run feed)).1)

  near : w.keep.place.at < too_far
  near = omega (arith, stored.keeping.at, (run_parts version1 (kept_in feed) (kept_run feed)).2)

  pub index_size : length (take count offsets) ≡ count
  index_size = length-take-le count offsets (omega (arith, few, l.2))

  pub index_room : (n : ℕ) → n ≡ 262148 → 0 + 4 * length (take count offsets) ≤ n
  index_room n e = omega (arith, few, index_size, e)

  pub trailer_ready : (t : Trailer) → t ≡ version1 → (n : ℕ) → n ≡ 262148 → Sound t × ((is_over t w.keep.place ≡ false) × (4 * count + trailer_size t ≤ n))
  unfolding is_over trailer_size
  trailer_ready t e n h = rw e (sound_1, (rw (le-ltb 65535 count few, lt-leb too_far w.keep.place.at near), omega (arith, few, h)))

  -- what is written, and what it is of the file
  module _ (out a b : List ℕ) (t : Trailer) (v : t ≡ version1) (room : length out ≡ 262148) (e : a ≡ spliced out 0 (index_of (take count offsets)))
      (f : b ≡ spliced a (4 * count) (trailer_of t w.keep.place.at count)) where
    abbrev size : ℕ
    size = 4 * count + 8

    abbrev index : List ℕ
    index = index_of (take count offsets)

    abbrev trailer : List ℕ
    trailer = trailer_of version1 w.keep.place.at count

    closing_size : length (closing version1 offsets w.keep.place) ≡ size
    unfolding closing trailer_size
    closing_size = omega (arith, length-append index trailer, length_index (take count offsets), index_size, length_trailer version1 w.keep.place.at count)

    written : take size b ≡ closing version1 offsets w.keep.place
    unfolding closing
    written =
        let g : b ≡ spliced a (4 * count) trailer = rw v at f in
        let s = then_put out index trailer 0 (4 * count) (omega (arith, length_index (take count offsets), index_size)) (omega (arith, few, room)) e g in
        rw s (take-spliced out (index ++ trailer) size (sym closing_size))

    pub closing_piece : w.shelf.live ≡ true → Piece w.input.total w.shelf.total (take size b)
    closing_piece q =
        Closing feed (lines_text (kept_in feed)) stored.came (stored.put q ∙ stored.keeping.at)
        (file_closing feed l.0 offsets w stored ∙ ap (λ (s : List ℕ). lines_text (kept_in feed) ++ s) (sym written))

    pub closes : w.shelf.live ≡ true → (s : Shelf) → PutAway w.shelf (length (take size b)) s → Closes offsets w s
    closes q s p x = (
      q,
      λ feed held y.
          let c = closing version1 offsets w.keep.place in
          omega (arith, p x, ap length written, y.put q, y.keeping.at, ap length (file_closing feed held offsets w y), length-append (lines_text (kept_in feed)) c),
    )

-- ---- the end

-- 17 exactly if the feed has a rest that no line feed ended
torn_rest : {base : ℕ} {feed held out offsets : List ℕ} {k : Keep} → Keeping base feed held out offsets k → k.full ≡ false → is_torn held k.begun ≡ eqb (at_end (rest_of feed)) 17
unfolding is_torn
torn_rest {feed = feed} {held = held} {k = k} c f =
    let s = c.cutter f in
    ap (λ (n : ℕ). eqb n 17) (at_end_lem (rest_of feed) (end_case held k.begun) s.0 (s.1 ∙ start_rest feed))

some_rest : (s : List ℕ) → eqb (at_end s) 17 ≡ true → 0 < length s
some_rest [] q = true_false q refl
some_rest (x ∷ s) q = omega arith

pub done : (held offsets : List ℕ) (w : Work) → Whole held offsets w → (s : Shelf) → Closes offsets w s → (torn : Bool) → torn ≡ is_torn held w.keep.begun
    → Done (record { work = record { input = w.input; keep = w.keep; shelf = s }; torn = torn })
done held offsets w h s x torn e =
    let feed = h.0.0 in
    let y = h.0.1 in
    record {
      feed = feed;
      came = y.came;
      lines = y.keeping.lines;
      full = y.keeping.full;
      kept = y.keeping.count;
      fewer = omega (arith, y.keeping.count, y.keeping.lines, kept_few [] (lines_of feed));
      torn = λ f. e ∙ torn_rest y.keeping f;
      after = λ f q. omega (arith, y.came, lines_inside y.keeping, some_rest (rest_of feed) (sym (torn_rest y.keeping f) ∙ sym e ∙ q));
      put = λ q. (off_is w h.1 (x q).0, (x q).1 feed held y);
    }
