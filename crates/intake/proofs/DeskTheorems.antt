-- THE THEOREMS OF A CHECKED FEED, about the promises as they stand in the source: `Pre` is what `output::hand_over` asks for, `Post` what
-- `checking::check_feed` promises. Assumes nothing.
use mathlib.Core.Path.{◌≡◌, refl, sym, ap, ◌∙◌}
use mathlib.Core.Bool.{true, false}
use mathlib.Core.List.{List, [], ◌++◌, append-nil, append_assoc}
use Prim.Native.Nat.{ℕ, suc}
use lib.ListN.{length, take, drop}
use lib.Seq.{take-append_seam, drop_at}
use Rattle.shapes.specs.Many.{how_many}
use Rattle.rules.specs.Frame.{line_feed}
use Rattle.cutter.specs.Feed.{lines_of, rest_of}
use Rattle.cutter.specs.State.{Bytes}
use Rattle.cutter.proofs.Feeds.{start_lines}
use Rattle.checks.specs.Check.{torn_of}
use Rattle.checks.specs.Feed.{checks_of, checked_of, reads_in}
use Rattle.checks.specs.declared.Asked.{Asked}
use Rattle.checks.proofs.Joins.{feeds_told}
use Rattle.intake.specs.Desk.{Next, More, Last}
use Rattle.intake.specs.declared.checking.Work.{Work}
use Rattle.intake.proofs.output.Output.hand_over.Reads as hand-over
use Rattle.intake.proofs.checking.check_feed.Reads as check-feed

-- ---- EACH PIECE STANDS IN ITS PLACE: after so many bytes, the text is what stands there in what is said of a feed of as many bytes as came

pub record Piece (asked : Asked) (came handed : ℕ) (text : List ℕ) : Type 0 where
  pub feed : List ℕ
  pub came_all : length feed ≡ came
  pub there : take (length text) (drop handed (checked_of asked feed)) ≡ text

at_place : (asked : Asked) (feed a text rest : List ℕ) (n : ℕ) → checked_of asked feed ≡ a ++ (text ++ rest) → n ≡ length a → take (length text) (drop n (checked_of asked feed)) ≡ text
at_place asked feed a text rest n e f = rw (e, drop_at a (text ++ rest) n (sym f)) (take-append_seam text rest)

said_then : (asked : Asked) (feed : List ℕ) → checked_of asked feed ≡ checks_of asked feed ++ torn_of (suc (length (lines_of feed))) (rest_of feed)
unfolding checked_of
said_then asked feed = refl

piece : (asked : Asked) (came handed : ℕ) (text : List ℕ) → Next asked came handed text → Piece asked came handed text
piece asked came handed text (More feed part l h e) =
    let all = feed ++ part in
    let torn = torn_of (suc (length (lines_of all))) (rest_of all) in
    let z : checked_of asked all ≡ checks_of asked feed ++ (text ++ torn) = said_then asked all ∙ ap (λ (x : List ℕ). x ++ torn) e ∙ append_assoc (checks_of asked feed) text torn in
    record { feed = all; came_all = l; there = at_place asked all (checks_of asked feed) text torn handed z h }
piece asked came handed text (Last feed l h e) =
    record { feed = feed; came_all = l; there = at_place asked feed (checks_of asked feed) text [] handed (e ∙ ap (λ (x : List ℕ). checks_of asked feed ++ x) (sym (append-nil text))) h }

pub handed_piece : (κs : _) (a : _) → hand-over.Pre κs a → Piece a.1.1.0 a.1.0.total a.0.total a.1.1.1.0.now
handed_piece κs a p = piece _ _ _ _ p

-- ---- AND THE WHOLE: as many bytes came as the feed has, LINES is its line feeds and READ its lines that read; and if each write was taken, no more comes, and as many
-- bytes went out as are said of the feed with its unended rest

pub record CheckedFeed (asked : Asked) (w : Work) : Type 0 where
  pub feed : List ℕ
  pub came : length feed ≡ w.input.total
  pub lines : w.sums.lines ≡ how_many line_feed feed
  pub read : w.sums.read ≡ reads_in asked.rule (lines_of feed)
  pub out : w.output.live ≡ true → (w.input.live ≡ false) × (w.output.total ≡ length (checked_of asked feed))

pub checked_feed : (κs : _) (a : _) (r : _) (s : _) → check-feed.Post κs a r s → CheckedFeed a.1.1.0 r
checked_feed κs a r s p =
    record {
      feed = p.feed;
      came = p.came;
      lines = p.lines ∙ sym (ap length (start_lines p.feed)) ∙ feeds_told (Bytes []) p.feed;
      read = p.read;
      out = p.handed;
    }
