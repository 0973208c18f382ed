-- `feed_allowed` meets its contract: what was read, and what is read of what is left from the board and the state as they are now, make
-- what is read of the whole. Assumes nothing.
use Rattle.std.specs.Prelude.{Ok}
use mathlib.Core.Path.{◌≡◌}
use mathlib.Core.Bool.{true}
use mathlib.Core.List.{List}
use Prim.Native.Nat.{ℕ, ◌-◌, ◌≤◌}
use lib.ListN.{length, drop}
use Rattle.board.specs.Board.{is_allowed as is_board}
use Rattle.cutter.specs.State.{is_allowed}
use Rattle.cutter.specs.declared.Begun.{Begun}
use Rattle.feeding.specs.Fed.{fed_of, board_fed, held_after}
use Rattle.feeding.specs.declared.AfterFeed.{AfterFeed}
use Rattle.feeding.proofs.Turns.{summed}
use Rattle.feeding.proofs.feed_allowed.Given as goal

pub record Inv (board₀ held₀ : List ℕ) (begun₀ : Begun) (most : ℕ) (part board held : List ℕ) (fed : AfterFeed) : Type 0 where
  pub answered : fed.answer ≡ Ok tt
  pub good : is_board board ≡ true
  pub begins : is_allowed held fed.begun ≡ true
  pub board_size : length board ≡ length board₀
  pub held_size : length held ≡ length held₀
  pub at : fed.used ≤ length part
  pub few : fed.lines ≤ most
  pub counted : fed.lines ≤ fed.used
  pub less : fed.taken ≤ fed.lines
  pub result : summed fed (fed_of board held fed.begun (most - fed.lines) (drop fed.used part)) ≡ fed_of board₀ held₀ begun₀ most part
  pub words : board_fed board held fed.begun (most - fed.lines) (drop fed.used part) ≡ board_fed board₀ held₀ begun₀ most part
  pub buffer : held_after board held fed.begun (most - fed.lines) (drop fed.used part) ≡ held_after board₀ held₀ begun₀ most part

abbrev pub invariant-loop-fed : goal.invariant-loop-fed
invariant-loop-fed l = Inv l.initial.board l.initial.held l.initial.fed.begun l.most l.part l.board l.held l.fed

abbrev pub decreases-loop-fed : goal.decreases-loop-fed
decreases-loop-fed l = length l.part - l.fed.used
