-- `printer::print` meets its contract: a text that some allowed board has, and that has room, is written. Assumes nothing.
use Rattle.std.specs.Prelude.{Err, Ok}
use mathlib.Core.Path.{◌≡◌, sym, ap, ◌∙◌}
use mathlib.Core.Bool.{Bool, true, false, not}
use mathlib.Core.List.{List}
use Prim.Native.Nat.{ℕ, ◌+◌, ◌≤◌}
use native.Mathlib.Omega.{arith}
use borrow.Author.Tests.{leb-true}
use lib.Dec.{leb}
use lib.ListN.{length}
use Rattle.text.specs.Text.{spliced, has_room}
use Rattle.text.proofs.Logic.{so, not_so}
use Rattle.board.specs.Board.{is_allowed}
use Rattle.printer.specs.Print.{text_in, print_of, out_after}
use Rattle.printer.specs.Asks.{BoardAsks}
use Rattle.printer.proofs.Cases.{in_print_case, not_allowed, no_room, printed}
use Rattle.printer.proofs.print.Goals as goal
use Rattle.printer.specs.declared.NotPrinted.TheVariants.{NoRoom}

-- n is the size of the text
module _ (l out : List ℕ) (at : ℕ) {n : ℕ} (size : n ≡ length (text_in l)) where
  room_is : leb (at + n) (length out) ≡ has_room (text_in l) out at
  unfolding has_room
  room_is = rw size

  -- what `has_room` answered
  module _ (good : is_allowed l ≡ true) {r : Bool} (told : r ≡ leb (at + n) (length out)) where
    refuses : not r ≡ true → ((Err NoRoom) ≡ print_of l out at) × (out ≡ out_after l out at)
    refuses f = no_room l out at good (sym room_is ∙ not_so told f)

    module _ (f : not r ≡ false) where
      roomy : at + n ≤ length out
      roomy = leb-true (at + n) (length out) (so told f)

      asks : BoardAsks l out at
      asks = record { good = good; room = omega (arith, roomy) }

      puts : {o : List ℕ} → o ≡ spliced out at (text_in l) → (Ok (at + n) ≡ print_of l out at) × (o ≡ out_after l out at)
      puts w =
          let p = printed l out at good (sym room_is ∙ so told f) in
          (ap (λ (i : ℕ). Ok (at + i)) size ∙ p.0, w ∙ p.1)

pub returns-then-not-is_allowed : goal.returns-then-not-is_allowed
returns-then-not-is_allowed c =
    let both = in_print_case _ _ _ (not_allowed _ _ _ (not_so c.is_allowed.ensures c.if-not-is_allowed.true-raw)) in
    record { value = both.0; out_after = both.1.0; print_case = both.1.1 }

pub board_size-n-requires : goal.board_size-n-requires
board_size-n-requires c = so c.is_allowed.ensures c.if-not-is_allowed.false-raw

pub returns-then-not-has_room : goal.returns-then-not-has_room
returns-then-not-has_room c =
    let allowed : is_allowed c.args.board.now ≡ true = so c.is_allowed.ensures c.if-not-is_allowed.false-raw in
    let both = in_print_case _ _ _ (refuses _ _ _ c.board_size-n.ensures allowed c.has_room.ensures c.if-not-has_room.true-raw) in
    record { value = both.0; out_after = both.1.0; print_case = both.1.1 }

pub put_board-requires : goal.put_board-requires
put_board-requires c =
    let allowed : is_allowed c.args.board.now ≡ true = so c.is_allowed.ensures c.if-not-is_allowed.false-raw in
    let a = c.args in
    asks a.board.now a.out.now a.at c.board_size-n.ensures allowed c.has_room.ensures c.if-not-has_room.false-raw

pub overflow_add-result : goal.overflow_add-result
overflow_add-result c =
    let allowed : is_allowed c.args.board.now ≡ true = so c.is_allowed.ensures c.if-not-is_allowed.false-raw in
    let a = c.args in
    omega (arith, roomy a.board.now a.out.now a.at c.board_size-n.ensures allowed c.has_room.ensures c.if-not-has_room.false-raw)

pub returns : goal.returns
returns c =
    let allowed : is_allowed c.args.board.now ≡ true = so c.is_allowed.ensures c.if-not-is_allowed.false-raw in
    let both = in_print_case _ _ _ (puts _ _ _ c.board_size-n.ensures allowed c.has_room.ensures c.if-not-has_room.false-raw c.put_board.ensures) in
    record { value = both.0; out_after = both.1.0; print_case = both.1.1 }
