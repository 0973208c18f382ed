-- `is_allowed` meets its contract. Assumes nothing.
use Prim.Native.Nat.{ℕ}
use mathlib.Core.Path.{◌≡◌, sym, ◌∙◌}
use mathlib.Core.List.{List}
use native.Mathlib.Omega.{arith}
use lib.ListN.{length}
use Rattle.text.proofs.Logic.{so, not_so}
use Rattle.board.proofs.Allowed.{cap_is, not_allowed, not_held, not_risen, by_rest}
use Rattle.board.proofs.is_allowed.Goals as goal

pub returns-then-board-ne-WORDS_OF_A_BOARD : goal.returns-then-board-ne-WORDS_OF_A_BOARD
returns-then-board-ne-WORDS_OF_A_BOARD c = let l : List ℕ = c.args.board.now in
    sym (not_allowed l (λ p. let q : length l ≡ 2817 = omega (arith, p.size, cap_is) in c.if-board-ne-WORDS_OF_A_BOARD.true q))

pub returns-then-board : goal.returns-then-board
returns-then-board c = let l : List ℕ = c.args.board.now in
    sym (not_allowed l (λ p. omega (arith, p.count, cap_is, c.if-board.true)))

pub returns-then-not-rows_hold : goal.returns-then-not-rows_hold
returns-then-not-rows_hold c = let l : List ℕ = c.args.board.now in
    sym (not_held l (not_so c.rows_hold.ensures c.if-not-rows_hold.true-raw))

pub returns-then-not-keys_rise : goal.returns-then-not-keys_rise
returns-then-not-keys_rise c = let l : List ℕ = c.args.board.now in
    sym (not_risen l (not_so c.keys_rise.ensures c.if-not-keys_rise.true-raw))

pub returns : goal.returns
returns c = let l : List ℕ = c.args.board.now in
    let size = c.if-board-ne-WORDS_OF_A_BOARD.false in
    let count = c.if-board.false in
    c.all_zero.ensures
    ∙ by_rest l (omega (arith, size, cap_is)) (omega (arith, count, cap_is))
    (so c.rows_hold.ensures c.if-not-rows_hold.false-raw) (so c.keys_rise.ensures c.if-not-keys_rise.false-raw)
