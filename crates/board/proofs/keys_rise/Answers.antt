-- `keys_rise` meets its contract. Assumes nothing.
use mathlib.Core.Bool.{true}
use mathlib.Core.List.{List}
use Prim.Native.Nat.{ℕ, zero, suc, ◌≤◌, ◌+◌, ◌-◌, ◌*◌}
use mathlib.Core.Path.{◌≡◌, refl, sym, ap, ◌∙◌}
use native.Mathlib.Omega.{arith}
use lib.ListN.{get_or, drop}
use Rattle.board.specs.Rows.{above, rises}
use Rattle.board.specs.Board.{W, read_rows}
use Rattle.board.proofs.Finds.{rise_first, rise_more, rise_not, rise_end}
use Rattle.board.proofs.keys_rise.Goals as goal

pub loop-i-init : goal.loop-i-init
loop-i-init c = λ h. rise_first c.args.board.now c.args.n (omega (arith, h))

pub returns-then-board-i : goal.returns-then-board-i
returns-then-board-i c = let a = c.args in
    let o = c.loop-i in
    sym (o.invariant (omega arith) ∙ rise_not a.board.now a.n o.i (get_or a.board.now (1 + W * (o.i - 1)) 0) (omega arith) c.if-board-i.true)

pub loop-i-preserved : goal.loop-i-preserved
loop-i-preserved c = let a = c.args in
    let o = c.loop-i in
    let e : o.i + 1 - 1 ≡ o.i = omega arith in
    λ h. o.invariant (omega arith) ∙ rise_more a.board.now a.n o.i (get_or a.board.now (1 + W * (o.i - 1)) 0) (omega arith) c.if-board-i.false
    ∙ ap (λ (k : ℕ). above (get_or a.board.now (1 + W * k) 0) (drop (o.i + 1) (read_rows a.n (drop 1 a.board.now)))) (sym e)

-- at the end of the loop: there are no rows, or all of them were seen
all_seen : (l : List ℕ) (n i : ℕ) → 1 ≤ i → n ≤ i → (1 ≤ n → i ≤ n)
    → (i ≤ n → rises (read_rows n (drop 1 l)) ≡ above (get_or l (1 + W * (i - 1)) 0) (drop i (read_rows n (drop 1 l))))
    → true ≡ rises (read_rows n (drop 1 l))
unfolding read_rows rises
all_seen l zero i _ _ _ _ = refl
all_seen l (suc m) i a b h v =
    let k : i ≤ suc m = h (omega arith) in sym (v k ∙ rise_end l (suc m) i (get_or l (1 + W * (i - 1)) 0) (omega arith))

pub returns : goal.returns
returns c =
    let o = c.loop-i in all_seen c.args.board.now c.args.n o.i o.auto.i (omega (arith, c.loop-i-test.false)) o.auto.i-end o.invariant
