-- `all_zero` meets its contract. Assumes nothing.
use mathlib.Core.Path.{◌≡◌, refl, ap, ◌∙◌}
use mathlib.Core.Bool.{true}
use mathlib.Core.List.{List, [], ◌∷◌}
use Prim.Native.Nat.{ℕ, zero, suc, ◌-◌}
use native.Mathlib.Omega.{arith}
use borrow.Author.Rules.{rules}
use borrow.Author.Tests.{eqb-true, eq-eqb}
use lib.Dec.{eqb}
use lib.ListN.{length, get_or, take, drop}
use Rattle.std.proofs.iter.runs.Made.{chains}
use Rattle.std.specs.Prelude.{IsTrue, ◌↔◌, EachIndex}
use Rattle.text.proofs.Logic.{and_left, and_right, same_test}
use Rattle.shapes.proofs.Laws.{rest_all}
use Rattle.board.specs.Board.{all_zero}
use Rattle.board.proofs.all_zero.Goals as goal

each_zero : (ws : List ℕ) → EachIndex ws (λ k. get_or ws k 0 ≡ 0) → all_zero ws ≡ true
unfolding all_zero
each_zero [] h = refl
each_zero (w ∷ ws) h = rw (eq-eqb w 0 (h 0 (omega arith))) (each_zero ws (λ k q. h (suc k) (omega arith)))

zero_each : (ws : List ℕ) → all_zero ws ≡ true → EachIndex ws (λ k. get_or ws k 0 ≡ 0)
unfolding all_zero
zero_each [] e k q = absurd (omega arith)
zero_each (w ∷ ws) e zero q = eqb-true w 0 (and_left (eqb w 0) (all_zero ws) e)
zero_each (w ∷ ws) e (suc k) q = zero_each ws (and_right (eqb w 0) (all_zero ws) e) k (omega arith)

pub returns : goal.returns
returns c =
    let l = c.args.board.now in
    let ws = take (length l - c.args.p) (drop c.args.p l) in
    let h : IsTrue c.all.result ↔ EachIndex ws (λ k. get_or ws k 0 ≡ 0) = search (rules, chains) in
    same_test c.all.result (all_zero ws) (λ e. each_zero ws (h.0 e)) (λ e. h.1 (zero_each ws e)) ∙ ap all_zero (rest_all l c.args.p)
