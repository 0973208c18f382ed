-- `shapes::sweeps::find_far` meets its contract: the sixteens that are passed and the place in what is left make the place in the whole. Assumes nothing.
use Rattle.std.proofs.Common.{◌≡◌, ◌∙◌, ap, not, length, List, ℕ, ◌+◌, ◌-◌, ◌*◌, ◌/◌, rules, arith, take, drop}
use borrow.Author.Tests.{tests}
use Rattle.std.proofs.lemmas.Iterator.Search.{YieldsList-from_take_while}
use Rattle.std.proofs.lemmas.List.Folds.{length-prefix_len}
use Rattle.std.proofs.lemmas.Iterator.Consumers.{count_from_yields_List}
use Rattle.std.specs.Simd.{first_chunks}
use Rattle.shapes.specs.Cut.{up_to, has}
use Rattle.shapes.proofs.Chains.{whole_sixteens, passed, sixteens}
use Rattle.shapes.proofs.Laws.{rest_all, up_to_le}
use Rattle.shapes.proofs.sweeps.find_far.Goals as goal

-- n sixteens are passed, and r is the place in what is left
found : (b : ℕ) (s : List ℕ) (n r : ℕ) → n ≡ length (take (passed b (length s / 16) s) (first_chunks 16 (length s / 16) s)) → r ≡ up_to b (take (length s - n * 16) (drop (n * 16) s)) → n * 16 + r ≡ up_to b s
found b s n r e f =
    let k : n ≡ passed b (length s / 16) s = e ∙ length-prefix_len (λ p. not (has b p)) (first_chunks 16 (length s / 16) s) in
    omega (arith, f, ap (up_to b) (rest_all s (n * 16)), rw (← k) at (sixteens b (length s / 16) s (omega arith)))

module _ (c : goal.After-find) where
  place : c.count-passed.result * 16 + c.find.result ≡ up_to c.args.b c.args.s.now
  place =
      let a = c.args in
      found a.b a.s.now c.count-passed.result c.find.result (count_from_yields_List _ _ c.count-passed.ensures.ran (YieldsList-from_take_while _ (λ p. not (has a.b p)) (whole_sixteens a.s.now (search rules) (search rules)) c.take_while.ensures.closure c.take_while.ensures.done (λ x b q k. search (rules, tests)))) c.find.ensures

pub returns : goal.returns
returns c = place c

pub overflow_add-result : goal.overflow_add-result
overflow_add-result c = omega (arith, place c, up_to_le c.args.b c.args.s.now)
