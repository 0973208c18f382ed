-- `table::spacing::count` meets its contract: what the spaces of the body tell. Assumes nothing.
use Rattle.std.specs.Prelude.{None, Some}
use mathlib.Core.Path.{◌≡◌, refl, sym, ◌∙◌}
use mathlib.Core.Bool.{true, false}
use mathlib.Core.List.{List, [], ◌∷◌}
use Prim.Native.Nat.{ℕ, ◌-◌, ◌<◌}
use native.Mathlib.Omega.{arith}
use lib.Dec.{eqb}
use lib.ListN.{length, take, get_or}
use lib.Seq.{length-take-le}
use borrow.Author.Rules.{rules}
use borrow.Author.Tests.{ne_eqb}
use Rattle.shapes.specs.Many.{how_many, twice}
use Rattle.table.specs.Spacing.{space, fields_of, counts, count_of}
use Rattle.table.proofs.Spaces.{told, spaces_told}
use Rattle.table.proofs.spacing.count.Goals as goal

none : (s : List ℕ) → length s ≡ 0 → Some (0, false) ≡ count_of s
unfolding count_of fields_of counts
none [] h = refl
none (x ∷ s) h = absurd (omega arith)

bad : (s : List ℕ) → (get_or s 0 0 ≡ space → ⊥) → 0 < length s → None ≡ count_of s
unfolding count_of fields_of counts
bad [] e h = absurd (omega arith)
bad (x ∷ s) e h = rw (ne_eqb x space e)

module _ (s : List ℕ) (h : 0 < length s) (e : get_or s 0 0 ≡ space) where
  wrong : twice space s ≡ true → None ≡ count_of s
  unfolding told
  wrong t = rw (spaces_told s h e, t)

  right : twice space s ≡ false → {n : ℕ} → n ≡ how_many space (take (length s - 1) s) → Some (n, eqb (get_or s (length s - 1) 0) space) ≡ count_of s
  unfolding told
  right t k = rw (spaces_told s h e, t, k)

pub returns-then-body-eq0 : goal.returns-then-body-eq0
returns-then-body-eq0 c = none _ c.if-body-eq0.true

pub returns-then-body-ne32 : goal.returns-then-body-ne32
returns-then-body-ne32 c = bad _ c.if-body-ne32.true (search rules)

pub returns-then-has_twice : goal.returns-then-has_twice
returns-then-has_twice c = wrong _ (search rules) c.if-body-ne32.false (sym c.has_twice.ensures ∙ c.if-has_twice.true)

pub slice_bounds-how_many-end : goal.slice_bounds-how_many-end
slice_bounds-how_many-end c = sym (length-take-le _ _ (omega arith))

pub returns : goal.returns
returns c =
    right _ (search rules) c.if-body-ne32.false (sym c.has_twice.ensures ∙ c.if-has_twice.false) c.how_many.ensures
