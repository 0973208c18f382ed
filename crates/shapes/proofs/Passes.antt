-- The laws of counting a byte. Assumes nothing.
use mathlib.Core.Path.{◌≡◌, refl}
use mathlib.Core.Bool.{Bool, true, false, cond}
use mathlib.Core.List.{List, [], ◌∷◌, ◌++◌}
use Prim.Native.Nat.{ℕ, suc, ◌+◌, ◌≤◌}
use native.Mathlib.Omega.{arith}
use mir.Val.{bool_byte}
use lib.Dec.{eqb}
use lib.ListN.{length, drop}
use Rattle.shapes.specs.Many.{how_many}

module _ (b : ℕ) where
  -- a test that is cast to a number
  pub many_more : (x : ℕ) (s : List ℕ) → how_many b (x ∷ s) ≡ bool_byte (eqb x b) + how_many b s
  unfolding how_many
  many_more x s = go (eqb x b)
    where
      go : (t : Bool) → cond t (suc (how_many b s)) (how_many b s) ≡ bool_byte t + how_many b s
      go true = omega arith
      go false = omega arith

  pub many_le : (s : List ℕ) → how_many b s ≤ length s
  unfolding how_many
  many_le [] = omega arith
  many_le (x ∷ s) = go (eqb x b) refl (many_le s)
    where
      go : (t : Bool) → eqb x b ≡ t → how_many b s ≤ length s → how_many b (x ∷ s) ≤ suc (length s)
      go true q r = rw q (omega arith)
      go false q r = rw q (omega arith)

  pub many_append : (s t : List ℕ) → how_many b (s ++ t) ≡ how_many b s + how_many b t
  unfolding how_many
  many_append [] t = omega arith
  many_append (x ∷ s) t = omega (arith, many_append s t, many_more x s, many_more x (s ++ t))

-- a count: n of the bytes before i are b
pub record Counting (b : ℕ) (s : List ℕ) (n i : ℕ) : Type 0 where
  pub at : i ≤ length s
  pub rest : n + how_many b (drop i s) ≡ how_many b s
