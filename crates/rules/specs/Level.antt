-- A LEVEL BY ITS NUMBERS (document 01, "level"; document 02, d), for what is told of blocks: `proofs/Levels` shows that a text has the form of a
-- level exactly if it is one of these. Assumes nothing.
use Prim.Native.Char.{code}
use Rattle.std.specs.Prelude.{ℕ, ◌^◌, ◌≤◌, ◌<◌, ◌≡◌, List, ◌∷◌, ◌++◌, length}
use Rattle.text.specs.Number.{padded}

-- "2 or 3 digits": s is the number n, with zeros in front where it has fewer
pub record Digits (n : ℕ) (s : List ℕ) : Type 0 where
  pub least : 2 ≤ length s
  pub most : length s ≤ 3
  pub small : n < 10 ^ length s
  pub text : s ≡ padded 10 (length s) n

-- "two such with B between": the numbers n and m
pub record Block (n m : ℕ) (s : List ℕ) : Type 0 where
  pub first : List ℕ
  pub second : List ℕ
  pub first_is : Digits n first
  pub second_is : Digits m second
  pub text : s ≡ first ++ code "B" ∷ second

pub data Level (s : List ℕ) : Type 0 where
  One : (n : ℕ) → Digits n s → Level s
  -- "the second number must be no smaller than the first as a number; equal is allowed"
  Two : (n m : ℕ) → Block n m s → n ≤ m → Level s

-- a block that falls: its second number is smaller than its first
pub data Falls (s : List ℕ) : Type 0 where
  Down : (n m : ℕ) → Block n m s → m < n → Falls s
