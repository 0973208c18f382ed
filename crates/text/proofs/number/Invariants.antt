-- `text::number` meets its contract. The invariant: n, moved up by the places that are left, and what the digits from index i
-- on are make the whole number, and those bytes are digits as all of them are. Assumes nothing.
use mathlib.Core.Path.{◌≡◌}
use mathlib.Core.List.{List, map}
use Prim.Native.Nat.{ℕ, ◌+◌, ◌-◌, ◌*◌, ◌^◌, ◌≤◌, ◌<◌}
use lib.ListN.{length, drop}
use Rattle.text.specs.Class.{all}
use Rattle.text.specs.Place.{value}
use Rattle.text.specs.Number.{is_digit_to, digit_of, number_of}
use Rattle.text.proofs.number.Given as goal

pub record Inv (s : List ℕ) (B n i : ℕ) : Type 0 where
  pub at : i ≤ length s
  pub short : length s ≤ 12
  pub few : B ≤ 36
  pub small : n < B ^ i
  pub sum : n * B ^ (length s - i) + value B (length s - i) (map digit_of (drop i s)) ≡ number_of B s
  pub rest : all (is_digit_to B) (drop i s) ≡ all (is_digit_to B) s

abbrev pub invariant-loop-b : goal.invariant-loop-b
invariant-loop-b l = Inv l.s l.base l.n l.b-index
