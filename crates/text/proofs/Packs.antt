-- What the loops of `pack` and `pack_known` keep: n and what the codes from index i on are worth make the whole value, and the
-- codes from i on are those of text bytes as all of them are. Said of plain numbers and lists. Assumes nothing.
use mathlib.Core.Path.{◌≡◌, refl, sym, ◌∙◌}
use mathlib.Core.Bool.{true}
use mathlib.Core.List.{List, [], ◌∷◌, map}
use Prim.Native.Nat.{ℕ, ◌+◌, ◌-◌, ◌*◌, ◌/◌, ◌^◌, ◌≤◌, ◌<◌}
use native.Mathlib.Nat.{mul-le-mul_right, add_assoc}
use native.Mathlib.Omega.{arith}
use lib.ListN.{length, get_or, drop, drop_of_length-le}
use borrow.Author.Tests.{le-leb}
use Rattle.text.specs.Class.{all, is_text_byte}
use Rattle.text.specs.Code.{code_of}
use Rattle.text.specs.Place.{value, all_in}
use Rattle.text.specs.Text.{packed, is_text}
use Rattle.text.proofs.Codes.{code_le, text_byte_is}
use Rattle.text.proofs.Places.{all_in_cons, all_in_more, value_none}
use Rattle.text.proofs.Laws.{text_codes}
use Rattle.text.proofs.Turn.{next_weight, times, value_turn, codes_turn}

pub record Packs (s : List ℕ) (n w i : ℕ) : Type 0 where
  pub at : i ≤ length s
  pub short : length s ≤ 12
  pub weight : w ≡ 38 ^ (12 - i)
  pub room : n + w ≤ 38 ^ 12
  pub sum : n + value 38 (12 - i) (map code_of (drop i s)) ≡ packed s
  pub rest : all_in 1 37 (map code_of (drop i s)) ≡ all_in 1 37 (map code_of s)

pub begin : (s : List ℕ) → length s ≤ 12 → Packs s 0 (38 ^ 12) 0
unfolding packed
begin s h = record { at = omega arith; short = h; weight = refl; room = omega arith; sum = omega arith; rest = refl }

module _ {s : List ℕ} {n w i : ℕ} (v : Packs s n w i) where
  -- no byte is left
  module _ (left : length s ≤ i) where
    none_left : drop i s ≡ []
    none_left = drop_of_length-le s left

    pub all_summed : n ≡ packed s
    all_summed = omega (arith, (rw none_left at v.sum), value_none 38 (12 - i))

    pub all_codes : all_in 1 37 (map code_of s) ≡ true
    unfolding all_in all
    all_codes = sym v.rest ∙ rw none_left

  -- a byte is left at i, and c is its code
  module _ (c : ℕ) (more : i < length s) (is : c ≡ code_of (get_or s i 0)) where
    pub codes : map code_of (drop i s) ≡ c ∷ map code_of (drop (i + 1) s)
    codes = codes_turn s i more ∙ rw is

    most : c ≤ 37
    most = rw is (code_le (get_or s i 0))

    pub fits : n + c * (w / 38) + w / 38 ≤ 38 ^ 12
    fits = omega (arith, mul-le-mul_right (w / 38) most, v.room, times w i (omega arith) v.weight)

    -- of a text, it is not 0
    pub text_some_at : is_text s ≡ true → 1 ≤ c
    text_some_at e = (all_in_cons 1 37 c (map code_of (drop (i + 1) s)) (rw (← codes) (v.rest ∙ text_codes s e))).0

    pub again : 1 ≤ c → Packs s (n + c * (w / 38)) (w / 38) (i + 1)
    again some = record {
      at = omega arith;
      short = v.short;
      weight = next_weight w i (omega arith) v.weight;
      room = fits;
      sum = add_assoc n _ _ ∙ rw (← (value_turn w i (omega arith) v.weight c (map code_of (drop (i + 1) s))), ← codes) v.sum;
      rest = sym (all_in_more 1 37 c (map code_of (drop (i + 1) s)) some most) ∙ rw (← codes) v.rest;
    }

  -- of a text, the byte at i is a text byte
  pub text_byte_at : i < length s → is_text s ≡ true → is_text_byte (get_or s i 0) ≡ true
  text_byte_at more e =
      let c = code_of (get_or s i 0) in
      text_byte_is (get_or s i 0) ∙ rw (le-leb 1 c (text_some_at c more refl e), le-leb c 37 (code_le (get_or s i 0)))
