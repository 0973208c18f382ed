-- What an allowed board is, in parts; and that the tests of `is_allowed`, in their order, decide it. Assumes nothing.
use mathlib.Core.Path.{◌≡◌, refl, sym, ap, ◌∙◌}
use mathlib.Core.Bool.{Bool, true, false, ◌&&◌}
use mathlib.Core.List.{List, [], ◌∷◌}
use Prim.Native.Nat.{ℕ, zero, suc, ◌+◌, ◌*◌, ◌-◌, ◌≤◌}
use native.Mathlib.Omega.{arith}
use borrow.Author.Tests.{eqb-true, eq-eqb, leb-true, le-leb}
use lib.ListN.{length, get_or, drop, replicate, length-drop}
use lib.Dec.{eqb, leb}
use Rattle.text.proofs.Logic.{and_left, and_right, not_holds, true_false}
use Rattle.board.specs.Rows.{CAP, rises}
use Rattle.board.specs.Board.{W, read_rows, rows_of, rows_hold, all_zero, body_holds, is_allowed}

pub cap_is : CAP ≡ 256
unfolding CAP
cap_is = refl

pub record Parts (l : List ℕ) : Type 0 where
  pub size : length l ≡ 1 + W * CAP
  pub count : get_or l 0 0 ≤ CAP
  pub hold : rows_hold (get_or l 0 0) (drop 1 l) ≡ true
  pub rise : rises (rows_of l) ≡ true
  pub rest : all_zero (drop (1 + W * get_or l 0 0) l) ≡ true

module _ (l : List ℕ) where
  abbrev n : ℕ
  n = get_or l 0 0

  abbrev sized : Bool
  sized = eqb (length l) (1 + W * CAP)

  abbrev counted : Bool
  counted = leb n CAP

  abbrev held : Bool
  held = rows_hold n (drop 1 l)

  abbrev risen : Bool
  risen = rises (read_rows n (drop 1 l))

  abbrev rested : Bool
  rested = all_zero (drop (1 + W * n) l)

  pub parts : is_allowed l ≡ true → Parts l
  unfolding is_allowed body_holds rows_of
  parts e =
      let f = and_right sized (counted && (held && (risen && rested))) e in
      let g = and_right counted (held && (risen && rested)) f in
      let h = and_right held (risen && rested) g in
      record {
        size = eqb-true (length l) (1 + W * CAP) (and_left sized (counted && (held && (risen && rested))) e);
        count = leb-true n CAP (and_left counted (held && (risen && rested)) f);
        hold = and_left held (risen && rested) g;
        rise = and_left risen rested h;
        rest = and_right risen rested h;
      }

  -- the tests before the last hold: the last decides
  pub by_rest : length l ≡ 1 + W * CAP → n ≤ CAP → held ≡ true → risen ≡ true → rested ≡ is_allowed l
  unfolding is_allowed body_holds
  by_rest a b c d =
      sym (ap (λ (t : Bool). t && (counted && (held && (risen && rested)))) (eq-eqb (length l) (1 + W * CAP) a)
      ∙ ap (λ (t : Bool). t && (held && (risen && rested))) (le-leb n CAP b)
      ∙ ap (λ (t : Bool). t && (risen && rested)) c
      ∙ ap (λ (t : Bool). t && rested) d)

  pub whole : Parts l → is_allowed l ≡ true
  unfolding rows_of
  whole p = sym (by_rest p.size p.count p.hold p.rise) ∙ p.rest

  -- a part that fails
  pub not_allowed : (Parts l → ⊥) → is_allowed l ≡ false
  not_allowed f = not_holds (is_allowed l) (λ e. f (parts e))

  pub not_held : held ≡ false → is_allowed l ≡ false
  not_held e = not_allowed (λ p. true_false p.hold e)

  pub not_risen : risen ≡ false → is_allowed l ≡ false
  unfolding rows_of
  not_risen e = not_allowed (λ p. true_false p.rise e)

-- ---- zeros

pub zero_holds : (xs : List ℕ) → all_zero xs ≡ true → xs ≡ replicate (length xs) 0
unfolding all_zero
zero_holds [] e = refl
zero_holds (x ∷ xs) e =
    ap (λ (y : ℕ). y ∷ xs) (eqb-true x 0 (and_left (eqb x 0) (all_zero xs) e))
    ∙ ap (λ (ys : List ℕ). 0 ∷ ys) (zero_holds xs (and_right (eqb x 0) (all_zero xs) e))

pub zero_tests : (n : ℕ) → all_zero (replicate n 0) ≡ true
unfolding all_zero
zero_tests zero = refl
zero_tests (suc n) = zero_tests n

-- what stands after the rows
pub zeros_after : (l : List ℕ) → Parts l → drop (1 + W * get_or l 0 0) l ≡ replicate (W * CAP - W * get_or l 0 0) 0
zeros_after l p =
    let s : length l ≡ 1 + W * CAP = p.size in
    let h : length (drop (1 + W * get_or l 0 0) l) ≡ W * CAP - W * get_or l 0 0 = simp length-drop (omega arith) in
    zero_holds (drop (1 + W * get_or l 0 0) l) p.rest ∙ ap (λ (k : ℕ). replicate k 0) h
