-- The kinds by the rule: what holds of a kind that a rule keeps and of those that it changes holds of all; which kinds some rule has for an aircraft
-- and for a content; and what the rule leaves as it is. Assumes nothing.
use mathlib.Core.Path.{◌≡◌, refl, sym, subst}
use mathlib.Core.Bool.{Bool, true, false, ◌||◌, or-true}
use mathlib.Core.List.{List, [], ◌∷◌, map}
use Prim.Native.Nat.{ℕ, zero, suc}
use native.Mathlib.Omega.{arith}
use lib.Dec.{eqb}
use lib.ListN.{take, get_or-map}
use borrow.Author.Tests.{eqb-true, eq-eqb}
use Rattle.text.specs.Class.{all}
use Rattle.text.proofs.Logic.{true_false, not_holds, either_of}
use Rattle.rules.specs.Kind.{CLOCK, ARRIVAL, FIX, LEVEL}
use Rattle.rules.specs.declared.Rule.{Rule}
use Rattle.rules.specs.declared.Rule.TheVariants.{New, Old}
use Rattle.table.specs.Field.{AIRCRAFT, ROUTE, PLAN_TIME, AMENDMENT, CONTENT, OLD_AIRCRAFT, OLD_CONTENT, kind_by, is_mark, content_of, plain}
use Rattle.table.specs.Fault.{kind_at}
use Rattle.table.proofs.Eight.{each_mark, no_mark}

-- a rule keeps a kind, or changes it in one of three ways
pub each_kind : (X : ℕ → ℕ → Type 0) → ((k : ℕ) → X k k) → X AIRCRAFT OLD_AIRCRAFT → X ARRIVAL CLOCK → X CONTENT OLD_CONTENT → (ρ : Rule) (k : ℕ) → X k (kind_by ρ k)
each_kind X same a b c New k = same k
each_kind X same a b c Old k = go (eqb k AIRCRAFT) refl (eqb k ARRIVAL) refl (eqb k CONTENT) refl
  where
    go : (x : Bool) → eqb k AIRCRAFT ≡ x → (y : Bool) → eqb k ARRIVAL ≡ y → (z : Bool) → eqb k CONTENT ≡ z → X k (kind_by Old k)
    go true p y q z r = subst (λ i. X i (kind_by Old i)) (sym (eqb-true k AIRCRAFT p)) a
    go false p true q z r = subst (λ i. X i (kind_by Old i)) (sym (eqb-true k ARRIVAL q)) b
    go false p false q true r = subst (λ i. X i (kind_by Old i)) (sym (eqb-true k CONTENT r)) c
    go false p false q false r = rw (p, q, r) (same k)

-- ---- k is what some rule has for j

abbrev pub is_for : ℕ → ℕ → Bool
is_for j k = eqb k j || eqb k (kind_by Old j)

pub some_rule : (j k : ℕ) → is_for j k ≡ true → (ρ : Rule) × (k ≡ kind_by ρ j)
some_rule j k = either_of (eqb k j) (eqb k (kind_by Old j)) (λ e. (New, eqb-true k j e)) (λ e. (Old, eqb-true k (kind_by Old j) e))

pub no_rule : (j k : ℕ) → is_for j k ≡ false → (ρ : Rule) → k ≡ kind_by ρ j → ⊥
no_rule j k e New q = true_false (rw (eq-eqb k j q)) e
no_rule j k e Old q = true_false (rw (eq-eqb k (kind_by Old j) q) (or-true (eqb k j))) e

pub not_for : (j k : ℕ) → is_for j k ≡ false → (eqb k j ≡ false) × (eqb k (kind_by Old j) ≡ false)
not_for j k e = (not_holds (eqb k j) (λ q. no_rule j k e New (eqb-true k j q)), not_holds (eqb k (kind_by Old j)) (λ q. no_rule j k e Old (eqb-true k (kind_by Old j) q)))

-- where the rules differ, the kind tells the rule
pub one_rule : (j : ℕ) → (j ≡ kind_by Old j → ⊥) → (ρ ρ' : Rule) → kind_by ρ j ≡ kind_by ρ' j → ρ ≡ ρ'
one_rule j h New New e = refl
one_rule j h New Old e = absurd (h e)
one_rule j h Old New e = absurd (h (sym e))
one_rule j h Old Old e = refl

-- an amendment's content
abbrev pub is_content : ℕ → Bool
is_content k = is_for CONTENT k

-- it is read as what its number asks for, by the rule
pub plain_content : (ρ : Rule) (p : ℕ) → plain (kind_by ρ CONTENT) p ≡ kind_by ρ (content_of p)
unfolding plain
plain_content New p = refl
plain_content Old p = refl

-- it is neither the time of FZ and UZ nor a number
pub content_time : (ρ : Rule) {k : ℕ} → k ≡ kind_by ρ CONTENT → k ≡ PLAN_TIME → ⊥
content_time New e t = omega arith
content_time Old e t = omega arith

pub content_number : (ρ : Rule) {k : ℕ} → k ≡ kind_by ρ CONTENT → k ≡ AMENDMENT → ⊥
content_number New e t = omega arith
content_number Old e t = omega arith

-- ---- what no rule changes

pub by_amendment : (ρ : Rule) (k : ℕ) → eqb (kind_by ρ k) AMENDMENT ≡ eqb k AMENDMENT
by_amendment = each_kind (λ k j. eqb j AMENDMENT ≡ eqb k AMENDMENT) (λ k. refl) refl refl refl

pub by_route : (ρ : Rule) (k : ℕ) → eqb (kind_by ρ k) ROUTE ≡ eqb k ROUTE
by_route = each_kind (λ k j. eqb j ROUTE ≡ eqb k ROUTE) (λ k. refl) refl refl refl

pub by_fix : (ρ : Rule) (k : ℕ) → eqb (kind_by ρ k) FIX ≡ eqb k FIX
by_fix = each_kind (λ k j. eqb j FIX ≡ eqb k FIX) (λ k. refl) refl refl refl

pub by_plan_time : (ρ : Rule) (k : ℕ) → eqb (kind_by ρ k) PLAN_TIME ≡ eqb k PLAN_TIME
by_plan_time = each_kind (λ k j. eqb j PLAN_TIME ≡ eqb k PLAN_TIME) (λ k. refl) refl refl refl

pub by_content : (ρ : Rule) (k : ℕ) → is_content (kind_by ρ k) ≡ is_content k
by_content = each_kind (λ k j. is_content j ≡ is_content k) (λ k. refl) refl refl refl

pub by_level : (ρ : Rule) → kind_by ρ LEVEL ≡ LEVEL
by_level New = refl
by_level Old = refl

-- nor the content that a number asks for, but of 03
pub content_same : (m : ℕ) → (m ≡ 2 → ⊥) → content_of m ≡ kind_by Old (content_of m)
unfolding content_of
content_same m h = go (is_mark m) refl
  where
    go : (b : Bool) → is_mark m ≡ b → content_of m ≡ kind_by Old (content_of m)
    go true q = each_mark (λ i. (i ≡ 2 → ⊥) → content_of i ≡ kind_by Old (content_of i)) (λ n. refl) (λ n. absurd (n refl)) (λ n. refl) (λ n. refl) (λ n. refl) (λ n. refl) (λ n. refl) (λ n. refl) m q h
    go false q = rw (no_mark m q).1

-- ---- lists of kinds

-- each of them, by the rule
pub at_by : (ρ : Rule) (ks : List ℕ) (i : ℕ) → kind_at (map (kind_by ρ) ks) i ≡ kind_by ρ (kind_at ks i)
at_by New ks i = get_or-map (kind_by New) ks i 0
at_by Old ks i = get_or-map (kind_by Old) ks i 0

-- and the first of them
pub take_by : (ρ : Rule) (n : ℕ) (ks : List ℕ) → take n (map (kind_by ρ) ks) ≡ map (kind_by ρ) (take n ks)
take_by ρ zero ks = refl
take_by ρ (suc n) [] = refl
take_by ρ (suc n) (k ∷ ks) = rw (take_by ρ n ks)

-- a test that no rule changes
pub all_by : (ρ : Rule) (f : ℕ → Bool) → ((k : ℕ) → f (kind_by ρ k) ≡ f k) → (ks : List ℕ) → all f (map (kind_by ρ) ks) ≡ all f ks
unfolding all
all_by ρ f h [] = refl
all_by ρ f h (k ∷ ks) = rw (h k, all_by ρ f h ks)
