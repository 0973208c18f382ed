-- Document 01's table, row by row: what holds of each row by computation holds of every type and count. Assumes
-- nothing.
use mathlib.Core.Path.{◌≡◌, refl, sym, ap, ◌∙◌, subst}
use mathlib.Core.Bool.{true, false, cond, ◌&&◌}
use mathlib.Core.List.{List, [], ◌∷◌, map}
use Prim.Native.Nat.{ℕ, zero, suc, ◌+◌, ◌*◌, ◌/◌, ◌%◌, ◌≤◌}
use native.Mathlib.Omega.{arith}
use lib.Count.{ones}
use lib.Dec.{eqb, leb, lit≤}
use lib.ListN.{length, length-map, take}
use borrow.Author.Tests.{eqb-true, leb-true}
use Rattle.text.specs.Class.{all}
use Rattle.text.proofs.Logic.{and_left, and_right}
use Rattle.rules.specs.declared.Rule.{Rule}
use Rattle.fields.specs.declared.heads.MessageType.{MessageType}
use Rattle.fields.specs.declared.heads.MessageType.TheVariants.{Af, Az, Dz, Fz, Rz, Tz, Uz, Rt, To, Hb}
use Rattle.table.specs.Field.{AMENDMENT, ROUTE, kind_by, trace_of, marks_of, shown}
use Rattle.table.specs.declared.kinds.Value.{Value}
use Rattle.table.specs.Show.{allowed_from, marks_from, routed}
use Rattle.table.proofs.KindRules.{by_amendment, by_route, take_by}
use Rattle.table.proofs.MarksKept.{times, times_by}
use Rattle.table.proofs.Routes.{no_content, one_route, none_more, content_by, one_by, routed_letter, routed_none}
use Rattle.table.proofs.Amends.{followed, amends, amends_by, routed_marks}
use Rattle.table.proofs.Theorems.{allowed_taken}
use Rattle.table.specs.Table.{table_of, has_amendments, count_with, is_count, has_route_with, table_by, kinds_of}
use Rattle.table.proofs.CountWays.{each_type}

-- the counts of an AF: 5, 7 .. 19
pub each_count : (X : ℕ → Type 0) → X 5 → X 7 → X 9 → X 11 → X 13 → X 15 → X 17 → X 19 → (n : ℕ) → is_count Af n ≡ true → X n
unfolding is_count
each_count X a b c d e f g h n is = subst X (sym half) (go (n / 2) (omega (arith, low)) (omega (arith, high)))
  where
    low : 5 ≤ n
    low = leb-true 5 n (and_left (leb 5 n) (leb n 19) (and_left (leb 5 n && leb n 19) (eqb (n % 2) 1) is))

    high : n ≤ 19
    high = leb-true n 19 (and_right (leb 5 n) (leb n 19) (and_left (leb 5 n && leb n 19) (eqb (n % 2) 1) is))

    odd : n % 2 ≡ 1
    odd = eqb-true (n % 2) 1 (and_right (leb 5 n && leb n 19) (eqb (n % 2) 1) is)

    half : n ≡ 2 * (n / 2) + 1
    half = omega (arith, odd)

    go : (k : ℕ) → 2 ≤ k → k ≤ 9 → X (2 * k + 1)
    go zero l m = absurd (omega arith)
    go (suc zero) l m = absurd (omega arith)
    go (suc (suc zero)) l m = a
    go (suc (suc (suc zero))) l m = b
    go (suc (suc (suc (suc zero)))) l m = c
    go (suc (suc (suc (suc (suc zero))))) l m = d
    go (suc (suc (suc (suc (suc (suc zero)))))) l m = e
    go (suc (suc (suc (suc (suc (suc (suc zero))))))) l m = f
    go (suc (suc (suc (suc (suc (suc (suc (suc zero)))))))) l m = g
    go (suc (suc (suc (suc (suc (suc (suc (suc (suc zero))))))))) l m = h
    go (suc (suc (suc (suc (suc (suc (suc (suc (suc (suc k)))))))))) l m = absurd (omega arith)

-- every row
pub each_table : (X : MessageType → ℕ → Type 0) → ((n : ℕ) → is_count Af n ≡ true → X Af n) → X Az 4 → X Dz 6 → X Fz 7 → X Rz 3 → X Tz 4 → X Uz 7 → X Rt 0 → X To 0 → X Hb 0
    → (t : MessageType) (n : ℕ) → is_count t n ≡ true → X t n
unfolding is_count count_with
each_table X af az dz fz rz tz uz rt to hb Af n e = af n e
each_table X af az dz fz rz tz uz rt to hb Az n e = subst (X Az) (sym (eqb-true n 4 e)) az
each_table X af az dz fz rz tz uz rt to hb Dz n e = subst (X Dz) (sym (eqb-true n 6 e)) dz
each_table X af az dz fz rz tz uz rt to hb Fz n e = subst (X Fz) (sym (eqb-true n 7 e)) fz
each_table X af az dz fz rz tz uz rt to hb Rz n e = subst (X Rz) (sym (eqb-true n 3 e)) rz
each_table X af az dz fz rz tz uz rt to hb Tz n e = subst (X Tz) (sym (eqb-true n 4 e)) tz
each_table X af az dz fz rz tz uz rt to hb Uz n e = subst (X Uz) (sym (eqb-true n 7 e)) uz
each_table X af az dz fz rz tz uz rt to hb Rt n e = subst (X Rt) (sym (eqb-true n 0 e)) rt
each_table X af az dz fz rz tz uz rt to hb To n e = subst (X To) (sym (eqb-true n 0 e)) to
each_table X af az dz fz rz tz uz rt to hb Hb n e = subst (X Hb) (sym (eqb-true n 0 e)) hb

-- ---- what holds of each row

pub table_few : (t : MessageType) (n : ℕ) → is_count t n ≡ true → n ≤ 19
table_few = each_table (λ t n. n ≤ 19)
    (each_count (λ n. n ≤ 19) (lit≤ tt) (lit≤ tt) (lit≤ tt) (lit≤ tt) (lit≤ tt) (lit≤ tt) (lit≤ tt) (lit≤ tt))
    (lit≤ tt) (lit≤ tt) (lit≤ tt) (lit≤ tt) (lit≤ tt) (lit≤ tt) (lit≤ tt) (lit≤ tt) (lit≤ tt)

-- by any rule a row has as many fields, each of the kind that the rule has for it
pub table_length : (ρ : Rule) (t : MessageType) → length (table_by ρ t) ≡ length (table_of t)
unfolding table_by
table_length ρ t = length-map (table_of t) (kind_by ρ)

pub kinds_by : (ρ : Rule) (t : MessageType) (n : ℕ) → kinds_of ρ t n ≡ map (kind_by ρ) (take n (table_of t))
unfolding kinds_of table_by
kinds_by ρ t n = take_by ρ n (table_of t)

-- a kind that no rule changes stands in a row as often by any rule
by_times : (ρ : Rule) (k : ℕ) → ((j : ℕ) → eqb (kind_by ρ j) k ≡ eqb j k) → (t : MessageType) (n : ℕ) → times k (kinds_of ρ t n) ≡ times k (take n (table_of t))
by_times ρ k h t n = ap (times k) (kinds_by ρ t n) ∙ times_by ρ k h (take n (table_of t))

pub table_one : (ρ : Rule) (t : MessageType) (n : ℕ) → is_count t n ≡ true → one_route (kinds_of ρ t n) ≡ true
unfolding one_route times no_content all
table_one ρ t n e = ap one_route (kinds_by ρ t n) ∙ one_by ρ (take n (table_of t)) ∙ rows t n e
  where
    rows : (t : MessageType) (n : ℕ) → is_count t n ≡ true → one_route (take n (table_of t)) ≡ true
    rows = each_table (λ t n. one_route (take n (table_of t)) ≡ true)
        (each_count (λ n. one_route (take n (table_of Af)) ≡ true) refl refl refl refl refl refl refl refl)
        refl refl refl refl refl refl refl refl refl

af_amends : (ρ : Rule) (n : ℕ) → is_count Af n ≡ true → amends (kinds_of ρ Af n) ≡ true
unfolding amends times followed
af_amends ρ n e =
    ap amends (kinds_by ρ Af n) ∙ amends_by ρ (take n (table_of Af))
    ∙ each_count (λ n. amends (take n (table_of Af)) ≡ true) refl refl refl refl refl refl refl refl n e

-- "the count of marks set is the count of amendments"
pub count_marks : (ρ : Rule) (m : ℕ) (t : MessageType) (n : ℕ) → is_count t n ≡ true → ones m ≡ times AMENDMENT (kinds_of ρ t n) → count_with t m ≡ n
unfolding times count_with
count_marks ρ m t n c e = rows t n c (e ∙ by_times ρ AMENDMENT (by_amendment ρ) t n)
  where
    rows : (t : MessageType) (n : ℕ) → is_count t n ≡ true → ones m ≡ times AMENDMENT (take n (table_of t)) → count_with t m ≡ n
    rows =
        each_table (λ t n. ones m ≡ times AMENDMENT (take n (table_of t)) → count_with t m ≡ n)
        (each_count (λ n. ones m ≡ times AMENDMENT (take n (table_of Af)) → 3 + 2 * ones m ≡ n) (λ e. rw e) (λ e. rw e) (λ e. rw e) (λ e. rw e) (λ e. rw e) (λ e. rw e) (λ e. rw e) (λ e. rw e))
        (λ e. refl) (λ e. refl) (λ e. refl) (λ e. refl) (λ e. refl) (λ e. refl) (λ e. refl) (λ e. refl) (λ e. refl)

-- fields without a number set no mark
no_marks : (ks : List ℕ) (p m : ℕ) (r : List ℕ) (vs : List Value) → times AMENDMENT ks ≡ 0 → marks_from ks p m r vs ≡ m
unfolding marks_from marks_of
no_marks [] p m r vs e = refl
no_marks (k ∷ ks) p m r [] e = refl
no_marks (k ∷ ks) p m r (v ∷ vs) e =
    let h = none_more AMENDMENT k ks e in
    rw h.0 (no_marks ks (trace_of k (shown k p r v)) m r vs h.1)

-- only a type with amendments keeps marks
abbrev pub marks_kept : MessageType → ℕ → ℕ
marks_kept t m = cond (has_amendments t) m 0

-- where a type keeps no marks, neither the count of its fields nor a route goes by them
pub kept_count : (t : MessageType) (m : ℕ) → count_with t (marks_kept t m) ≡ count_with t m
unfolding count_with
kept_count t m = each_type (λ t. count_with t (marks_kept t m) ≡ count_with t m) refl refl refl refl refl refl refl refl refl refl t

pub kept_route : (t : MessageType) (m : ℕ) → has_route_with t (marks_kept t m) ≡ has_route_with t m
kept_route t m = each_type (λ t. has_route_with t (marks_kept t m) ≡ has_route_with t m) refl refl refl refl refl refl refl refl refl refl t

-- the fields of a type without amendments set none
pub marks_none : (ρ : Rule) (r : List ℕ) (vs : List Value) (t : MessageType) (n : ℕ) → is_count t n ≡ true
    → marks_from (kinds_of ρ t n) 0 0 r vs ≡ marks_kept t (marks_from (kinds_of ρ t n) 0 0 r vs)
unfolding times
marks_none ρ r vs =
    each_table (λ t n. marks_from (kinds_of ρ t n) 0 0 r vs ≡ marks_kept t (marks_from (kinds_of ρ t n) 0 0 r vs))
    (λ n e. refl) (none Az 4 refl) (none Dz 6 refl) (none Fz 7 refl) (none Rz 3 refl) (none Tz 4 refl) (none Uz 7 refl) (none Rt 0 refl) (none To 0 refl) (none Hb 0 refl)
  where
    none : (t : MessageType) (n : ℕ) → times AMENDMENT (take n (table_of t)) ≡ 0 → marks_from (kinds_of ρ t n) 0 0 r vs ≡ 0
    none t n e = no_marks (kinds_of ρ t n) 0 0 r vs (by_times ρ AMENDMENT (by_amendment ρ) t n ∙ e)

-- a route is among the fields exactly where the type and the marks say so
module _ (ρ : Rule) (m : ℕ) (r : List ℕ) (vs : List Value) where
  -- a row with neither letter has none, and one with the route's letter has one
  row_none : (t : MessageType) (n : ℕ) → times ROUTE (take n (table_of t)) ≡ 0 → no_content (take n (table_of t)) ≡ true → false ≡ routed (kinds_of ρ t n) 0 r vs
  row_none t n e c =
      sym (routed_none (kinds_of ρ t n) 0 r vs (by_times ρ ROUTE (by_route ρ) t n ∙ e) (ap no_content (kinds_by ρ t n) ∙ content_by ρ (take n (table_of t)) ∙ c))

  row_letter : (t : MessageType) (n : ℕ) → times ROUTE (take n (table_of t)) ≡ 1 → allowed_from (kinds_of ρ t n) 0 0 r vs ≡ true → true ≡ routed (kinds_of ρ t n) 0 r vs
  row_letter t n e a =
      sym (routed_letter (kinds_of ρ t n) 0 r vs (allowed_taken (kinds_of ρ t n) 0 0 r vs a).count (omega (arith, by_times ρ ROUTE (by_route ρ) t n, e)))

  pub route_with : (t : MessageType) (n : ℕ) → is_count t n ≡ true → allowed_from (kinds_of ρ t n) 0 0 r vs ≡ true → marks_from (kinds_of ρ t n) 0 0 r vs ≡ m
      → has_route_with t m ≡ routed (kinds_of ρ t n) 0 r vs
  unfolding times no_content all
  route_with =
      each_table (λ t n. allowed_from (kinds_of ρ t n) 0 0 r vs ≡ true → marks_from (kinds_of ρ t n) 0 0 r vs ≡ m → has_route_with t m ≡ routed (kinds_of ρ t n) 0 r vs)
      (λ n e a q. rw (routed_marks (kinds_of ρ Af n) r vs (af_amends ρ n e) a, q))
      (λ a q. row_none Az 4 refl refl)
      (λ a q. row_none Dz 6 refl refl)
      (λ a q. row_letter Fz 7 refl a)
      (λ a q. row_none Rz 3 refl refl)
      (λ a q. row_none Tz 4 refl refl)
      (λ a q. row_letter Uz 7 refl a)
      (λ a q. row_none Rt 0 refl refl)
      (λ a q. row_none To 0 refl refl)
      (λ a q. row_none Hb 0 refl refl)
