-- The ways of the functions: a body by the table, and its route. Assumes nothing.
use Rattle.std.specs.Prelude.{Err, None, Some}
use mathlib.Core.Path.{◌≡◌, refl, sym, ◌∙◌}
use mathlib.Core.Bool.{Bool, true, false}
use mathlib.Core.List.{List, [], ◌∷◌, ◌++◌}
use Prim.Native.Char.{code}
use Prim.Native.Nat.{ℕ, zero, suc, ◌+◌, ◌-◌, ◌≤◌}
use native.Mathlib.Omega.{arith}
use lib.Dec.{lit≤}
use lib.ListN.{length, take, replicate, length-append}
use lib.Seq.{length-take-le, take-append-le}
use Rattle.rules.specs.declared.Rule.{Rule}
use Rattle.fields.specs.declared.heads.MessageType.{MessageType}
use Rattle.fields.specs.declared.heads.MessageType.TheVariants.{Af}
use Rattle.table.specs.Spacing.{fields_of, fields_in, count_of}
use Rattle.table.proofs.SpacingLaws.{count_known}
use Rattle.table.specs.Field.{plain, trace_of}
use Rattle.table.specs.Read.{Ready, padded, answer_of, values_of, route_in, route_of, route_from, route_at}
use Rattle.table.specs.declared.walk.Fault.TheVariants.{Spacing}
use Rattle.table.proofs.WalkWays.{read_wrong, ready, route_no_kinds, route_no_fields, route_later, start_no_kinds, start_no_fields, start_later}
use Rattle.table.specs.Table.{table_of, is_count, table_by, dotted, kinds_of, count_in, answer_by, values_by, route_by, route_at_by}
use Rattle.table.proofs.Tables.{each_table, table_few, table_length}

-- ---- a body read by as many kinds as it has fields

-- a right count asks for no more kinds than the table has
pub count_kinds : (ρ : Rule) (t : MessageType) (n : ℕ) → is_count t n ≡ true → n ≤ length (table_by ρ t)
count_kinds ρ t n e = rw (table_length ρ t) (rows t n e)
  where
    rows : (t : MessageType) (n : ℕ) → is_count t n ≡ true → n ≤ length (table_of t)
    rows = each_table (λ t n. n ≤ length (table_of t)) (table_few Af) (lit≤ tt) (lit≤ tt) (lit≤ tt) (lit≤ tt) (lit≤ tt) (lit≤ tt) (lit≤ tt) (lit≤ tt) (lit≤ tt)

-- as many kinds as the count says
pub kinds_length : (ρ : Rule) (t : MessageType) (n : ℕ) → is_count t n ≡ true → length (kinds_of ρ t n) ≡ n
unfolding kinds_of
kinds_length ρ t n e = length-take-le n (table_by ρ t) (count_kinds ρ t n e)

pub count_dotted : (ρ : Rule) (t : MessageType) (n : ℕ) → is_count t n ≡ true → n ≤ length (dotted ρ t)
unfolding dotted
count_dotted ρ t n e = rw length-append (omega (arith, count_kinds ρ t n e))

pub dotted_kinds : (ρ : Rule) (t : MessageType) (n : ℕ) → is_count t n ≡ true → take n (dotted ρ t) ≡ kinds_of ρ t n
unfolding dotted kinds_of
dotted_kinds ρ t n e = take-append-le n (table_by ρ t) _ (count_kinds ρ t n e)

module _ (ρ : Rule) (t : MessageType) (s : List ℕ) where
  pub by_wrong : count_of s ≡ None → (Err Spacing ≡ answer_by ρ t s) × (padded [] ≡ padded (values_by ρ t s))
  unfolding answer_by values_by
  by_wrong e = go (is_count t (count_in s)) refl
    where
      go : (b : Bool) → is_count t (count_in s) ≡ b → (Err Spacing ≡ answer_by ρ t s) × (padded [] ≡ padded (values_by ρ t s))
      go true q = let r = read_wrong (kinds_of ρ t (count_in s)) s e in (rw q r.0, rw q r.1)
      go false q = (rw q, rw q)

  module _ {n : ℕ} {b : Bool} (e : count_of s ≡ Some (n, b)) where
    count_in_lem : count_in s ≡ n
    unfolding count_in
    count_in_lem = sym (count_known s e).1

    pub by_not : is_count t n ≡ false → (Err Spacing ≡ answer_by ρ t s) × (padded [] ≡ padded (values_by ρ t s))
    unfolding answer_by values_by
    by_not f = (rw (count_in_lem, f), rw (count_in_lem, f))

    -- the kinds that the table is read with are as many as the fields
    pub by_ready : is_count t n ≡ true → Ready (take n (dotted ρ t)) s b
    by_ready f =
        let k = length-take-le n (dotted ρ t) (count_dotted ρ t n f) in
        ready (take n (dotted ρ t)) s e (sym k) (table_few t n f)

    pub by_count : is_count t n ≡ true → (answer_of (take n (dotted ρ t)) s ≡ answer_by ρ t s) × (padded (values_of (take n (dotted ρ t)) s) ≡ padded (values_by ρ t s))
    unfolding answer_by values_by
    by_count f = let k = dotted_kinds ρ t n f in (rw (count_in_lem, f, k), rw (count_in_lem, f, k))

-- ---- the route: a dot is no kind of a field

dots_route : (n p : ℕ) (fs : List (List ℕ)) → route_in (replicate n (code ".")) p fs ≡ []
unfolding plain
dots_route zero p fs = route_no_kinds p fs
dots_route (suc n) p [] = route_no_fields (replicate (suc n) (code ".")) p
dots_route (suc n) p (f ∷ fs) = route_later (code ".") (replicate n (code ".")) p f fs (λ e. omega arith) ∙ dots_route n (trace_of (code ".") f) fs

route_dots : (ks : List ℕ) (n p : ℕ) (fs : List (List ℕ)) → route_in (ks ++ replicate n (code ".")) p fs ≡ route_in ks p fs
unfolding route_in
route_dots [] n p fs = dots_route n p fs ∙ sym (route_no_kinds p fs)
route_dots (k ∷ ks) n p [] = refl
route_dots (k ∷ ks) n p (f ∷ fs) = rw (route_dots ks n (trace_of k f) fs)

pub route_dotted : (ρ : Rule) (t : MessageType) (s : List ℕ) → route_of (dotted ρ t) s ≡ route_by ρ t s
unfolding dotted route_of route_by
route_dotted ρ t s = route_dots (table_by ρ t) (19 - length (table_by ρ t)) 0 (fields_in (fields_of s))

dots_start : (n j p : ℕ) (fs : List (List ℕ)) → route_from j (replicate n (code ".")) p fs ≡ 0
unfolding plain
dots_start zero j p fs = start_no_kinds j p fs
dots_start (suc n) j p [] = start_no_fields j (replicate (suc n) (code ".")) p
dots_start (suc n) j p (f ∷ fs) = start_later (code ".") (replicate n (code ".")) p f fs (λ e. omega arith) j ∙ dots_start n (j + 1 + length f) (trace_of (code ".") f) fs

start_dots : (ks : List ℕ) (n j p : ℕ) (fs : List (List ℕ)) → route_from j (ks ++ replicate n (code ".")) p fs ≡ route_from j ks p fs
unfolding route_from
start_dots [] n j p fs = dots_start n j p fs ∙ sym (start_no_kinds j p fs)
start_dots (k ∷ ks) n j p [] = refl
start_dots (k ∷ ks) n j p (f ∷ fs) = rw (start_dots ks n (j + 1 + length f) (trace_of k f) fs)

pub start_dotted : (ρ : Rule) (t : MessageType) (s : List ℕ) → route_at (dotted ρ t) s ≡ route_at_by ρ t s
unfolding dotted route_at route_at_by
start_dotted ρ t s = start_dots (table_by ρ t) (19 - length (table_by ρ t)) 0 0 (fields_in (fields_of s))
