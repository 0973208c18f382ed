-- THE LAWS of the rule's kinds beside the table's: a field is shown alike, leaves the same for the next one, and what the old rule allows is allowed. So
-- what is proved of the values of a body by the table holds under either rule. Assumes nothing.
use Prim.Native.Nat.{ℕ}
use mathlib.Core.Path.{◌≡◌, refl, ap}
use mathlib.Core.Bool.{true, ◌&&◌}
use mathlib.Core.List.{List, [], ◌∷◌, map}
use lib.ListN.{take}
use Rattle.text.specs.Text.{text_of, is_packed}
use Rattle.text.proofs.Logic.{and_left, and_right}
use Rattle.rules.specs.Form.{is_clock, is_arrival}
use Rattle.rules.specs.Kind.{CLOCK, ARRIVAL, is_form}
use Rattle.rules.specs.declared.Rule.{Rule}
use Rattle.rules.specs.declared.Rule.TheVariants.{Old}
use Rattle.fields.specs.Aircraft.{is_aircraft_value, is_letter_by}
use Rattle.fields.specs.Word.{is_word}
use Rattle.fields.specs.declared.heads.MessageType.{MessageType}
use Rattle.table.specs.Field.{AIRCRAFT, kind_by, plain, trace_of, marks_of, follows, aircraft_in, is_one, is_kind_value, shown_kind, is_value, shown}
use Rattle.table.specs.Show.{texts_from, allowed_from}
use Rattle.table.specs.Table.{table_of, kinds_of}
use Rattle.table.specs.declared.kinds.Value.{Value}
use Rattle.table.proofs.KindRules.{each_kind}
use Rattle.table.proofs.Tables.{kinds_by}

-- ---- what a field leaves, and what it may follow

pub trace_by : (ρ : Rule) (k : ℕ) (s : List ℕ) → trace_of (kind_by ρ k) s ≡ trace_of k s
unfolding trace_of
trace_by ρ k s = each_kind (λ k j. trace_of j s ≡ trace_of k s) (λ k. refl) refl refl refl ρ k

pub marks_by : (ρ : Rule) (k m : ℕ) (s : List ℕ) → marks_of (kind_by ρ k) m s ≡ marks_of k m s
unfolding marks_of
marks_by ρ k m s = each_kind (λ k j. marks_of j m s ≡ marks_of k m s) (λ k. refl) refl refl refl ρ k

follows_by : (ρ : Rule) (k p m : ℕ) (s : List ℕ) → follows (kind_by ρ k) p m s ≡ follows k p m s
unfolding follows
follows_by ρ k p m s = each_kind (λ k j. follows j p m s ≡ follows k p m s) (λ k. refl) refl refl refl ρ k

-- ---- what is shown of a value

kind_shown : (ρ : Rule) (k : ℕ) (r : List ℕ) (v : Value) → shown_kind (kind_by ρ k) r v ≡ shown_kind k r v
unfolding shown_kind
kind_shown ρ k r v = each_kind (λ k j. shown_kind j r v ≡ shown_kind k r v) (λ k. refl) refl refl refl ρ k

pub shown_by : (ρ : Rule) (k p : ℕ) (r : List ℕ) (v : Value) → shown (kind_by ρ k) p r v ≡ shown k p r v
unfolding shown plain
shown_by ρ k p r v = each_kind (λ k j. shown j p r v ≡ shown k p r v) (λ k. refl) (kind_shown Old AIRCRAFT r v) (kind_shown Old ARRIVAL r v) (kind_shown Old _ r v) ρ k

-- ---- which values are allowed

clock_arrives : (t : ℕ) → is_word CLOCK t ≡ true → is_word ARRIVAL t ≡ true
unfolding is_word is_form is_arrival
clock_arrives t e = rw (and_left (is_packed t) (is_clock (text_of t)) e, and_right (is_packed t) (is_clock (text_of t)) e)

pub kind_allowed : (ρ : Rule) (k : ℕ) (r : List ℕ) (v : Value) → is_kind_value (kind_by ρ k) r v ≡ true → is_kind_value k r v ≡ true
unfolding is_kind_value is_word is_form
kind_allowed ρ k r v =
    each_kind (λ k j. is_kind_value j r v ≡ true → is_kind_value k r v ≡ true)
    (λ k e. e) (λ e. and_left (is_aircraft_value (aircraft_in v)) (is_letter_by Old v.c) e)
    (λ e. rw (clock_arrives v.a (and_left (is_word CLOCK v.a) (is_one v) e), and_right (is_word CLOCK v.a) (is_one v) e))
    (λ e. e) ρ k

value_allowed : (ρ : Rule) (k p : ℕ) (r : List ℕ) (v : Value) → is_value (kind_by ρ k) p r v ≡ true → is_value k p r v ≡ true
unfolding is_value plain
value_allowed ρ k p r v =
    each_kind (λ k j. is_value j p r v ≡ true → is_value k p r v ≡ true) (λ k e. e) (kind_allowed Old AIRCRAFT r v) (kind_allowed Old ARRIVAL r v) (kind_allowed Old _ r v) ρ k

-- ---- THE LAWS, of the values of a body

pub texts_by : (ρ : Rule) (ks : List ℕ) (p : ℕ) (r : List ℕ) (vs : List Value) → texts_from (map (kind_by ρ) ks) p r vs ≡ texts_from ks p r vs
unfolding texts_from
texts_by ρ [] p r vs = refl
texts_by ρ (k ∷ ks) p r [] = refl
texts_by ρ (k ∷ ks) p r (v ∷ vs) =
    rw (shown_by ρ k p r v, trace_by ρ k (shown k p r v)) (ap (λ (l : List (List ℕ)). shown k p r v ∷ l) (texts_by ρ ks (trace_of k (shown k p r v)) r vs))

pub allowed_by : (ρ : Rule) (ks : List ℕ) (p m : ℕ) (r : List ℕ) (vs : List Value) → allowed_from (map (kind_by ρ) ks) p m r vs ≡ true → allowed_from ks p m r vs ≡ true
unfolding allowed_from
allowed_by ρ [] p m r [] e = refl
allowed_by ρ [] p m r (v ∷ vs) e = e
allowed_by ρ (k ∷ ks) p m r [] e = e
allowed_by ρ (k ∷ ks) p m r (v ∷ vs) e =
    let s = shown k p r v in
    let a = is_value (kind_by ρ k) p r v in
    let f : (a && follows k p m s && allowed_from (map (kind_by ρ) ks) (trace_of k s) (marks_of k m s) r vs) ≡ true =
    rw (shown_by ρ k p r v, follows_by ρ k p m s, trace_by ρ k s, marks_by ρ k m s) at e in
    let g = and_left (a && follows k p m s) (allowed_from (map (kind_by ρ) ks) (trace_of k s) (marks_of k m s) r vs) f in
    rw (
      value_allowed ρ k p r v (and_left a (follows k p m s) g),
      and_right a (follows k p m s) g,
    ) (allowed_by ρ ks (trace_of k s) (marks_of k m s) r vs (and_right (a && follows k p m s) (allowed_from (map (kind_by ρ) ks) (trace_of k s) (marks_of k m s) r vs) f))

-- by the kinds of a type's n fields
pub kinds_texts : (ρ : Rule) (t : MessageType) (n p : ℕ) (r : List ℕ) (vs : List Value) → texts_from (kinds_of ρ t n) p r vs ≡ texts_from (take n (table_of t)) p r vs
kinds_texts ρ t n p r vs = rw (kinds_by ρ t n) (texts_by ρ (take n (table_of t)) p r vs)

pub kinds_allowed : (ρ : Rule) (t : MessageType) (n p m : ℕ) (r : List ℕ) (vs : List Value) → allowed_from (kinds_of ρ t n) p m r vs ≡ true → allowed_from (take n (table_of t)) p m r vs ≡ true
kinds_allowed ρ t n p m r vs e = allowed_by ρ (take n (table_of t)) p m r vs (rw (kinds_by ρ t n) at e)
