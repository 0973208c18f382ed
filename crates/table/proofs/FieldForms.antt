-- The reader and the forms: what one field is answered by its form, and of a number, a time, a content and any other field after those before it.
-- Assumes nothing.
use Rattle.std.specs.Prelude.{None, Option, Some}
use mathlib.Core.Path.{◌≡◌, refl, sym, ap, ◌∙◌, subst}
use mathlib.Core.Bool.{Bool, true, false, cond}
use mathlib.Core.List.{List}
use Prim.Native.Char.{code}
use Prim.Native.Nat.{ℕ}
use native.Mathlib.Omega.{arith}
use lib.Bits.{bit_and}
use lib.Dec.{eqb}
use lib.ListN.{get_or}
use Rattle.text.proofs.Logic.{true_false}
use Rattle.rules.specs.Form.{is_time, is_ident, is_tz_ident, is_route, is_position}
use Rattle.rules.specs.Kind.{FIX, TIME, is_form}
use Rattle.rules.specs.declared.Rule.{Rule}
use Rattle.rules.specs.declared.Rule.TheVariants.{New, Old}
use Rattle.fields.specs.Word.{word_of}
use Rattle.fields.specs.Ident.{ident_of, tz_ident_of}
use Rattle.fields.specs.Aircraft.{aircraft_by, aircraft_answer}
use Rattle.fields.specs.Aircraft as aircraft
use Rattle.fields.proofs.Answers.{aircraft_answer_lem}
use Rattle.table.specs.Amends.{mark_of, content_of}
use Rattle.table.specs.Fault.{has_form, FormCase, Readings, Formed, Unformed}
use Rattle.table.specs.Field.{IDENT, TZ_IDENT, AIRCRAFT, ROUTE, PLAN_TIME, AMENDMENT, CONTENT, kind_by, trace_of, follows, plain, of_aircraft, read_kind, read_mark, barred, read_in}
use Rattle.table.specs.Read.{field_number}
use Rattle.table.proofs.KindRules.{is_for, some_rule, no_rule, not_for, one_rule, is_content}
use Rattle.fields.specs.declared.aircraft.Aircraft.{Aircraft}

-- ---- by its form

aircraft_number : (x : Option Aircraft) → aircraft_answer x ≡ field_number (of_aircraft x)
aircraft_number (Some a) = refl
aircraft_number None = refl

-- of every kind but an aircraft
kind_number : (k : ℕ) (s : List ℕ) → is_for AIRCRAFT k ≡ false → field_number (read_kind k s) ≡ cond (has_form k s) 0 9
unfolding read_kind has_form ident_of tz_ident_of word_of
kind_number k s z = go (eqb k IDENT) refl (eqb k TZ_IDENT) refl (eqb k ROUTE) refl
  where
    n : (eqb k AIRCRAFT ≡ false) × (eqb k (kind_by Old AIRCRAFT) ≡ false)
    n = not_for AIRCRAFT k z

    ident : (b : Bool) → is_ident s ≡ b → eqb k IDENT ≡ true → field_number (read_kind k s) ≡ cond (has_form k s) 0 9
    ident true q x = rw (x, q)
    ident false q x = rw (x, q)

    tz : (b : Bool) → is_tz_ident s ≡ b → eqb k IDENT ≡ false → eqb k TZ_IDENT ≡ true → field_number (read_kind k s) ≡ cond (has_form k s) 0 9
    tz true q x y = rw (x, y, q)
    tz false q x y = rw (x, y, q)

    route : (b : Bool) → is_route s ≡ b → eqb k IDENT ≡ false → eqb k TZ_IDENT ≡ false → eqb k ROUTE ≡ true → field_number (read_kind k s) ≡ cond (has_form k s) 0 9
    route true q x y w = rw (x, y, n.0, n.1, w, q)
    route false q x y w = rw (x, y, n.0, n.1, w, q)

    word : (b : Bool) → is_form k s ≡ b → eqb k IDENT ≡ false → eqb k TZ_IDENT ≡ false → eqb k ROUTE ≡ false → field_number (read_kind k s) ≡ cond (has_form k s) 0 9
    word true q x y w = rw (x, y, n.0, n.1, w, q)
    word false q x y w = rw (x, y, n.0, n.1, w, q)

    go : (a : Bool) → eqb k IDENT ≡ a → (b : Bool) → eqb k TZ_IDENT ≡ b → (d : Bool) → eqb k ROUTE ≡ d → field_number (read_kind k s) ≡ cond (has_form k s) 0 9
    go true x b y d w = ident (is_ident s) refl x
    go false x true y d w = tz (is_tz_ident s) refl x y
    go false x false y true w = route (is_route s) refl x y w
    go false x false y false w = word (is_form k s) refl x y w

aircraft_kind : (ρ : Rule) (s : List ℕ) → read_kind (kind_by ρ AIRCRAFT) s ≡ of_aircraft (aircraft_by ρ s)
unfolding read_kind
aircraft_kind New s = refl
aircraft_kind Old s = refl

-- THE LAW: what a field is answered by its kind alone is its form's case
pub form_own : (k : ℕ) (s : List ℕ) → FormCase k s (field_number (read_kind k s))
form_own k s = go (is_for AIRCRAFT k) refl (has_form k s) refl
  where
    go : (a : Bool) → is_for AIRCRAFT k ≡ a → (b : Bool) → has_form k s ≡ b → FormCase k s (field_number (read_kind k s))
    go true x b q =
        let (ρ, e) = some_rule AIRCRAFT k x in
        let n : aircraft_answer (aircraft_by ρ s) ≡ field_number (read_kind k s) = aircraft_number (aircraft_by ρ s) ∙ sym (ap field_number (ap (λ j. read_kind j s) e ∙ aircraft_kind ρ s)) in
        Readings ρ e (subst (aircraft.Case ρ s) n (aircraft_answer_lem ρ s))
    go false x true q = subst (FormCase k s) (sym (kind_number k s x ∙ rw q)) (Formed (no_rule AIRCRAFT k x) q)
    go false x false q = subst (FormCase k s) (sym (kind_number k s x ∙ rw q)) (Unformed (no_rule AIRCRAFT k x) q)

aircraft_one : {ρ : Rule} {s : List ℕ} {n m : ℕ} → aircraft.Case ρ s n → aircraft.Case ρ s m → n ≡ m
aircraft_one (aircraft.One a r u) (aircraft.One a' r' u') = refl
aircraft_one (aircraft.One a r u) (aircraft.NoOne f) = absurd (f a r)
aircraft_one (aircraft.NoOne f) (aircraft.One a r u) = absurd (f a r)
aircraft_one (aircraft.NoOne f) (aircraft.NoOne f') = refl

-- and a text is in one case of a form
pub form_one : {k : ℕ} {s : List ℕ} {n m : ℕ} → FormCase k s n → FormCase k s m → n ≡ m
form_one {s = s} {m = m} (Readings ρ e c) (Readings ρ' e' c') =
    aircraft_one c (subst (λ σ. aircraft.Case σ s m) (one_rule AIRCRAFT (λ q. omega (arith, q)) ρ' ρ (sym e' ∙ e)) c')
form_one (Readings ρ e c) (Formed x q) = absurd (x ρ e)
form_one (Readings ρ e c) (Unformed x q) = absurd (x ρ e)
form_one (Formed x q) (Readings ρ e c) = absurd (x ρ e)
form_one (Formed x q) (Formed x' q') = refl
form_one (Formed x q) (Unformed x' q') = true_false q q'
form_one (Unformed x q) (Readings ρ e c) = absurd (x ρ e)
form_one (Unformed x q) (Formed x' q') = true_false q' q
form_one (Unformed x q) (Unformed x' q') = refl

-- ---- after the fields before it: p is what the one before left, m the marks

-- a number
pub in_number : (p m : ℕ) (s : List ℕ) → field_number (read_in AMENDMENT p m s) ≡ cond (eqb (mark_of s) 0) 10 (cond (eqb (bit_and m (mark_of s)) 0) 0 10)
unfolding read_in follows read_mark barred
in_number p m s = go (eqb (mark_of s) 0) refl (eqb (bit_and m (mark_of s)) 0) refl
  where
    go : (b : Bool) → eqb (mark_of s) 0 ≡ b → (c : Bool) → eqb (bit_and m (mark_of s)) 0 ≡ c
        → field_number (read_in AMENDMENT p m s) ≡ cond (eqb (mark_of s) 0) 10 (cond (eqb (bit_and m (mark_of s)) 0) 0 10)
    go true q true r = rw (r, q)
    go true q false r = rw (r, q)
    go false q true r = rw (r, q)
    go false q false r = rw (r, q)

-- the time of FZ and UZ
pub in_time : (p m : ℕ) (s : List ℕ) → field_number (read_in PLAN_TIME p m s) ≡ cond (is_time s) (cond (eqb (get_or s 0 0) (code "E")) (cond (eqb p 1) 0 9) 0) 9
unfolding read_in follows plain barred read_kind word_of is_form
in_time p m s = go (is_time s) refl (eqb (get_or s 0 0) (code "E")) refl (eqb p 1) refl
  where
    go : (b : Bool) → is_time s ≡ b → (c : Bool) → eqb (get_or s 0 0) (code "E") ≡ c → (d : Bool) → eqb p 1 ≡ d
        → field_number (read_in PLAN_TIME p m s) ≡ cond (is_time s) (cond (eqb (get_or s 0 0) (code "E")) (cond (eqb p 1) 0 9) 0) 9
    go true q true r true w = rw (q, r, w)
    go true q true r false w = rw (q, r, w)
    go true q false r d w = rw (q, r)
    go false q true r true w = rw (q, r, w)
    go false q true r false w = rw (q, r, w)
    go false q false r d w = rw (q, r)

-- a content, and any other field
pub in_content : (ρ : Rule) (p m : ℕ) (s : List ℕ) → read_in (kind_by ρ CONTENT) p m s ≡ read_kind (kind_by ρ (content_of p)) s
unfolding read_in follows plain
in_content New p m s = refl
in_content Old p m s = refl

pub in_plain : (k p m : ℕ) (s : List ℕ) → eqb k AMENDMENT ≡ false → is_content k ≡ false → eqb k PLAN_TIME ≡ false → read_in k p m s ≡ read_kind k s
unfolding read_in follows plain
in_plain k p m s x y z = let n = not_for CONTENT k y in rw (x, z, n.0, n.1)

-- what a number and a fix leave
pub number_left : (s : List ℕ) → trace_of AMENDMENT s ≡ mark_of s
unfolding trace_of
number_left s = refl

pub fix_left : (s : List ℕ) → eqb (trace_of FIX s) 1 ≡ is_position s
unfolding trace_of
fix_left s = go (is_position s) refl
  where
    go : (b : Bool) → is_position s ≡ b → eqb (trace_of FIX s) 1 ≡ is_position s
    go true q = rw q
    go false q = rw q

-- a time's form is its kind's
pub time_form : (s : List ℕ) → has_form TIME s ≡ is_time s
unfolding has_form is_form
time_form s = refl
