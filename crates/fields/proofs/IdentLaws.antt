-- THE LAWS of idents: reading is sound and complete, and the ways of the readers. Assumes nothing.
use Rattle.std.specs.Prelude.{None, Option, Some, MatchOption}
use Rattle.std.specs.Bool.{then_some}
use mathlib.Core.Path.{◌≡◌, refl, sym, ap, ◌∙◌}
use mathlib.Core.Bool.{Bool, true, false, cond, not, ◌&&◌, or-false, or-true}
use mathlib.Core.List.{List}
use Prim.Native.Nat.{ℕ, ◌≤◌}
use native.Mathlib.Omega.{arith}
use lib.Dec.{eqb}
use lib.ListN.{length}
use borrow.Author.Tests.{le-leb, ne_eqb}
use Rattle.text.specs.Text.{packed}
use Rattle.text.proofs.Logic.{and_right, true_false, not_holds}
use Rattle.shapes.specs.Cut.{has, before, after, joins}
use Rattle.shapes.proofs.Joins.{no_cut, whole_has, whole_after}
use Rattle.rules.specs.Form.{is_key, is_number, is_ident, is_tz_ident}
use Rattle.rules.specs.Kind.{KEY, NUMBER, is_form}
use Rattle.rules.proofs.Held.{form_held}
use Rattle.fields.specs.Pair.{slash, is_pair_form, pair_of, pair_text, is_pair, is_pair_text}
use Rattle.fields.proofs.PairLaws.{packed_none, packed_some, pair_sound, pair_complete}
use Rattle.fields.specs.Ident.{ident_from, ident_of, tz_ident_of, ident_text, is_ident_value}
use Rattle.fields.specs.declared.idents.Ident.{Ident}
use Rattle.fields.proofs.Slashes.{key_slashless, ident_short}

-- a key that is cut is none
cut_key : (s : List ℕ) → has slash s ≡ true → is_key s ≡ false
unfolding is_form
cut_key s q = not_holds (is_key s) (λ e. true_false q (whole_has slash s (key_slashless s e)))

pub ident_form : (s : List ℕ) → is_pair_form KEY NUMBER s ≡ is_ident s
unfolding is_pair_form is_form is_ident is_tz_ident joins
ident_form s = go (has slash s) refl
  where
    go : (t : Bool) → has slash s ≡ t → is_pair_form KEY NUMBER s ≡ is_ident s
    go true q = rw (q, cut_key s q)
    go false q = rw (q, or-false)

abbrev pub as_ident : Option (ℕ × ℕ) → Option Ident
as_ident (Some (k, n)) = Some (record { key = record { 0 = k }; number = record { 0 = n } })
as_ident None = None

pub ident_as : (s : List ℕ) → as_ident (pair_of KEY NUMBER s) ≡ ident_of s
unfolding pair_of ident_of ident_from
ident_as s = rw ident_form (go (is_ident s))
  where
    go : (t : Bool) → as_ident (cond t (Some (packed (before slash s), packed (after slash s))) None) ≡ cond t (Some (ident_from s)) None
    go true = refl
    go false = refl

abbrev pub as_tz : Option (ℕ × ℕ) → Option Ident
as_tz (Some (k, n)) = cond (eqb n 0) None (Some (record { key = record { 0 = k }; number = record { 0 = n } }))
as_tz None = None

pub tz_as : (s : List ℕ) → as_tz (pair_of KEY NUMBER s) ≡ tz_ident_of s
unfolding pair_of tz_ident_of ident_from is_pair_form is_form is_tz_ident joins
tz_as s = go (has slash s) refl
  where
    go : (t : Bool) → has slash s ≡ t → as_tz (pair_of KEY NUMBER s) ≡ tz_ident_of s
    go true q = rw q (inner (is_key (before slash s) && is_number (after slash s)) refl)
      where
        inner : (t : Bool) → (is_key (before slash s) && is_number (after slash s)) ≡ t → as_tz (cond (is_key (before slash s) && is_number (after slash s)) (Some (packed (before slash s), packed (after slash s))) None) ≡ cond (is_key (before slash s) && is_number (after slash s)) (Some (ident_from s)) None
        inner true e =
            let h = form_held NUMBER (after slash s) (and_right (is_key (before slash s)) (is_number (after slash s)) e) in
            rw (e, ne_eqb (packed (after slash s)) 0 (packed_some (after slash s) h.text h.some))
        inner false e = rw e
    go false q = rw q (inner (is_key s))
      where
        inner : (t : Bool) → as_tz (cond t (Some (packed (before slash s), packed (after slash s))) None) ≡ None
        inner true = rw (whole_after slash s (no_cut slash s q), packed_none)
        inner false = refl

-- an ident that has a number
abbrev with_number : Option Ident → Option Ident
with_number (Some i) = cond (eqb i.number.0 0) None (Some i)
with_number None = None

tz_of_ident : (s : List ℕ) → with_number (ident_of s) ≡ tz_ident_of s
tz_of_ident s = ap with_number (sym (ident_as s)) ∙ go (pair_of KEY NUMBER s) ∙ tz_as s
  where
    go : (q : Option (ℕ × ℕ)) → with_number (as_ident q) ≡ as_tz q
    go (Some (k, n)) = refl
    go None = refl

-- the ident that was read, kept where a test of its number says so
pub tz_filtered : (s : List ℕ) (r : Option Ident) (P : Ident → Bool → Type 0) (q : Option Ident) → q ≡ ident_of s
    → MatchOption q (r ≡ None) (λ i. (b : Bool) × P i b × (r ≡ then_some b i)) → ((i : Ident) (b : Bool) → P i b → b ≡ not (eqb i.number.0 0)) → r ≡ tz_ident_of s
tz_filtered s r P (Some i) e p f = p.2 ∙ rw (f i p.0 p.1) (go (eqb i.number.0 0) refl) ∙ ap with_number e ∙ tz_of_ident s
  where
    go : (t : Bool) → eqb i.number.0 0 ≡ t → then_some (not (eqb i.number.0 0)) i ≡ with_number (Some i)
    go true z = rw z
    go false z = rw z
tz_filtered s r P None e p f = p ∙ ap with_number e ∙ tz_of_ident s

-- ---- THE LAWS

-- what reads has the form, its text is what was read, and it is a value that some text gives
pub ident_sound : (s : List ℕ) (i : Ident) → ident_of s ≡ Some i → (is_ident s ≡ true) × (ident_text i ≡ s) × (is_ident_value i ≡ true)
ident_sound s i e =
    let p = pair_sound KEY NUMBER s (held (pair_of KEY NUMBER s) (ident_as s ∙ e)) in
    (sym (ident_form s) ∙ p.0, p.1, p.2)
  where
    held : (q : Option (ℕ × ℕ)) → as_ident q ≡ Some i → q ≡ Some (i.key.0, i.number.0)
    held (Some (k, n)) f = let z : record { key = record { 0 = k }; number = record { 0 = n } } ≡ i = cc in ap (λ (j : Ident). Some (j.key.0, j.number.0)) z
    held None f = cc

-- the text of every such value reads as it
pub ident_complete : (i : Ident) → is_ident_value i ≡ true → ident_of (ident_text i) ≡ Some i
ident_complete i e = sym (ident_as (ident_text i)) ∙ ap as_ident (pair_complete KEY NUMBER key_slashless i.key.0 i.number.0 e)

-- a TZ's ident is an ident with a number
pub tz_sound : (s : List ℕ) (i : Ident) → tz_ident_of s ≡ Some i → (is_tz_ident s ≡ true) × (ident_of s ≡ Some i)
unfolding tz_ident_of ident_of is_ident
tz_sound s i e = go (is_tz_ident s) refl
  where
    go : (t : Bool) → is_tz_ident s ≡ t → (is_tz_ident s ≡ true) × (ident_of s ≡ Some i)
    go true q = (q, rw (q, or-true) (rw q at e))
    go false q = let z : None ≡ Some i = rw q at e in ((cc), (cc))

-- and the text of every ident with a number reads as it
pub tz_complete : (i : Ident) → is_ident_value i ≡ true → eqb i.number.0 0 ≡ false → tz_ident_of (ident_text i) ≡ Some i
tz_complete i e q = sym (tz_as (ident_text i)) ∙ ap as_tz (pair_complete KEY NUMBER key_slashless i.key.0 i.number.0 e) ∙ rw q

-- ---- writing

pub ident_writes : (a b : ℕ) → is_pair_text KEY NUMBER a b ≡ is_pair KEY NUMBER a b
unfolding is_pair_text
ident_writes a b = go (is_pair KEY NUMBER a b) refl
  where
    go : (t : Bool) → is_pair KEY NUMBER a b ≡ t → is_pair_text KEY NUMBER a b ≡ is_pair KEY NUMBER a b
    go true q = let h : length (pair_text a b) ≤ 12 = omega (arith, ident_short a b q) in rw (q, le-leb (length (pair_text a b)) 12 h)
    go false q = rw q
