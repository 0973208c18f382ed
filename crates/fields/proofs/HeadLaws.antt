-- THE LAWS of a head's parts, once for every part of either rule: a text of its form and the number that it is kept as give each other, it is as long
-- as the part, and printable. Assumes nothing.
use Rattle.std.specs.Prelude.{Some}
use mathlib.Core.Path.{◌≡◌, refl, sym, ap, ◌∙◌}
use mathlib.Core.Bool.{Bool, true, false, ◌||◌}
use mathlib.Core.List.{List, [], ◌∷◌}
use Prim.Native.Char.{code}
use Prim.Native.Nat.{ℕ, ◌≤◌, ◌^◌}
use native.Mathlib.Omega.{arith}
use lib.Dec.{leb, ltb, eqb, lit≤}
use lib.ListN.{length}
use borrow.Author.Tests.{le-leb, leb-true, eqb-true}
use Rattle.text.specs.Bytes.{bytes}
use Rattle.text.specs.Class.{all, is_digit, is_letter, is_alnum, is_text_byte}
use Rattle.text.specs.Place.{value, in_range, all_in}
use Rattle.text.specs.Text.{packed, text_of, is_text}
use Rattle.text.proofs.Logic.{and_left, and_right, true_false, not_fails, either_of}
use Rattle.text.proofs.Laws.{text_packed, packed_text}
use Rattle.shapes.specs.Pieces.{pieces}
use Rattle.shapes.specs.Picture.{is_of, fits, fits_any, one_of}
use Rattle.shapes.proofs.Laws.{fits_length}
use Rattle.rules.specs.Form.{is_stamp, is_old_stamp, is_facility}
use Rattle.rules.specs.Kind.{SEQUENCE, STAMP, OLD_STAMP, LETTER, is_form}
use Rattle.rules.specs.declared.Rule.{Rule}
use Rattle.rules.specs.declared.Rule.TheVariants.{New, Old}
use Rattle.rules.proofs.Held.{form_held}
use Rattle.fields.specs.Facility.{facility_of, facility_text, is_facility_value}
use Rattle.fields.specs.Head.{Part, sequence_in, stamp_in, facility_in}
use Rattle.fields.specs.Word.{is_word}
use Rattle.fields.specs.declared.heads.Facility.{Facility}
use Rattle.fields.proofs.FacilityLaws.{facility_sound, facility_complete, facility_length}
use Rattle.fields.proofs.WordLaws.{form_word, word_form, word_packed}

-- every byte is in a wider class
pub all_wider : (f g : ℕ → Bool) → ((b : ℕ) → f b ≡ true → g b ≡ true) → (s : List ℕ) → all f s ≡ true → all g s ≡ true
unfolding all
all_wider f g h [] e = refl
all_wider f g h (b ∷ s) e = rw (h b (and_left (f b) (all f s) e), all_wider f g h s (and_right (f b) (all f s) e))

-- what is asked of a part
pub record Lawful (p : Part) : Type 0 where
  pub long : (s : List ℕ) → p.form s ≡ true → length s ≡ p.size
  pub clean : (s : List ℕ) → p.form s ≡ true → all_in 32 126 s ≡ true
  pub back : (s : List ℕ) → p.form s ≡ true → (p.shown (p.kept s) ≡ s) × (p.held (p.kept s) ≡ true)
  pub forth : (n : ℕ) → p.held n ≡ true → (p.form (p.shown n) ≡ true) × (p.kept (p.shown n) ≡ n)

-- ---- printable bytes

printable_byte : (b : ℕ) → is_text_byte b ≡ true → in_range 32 126 b ≡ true
unfolding is_text_byte is_alnum is_digit is_letter
printable_byte b =
    either_of (is_alnum b) (eqb b 47) (either_of (is_digit b) (is_letter b) (between 48 57 (lit≤ tt) (lit≤ tt)) (between 65 90 (lit≤ tt) (lit≤ tt)))
    (λ e. rw (eqb-true b 47 e))
  where
    between : (lo hi : ℕ) → 32 ≤ lo → hi ≤ 126 → in_range lo hi b ≡ true → in_range 32 126 b ≡ true
    between lo hi h k e =
        rw (
          le-leb 32 b (omega (arith, leb-true lo b (and_left (leb lo b) (leb b hi) e))),
          le-leb b 126 (omega (arith, leb-true b hi (and_right (leb lo b) (leb b hi) e))),
        )

text_printable : (s : List ℕ) → is_text s ≡ true → all_in 32 126 s ≡ true
unfolding is_text all_in
text_printable s e = all_wider is_text_byte (in_range 32 126) printable_byte s (and_right (leb (length s) 12) (all is_text_byte s) e)

-- ---- a part that is kept as its word

word_lawful : (n k : ℕ) → ((s : List ℕ) → is_form k s ≡ true → length s ≡ n) → Lawful (record { size = n; form = is_form k; kept = packed; shown = text_of; held = is_word k })
word_lawful n k l = record {
  long = l;
  clean = λ s e. text_printable s (form_held k s e).text;
  back = λ s e. (text_packed s (form_held k s e).text, form_word k s e);
  forth = λ t e. (word_form k t e, packed_text t (word_packed k t e));
}

sequence_long : (s : List ℕ) → is_form SEQUENCE s ≡ true → length s ≡ 4
unfolding is_form
sequence_long s e = fits_length (bytes "hhhh") s e

stamp_long : (s : List ℕ) → is_form STAMP s ≡ true → length s ≡ 8
unfolding is_form is_stamp
stamp_long s e = fits_length (bytes "dddddddd") s (not_fails _ (λ q. true_false (rw q at e) refl))

old_stamp_long : (s : List ℕ) → is_form OLD_STAMP s ≡ true → length s ≡ 6
unfolding is_form is_old_stamp
old_stamp_long s e = fits_length (bytes "dddddd") s (not_fails _ (λ q. true_false (rw q at e) refl))

letter_long : (s : List ℕ) → is_form LETTER s ≡ true → length s ≡ 1
unfolding is_form
letter_long s e = fits_length (bytes "l") s e

-- ---- a facility: each of its pictures is spaces and alnum

spaced : ℕ → Bool
spaced k = eqb k (code "a") || eqb k 32

spaced_byte : (k b : ℕ) → spaced k ≡ true → is_of k b ≡ true → in_range 32 126 b ≡ true
unfolding spaced is_of is_text_byte
spaced_byte k b h e =
    either_of (eqb k (code "a")) (eqb k 32)
    (λ q. let z : is_alnum b ≡ true = rw (eqb-true k (code "a") q) at e in printable_byte b (rw z))
    (λ q. let z : eqb b 32 ≡ true = rw (eqb-true k 32 q) at e in rw (eqb-true b 32 z)) h

spaced_printable : (p s : List ℕ) → all spaced p ≡ true → fits p s ≡ true → all_in 32 126 s ≡ true
unfolding all fits all_in
spaced_printable [] [] h e = refl
spaced_printable [] (b ∷ s) h e = true_false e refl
spaced_printable (k ∷ p) [] h e = true_false e refl
spaced_printable (k ∷ p) (b ∷ s) h e =
    rw (
      spaced_byte k b (and_left (spaced k) (all spaced p) h) (and_left (is_of k b) (fits p s) e),
      spaced_printable p s (and_right (spaced k) (all spaced p) h) (and_right (is_of k b) (fits p s) e),
    )

facility_printable : (s : List ℕ) → is_facility s ≡ true → all_in 32 126 s ≡ true
unfolding one_of pieces fits_any all spaced
facility_printable s =
    either_of (fits (bytes "aaaa") s) _ (spaced_printable (bytes "aaaa") s refl)
    (either_of (fits (bytes " aaa") s) _ (spaced_printable (bytes " aaa") s refl)
    (either_of (fits (bytes "  aa") s) _ (spaced_printable (bytes "  aa") s refl)
    (either_of (fits (bytes "   a") s) false (spaced_printable (bytes "   a") s refl) (λ e. true_false e refl))))

-- a text that is a facility, and its value
facility_of_lem : (s : List ℕ) → is_facility s ≡ true → (facility_text (value 256 4 s) ≡ s) × (is_facility_value (value 256 4 s) ≡ true)
unfolding facility_of
facility_of_lem s e = let k = facility_sound s (record { 0 = value 256 4 s }) (rw e) in (k.1, k.2)

facility_back : (f : ℕ) → is_facility_value f ≡ true → (is_facility (facility_text f) ≡ true) × (value 256 4 (facility_text f) ≡ f)
unfolding facility_of is_facility_value
facility_back f e =
    let h = and_right (ltb f (256 ^ 4)) (is_facility (facility_text f)) e in
    let r = facility_complete (record { 0 = f }) e in
    let z : Some (record { 0 = value 256 4 (facility_text f) }) ≡ Some (record { 0 = f }) = rw h at r in
    (h, ap (λ (g : Facility). g.0) (cc))

-- ---- what is not there

none_long : (s : List ℕ) → eqb (length s) 0 ≡ true → [] ≡ s
none_long [] e = refl
none_long (x ∷ s) e = absurd (omega (arith, eqb-true (length (x ∷ s)) 0 e))

-- ---- THE LAWS

pub sequence_lawful : (ρ : Rule) → Lawful (sequence_in ρ)
unfolding is_text all
sequence_lawful New = word_lawful 4 SEQUENCE sequence_long
sequence_lawful Old = record {
  long = λ s e. eqb-true (length s) 0 e;
  clean = λ s e. ap (all_in 32 126) (sym (none_long s e)) ∙ none_clean;
  back = λ s e. (none_long s e, refl);
  forth = λ n e. (refl, sym (eqb-true n 0 e));
}
  where
    none_clean : all_in 32 126 [] ≡ true
    none_clean = text_printable [] refl

pub stamp_lawful : (ρ : Rule) → Lawful (stamp_in ρ)
stamp_lawful New = word_lawful 8 STAMP stamp_long
stamp_lawful Old = word_lawful 6 OLD_STAMP old_stamp_long

pub facility_lawful : (ρ : Rule) → Lawful (facility_in ρ)
facility_lawful New = record { long = facility_length; clean = facility_printable; back = facility_of_lem; forth = facility_back }
facility_lawful Old = word_lawful 1 LETTER letter_long
