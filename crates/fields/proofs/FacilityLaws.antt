-- THE LAWS of facilities: reading is sound and complete; the ways of the functions. Assumes nothing.
use Rattle.std.specs.Prelude.{None, Some}
use mathlib.Core.Path.{◌≡◌, refl, ap, ◌∙◌}
use mathlib.Core.Bool.{Bool, true, false, ◌&&◌, ◌||◌}
use mathlib.Core.List.{List, [], ◌∷◌}
use Prim.Native.Char.{code}
use Prim.Native.Nat.{ℕ, ◌/◌, ◌%◌, ◌^◌, ◌≤◌, ◌<◌, zero-le}
use native.Mathlib.Omega.{arith}
use lib.Dec.{leb, ltb, eqb, lit≤}
use lib.ListN.{length}
use borrow.Author.Tests.{lt-ltb, ltb-true, leb-true, eqb-true}
use Rattle.text.specs.Bytes.{bytes}
use Rattle.text.specs.Class.{all, is_digit, is_letter, is_alnum}
use Rattle.text.specs.Place.{value, places, all_in}
use Rattle.text.proofs.Logic.{and_left, and_right, true_false, either_of}
use Rattle.text.proofs.Places.{value_lt, places_value, value_places, length-places, all_in_more}
use Rattle.shapes.specs.Pieces.{pieces}
use Rattle.shapes.specs.Picture.{is_of, fits, fits_any, one_of}
use Rattle.shapes.proofs.Laws.{fits_length}
use Rattle.rules.specs.Form.{is_facility}
use Rattle.fields.specs.Facility.{facility_of, facility_text, is_facility_value}
use Rattle.fields.specs.declared.heads.Facility.{Facility}

-- ---- its bytes are bytes

spaced : ℕ → Bool
spaced k = eqb k (code "a") || eqb k 32

alnum_small : (b : ℕ) → is_alnum b ≡ true → b ≤ 255
unfolding is_alnum is_digit is_letter
alnum_small b =
    either_of (leb 48 b && leb b 57) (leb 65 b && leb b 90) (λ e. omega (arith, leb-true b 57 (and_right (leb 48 b) (leb b 57) e)))
    (λ e. omega (arith, leb-true b 90 (and_right (leb 65 b) (leb b 90) e)))

small_byte : (k b : ℕ) → spaced k ≡ true → is_of k b ≡ true → b ≤ 255
unfolding spaced is_of
small_byte k b h e =
    either_of (eqb k (code "a")) (eqb k 32) (λ q. alnum_small b (rw (eqb-true k (code "a") q) at e))
    (λ q. let z : eqb b 32 ≡ true = rw (eqb-true k 32 q) at e in omega (arith, eqb-true b 32 z)) h

fits_small : (p s : List ℕ) → all spaced p ≡ true → fits p s ≡ true → all_in 0 255 s ≡ true
unfolding all fits all_in
fits_small [] [] h e = refl
fits_small [] (b ∷ s) h e = true_false e refl
fits_small (k ∷ p) [] h e = true_false e refl
fits_small (k ∷ p) (b ∷ s) h e =
    all_in_more 0 255 b s zero-le (small_byte k b (and_left (spaced k) (all spaced p) h) (and_left (is_of k b) (fits p s) e))
    ∙ fits_small p s (and_right (spaced k) (all spaced p) h) (and_right (is_of k b) (fits p s) e)

-- what follows of each of its pictures follows of a facility
each : {X : Type 0} (s : List ℕ) → ((p : List ℕ) → length p ≡ 4 → all spaced p ≡ true → fits p s ≡ true → X) → is_facility s ≡ true → X
unfolding one_of pieces fits_any all spaced
each s f =
    either_of (fits (bytes "aaaa") s) _ (f (bytes "aaaa") refl refl)
    (either_of (fits (bytes " aaa") s) _ (f (bytes " aaa") refl refl)
    (either_of (fits (bytes "  aa") s) _ (f (bytes "  aa") refl refl)
    (either_of (fits (bytes "   a") s) false (f (bytes "   a") refl refl) (λ e. true_false e refl))))

pub facility_length : (s : List ℕ) → is_facility s ≡ true → length s ≡ 4
facility_length s = each s (λ p l h e. fits_length p s e ∙ l)

facility_bytes : (s : List ℕ) → is_facility s ≡ true → all_in 0 255 s ≡ true
facility_bytes s = each s (λ p l h e. fits_small p s h e)

-- ---- the four bytes of a number

pub places_four : (n : ℕ) → n < 256 ^ 4 → n / 16777216 % 256 ∷ n / 65536 % 256 ∷ n / 256 % 256 ∷ n % 256 ∷ [] ≡ facility_text n
unfolding facility_text places
places_four n h =
    let a : n / 16777216 % 256 ≡ n / 256 ^ 3 = omega arith in
    let b : n / 65536 % 256 ≡ n % 256 ^ 3 / 256 ^ 2 = omega arith in
    let c : n / 256 % 256 ≡ n % 256 ^ 3 % 256 ^ 2 / 256 ^ 1 = omega arith in
    let d : n % 256 ≡ n % 256 ^ 3 % 256 ^ 2 % 256 ^ 1 / 256 ^ 0 = omega arith in
    rw (a, b, c, d)

-- ---- THE LAWS

facility_value : (s : List ℕ) → is_facility s ≡ true → (facility_text (value 256 4 s) ≡ s) × (is_facility_value (value 256 4 s) ≡ true)
unfolding facility_text is_facility_value
facility_value s e =
    let b = facility_bytes s e in
    let t = places_value 256 255 (lit≤ tt) 4 s (facility_length s e) b in
    (t, rw (t, e, lt-ltb (value 256 4 s) (256 ^ 4) (value_lt 256 255 (lit≤ tt) 0 4 s b)))

-- what reads has the form, its text is what was read, and it is a value that some text gives
pub facility_sound : (s : List ℕ) (f : Facility) → facility_of s ≡ Some f → (is_facility s ≡ true) × (facility_text f.0 ≡ s) × (is_facility_value f.0 ≡ true)
unfolding facility_of
facility_sound s f e = go (is_facility s) refl
  where
    go : (t : Bool) → is_facility s ≡ t → (is_facility s ≡ true) × (facility_text f.0 ≡ s) × (is_facility_value f.0 ≡ true)
    go true q =
        let z : Some (record { 0 = value 256 4 s }) ≡ Some f = rw q at e in
        let y : value 256 4 s ≡ f.0 = ap (λ (g : Facility). g.0) (cc) in
        let h = facility_value s q in
        (q, rw (← y) h.0, rw (← y) h.1)
    go false q = let z : None ≡ Some f = rw q at e in ((cc), (cc), (cc))

pub facility_small : (n : ℕ) → is_facility_value n ≡ true → n < 256 ^ 4
unfolding is_facility_value
facility_small n e = ltb-true n (256 ^ 4) (and_left (ltb n (256 ^ 4)) (is_facility (facility_text n)) e)

-- the text of every such value reads as it
pub facility_complete : (f : Facility) → is_facility_value f.0 ≡ true → facility_of (facility_text f.0) ≡ Some f
unfolding facility_of is_facility_value facility_text
facility_complete f e =
    rw (and_right (ltb f.0 (256 ^ 4)) (is_facility (facility_text f.0)) e, value_places 256 255 (lit≤ tt) 4 f.0 (facility_small f.0 e))

-- ---- writing

pub length-facility : (n : ℕ) → length (facility_text n) ≡ 4
unfolding facility_text
length-facility n = length-places 256 4 n
