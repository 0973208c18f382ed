-- THE LAWS of message types: the reader finds the type whose letters were given; the ways of the functions. Assumes nothing.
use Rattle.std.specs.Prelude.{None, Option, Some}
use mathlib.Core.Path.{◌≡◌, refl, sym, ◌∙◌}
use mathlib.Core.Bool.{Bool, true, false, cond, ◌&&◌}
use mathlib.Core.List.{List, [], ◌∷◌}
use Prim.Native.Nat.{ℕ, ◌+◌, ◌*◌, ◌/◌, ◌%◌, ◌<◌}
use native.Mathlib.Omega.{arith}
use lib.Dec.{eqb, lit≤}
use lib.ListN.{length, get_or}
use borrow.Author.Tests.{eq-eqb, eqb-true}
use Rattle.text.specs.Place.{value}
use Rattle.text.proofs.Logic.{and_left, and_right, same_test, true_false}
use Rattle.shapes.specs.Picture.{is_of, fits}
use Rattle.shapes.proofs.Laws.{fits_apart}
use Rattle.fields.specs.MessageType.{type_text, type_number, type_of}
use Rattle.fields.specs.declared.heads.MessageType.{MessageType}
use Rattle.fields.specs.declared.heads.MessageType.TheVariants.{Af, Az, Dz, Fz, Rz, Tz, Uz, Rt, To, Hb}

-- the type with that number
abbrev pub type_by : ℕ → Option MessageType
type_by n =
    cond (eqb n (type_number Af)) (Some Af)
    (cond (eqb n (type_number Az)) (Some Az)
    (cond (eqb n (type_number Dz)) (Some Dz)
    (cond (eqb n (type_number Fz)) (Some Fz)
    (cond (eqb n (type_number Rz)) (Some Rz)
    (cond (eqb n (type_number Tz)) (Some Tz)
    (cond (eqb n (type_number Uz)) (Some Uz)
    (cond (eqb n (type_number Rt)) (Some Rt)
    (cond (eqb n (type_number To)) (Some To)
    (cond (eqb n (type_number Hb)) (Some Hb) None)))))))))

-- two bytes are two letters exactly if their number is the letters' number
two_eq : (a b x y : ℕ) → b < 256 → y < 256 → (eqb a x && (eqb b y && true)) ≡ eqb (a * 256 + b) (x * 256 + y)
two_eq a b x y h k =
    same_test (eqb a x && (eqb b y && true)) (eqb (a * 256 + b) (x * 256 + y))
    (λ e. eq-eqb (a * 256 + b) (x * 256 + y) (omega (arith, eqb-true a x (and_left (eqb a x) (eqb b y && true) e), eqb-true b y (and_left (eqb b y) true (and_right (eqb a x) (eqb b y && true) e)))))
    (λ e. let s = eqb-true (a * 256 + b) (x * 256 + y) e in rw (eq-eqb a x (omega arith), eq-eqb b y (omega arith)))

-- a text of two letters fits by its number
letters_fit : (a b : ℕ) → b < 256 → (t : MessageType) → fits (type_text t) (a ∷ b ∷ []) ≡ eqb (a * 256 + b) (type_number t)
unfolding fits is_of value
letters_fit a b h Af = two_eq a b 65 70 h (lit≤ tt)
letters_fit a b h Az = two_eq a b 65 90 h (lit≤ tt)
letters_fit a b h Dz = two_eq a b 68 90 h (lit≤ tt)
letters_fit a b h Fz = two_eq a b 70 90 h (lit≤ tt)
letters_fit a b h Rz = two_eq a b 82 90 h (lit≤ tt)
letters_fit a b h Tz = two_eq a b 84 90 h (lit≤ tt)
letters_fit a b h Uz = two_eq a b 85 90 h (lit≤ tt)
letters_fit a b h Rt = two_eq a b 82 84 h (lit≤ tt)
letters_fit a b h To = two_eq a b 84 79 h (lit≤ tt)
letters_fit a b h Hb = two_eq a b 72 66 h (lit≤ tt)

pub type_at : (s : List ℕ) → length s ≡ 2 → get_or s 1 0 < 256 → (n : ℕ) → n ≡ get_or s 0 0 * 256 + get_or s 1 0 → type_by n ≡ type_of s
unfolding type_of
type_at [] e h n z = absurd (omega arith)
type_at (a ∷ []) e h n z = absurd (omega arith)
type_at (a ∷ b ∷ []) e h n z =
    let f = letters_fit a b h in
    rw (z, f Af, f Az, f Dz, f Fz, f Rz, f Tz, f Uz, f Rt, f To, f Hb)
type_at (a ∷ b ∷ c ∷ s) e h n z = absurd (omega arith)

pub type_apart : (s : List ℕ) → (length s ≡ 2 → ⊥) → None ≡ type_of s
unfolding type_of
type_apart s h =
    let f : (t : MessageType) → length (type_text t) ≡ 2 → fits (type_text t) s ≡ false = λ t l. fits_apart (type_text t) s (λ e. h (sym e ∙ l)) in
    rw (f Af refl, f Az refl, f Dz refl, f Fz refl, f Rz refl, f Tz refl, f Uz refl, f Rt refl, f To refl, f Hb refl)

-- ---- THE LAWS

-- the letters of every type read as that type
pub type_complete : (t : MessageType) → type_of (type_text t) ≡ Some t
unfolding type_of fits is_of
type_complete Af = refl
type_complete Az = refl
type_complete Dz = refl
type_complete Fz = refl
type_complete Rz = refl
type_complete Tz = refl
type_complete Uz = refl
type_complete Rt = refl
type_complete To = refl
type_complete Hb = refl

-- two letters that stand for themselves fit only themselves
letters_same : (x y : ℕ) → ((b : ℕ) → is_of x b ≡ eqb b x) → ((b : ℕ) → is_of y b ≡ eqb b y) → (s : List ℕ) → fits (x ∷ y ∷ []) s ≡ true → x ∷ y ∷ [] ≡ s
unfolding fits
letters_same x y f g [] e = true_false e refl
letters_same x y f g (a ∷ []) e = true_false (and_right (is_of x a) false e) refl
letters_same x y f g (a ∷ b ∷ []) e =
    let p = eqb-true a x (sym (f a) ∙ and_left (is_of x a) (is_of y b && true) e) in
    let q = eqb-true b y (sym (g b) ∙ and_left (is_of y b) true (and_right (is_of x a) (is_of y b && true) e)) in
    rw (p, q)
letters_same x y f g (a ∷ b ∷ c ∷ s) e = true_false (and_right (is_of y b) false (and_right (is_of x a) (is_of y b && false) e)) refl

type_same : (t : MessageType) (s : List ℕ) → fits (type_text t) s ≡ true → type_text t ≡ s
unfolding is_of
type_same Af = letters_same 65 70 (λ b. refl) (λ b. refl)
type_same Az = letters_same 65 90 (λ b. refl) (λ b. refl)
type_same Dz = letters_same 68 90 (λ b. refl) (λ b. refl)
type_same Fz = letters_same 70 90 (λ b. refl) (λ b. refl)
type_same Rz = letters_same 82 90 (λ b. refl) (λ b. refl)
type_same Tz = letters_same 84 90 (λ b. refl) (λ b. refl)
type_same Uz = letters_same 85 90 (λ b. refl) (λ b. refl)
type_same Rt = letters_same 82 84 (λ b. refl) (λ b. refl)
type_same To = letters_same 84 79 (λ b. refl) (λ b. refl)
type_same Hb = letters_same 72 66 (λ b. refl) (λ b. refl)

-- what reads has the letters of the type that was read
pub type_sound : (s : List ℕ) (t : MessageType) → type_of s ≡ Some t → type_text t ≡ s
unfolding type_of
type_sound s t = one Af (one Az (one Dz (one Fz (one Rz (one Tz (one Uz (one Rt (one To (one Hb (λ e. none e))))))))))
  where
    none : None ≡ Some t → type_text t ≡ s
    none e = absurd (let z : ◌≡◌ {A = ℕ} 0 1 = cc in omega arith)

    pass : (b : Bool) (x : MessageType) (r : Option MessageType) → (b ≡ true → type_text x ≡ s) → (r ≡ Some t → type_text t ≡ s) → cond b (Some x) r ≡ Some t → type_text t ≡ s
    pass true x r f g e = let z : x ≡ t = cc in rw (← z) (f refl)
    pass false x r f g e = g e

    one : (x : MessageType) {r : (Option MessageType)} → (r ≡ Some t → type_text t ≡ s) → cond (fits (type_text x) s) (Some x) r ≡ Some t → type_text t ≡ s
    one x {r} g e = pass (fits (type_text x) s) x r (type_same x s) g e

-- ---- writing

pub length-type : (t : MessageType) → length (type_text t) ≡ 2
length-type Af = refl
length-type Az = refl
length-type Dz = refl
length-type Fz = refl
length-type Rz = refl
length-type Tz = refl
length-type Uz = refl
length-type Rt = refl
length-type To = refl
length-type Hb = refl

letters_text : (t : MessageType) → type_number t / 256 % 256 ∷ type_number t % 256 ∷ [] ≡ type_text t
unfolding value
letters_text Af = refl
letters_text Az = refl
letters_text Dz = refl
letters_text Fz = refl
letters_text Rz = refl
letters_text Tz = refl
letters_text Uz = refl
letters_text Rt = refl
letters_text To = refl
letters_text Hb = refl

-- the two bytes of a type's number are its letters
pub type_letters : (t : MessageType) {n : ℕ} → n ≡ type_number t → n / 256 % 256 ∷ n % 256 ∷ [] ≡ type_text t
type_letters t e = rw e (letters_text t)
