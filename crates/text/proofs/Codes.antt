-- The laws of codes: a byte and its code give each other, and a class of bytes is a range of codes. Assumes nothing.
use mathlib.Core.Path.{◌≡◌, refl, sym, ap₂, ◌∙◌}
use mathlib.Core.Bool.{Bool, true, false, ◌&&◌, ◌||◌, beq}
use mathlib.Core.List.{List, [], ◌∷◌, ◌++◌, map}
use Prim.Native.Nat.{ℕ, ◌-◌, ◌≤◌, ◌<◌}
use native.Mathlib.Omega.{arith}
use lib.Dec.{leb, eqb, lit≤}
use borrow.Author.Tests.{le-leb, lt-leb, eq-eqb, ne_eqb, leb-true, leb-false, eqb-true}
use Rattle.text.specs.Class.{all, is_digit, is_letter, is_alnum, is_text_byte}
use Rattle.text.specs.Code.{code_of, byte_of}
use Rattle.text.specs.Place.{in_range, all_in}
use Rattle.text.specs.Number.{is_digit_to}
use Rattle.text.proofs.Logic.{and_left, and_right, or_second, beq_eq, below, below_at}

-- ---- the code of a byte, range by range

module _ (b : ℕ) where
  pub code_slash : b ≡ 47 → code_of b ≡ 37
  unfolding code_of is_digit is_letter
  code_slash e = simp (lt-leb 48 b (omega arith), lt-leb 65 b (omega arith), eq-eqb b 47 e)

  pub code_low : b < 48 → (b ≡ 47 → ⊥) → code_of b ≡ 0
  unfolding code_of is_digit is_letter
  code_low h n = simp (lt-leb 48 b h, lt-leb 65 b (omega arith), ne_eqb b 47 n)

  pub code_digit : 48 ≤ b → b ≤ 57 → code_of b ≡ b - 47
  unfolding code_of is_digit
  code_digit h k = simp (le-leb 48 b h, le-leb b 57 k)

  pub code_between : 57 < b → b < 65 → code_of b ≡ 0
  unfolding code_of is_digit is_letter
  code_between h k = simp (le-leb 48 b (omega arith), lt-leb b 57 h, lt-leb 65 b k, ne_eqb b 47 (λ e. omega arith))

  pub code_letter : 65 ≤ b → b ≤ 90 → code_of b ≡ b - 54
  unfolding code_of is_digit is_letter
  code_letter h k = simp (le-leb 48 b (omega arith), lt-leb b 57 (omega arith), le-leb 65 b h, le-leb b 90 k)

  pub code_high : 90 < b → code_of b ≡ 0
  unfolding code_of is_digit is_letter
  code_high h = simp (le-leb 48 b (omega arith), lt-leb b 57 (omega arith), le-leb 65 b (omega arith), lt-leb b 90 (omega arith), ne_eqb b 47 (λ e. omega arith))

-- ---- there and back

back : ℕ → Bool
back b = eqb (code_of b) 0 || eqb (byte_of (code_of b)) b

back_all : below back 91 ≡ true
unfolding back code_of byte_of is_digit is_letter
back_all = refl

small : ℕ → Bool
small b = leb (code_of b) 37

small_all : below small 91 ≡ true
unfolding small code_of is_digit is_letter
small_all = refl

forth : ℕ → Bool
forth d = eqb d 0 || eqb (code_of (byte_of d)) d

forth_all : below forth 38 ≡ true
unfolding forth code_of byte_of is_digit is_letter
forth_all = refl

pub code_le : (b : ℕ) → code_of b ≤ 37
unfolding small
code_le b = go (leb b 90) refl
  where
    go : (t : Bool) → leb b 90 ≡ t → code_of b ≤ 37
    go true q = leb-true (code_of b) 37 (below_at small 91 small_all b (omega (arith, leb-true b 90 q)))
    go false q = omega (arith, code_high b (leb-false b 90 q))

pub byte_code : (b : ℕ) → 1 ≤ code_of b → byte_of (code_of b) ≡ b
unfolding back
byte_code b h = go (leb b 90) refl
  where
    go : (t : Bool) → leb b 90 ≡ t → byte_of (code_of b) ≡ b
    go true q =
        eqb-true (byte_of (code_of b)) b
        (or_second (eqb (code_of b) 0) (eqb (byte_of (code_of b)) b)
        (below_at back 91 back_all b (omega (arith, leb-true b 90 q)))
        (ne_eqb (code_of b) 0 (λ e. omega arith)))
    go false q = absurd (omega (arith, code_high b (leb-false b 90 q)))

pub code_byte : (d : ℕ) → 1 ≤ d → d ≤ 37 → code_of (byte_of d) ≡ d
unfolding forth
code_byte d h k =
    eqb-true (code_of (byte_of d)) d
    (or_second (eqb d 0) (eqb (code_of (byte_of d)) d) (below_at forth 38 forth_all d (omega arith)) (ne_eqb d 0 (λ e. omega arith)))

-- ---- a class of bytes is a range of codes

-- a class of two lists is a class of both with a byte of it between them
pub all_between : (f : ℕ → Bool) (x : List ℕ) (b : ℕ) (y : List ℕ) → f b ≡ true → all f x ≡ true → all f y ≡ true → all f (x ++ b ∷ y) ≡ true
unfolding all
all_between f [] b y h c d = rw (h, d)
all_between f (a ∷ x) b y h c d = rw (and_left (f a) (all f x) c, all_between f x b y h (and_right (f a) (all f x) c) d)

-- where it is so of each byte, it is so of a list
pub class_all : (f : ℕ → Bool) (lo hi : ℕ) → ((b : ℕ) → f b ≡ in_range lo hi (code_of b)) → (s : List ℕ) → all f s ≡ all_in lo hi (map code_of s)
unfolding all all_in
class_all f lo hi one [] = refl
class_all f lo hi one (b ∷ s) = ap₂ (λ (x y : Bool). x && y) (one b) (class_all f lo hi one s)

-- it is so of each byte by a test that antt computes up to Z; above Z no byte is in the class
by_test : (f : ℕ → Bool) (lo hi : ℕ) → 1 ≤ lo → below (λ b. beq (f b) (in_range lo hi (code_of b))) 91 ≡ true → ((b : ℕ) → 90 < b → f b ≡ false) → (b : ℕ) → f b ≡ in_range lo hi (code_of b)
by_test f lo hi pos low high b = go (leb b 90) refl
  where
    go : (t : Bool) → leb b 90 ≡ t → f b ≡ in_range lo hi (code_of b)
    go true q = beq_eq (f b) (in_range lo hi (code_of b)) (below_at (λ b. beq (f b) (in_range lo hi (code_of b))) 91 low b (omega (arith, leb-true b 90 q)))
    go false q = high b (leb-false b 90 q) ∙ rw (code_high b (leb-false b 90 q), lt-leb lo 0 pos)

digit_is : (b : ℕ) → is_digit b ≡ in_range 1 10 (code_of b)
unfolding is_digit is_letter code_of
digit_is = by_test is_digit 1 10 (lit≤ tt) refl (λ b h. rw (lt-leb b 57 (omega arith), le-leb 48 b (omega arith)))

pub alnum_is : (b : ℕ) → is_alnum b ≡ in_range 1 36 (code_of b)
unfolding is_alnum is_digit is_letter code_of
alnum_is = by_test is_alnum 1 36 (lit≤ tt) refl (λ b h. rw (lt-leb b 57 (omega arith), lt-leb b 90 h, le-leb 48 b (omega arith), le-leb 65 b (omega arith)))

pub text_byte_is : (b : ℕ) → is_text_byte b ≡ in_range 1 37 (code_of b)
unfolding is_text_byte is_alnum is_digit is_letter code_of
text_byte_is =
    by_test is_text_byte 1 37 (lit≤ tt) refl
    (λ b h. rw (lt-leb b 57 (omega arith), lt-leb b 90 h, le-leb 48 b (omega arith), le-leb 65 b (omega arith), ne_eqb b 47 (λ e. omega arith)))

pub text_some : (b : ℕ) → is_text_byte b ≡ true → 1 ≤ code_of b
text_some b e = leb-true 1 (code_of b) (and_left (leb 1 (code_of b)) (leb (code_of b) 37) (sym (text_byte_is b) ∙ e))

pub alnum_all : (s : List ℕ) → all is_alnum s ≡ all_in 1 36 (map code_of s)
alnum_all = class_all is_alnum 1 36 alnum_is

pub text_all : (s : List ℕ) → all is_text_byte s ≡ all_in 1 37 (map code_of s)
text_all = class_all is_text_byte 1 37 text_byte_is

pub digits_all : (B : ℕ) (s : List ℕ) → all (is_digit_to B) s ≡ all_in 1 B (map code_of s)
unfolding is_digit_to
digits_all B = class_all (is_digit_to B) 1 B (λ b. refl)

-- the digits 0 to 9 are the digits to the base 10
pub digits_same : (s : List ℕ) → all is_digit s ≡ all (is_digit_to 10) s
digits_same s = class_all is_digit 1 10 digit_is s ∙ sym (digits_all 10 s)
