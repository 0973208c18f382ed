-- Every field of a kind is a short text, with a byte at least, so that it can be held as its text and none is held as 0.
-- Assumes nothing.
use mathlib.Core.Path.{◌≡◌, refl, ap}
use mathlib.Core.Bool.{Bool, true, false, ◌&&◌, ◌||◌}
use mathlib.Core.List.{List, [], ◌∷◌}
use Prim.Native.Char.{code}
use Prim.Native.Nat.{ℕ, ◌+◌, ◌≤◌, ◌<◌}
use native.Mathlib.Omega.{arith}
use lib.Dec.{leb, eqb, lit≤}
use lib.ListN.{length, length-append}
use borrow.Author.Tests.{le-leb, leb-true, eqb-true}
use Rattle.text.specs.Bytes.{bytes}
use Rattle.text.specs.Class.{all, is_digit, is_letter, is_alnum, is_text_byte}
use Rattle.text.specs.Text.{is_text}
use Rattle.text.proofs.Logic.{and_left, and_right, true_false, not_fails, not_holds, either_of, pick, pick_with}
use Rattle.text.proofs.Codes.{all_between}
use Rattle.shapes.specs.Pieces.{pieces}
use Rattle.shapes.specs.Picture.{either, is_of, fits, pictures, fits_any, one_of, run, part}
use Rattle.shapes.specs.Cut.{before, after, joins}
use Rattle.shapes.proofs.Laws.{fits_length, run_least, run_most, run_class}
use Rattle.shapes.proofs.Joins.{joins_parts}
use Rattle.rules.specs.Form.{is_sequence, is_stamp, is_old_stamp, is_key, is_number, is_prefix, is_model, is_one_letter, is_filed_speed, is_ground_speed, is_point, is_fix, is_clock, is_time, is_arrival, is_height, is_block, is_level, is_track_level, is_position}
use Rattle.rules.specs.Kind.{SEQUENCE, STAMP, OLD_STAMP, KEY, NUMBER, PREFIX, MODEL, LETTER, FILED_SPEED, GROUND_SPEED, POINT, FIX, TIME, CLOCK, ARRIVAL, LEVEL, TRACK_LEVEL, POSITION, is_form}

pub record Held (s : List ℕ) : Type 0 where
  pub text : is_text s ≡ true
  pub some : 0 < length s

-- ---- bytes

or_first : (a b : Bool) → a ≡ true → (a || b) ≡ true
or_first a b e = rw e

or_last : (a b : Bool) → b ≡ true → (a || b) ≡ true
or_last true b e = refl
or_last false b e = e

digit_text : (b : ℕ) → is_digit b ≡ true → is_text_byte b ≡ true
unfolding is_text_byte is_alnum
digit_text b e = rw e

letter_text : (b : ℕ) → is_letter b ≡ true → is_text_byte b ≡ true
unfolding is_text_byte is_alnum
letter_text b e = or_first (is_digit b || is_letter b) (eqb b 47) (or_last (is_digit b) (is_letter b) e)

alnum_text : (b : ℕ) → is_alnum b ≡ true → is_text_byte b ≡ true
unfolding is_text_byte
alnum_text b e = rw e

this_text : (x b : ℕ) → is_text_byte x ≡ true → eqb b x ≡ true → is_text_byte b ≡ true
this_text x b h e = rw (eqb-true b x e) h

two_text : (x y b : ℕ) → is_text_byte x ≡ true → is_text_byte y ≡ true → either x y b ≡ true → is_text_byte b ≡ true
two_text x y b h k = either_of (eqb b x) (eqb b y) (this_text x b h) (this_text y b k)

hex_text : (b : ℕ) → (leb (code "A") b && leb b (code "F")) ≡ true → is_text_byte b ≡ true
unfolding is_letter
hex_text b e =
    letter_text b
    (rw (
      and_left (leb (code "A") b) (leb b (code "F")) e,
      le-leb b 90 (omega (arith, leb-true b (code "F") (and_right (leb (code "A") b) (leb b (code "F")) e))),
    ))

-- the letters of a picture that stand for bytes of texts alone
textual : ℕ → Bool
textual k =
    eqb k (code "d") || eqb k (code "l") || eqb k (code "a") || eqb k (code "h") || eqb k (code "n") || eqb k (code "e") || eqb k (code "t") || eqb k (code "m")
    || is_text_byte k

of_text : (k b : ℕ) → textual k ≡ true → is_of k b ≡ true → is_text_byte b ≡ true
unfolding is_of textual is_text_byte is_alnum is_digit is_letter
of_text k b h =
    pick_with (eqb k (code "d")) (is_digit b) _ (λ _. digit_text b)
    (λ q₁. pick_with (eqb k (code "l")) (is_letter b) _ (λ _. letter_text b)
    (λ q₂. pick_with (eqb k (code "a")) (is_alnum b) _ (λ _. alnum_text b)
    (λ q₃. pick_with (eqb k (code "h")) (is_digit b || (leb (code "A") b && leb b (code "F"))) _ (λ _. either_of (is_digit b) (leb (code "A") b && leb b (code "F")) (digit_text b) (hex_text b))
    (λ q₄. pick_with (eqb k (code "n")) (either (code "N") (code "S") b) _ (λ _. two_text (code "N") (code "S") b refl refl)
    (λ q₅. pick_with (eqb k (code "e")) (either (code "E") (code "W") b) _ (λ _. two_text (code "E") (code "W") b refl refl)
    (λ q₆. pick_with (eqb k (code "t")) (eqb b (code "D") || either (code "E") (code "P") b) _ (λ _. either_of (eqb b (code "D")) (either (code "E") (code "P") b) (this_text (code "D") b refl) (two_text (code "E") (code "P") b refl refl))
    (λ q₇. pick_with (eqb k (code "m")) (either (code "A") (code "E") b) _ (λ _. two_text (code "A") (code "E") b refl refl)
    (λ q₈. pick_with (eqb k (code "v")) (leb 33 b && leb b 126) (eqb b k) (λ q e. let z : textual (code "v") ≡ true = rw (eqb-true k (code "v") q) at h in true_false z refl)
    (λ q₉. this_text k b (rw (q₁, q₂, q₃, q₄, q₅, q₆, q₇, q₈) at h))))))))))

all_text : (s : List ℕ) (f : ℕ → Bool) → ((b : ℕ) → f b ≡ true → is_text_byte b ≡ true) → all f s ≡ true → all is_text_byte s ≡ true
unfolding all
all_text [] f h e = refl
all_text (b ∷ s) f h e = rw (h b (and_left (f b) (all f s) e), all_text s f h (and_right (f b) (all f s) e))

held : (s : List ℕ) → 0 < length s → length s ≤ 12 → all is_text_byte s ≡ true → Held s
unfolding is_text
held s some short e = record { text = rw (le-leb (length s) 12 short, e); some = some }

-- ---- pictures, runs, joins

-- a picture of texts
suits : List ℕ → Bool
suits p = leb 1 (length p) && leb (length p) 12 && all textual p

fits_bytes : (p s : List ℕ) → all textual p ≡ true → fits p s ≡ true → all is_text_byte s ≡ true
unfolding fits all
fits_bytes [] [] h e = refl
fits_bytes [] (b ∷ s) h e = true_false e refl
fits_bytes (k ∷ p) [] h e = true_false e refl
fits_bytes (k ∷ p) (b ∷ s) h e =
    rw (
      of_text k b (and_left (textual k) (all textual p) h) (and_left (is_of k b) (fits p s) e),
      fits_bytes p s (and_right (textual k) (all textual p) h) (and_right (is_of k b) (fits p s) e),
    )

fits_held : (p s : List ℕ) → suits p ≡ true → fits p s ≡ true → Held s
unfolding suits
fits_held p s h e =
    let l = fits_length p s e in
    let k = and_left (leb 1 (length p) && leb (length p) 12) (all textual p) h in
    held s (omega (arith, leb-true 1 (length p) (and_left (leb 1 (length p)) (leb (length p) 12) k))) (omega (arith, leb-true (length p) 12 (and_right (leb 1 (length p)) (leb (length p) 12) k)))
    (fits_bytes p s (and_right (leb 1 (length p) && leb (length p) 12) (all textual p) h) e)

suit : List (List ℕ) → Bool
suit [] = true
suit (p ∷ ps) = suits p && suit ps

any_held : (ps : List (List ℕ)) (s : List ℕ) → suit ps ≡ true → fits_any ps s ≡ true → Held s
unfolding fits_any suit
any_held [] s h e = true_false e refl
any_held (p ∷ ps) s h e =
    either_of (fits p s) (fits_any ps s) (fits_held p s (and_left (suits p) (suit ps) h)) (any_held ps s (and_right (suits p) (suit ps) h)) e

one_held : (p s : List ℕ) → suit (pictures p) ≡ true → one_of p s ≡ true → Held s
unfolding one_of
one_held p s h e = any_held (pictures p) s h e

run_held : (k least most : ℕ) (s : List ℕ) → textual k ≡ true → 1 ≤ least → most ≤ 12 → run k least most s ≡ true → Held s
run_held k least most s h a b e =
    held s (omega (arith, run_least k least most s e)) (omega (arith, run_most k least most s e)) (all_text s (is_of k) (λ x. of_text k x h) (run_class k least most s e))

-- two runs of texts with a byte of texts between them
joins_held : (b k : ℕ) (l₁ m₁ l₂ m₂ : ℕ) (s : List ℕ) → is_text_byte b ≡ true → textual k ≡ true → m₁ + 1 + m₂ ≤ 12 → joins b (run k l₁ m₁) (run k l₂ m₂) s ≡ true → Held s
joins_held b k l₁ m₁ l₂ m₂ s h t few e =
    let j = joins_parts b (run k l₁ m₁) (run k l₂ m₂) s e in
    let whole = length-append (before b s) (b ∷ after b s) in
    let size = ap length j.0 in
    held s (omega (arith, whole, size)) (omega (arith, whole, size, run_most k l₁ m₁ (before b s) j.1, run_most k l₂ m₂ (after b s) j.2))
    (rw (← j.0) (all_between is_text_byte (before b s) b (after b s) h (bytes_of (before b s) l₁ m₁ j.1) (bytes_of (after b s) l₂ m₂ j.2)))
  where
    bytes_of : (x : List ℕ) (l m : ℕ) → run k l m x ≡ true → all is_text_byte x ≡ true
    bytes_of x l m d = all_text x (is_of k) (λ y. of_text k y t) (run_class k l m x d)

-- ---- each kind

-- the first of the tests that a form is made of
fix_held : (s : List ℕ) → is_fix s ≡ true → Held s
unfolding is_fix textual is_text_byte is_alnum is_digit is_letter
fix_held s =
    either_of (run (code "a") 2 11 s) (joins (code "/") (run (code "a") 2 5) (run (code "a") 1 6) s) (run_held (code "a") _ _ s refl (lit≤ tt) (lit≤ tt))
    (joins_held (code "/") (code "a") 2 5 1 6 s refl refl (lit≤ tt))

stamp_held : (s : List ℕ) → is_stamp s ≡ true → Held s
unfolding is_stamp suits textual all is_text_byte is_alnum is_digit is_letter
stamp_held s e = fits_held (bytes "dddddddd") s refl (not_fails _ (λ q. true_false (rw q at e) refl))

old_stamp_held : (s : List ℕ) → is_old_stamp s ≡ true → Held s
unfolding is_old_stamp suits textual all is_text_byte is_alnum is_digit is_letter
old_stamp_held s e = fits_held (bytes "dddddd") s refl (not_fails _ (λ q. true_false (rw q at e) refl))

key_held : (s : List ℕ) → is_key s ≡ true → Held s
unfolding is_key textual is_text_byte is_alnum is_digit is_letter
key_held s e = run_held (code "a") 2 7 s refl (lit≤ tt) (lit≤ tt) (not_fails _ (λ q. true_false (rw q at e) refl))

clock_held : (s : List ℕ) → is_clock s ≡ true → Held s
unfolding is_clock suits textual all is_text_byte is_alnum is_digit is_letter
clock_held s e = fits_held (bytes "dddd") s refl (not_fails _ (λ q. true_false (rw q at e) refl))

time_held : (s : List ℕ) → is_time s ≡ true → Held s
unfolding is_time suits textual all is_text_byte is_alnum is_digit is_letter
time_held s e = fits_held (bytes "tdddd") s refl (not_fails _ (λ q. true_false (rw q at e) refl))

arrival_held : (s : List ℕ) → is_arrival s ≡ true → Held s
unfolding is_arrival suits textual all is_text_byte is_alnum is_digit is_letter
arrival_held s =
    either_of (is_clock s) (fits (bytes "mdddd") s && is_clock (part 1 4 s)) (clock_held s)
    (λ e. fits_held (bytes "mdddd") s refl (and_left (fits (bytes "mdddd") s) (is_clock (part 1 4 s)) e))

level_held : (s : List ℕ) → is_level s ≡ true → Held s
unfolding is_level is_block textual is_text_byte is_alnum is_digit is_letter
level_held s =
    either_of (is_height s) (is_block s) (run_held (code "d") 2 3 s refl (lit≤ tt) (lit≤ tt))
    (λ e. joins_held (code "B") (code "d") 2 3 2 3 s refl refl (lit≤ tt) (not_fails _ (λ q. true_false (rw q at e) refl)))

position_held : (s : List ℕ) → is_position s ≡ true → Held s
unfolding is_position suits textual all is_text_byte is_alnum is_digit is_letter
position_held s e = fits_held (bytes "ddddn/ddddde") s refl (not_fails _ (λ q. true_false (rw q at e) refl))

-- THE LAW: one line for each kind
pub form_held : (k : ℕ) (s : List ℕ) → is_form k s ≡ true → Held s
unfolding is_form suits suit pieces textual all is_text_byte is_alnum is_digit is_letter
form_held k s =
    pick (eqb k SEQUENCE) (is_sequence s) _ (fits_held (bytes "hhhh") s refl)
    (pick (eqb k STAMP) (is_stamp s) _ (stamp_held s)
    (pick (eqb k OLD_STAMP) (is_old_stamp s) _ (old_stamp_held s)
    (pick (eqb k KEY) (is_key s) _ (key_held s)
    (pick (eqb k NUMBER) (is_number s) _ (fits_held (bytes "dda") s refl)
    (pick (eqb k PREFIX) (is_prefix s) _ (one_held (bytes "a|da") s refl)
    (pick (eqb k MODEL) (is_model s) _ (run_held (code "a") _ _ s refl (lit≤ tt) (lit≤ tt))
    (pick (eqb k LETTER) (is_one_letter s) _ (fits_held (bytes "l") s refl)
    (pick (eqb k FILED_SPEED) (is_filed_speed s) _ (one_held (bytes "dd|ddd|dddd|lddd|SC") s refl)
    (pick (eqb k GROUND_SPEED) (is_ground_speed s) _ (fits_held (bytes "ddd") s refl)
    (pick (eqb k POINT) (is_point s) _ (run_held (code "a") _ _ s refl (lit≤ tt) (lit≤ tt))
    (pick (eqb k FIX) (is_fix s) _ (fix_held s)
    (pick (eqb k TIME) (is_time s) _ (time_held s)
    (pick (eqb k CLOCK) (is_clock s) _ (clock_held s)
    (pick (eqb k ARRIVAL) (is_arrival s) _ (arrival_held s)
    (pick (eqb k LEVEL) (is_level s) _ (level_held s)
    (pick (eqb k TRACK_LEVEL) (is_track_level s) _ (one_held (bytes "ddd|dddl") s refl)
    (pick (eqb k POSITION) (is_position s) false (position_held s) (λ e. true_false e refl))))))))))))))))))

-- so no bytes have no form
pub no_bytes : (k : ℕ) → is_form k [] ≡ false
no_bytes k = not_holds (is_form k []) (λ e. absurd (omega (arith, (form_held k [] e).some)))
