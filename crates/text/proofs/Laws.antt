-- THE LAWS of short texts: a text and its number give each other. What `pack`, `size` and `put` find and do. Assumes nothing.
use Rattle.std.specs.Prelude.{Err, None, Ok, Some}
use mathlib.Core.Path.{◌≡◌, refl, sym, ap, ◌∙◌}
use mathlib.Core.Bool.{Bool, true, false, not}
use mathlib.Core.List.{List, [], ◌∷◌, map}
use Prim.Native.Nat.{ℕ, ◌+◌, ◌-◌, ◌^◌, ◌≤◌, ◌<◌}
use native.Mathlib.Omega.{arith}
use lib.Dec.{leb, ltb, lit≤}
use lib.ListN.{length, take, drop, length-map}
use lib.Seq.{take_at}
use borrow.Author.Tests.{lt-ltb, le-leb, lt-leb, leb-true, leb-false, ltb-true}
use Rattle.text.specs.Class.{all, is_text_byte}
use Rattle.text.specs.Code.{code_of, byte_of}
use Rattle.text.specs.Place.{value, digits, tight, all_in}
use Rattle.text.specs.Text.{packed, text_of, is_text, is_packed, size_of, has_room, spliced, written_next, written_bytes}
use Rattle.text.proofs.Logic.{and_left, and_right, so, not_so, same_test}
use Rattle.text.proofs.Codes.{code_byte, byte_code, text_all}
use Rattle.text.proofs.Places.{all_in_cons, digits_value, tight_value, value_lt, value_digits, digits_in, length_digits}
use Rattle.text.specs.declared.NotWritten.{NotWritten}
use Rattle.text.specs.declared.NotWritten.TheVariants.{NoRoom, NoText}

codes_bytes : (ds : List ℕ) → all_in 1 37 ds ≡ true → map code_of (map byte_of ds) ≡ ds
codes_bytes [] e = refl
codes_bytes (d ∷ ds) e =
    let p = all_in_cons 1 37 d ds e in
    rw (code_byte d p.0 p.1, codes_bytes ds p.2)

bytes_codes : (s : List ℕ) → all_in 1 37 (map code_of s) ≡ true → map byte_of (map code_of s) ≡ s
bytes_codes [] e = refl
bytes_codes (b ∷ s) e =
    let p = all_in_cons 1 37 (code_of b) (map code_of s) e in
    rw (byte_code b p.0, bytes_codes s p.2)

pub text_length : (s : List ℕ) → is_text s ≡ true → length s ≤ 12
unfolding is_text
text_length s e = leb-true (length s) 12 (and_left (leb (length s) 12) (all is_text_byte s) e)

pub text_codes : (s : List ℕ) → is_text s ≡ true → all_in 1 37 (map code_of s) ≡ true
unfolding is_text
text_codes s e = sym (text_all s) ∙ and_right (leb (length s) 12) (all is_text_byte s) e

pub packed_small : (n : ℕ) → is_packed n ≡ true → n < 38 ^ 12
unfolding is_packed
packed_small n e = ltb-true n (38 ^ 12) (and_left (ltb n (38 ^ 12)) (tight 38 12 n) e)

pub packed_tight : (n : ℕ) → is_packed n ≡ true → tight 38 12 n ≡ true
unfolding is_packed
packed_tight n e = and_right (ltb n (38 ^ 12)) (tight 38 12 n) e

-- ---- the round trips

-- the text of a text's number is the text
pub text_packed : (s : List ℕ) → is_text s ≡ true → text_of (packed s) ≡ s
unfolding text_of packed
text_packed s e =
    rw (digits_value 38 37 (lit≤ tt) 12 (map code_of s) (rw length-map (text_length s e)) (text_codes s e)) (bytes_codes s (text_codes s e))

-- a text's number is the number of a text
pub packed_is : (s : List ℕ) → is_text s ≡ true → is_packed (packed s) ≡ true
unfolding is_packed packed
packed_is s e =
    rw (tight_value 38 37 (lit≤ tt) 12 (map code_of s) (text_codes s e), lt-ltb (value 38 12 (map code_of s)) (38 ^ 12) (value_lt 38 37 (lit≤ tt) 1 12 (map code_of s) (text_codes s e)))

-- the number of such a number's text is the number
pub packed_text : (n : ℕ) → is_packed n ≡ true → packed (text_of n) ≡ n
unfolding text_of packed
packed_text n e =
    rw (codes_bytes (digits 38 12 n) (digits_in 38 37 (lit≤ tt) 12 n (lit≤ tt) (packed_small n e) (packed_tight n e)))
    (value_digits 38 37 (lit≤ tt) 12 n (packed_small n e))

-- and its text is a text
pub text_is : (n : ℕ) → is_packed n ≡ true → is_text (text_of n) ≡ true
unfolding text_of is_text
text_is n e =
    let h = digits_in 38 37 (lit≤ tt) 12 n (lit≤ tt) (packed_small n e) (packed_tight n e) in
    rw (text_all (map byte_of (digits 38 12 n)), codes_bytes (digits 38 12 n) h, h, length-map, le-leb (length (digits 38 12 n)) 12 (length_digits 38 12 n))

-- two texts with one number are one text
pub packed_one : (s t : List ℕ) → is_text s ≡ true → is_text t ≡ true → packed s ≡ packed t → s ≡ t
packed_one s t p q e = sym (text_packed s p) ∙ ap text_of e ∙ text_packed t q

-- ---- what `size` finds

pub size_known : (t : ℕ) {n : ℕ} → size_of t ≡ Some n → (is_packed t ≡ true) × (n ≡ length (text_of t))
unfolding size_of
size_known t {n} e = go (is_packed t) refl
  where
    go : (b : Bool) → is_packed t ≡ b → (is_packed t ≡ true) × (n ≡ length (text_of t))
    go true q = (q, (cc))
    go false q = ((cc), (cc))

pub size_none : (t : ℕ) → size_of t ≡ None → is_packed t ≡ false
unfolding size_of
size_none t e = go (is_packed t) refl
  where
    go : (b : Bool) → is_packed t ≡ b → is_packed t ≡ false
    go true q = cc
    go false q = q

-- ---- what a writer answers and leaves, of any bytes vs

-- n bytes from place `at` fit in all exactly if they fit in what is left from there
pub room_left : (n len at : ℕ) → at ≤ len → leb n (len - at) ≡ leb (at + n) len
room_left n len at h =
    same_test (leb n (len - at)) (leb (at + n) len) (λ e. le-leb (at + n) len (omega (arith, leb-true n (len - at) e)))
    (λ e. le-leb n (len - at) (omega (arith, leb-true (at + n) len e)))

module _ (vs out : List ℕ) (at : ℕ) where
  pub no_text : {ok : Bool} → ok ≡ false → ((Err NoText) ≡ written_next ok vs out at) × (out ≡ written_bytes ok vs out at)
  unfolding written_next written_bytes
  no_text e = (rw e, rw e)

  pub no_room : {ok : Bool} → ok ≡ true → length out < at + length vs → ((Err NoRoom) ≡ written_next ok vs out at) × (out ≡ written_bytes ok vs out at)
  unfolding written_next written_bytes has_room
  no_room e h = let f = lt-leb (at + length vs) (length out) h in (rw (e, f), rw (e, f))

  pub has_room_lem : {ok : Bool} → ok ≡ true → at + length vs ≤ length out → (Ok (at + length vs) ≡ written_next ok vs out at) × (spliced out at vs ≡ written_bytes ok vs out at)
  unfolding written_next written_bytes has_room
  has_room_lem e h = let f = le-leb (at + length vs) (length out) h in (rw (e, f), rw (e, f))

  -- the same from what `has_room` answered for n, the size of vs
  module _ {n : ℕ} {r : Bool} (size : n ≡ length vs) (told : r ≡ leb (at + n) (length out)) where
    pub no_room_told : {ok : Bool} → ok ≡ true → not r ≡ true → ((Err NoRoom) ≡ written_next ok vs out at) × (out ≡ written_bytes ok vs out at)
    no_room_told e f = no_room e (omega (arith, leb-false (at + n) (length out) (not_so told f)))

    pub room_told : not r ≡ false → at + length vs ≤ length out
    room_told f = omega (arith, leb-true (at + n) (length out) (so told f))

  pub next_known : {ok : Bool} {n : ℕ} → written_next ok vs out at ≡ Ok n → (ok ≡ true) × (n ≡ at + length vs) × (at + length vs ≤ length out)
  unfolding written_next has_room
  next_known {ok} {n} e = go ok refl (leb (at + length vs) (length out)) refl
    where
      go : (b : Bool) → ok ≡ b → (d : Bool) → leb (at + length vs) (length out) ≡ d → (ok ≡ true) × (n ≡ at + length vs) × (at + length vs ≤ length out)
      go true q true z = (q, (cc), leb-true (at + length vs) (length out) z)
      go true q false z = let f : (Err NoRoom) ≡ Ok n = rw (q, z) at e in ((cc), (cc), absurd (let z : ◌≡◌ {A = ℕ} 0 1 = cc in omega arith))
      go false q d z = let f : (Err NoText) ≡ Ok n = rw q at e in ((cc), (cc), absurd (let z : ◌≡◌ {A = ℕ} 0 1 = cc in omega arith))

  pub no_room_known : {ok : Bool} → written_next ok vs out at ≡ Err NoRoom → (ok ≡ true) × (length out < at + length vs)
  unfolding written_next has_room
  no_room_known {ok} e = go ok refl (leb (at + length vs) (length out)) refl
    where
      go : (b : Bool) → ok ≡ b → (d : Bool) → leb (at + length vs) (length out) ≡ d → (ok ≡ true) × (length out < at + length vs)
      go true q true z = let f : Ok (at + length vs) ≡ Err NoRoom = rw (q, z) at e in ((cc), absurd (let z : ◌≡◌ {A = ℕ} 0 1 = cc in omega arith))
      go true q false z = (q, leb-false (at + length vs) (length out) z)
      go false q d z = let f : (Err NoText) ≡ Err NoRoom = rw q at e in ((cc), absurd (let z : ◌≡◌ {A = ℕ} 0 1 = cc in omega arith))

  pub no_text_known : {ok : Bool} → written_next ok vs out at ≡ Err NoText → ok ≡ false
  unfolding written_next has_room
  no_text_known {ok} e = go ok refl (leb (at + length vs) (length out)) refl
    where
      go : (b : Bool) → ok ≡ b → (d : Bool) → leb (at + length vs) (length out) ≡ d → ok ≡ false
      go true q true z = let f : Ok (at + length vs) ≡ Err NoText = rw (q, z) at e in cc
      go true q false z = let f : (Err NoRoom) ≡ Err NoText = rw (q, z) at e in cc
      go false q d z = q

-- a text written at the start of twelve bytes stands there, and has room
module _ (t n : ℕ) (room last : List ℕ) (twelve : length room ≡ 12) (told : written_next (is_packed t) (text_of t) room 0 ≡ Ok n) (is : last ≡ written_bytes (is_packed t) (text_of t) room 0) where
  pub shown_packed : is_packed t ≡ true
  shown_packed = (next_known (text_of t) room 0 told).0

  pub shown_size : n ≡ length (text_of t)
  shown_size = omega (arith, (next_known (text_of t) room 0 told).1)

  pub shown_text : take n last ≡ text_of t
  unfolding spliced
  shown_text =
      let k = next_known (text_of t) room 0 told in
      let w = (has_room_lem (text_of t) room 0 k.0 k.2).1 in
      rw (is, ← w) (take_at (text_of t) (drop (0 + length (text_of t)) room) n (sym shown_size))

pub text_short : (t : ℕ) → is_packed t ≡ true → length (text_of t) ≤ 12
text_short t e = text_length (text_of t) (text_is t e)

-- twelve bytes have room for every text
pub twelve_room : (t : ℕ) (room : List ℕ) → length room ≡ 12 → written_next (is_packed t) (text_of t) room 0 ≡ Err NoRoom → ⊥
twelve_room t room h e = let k = no_room_known (text_of t) room 0 e in omega (arith, text_short t k.0, k.1)

-- twelve bytes have room for any text, so what is not written there has none
pub twelve_unwritten : (t : ℕ) (room : List ℕ) (e : NotWritten) → length room ≡ 12 → written_next (is_packed t) (text_of t) room 0 ≡ Err e → is_packed t ≡ false
twelve_unwritten t room NoText h e = no_text_known (text_of t) room 0 e
twelve_unwritten t room NoRoom h e = absurd (twelve_room t room h e)
