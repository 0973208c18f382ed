-- A name, a number and a byte written one after the other; the lines that are made of them. Assumes nothing.
use mathlib.Core.Path.{◌≡◌, refl, sym, ap, ◌∙◌}
use mathlib.Core.Bool.{true}
use mathlib.Core.List.{List, [], ◌∷◌, ◌++◌, append_assoc}
use Prim.Native.Nat.{ℕ, ◌+◌, ◌≤◌, ◌<◌}
use native.Mathlib.Omega.{arith}
use lib.ListN.{length, set, length-append}
use Rattle.text.specs.Bytes.{bytes}
use Rattle.text.specs.Text.{spliced, written_bytes}
use Rattle.text.proofs.Laws.{has_room_lem}
use Rattle.text.proofs.Splice.{length-spliced, spliced_next, next_store}
use Rattle.rules.specs.Frame.{line_feed}
use Rattle.printer.specs.RowText.{space, line_text}
use Rattle.text.specs.Decimal.{decimal}
use Rattle.printer.specs.Text.{counts_text}
use Rattle.printer.specs.Asks.{counted}

-- ---- how long they are

pub counted_size : (name : List ℕ) (n after : ℕ) → length (counted name n after) ≡ length name + length (decimal n) + 1
unfolding counted
counted_size name n after = omega (arith, length-append (name ++ decimal n) (after ∷ []), length-append name (decimal n))

-- ---- what `put_count` writes

module _ (name out : List ℕ) (n after at : ℕ) (room : at + length (counted name n after) ≤ length out) where
  fits : at + length name + length (decimal n) + 1 ≤ length out
  fits = omega (arith, counted_size name n after)

  -- the digits end inside the buffer
  pub digits_end : {w : ℕ} → w ≡ length (decimal n) → at + length name + w + 1 ≤ length out
  digits_end e = omega (arith, fits)

  module _ {w : ℕ} {o₁ o₂ : List ℕ} (size : w ≡ length (decimal n)) (w₁ : o₁ ≡ written_bytes true name out at) (w₂ : o₂ ≡ written_bytes true (decimal n) o₁ (at + length name)) where
    first : o₁ ≡ spliced out at name
    first = w₁ ∙ sym (has_room_lem name out at refl (omega (arith, fits))).1

    same : length o₁ ≡ length out
    same = ap length first ∙ length-spliced out name at (omega (arith, fits))

    both : o₂ ≡ spliced out at (name ++ decimal n)
    both =
        let here : at + length name + length (decimal n) ≤ length o₁ = omega (arith, fits, same) in
        w₂ ∙ sym (has_room_lem (decimal n) o₁ (at + length name) refl here).1 ∙ rw first (spliced_next out name (decimal n) at (omega (arith, fits)))

    pub after_inside : at + length name + w < length o₂
    after_inside =
        let long = length-append name (decimal n) in
        omega (arith, fits, ap length both, length-spliced out (name ++ decimal n) at (omega (arith, fits, long)))

    pub count_ends : at + length name + w + 1 ≡ at + length (counted name n after)
    count_ends = omega (arith, counted_size name n after)

    pub count_wrote : set o₂ (at + length name + w) after ≡ spliced out at (counted name n after)
    unfolding counted
    count_wrote =
        let z : at + length name + w ≡ at + length (name ++ decimal n) = omega (arith, length-append name (decimal n)) in
        let h : at + length (name ++ decimal n) < length out = omega (arith, fits, length-append name (decimal n)) in
        rw (both, z) (next_store out (name ++ decimal n) at after h)

-- ---- the lines

pub flights_line : (n : ℕ) → line_text (bytes "FLIGHTS" ∷ decimal n ∷ []) ≡ counted (bytes "FLIGHTS ") n line_feed
unfolding line_text counted
flights_line n = refl

pub counts_line : (lines taken : ℕ) → counts_text lines taken ≡ counted (bytes "LINES ") lines space ++ counted (bytes "TAKEN ") taken line_feed
unfolding counts_text line_text counted
counts_line lines taken = rw (append_assoc (decimal lines) (space ∷ []) (bytes "TAKEN " ++ decimal taken ++ line_feed ∷ []))

pub counts_size : (lines taken : ℕ) → length (counts_text lines taken) ≡ 14 + length (decimal lines) + length (decimal taken)
counts_size lines taken =
    omega (
      arith,
      ap length (counts_line lines taken),
      length-append (counted (bytes "LINES ") lines space) (counted (bytes "TAKEN ") taken line_feed),
      counted_size (bytes "LINES ") lines space,
      counted_size (bytes "TAKEN ") taken line_feed,
    )

-- ---- two texts, one after the other

module _ (out vs us : List ℕ) (at : ℕ) (room : at + length (vs ++ us) ≤ length out) {j : ℕ} {o : List ℕ} (ends : j ≡ at + length vs) (is : o ≡ spliced out at vs) where
  pub first_fits : at + length vs ≤ length out
  first_fits = omega (arith, length-append vs us)

  pub next_fits : j + length us ≤ length o
  next_fits = omega (arith, length-append vs us, ap length is, length-spliced out vs at first_fits)

  pub next_wrote : {o' : List ℕ} → o' ≡ spliced o j us → o' ≡ spliced out at (vs ++ us)
  next_wrote w = w ∙ rw (is, ends) (spliced_next out vs us at first_fits)
