-- The line of words, part by part: what is left from a part on, written after what stands before it. Assumes nothing.
use Rattle.std.specs.Prelude.{Err, None, Ok, Some}
use mathlib.Core.Path.{◌≡◌, refl, sym, ap, ◌∙◌}
use mathlib.Core.Bool.{Bool, true, false}
use mathlib.Core.List.{List, [], ◌∷◌, ◌++◌, append_assoc}
use Prim.Native.Nat.{ℕ, zero, suc, ◌+◌, ◌*◌, ◌≤◌, ◌<◌}
use native.Mathlib.Omega.{arith}
use lib.Dec.{eqb}
use lib.ListN.{length, get_or, set, drop, length-append, drop_of_length-le}
use borrow.Author.Tests.{eq-eqb, ne_eqb}
use Rattle.text.specs.Class.{all}
use Rattle.text.specs.Text.{text_of, is_packed, spliced, size_of, written_next, written_bytes}
use Rattle.text.proofs.Logic.{and_left, and_right, true_false}
use Rattle.text.proofs.Laws.{text_short, size_known, size_none, has_room_lem, next_known, no_room_known, no_text_known}
use Rattle.text.proofs.Splice.{spliced_next, set-spliced, next_store}
use Rattle.shapes.proofs.Laws.{next_byte}
use Rattle.rules.specs.Frame.{line_feed}
use Rattle.printer.specs.RowText.{space, hyphen, line_text}
use Rattle.printer.specs.Parts.{part_text, slip_text, SlipWords}
use Rattle.text.specs.declared.NotWritten.{NotWritten}
use Rattle.text.specs.declared.NotWritten.TheVariants.{NoRoom, NoText}

-- ---- one part

pub part_none : (w : ℕ) → w ≡ 0 → part_text w ≡ hyphen
unfolding part_text
part_none w e = rw (eq-eqb w 0 e)

pub part_some : (w : ℕ) → (w ≡ 0 → ⊥) → part_text w ≡ text_of w
unfolding part_text
part_some w e = rw (ne_eqb w 0 e)

part_short : (w : ℕ) → is_packed w ≡ true → length (part_text w) ≤ 12
unfolding part_text
part_short w e = go (eqb w 0) refl
  where
    go : (b : Bool) → eqb w 0 ≡ b → length (part_text w) ≤ 12
    go true q = rw q (omega arith)
    go false q = rw q (text_short w e)

-- ---- the ways of `part_size`

module _ (w : ℕ) (e : is_packed w ≡ true) (some : w ≡ 0 → ⊥) where
  pub size_some : {n : ℕ} → size_of w ≡ Some n → n ≡ length (part_text w)
  size_some told = (size_known w told).1 ∙ ap length (sym (part_some w some))

  pub size_never : {X : Type 0} → size_of w ≡ None → X
  size_never told = true_false e (size_none w told)

-- ---- the ways of `put_text`

module _ (w : ℕ) (out : List ℕ) (at : ℕ) (e : is_packed w ≡ true) (room : at + length (part_text w) ≤ length out) where
  pub put_none : w ≡ 0 → (at + 1 ≡ at + length (part_text w)) × (set out at 45 ≡ spliced out at (part_text w))
  put_none z =
      let t = part_none w z in
      let h : at < length out = omega (arith, ap length t) in
      (rw t, rw t (set-spliced out at 45 h))

  module _ (some : w ≡ 0 → ⊥) where
    fits : at + length (text_of w) ≤ length out
    fits = omega (arith, ap length (part_some w some))

    pub put_some : {n : ℕ} {o : List ℕ} → written_next (is_packed w) (text_of w) out at ≡ Ok n → o ≡ written_bytes (is_packed w) (text_of w) out at
        → (n ≡ at + length (part_text w)) × (o ≡ spliced out at (part_text w))
    put_some told is =
        let t = part_some w some in
        (rw t (next_known (text_of w) out at told).1, rw t (is ∙ sym (has_room_lem (text_of w) out at e fits).1))

    -- it is a text, and there is room
    pub put_never : {X : Type 0} (r : NotWritten) → written_next (is_packed w) (text_of w) out at ≡ Err r → X
    put_never NoRoom told = absurd (omega (arith, fits, (no_room_known (text_of w) out at told).1))
    put_never NoText told = true_false e (no_text_known (text_of w) out at told)

-- the byte after a part
pub put_after : (out vs : List ℕ) (at b : ℕ) {end : ℕ} {o : List ℕ} → at + length vs + 1 ≤ length out → end ≡ at + length vs → o ≡ spliced out at vs
    → set o end b ≡ spliced out at (vs ++ b ∷ [])
put_after out vs at b h ends is = rw (is, ends) (next_store out vs at b (omega arith))

-- ---- all parts

module _ (ws : List ℕ) (k : ℕ) where
  abbrev pub part : List ℕ
  part = part_text (get_or ws k 0)

  -- what is left after it
  abbrev pub rest : List ℕ
  rest = slip_text (drop (k + 1) ws)

  pub slip_next : k + 1 < length ws → slip_text (drop k ws) ≡ part ++ space ∷ rest
  unfolding slip_text line_text
  slip_next h =
      let g : k < length ws = omega arith in
      rw (next_byte ws k g, next_byte ws (k + 1) h)

  pub slip_last : k + 1 ≡ length ws → slip_text (drop k ws) ≡ part ++ line_feed ∷ []
  unfolding slip_text line_text
  slip_last h =
      let g : k < length ws = omega arith in
      rw (next_byte ws k g, drop_of_length-le ws {i = k + 1} (omega arith))

  pub next_size : k + 1 < length ws → length (slip_text (drop k ws)) ≡ length part + 1 + length rest
  next_size h = omega (arith, ap length (slip_next h), length-append part (space ∷ rest))

  pub last_size : k + 1 ≡ length ws → length (slip_text (drop k ws)) ≡ length part + 1
  last_size h = omega (arith, ap length (slip_last h), length-append part (line_feed ∷ []))

  -- a part written with a space after it, and what is left after both, is what was left before
  pub next_wrote : (out : List ℕ) (at : ℕ) → k + 1 < length ws → at + length part + 1 ≤ length out
      → spliced (spliced out at (part ++ space ∷ [])) (at + length part + 1) rest ≡ spliced out at (slip_text (drop k ws))
  next_wrote out at h room =
      let z : at + length part + 1 ≡ at + length (part ++ space ∷ []) = omega (arith, length-append part (space ∷ [])) in
      rw (z, slip_next h) (spliced_next out (part ++ space ∷ []) rest at (omega arith) ∙ ap (spliced out at) (append_assoc part (space ∷ []) rest))

-- how long the parts are with a byte after each: as long as their line, if there is one
pub left_size : List ℕ → ℕ
left_size [] = 0
left_size (w ∷ ws) = length (part_text w) + 1 + left_size ws

line_left : (w : ℕ) (ws : List ℕ) → left_size (w ∷ ws) ≡ length (slip_text (w ∷ ws))
unfolding left_size slip_text line_text
line_left w [] = simp length-append (omega arith)
line_left w (v ∷ ws) = simp length-append (omega (arith, line_left v ws))

pub left_whole : (ws : List ℕ) → SlipWords ws → 0 + left_size ws ≡ length (slip_text ws)
left_whole [] e = absurd (omega (arith, e.count))
left_whole (w ∷ ws) e = omega (arith, line_left w ws)

pub left_next : (ws : List ℕ) (k : ℕ) → k < length ws → left_size (drop k ws) ≡ length (part_text (get_or ws k 0)) + 1 + left_size (drop (k + 1) ws)
unfolding left_size
left_next ws k h = ap left_size (next_byte ws k h)

pub left_end : (ws : List ℕ) (k : ℕ) → length ws ≤ k → left_size (drop k ws) ≡ 0
unfolding left_size
left_end ws k h = ap left_size (drop_of_length-le ws {i = k} h)

pub part_packed : (ws : List ℕ) (k : ℕ) → all is_packed ws ≡ true → k < length ws → is_packed (get_or ws k 0) ≡ true
unfolding all
part_packed [] k e h = absurd (omega arith)
part_packed (w ∷ ws) zero e h = and_left (is_packed w) (all is_packed ws) e
part_packed (w ∷ ws) (suc k) e h = part_packed ws k (and_right (is_packed w) (all is_packed ws) e) (omega arith)

slip_short : (w : ℕ) (ws : List ℕ) → all is_packed (w ∷ ws) ≡ true → length (slip_text (w ∷ ws)) ≤ 13 * length (w ∷ ws)
unfolding slip_text line_text all
slip_short w [] e = rw length-append (omega (arith, part_short w (and_left (is_packed w) true e)))
slip_short w (v ∷ ws) e =
    let a = and_left (is_packed w) (all is_packed (v ∷ ws)) e in
    let r = slip_short v ws (and_right (is_packed w) (all is_packed (v ∷ ws)) e) in
    rw length-append (omega (arith, part_short w a, r))

-- a line of eight words is short
pub counted_short : (ws : List ℕ) → SlipWords ws → length (slip_text ws) ≤ 104
counted_short [] e = absurd (omega (arith, e.count))
counted_short (w ∷ ws) e = omega (arith, slip_short w ws e.good, e.count)
