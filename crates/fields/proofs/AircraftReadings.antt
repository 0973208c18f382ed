-- The two ways to read an aircraft, without a prefix and with one: what a way reads is a reading, and every reading is read by one of them.
-- Assumes nothing.
use Rattle.std.specs.Prelude.{None, Option, Some}
use mathlib.Core.Path.{◌≡◌, refl, sym, ap}
use mathlib.Core.Bool.{Bool, true, false, ◌&&◌}
use mathlib.Core.List.{List}
use Prim.Native.Nat.{ℕ}
use native.Mathlib.Omega.{arith}
use lib.Dec.{eqb}
use borrow.Author.Tests.{eq-eqb, ne_eqb, eqb-true}
use Rattle.text.specs.Text.{packed, text_of, slashed}
use Rattle.text.proofs.Logic.{and_left, and_right}
use Rattle.text.proofs.Laws.{text_packed, packed_text}
use Rattle.shapes.specs.Cut.{has, before, after}
use Rattle.shapes.proofs.Joins.{cut_whole, joined_has, joined_before, joined_after}
use Rattle.rules.specs.Kind.{PREFIX, MODEL, LETTER, is_form}
use Rattle.rules.proofs.Held.{form_held}
use Rattle.fields.specs.Word.{is_word}
use Rattle.fields.specs.Pair.{slash, pair_of, pair_text}
use Rattle.fields.proofs.WordLaws.{word_packed, word_form, form_word}
use Rattle.fields.proofs.PairLaws.{packed_some, pair_sound, pair_complete}
use Rattle.fields.specs.Aircraft.{aircraft_text, is_aircraft_value, Reading, with_prefix, plain_of, prefixed_of}
use Rattle.fields.specs.declared.aircraft.Aircraft.{Aircraft}
use Rattle.fields.proofs.Slashes.{prefix_slashless, model_slashless}
use Rattle.fields.proofs.AircraftLaws.{tail_value, prefix_value}

prefix_held : (p : ℕ) (q : Option (ℕ × ℕ)) (a : Aircraft) → with_prefix p q ≡ Some a → (q ≡ Some (a.model, a.letter)) × (p ≡ a.prefix)
prefix_held p (Some (m, l)) a e =
    let z : record { prefix = p; model = m; letter = l } ≡ a = cc in
    (ap (λ (b : Aircraft). Some (b.model, b.letter)) z, ap (λ (b : Aircraft). b.prefix) z)
prefix_held p None a e = ((cc), (cc))

with_words : (p : ℕ) (a : Aircraft) → p ≡ a.prefix → with_prefix p (Some (a.model, a.letter)) ≡ Some a
with_words p a e = ap Some (λ i. record { prefix = e i; model = a.model; letter = a.letter })

module _ (s : List ℕ) (a : Aircraft) where
  -- ---- without a prefix

  pub plain_reading : plain_of s ≡ Some a → Reading s a
  unfolding plain_of is_aircraft_value aircraft_text
  plain_reading e =
      let h = prefix_held 0 (pair_of MODEL LETTER s) a e in
      let p = pair_sound MODEL LETTER s h.0 in
      let z = eq-eqb a.prefix 0 (sym h.1) in
      record { value = rw (p.2, z); text = rw z p.1 }

  pub reading_plain : Reading s a → eqb a.prefix 0 ≡ true → plain_of s ≡ Some a
  unfolding plain_of aircraft_text
  reading_plain r z =
      let t : pair_text a.model a.letter ≡ s = rw z at r.text in
      let c = pair_complete MODEL LETTER model_slashless a.model a.letter (tail_value a r.value) in
      let p : pair_of MODEL LETTER s ≡ Some (a.model, a.letter) = rw t at c in
      rw p (with_words 0 a (sym (eqb-true a.prefix 0 z)))

  -- ---- with one

  pub prefixed_reading : prefixed_of s ≡ Some a → Reading s a
  unfolding prefixed_of is_aircraft_value aircraft_text slashed
  prefixed_reading e = go (has slash s && is_form PREFIX (before slash s)) refl
    where
      go : (t : Bool) → (has slash s && is_form PREFIX (before slash s)) ≡ t → Reading s a
      go false q = let z : None ≡ Some a = rw q at e in absurd (let y : ◌≡◌ {A = ℕ} 0 1 = cc in omega arith)
      go true q =
          let x = before slash s in
          let y = after slash s in
          let z : with_prefix (packed x) (pair_of MODEL LETTER y) ≡ Some a = rw q at e in
          let h = prefix_held (packed x) (pair_of MODEL LETTER y) a z in
          let p = pair_sound MODEL LETTER y h.0 in
          let f = and_right (has slash s) (is_form PREFIX x) q in
          let k = form_held PREFIX x f in
          let n : eqb a.prefix 0 ≡ false = rw (← h.1) (ne_eqb (packed x) 0 (packed_some x k.text k.some)) in
          let w : is_word PREFIX a.prefix ≡ true = rw (← h.1) (form_word PREFIX x f) in
          let t : text_of a.prefix ≡ x = rw (← h.1) (text_packed x k.text) in
          record { value = rw (p.2, n, w); text = rw (n, t, p.1) (cut_whole slash s (and_left (has slash s) (is_form PREFIX x) q)) }

  pub reading_prefixed : Reading s a → eqb a.prefix 0 ≡ false → prefixed_of s ≡ Some a
  unfolding prefixed_of aircraft_text slashed
  reading_prefixed r z =
      let t : slashed (text_of a.prefix) (pair_text a.model a.letter) ≡ s = rw z at r.text in
      let w = prefix_value a r.value z in
      let f = word_form PREFIX a.prefix w in
      let n = prefix_slashless (text_of a.prefix) f in
      rw (
        ← t,
        joined_has slash (text_of a.prefix) (pair_text a.model a.letter) n,
        joined_before slash (text_of a.prefix) (pair_text a.model a.letter) n,
        joined_after slash (text_of a.prefix) (pair_text a.model a.letter) n,
        f,
        packed_text a.prefix (word_packed PREFIX a.prefix w),
        pair_complete MODEL LETTER model_slashless a.model a.letter (tail_value a r.value),
      )
