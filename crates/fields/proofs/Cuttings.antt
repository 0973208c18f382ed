-- A reading of an aircraft is a way of cutting its text by document 01's rule, and every way of cutting it is a reading. Assumes nothing.
use Prim.Native.Nat.{ℕ}
use mathlib.Core.Bool.{Bool, true, false, ◌||◌}
use mathlib.Core.List.{List, []}
use mathlib.Core.Logic.{◌⊎◌, inl, inr}
use mathlib.Core.Path.{◌≡◌, refl, sym, ap, ◌∙◌}
use native.Mathlib.Omega.{arith}
use lib.Dec.{eqb}
use lib.ListN.{length}
use borrow.Author.Tests.{ne_eqb, eqb-true}
use Rattle.text.specs.Text.{packed, text_of}
use Rattle.text.proofs.Laws.{text_packed}
use Rattle.rules.specs.Kind.{PREFIX, MODEL, LETTER, is_form}
use Rattle.rules.proofs.Held.{form_held}
use Rattle.fields.specs.Aircraft.{leading, trailing, CutInto, aircraft_text, is_aircraft_value, Reading}
use Rattle.fields.specs.Pair.{pair_text, is_pair}
use Rattle.fields.specs.Word.{is_word}
use Rattle.fields.specs.declared.aircraft.Aircraft.{Aircraft}
use Rattle.fields.proofs.AircraftLaws.{tail_value, prefix_part}
use Rattle.fields.proofs.PairLaws.{packed_none, text_none, packed_some, first_word, second_part}
use Rattle.fields.proofs.WordLaws.{word_form, form_word}

-- ---- an optional part of the kind k, as a text and as a word

module _ (k : ℕ) where
  part_word : (s : List ℕ) → (s ≡ []) ⊎ (is_form k s ≡ true) → ((eqb (packed s) 0 || is_word k (packed s)) ≡ true) × (text_of (packed s) ≡ s)
  part_word s (inl e) = rw (e, packed_none) (refl, text_none)
  part_word s (inr f) =
      let h = form_held k s f in
      (rw (ne_eqb (packed s) 0 (packed_some s h.text h.some), form_word k s f), text_packed s h.text)

  word_part : (t : ℕ) → (eqb t 0 || is_word k t) ≡ true → ((text_of t ≡ []) ⊎ (is_form k (text_of t) ≡ true)) × (eqb (length (text_of t)) 0 ≡ eqb t 0)
  word_part t e = go (eqb t 0) refl
    where
      go : (b : Bool) → eqb t 0 ≡ b → ((text_of t ≡ []) ⊎ (is_form k (text_of t) ≡ true)) × (eqb (length (text_of t)) 0 ≡ eqb t 0)
      go true q = let n : text_of t ≡ [] = ap text_of (eqb-true t 0 q) ∙ text_none in (inl n, rw (n, q))
      go false q =
          let f = word_form k t (rw q at e) in
          (inr f, rw q (ne_eqb (length (text_of t)) 0 (λ z. omega (arith, (form_held k (text_of t) f).some, z))))

-- ---- a reading is a way of cutting

module _ (a : Aircraft) (e : is_aircraft_value a ≡ true) where
  letter_part : (eqb a.letter 0 || is_word LETTER a.letter) ≡ true
  letter_part = second_part MODEL LETTER a.model a.letter (tail_value a e)

  text_cut : leading (text_of a.prefix) (trailing (text_of a.model) (text_of a.letter)) ≡ aircraft_text a
  unfolding aircraft_text pair_text
  text_cut = rw ((word_part PREFIX a.prefix (prefix_part a e)).1, (word_part LETTER a.letter letter_part).1)

pub reading_cut : (s : List ℕ) (a : Aircraft) → Reading s a → CutInto s (text_of a.prefix) (text_of a.model) (text_of a.letter)
unfolding is_form
reading_cut s a r = record {
  prefixed = (word_part PREFIX a.prefix (prefix_part a r.value)).0;
  typed = word_form MODEL a.model (first_word MODEL LETTER a.model a.letter (tail_value a r.value));
  lettered = (word_part LETTER a.letter (letter_part a r.value)).0;
  text = text_cut a r.value ∙ r.text;
}

-- ---- and a way of cutting a reading

abbrev pub words : List ℕ → List ℕ → List ℕ → Aircraft
words p t l = record { prefix = packed p; model = packed t; letter = packed l }

module _ {s p t l : List ℕ} (c : CutInto s p t l) where
  cut_prefix : ((eqb (packed p) 0 || is_word PREFIX (packed p)) ≡ true) × (text_of (packed p) ≡ p)
  unfolding is_form
  cut_prefix = part_word PREFIX p c.prefixed

  cut_type : is_form MODEL t ≡ true
  unfolding is_form
  cut_type = c.typed

  cut_letter : ((eqb (packed l) 0 || is_word LETTER (packed l)) ≡ true) × (text_of (packed l) ≡ l)
  unfolding is_form
  cut_letter = part_word LETTER l c.lettered

  -- no byte is lost in the words
  pub cut_texts : (text_of (packed p) ≡ p) × (text_of (packed t) ≡ t) × (text_of (packed l) ≡ l)
  cut_texts = (cut_prefix.1, text_packed t (form_held MODEL t cut_type).text, cut_letter.1)

  value : is_aircraft_value (words p t l) ≡ true
  unfolding is_aircraft_value is_pair
  value = rw (form_word MODEL t cut_type, cut_letter.0, cut_prefix.0)

  pub cut_reading : Reading s (words p t l)
  cut_reading = record {
    value = value;
    text = sym (text_cut (words p t l) value) ∙ rw (cut_texts.0, cut_texts.1, cut_texts.2) c.text;
  }
