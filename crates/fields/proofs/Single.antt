-- THE THEOREM of aircraft: no text has two different readings, so the reader answers the one that it finds. Without a prefix, a field with a slash
-- has one letter after it; with a prefix it has a type there, of two bytes or more. Assumes nothing.
use Rattle.std.specs.Prelude.{None, Option, Some}
use mathlib.Core.Path.{◌≡◌, refl, sym, ap, ◌∙◌}
use mathlib.Core.Bool.{Bool, true, false, cond, ◌&&◌, and-false}
use mathlib.Core.List.{List, []}
use mathlib.Core.Logic.{◌⊎◌, inl, inr}
use Prim.Native.Char.{code}
use Prim.Native.Nat.{ℕ, ◌≤◌}
use native.Mathlib.Omega.{arith}
use lib.Dec.{eqb}
use borrow.Author.Tests.{eqb-true}
use lib.ListN.{length, take}
use lib.Seq.{length-take-le}
use Rattle.text.specs.Bytes.{bytes}
use Rattle.text.specs.Text.{text_of}
use Rattle.text.proofs.Logic.{and_left, not_holds}
use Rattle.shapes.specs.Cut.{up_to, has, before, after}
use Rattle.shapes.proofs.Laws.{up_to_le, fits_length, run_least}
use Rattle.rules.specs.Form.{is_one_letter}
use Rattle.rules.specs.Kind.{PREFIX, MODEL, LETTER, is_form}
use Rattle.rules.specs.declared.Rule.{Rule}
use Rattle.rules.specs.declared.Rule.TheVariants.{Old}
use Rattle.fields.specs.Pair.{slash, is_pair_form, pair_of}
use Rattle.fields.specs.Aircraft.{CutInto, Told, Parts, Uncut, aircraft_text, is_aircraft_value, Reading, ReadingBy, is_letter_by, plain_of, prefixed_of, aircraft_of, lettered, aircraft_by}
use Rattle.fields.specs.declared.aircraft.Aircraft.{Aircraft}
use Rattle.fields.proofs.AircraftLaws.{without, with_one}
use Rattle.fields.proofs.PairLaws.{packed_none, text_none}
use Rattle.fields.proofs.Cuttings.{reading_cut, words, cut_texts, cut_reading}
use Rattle.fields.proofs.AircraftReadings.{plain_reading, reading_plain, prefixed_reading, reading_prefixed}

model_least : (s : List ℕ) → is_form MODEL s ≡ true → 2 ≤ length s
unfolding is_form
model_least s e = run_least (code "a") 2 4 s e

letter_size : (s : List ℕ) → is_form LETTER s ≡ true → length s ≡ 1
unfolding is_form
letter_size s e = fits_length (bytes "l") s e

-- a type, with a letter or without one, has two bytes or more
tail_least : (s : List ℕ) → is_pair_form MODEL LETTER s ≡ true → 2 ≤ length s
unfolding is_pair_form before
tail_least s e = go (has slash s) refl
  where
    go : (t : Bool) → has slash s ≡ t → 2 ≤ length s
    go true q =
        let f : (is_form MODEL (take (up_to slash s) s) && is_form LETTER (after slash s)) ≡ true = rw q at e in
        let l = up_to_le slash s in
        omega (arith, length-take-le (up_to slash s) s l, model_least (take (up_to slash s) s) (and_left (is_form MODEL (take (up_to slash s) s)) (is_form LETTER (after slash s)) f))
    go false q = model_least s (rw q at e)

module _ (s : List ℕ) where
  blocked : is_pair_form MODEL LETTER (after slash s) ≡ false → prefixed_of s ≡ None
  unfolding prefixed_of pair_of
  blocked n = go (has slash s && is_form PREFIX (before slash s)) refl
    where
      go : (t : Bool) → (has slash s && is_form PREFIX (before slash s)) ≡ t → prefixed_of s ≡ None
      go true q = rw (q, n)
      go false q = rw q

  -- no text reads both ways
  one_way : (plain_of s ≡ None) ⊎ (prefixed_of s ≡ None)
  unfolding plain_of prefixed_of pair_of is_pair_form
  one_way = go (has slash s) refl (is_form LETTER (after slash s)) refl
    where
      go : (t : Bool) → has slash s ≡ t → (u : Bool) → is_form LETTER (after slash s) ≡ u → (plain_of s ≡ None) ⊎ (prefixed_of s ≡ None)
      go false q u r = inr (rw q)
      go true q false r = inl (rw (q, r, and-false))
      go true q true r = inr (blocked (not_holds (is_pair_form MODEL LETTER (after slash s)) (λ e. omega (arith, tail_least (after slash s) e, letter_size (after slash s) r))))

  -- so every reading is the one that is read
  found : (a : Aircraft) → Reading s a → aircraft_of s ≡ Some a
  found a r = go (eqb a.prefix 0) refl
    where
      second : (plain_of s ≡ None) ⊎ (prefixed_of s ≡ None) → prefixed_of s ≡ Some a → aircraft_of s ≡ Some a
      second (inl n) e = sym (with_one s n) ∙ e
      second (inr n) e = let z : None ≡ Some a = sym n ∙ e in absurd (let y : ◌≡◌ {A = ℕ} 0 1 = cc in omega arith)

      go : (t : Bool) → eqb a.prefix 0 ≡ t → aircraft_of s ≡ Some a
      go true q = sym (without s (reading_plain s a r q))
      go false q = second one_way (reading_prefixed s a r q)

  -- what is read is a reading, and the only one
  pub aircraft_one : (a : Aircraft) → aircraft_of s ≡ Some a → Reading s a × ((b : Aircraft) → Reading s b → b ≡ a)
  unfolding aircraft_of
  aircraft_one a e = (go (plain_of s) refl, λ b r. let z : Some b ≡ Some a = sym (found b r) ∙ e in cc)
    where
      go : (x : Option Aircraft) → plain_of s ≡ x → Reading s a
      go (Some c) p = plain_reading s a (p ∙ (rw p at e))
      go None p = prefixed_reading s a (rw p at e)

  -- where nothing is read there is no reading
  pub aircraft_none : aircraft_of s ≡ None → (a : Aircraft) → Reading s a → ⊥
  aircraft_none e a r = let z : Some a ≡ None = sym (found a r) ∙ e in let y : ◌≡◌ {A = ℕ} 0 1 = cc in omega arith

  -- in bytes: what is read is the text cut by document 01's rule, and where nothing is read no way cuts it
  told_cut : (r : Option Aircraft) → r ≡ aircraft_of s → Told s r
  told_cut (Some a) e = Parts a (reading_cut s a (aircraft_one a (sym e)).0)
  told_cut None e = Uncut (λ p t l c. aircraft_none (sym e) (words p t l) (cut_reading c))

  -- what `Aircraft::read` promises of its answer
  pub told : {r : (Option Aircraft)} → r ≡ aircraft_of s → (r ≡ aircraft_of s) × Told s r
  told {r} e = (e, told_cut r e)

  -- THE THEOREM (document 02, request h): no text has two different readings as an aircraft, over all ways of cutting it. Prefix, type and letter
  -- are the same in any two
  pub one_reading : (p t l p' t' l' : List ℕ) → CutInto s p t l → CutInto s p' t' l' → (p ≡ p') × (t ≡ t') × (l ≡ l')
  one_reading p t l p' t' l' c d =
      let z : Some (words p t l) ≡ Some (words p' t' l') = sym (found (words p t l) (cut_reading c)) ∙ found (words p' t' l') (cut_reading d) in
      let e : words p t l ≡ words p' t' l' = cc in
      let x = cut_texts c in
      let y = cut_texts d in
      (sym x.0 ∙ ap (λ (a : Aircraft). text_of a.prefix) e ∙ y.0, sym x.1 ∙ ap (λ (a : Aircraft). text_of a.model) e ∙ y.1, sym x.2 ∙ ap (λ (a : Aircraft). text_of a.letter) e ∙ y.2)

-- ---- by the rule

-- what is read is a reading that the rule allows
pub by_reading : (ρ : Rule) (s : List ℕ) (a : Aircraft) → aircraft_by ρ s ≡ Some a → (aircraft_of s ≡ Some a) × (is_letter_by ρ a.letter ≡ true)
unfolding aircraft_by
by_reading ρ s a e = go (aircraft_of s) refl e
  where
    kept : (b : Aircraft) (t : Bool) → is_letter_by ρ b.letter ≡ t → aircraft_of s ≡ Some b → cond t (Some b) None ≡ Some a → (aircraft_of s ≡ Some a) × (is_letter_by ρ a.letter ≡ true)
    kept b true q p d = let z : b ≡ a = cc in (p ∙ ap Some z, rw (← z) q)
    kept b false q p d = absurd (let y : ◌≡◌ {A = ℕ} 0 1 = cc in omega arith)

    go : (r : Option Aircraft) → aircraft_of s ≡ r → lettered ρ r ≡ Some a → (aircraft_of s ≡ Some a) × (is_letter_by ρ a.letter ≡ true)
    go (Some b) p d = kept b (is_letter_by ρ b.letter) refl p d
    go None p d = absurd (let y : ◌≡◌ {A = ℕ} 0 1 = cc in omega arith)

pub by_read : (ρ : Rule) (s : List ℕ) (a : Aircraft) → aircraft_of s ≡ Some a → is_letter_by ρ a.letter ≡ true → aircraft_by ρ s ≡ Some a
unfolding aircraft_by
by_read ρ s a e q = rw (e, q)

-- every reading that the rule allows is the one that is read
by_found : (ρ : Rule) (s : List ℕ) (a : Aircraft) → ReadingBy ρ s a → aircraft_by ρ s ≡ Some a
by_found ρ s a r = by_read ρ s a (found s a r.reading) r.letter

module _ (ρ : Rule) (s : List ℕ) where
  pub aircraft_one_by : (a : Aircraft) → aircraft_by ρ s ≡ Some a → ReadingBy ρ s a × ((b : Aircraft) → ReadingBy ρ s b → b ≡ a)
  aircraft_one_by a e =
      let x = by_reading ρ s a e in
      (record { reading = (aircraft_one s a x.0).0; letter = x.1 }, λ b r. (aircraft_one s a x.0).1 b r.reading)

  pub aircraft_none_by : aircraft_by ρ s ≡ None → (a : Aircraft) → ReadingBy ρ s a → ⊥
  aircraft_none_by e a r = let z : Some a ≡ None = sym (by_found ρ s a r) ∙ e in let y : ◌≡◌ {A = ℕ} 0 1 = cc in omega arith

-- in bytes, of the old feed: what is read is the text cut into a prefix and a type, with no letter after them, and where nothing is read no way cuts it so
pub old_cut : (s : List ℕ) (a : Aircraft) → aircraft_by Old s ≡ Some a → CutInto s (text_of a.prefix) (text_of a.model) []
old_cut s a e =
    let r = (aircraft_one_by Old s a e).0 in
    let n : text_of a.letter ≡ [] = ap text_of (eqb-true a.letter 0 r.letter) ∙ text_none in
    rw n at (reading_cut s a r.reading)

pub old_uncut : (s : List ℕ) → aircraft_by Old s ≡ None → (p t : List ℕ) → CutInto s p t [] → ⊥
old_uncut s e p t c = aircraft_none_by Old s e (words p t []) (record { reading = cut_reading c; letter = rw packed_none })

-- so one that is cut into parts with a last letter has no reading there
pub lettered_none : (s p t l : List ℕ) → CutInto s p t l → is_one_letter l ≡ true → (a : Aircraft) → ReadingBy Old s a → ⊥
unfolding is_form
lettered_none s p t l c e a r =
    let z = one_reading s p t l (text_of a.prefix) (text_of a.model) (text_of a.letter) c (reading_cut s a r.reading) in
    let n : text_of a.letter ≡ [] = ap text_of (eqb-true a.letter 0 r.letter) ∙ text_none in
    omega (arith, letter_size l e, ap length (z.2 ∙ n))

-- the text of every aircraft reads as it
pub aircraft_complete : (a : Aircraft) → is_aircraft_value a ≡ true → aircraft_of (aircraft_text a) ≡ Some a
aircraft_complete a e = found (aircraft_text a) a (record { value = e; text = refl })
