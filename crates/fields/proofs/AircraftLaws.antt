-- The ways of the functions of `aircraft`. Assumes nothing.
use Rattle.std.specs.Prelude.{None, Option, Some, MatchOption}
use mathlib.Core.Path.{◌≡◌, refl, sym, ap, ◌∙◌}
use mathlib.Core.Bool.{Bool, true, false, ◌||◌}
use mathlib.Core.List.{List}
use Prim.Native.Nat.{ℕ, ◌+◌, ◌-◌, ◌≤◌, ◌<◌}
use native.Mathlib.Omega.{arith}
use lib.Dec.{eqb}
use lib.ListN.{length, take, drop}
use borrow.Author.Tests.{le-leb}
use Rattle.text.specs.Text.{text_of, is_packed, slashed, join_of}
use Rattle.text.proofs.Logic.{and_left, and_right, true_false}
use Rattle.text.proofs.Laws.{text_packed, packed_is}
use Rattle.text.proofs.Joined.{join_known, join_none, length-slashed}
use Rattle.shapes.specs.Cut.{up_to}
use Rattle.shapes.proofs.Laws.{not_cut, is_cut, cut_before, cut_after}
use Rattle.rules.specs.Kind.{PREFIX, MODEL, LETTER}
use Rattle.fields.specs.Word.{word_of, is_word}
use Rattle.fields.specs.Pair.{slash, pair_of, pair_text, is_pair, pair_word, is_pair_text}
use Rattle.fields.proofs.WordLaws.{word_known, read_refused, word_packed, word_form}
use Rattle.fields.proofs.PairLaws.{pair_writes, pair_too_long}
use Rattle.fields.specs.Aircraft.{aircraft_text, is_aircraft_value, with_prefix, plain_of, prefixed_of, aircraft_of, aircraft_word}
use Rattle.fields.specs.declared.aircraft.Aircraft.{Aircraft}
use Rattle.fields.proofs.Slashes.{prefix_short, tail_short}

-- ---- the ways of `read_prefixed`

module _ (s : List ℕ) (i : ℕ) (at : i ≡ up_to slash s) where
  pub no_prefix : length s ≤ i → None ≡ prefixed_of s
  unfolding prefixed_of
  no_prefix h = rw (not_cut slash s i at h)

  module _ (cut : i < length s) where
    pub bad_prefix : word_of PREFIX (take i s) ≡ None → None ≡ prefixed_of s
    unfolding prefixed_of
    bad_prefix e = rw (is_cut slash s i at cut, cut_before slash s i at cut, read_refused PREFIX (take i s) e)

    pub with_prefix_lem : {p : ℕ} → word_of PREFIX (take i s) ≡ Some p → with_prefix p (pair_of MODEL LETTER (take (length s - (i + 1)) (drop (i + 1) s))) ≡ prefixed_of s
    unfolding prefixed_of
    with_prefix_lem e =
        let w = word_known PREFIX (take i s) e in
        rw (is_cut slash s i at cut, cut_before slash s i at cut, cut_after slash s i at cut, w.0, w.1)

-- ---- the ways of `read`

module _ (s : List ℕ) where
  pub without : {a : Aircraft} → plain_of s ≡ Some a → Some a ≡ aircraft_of s
  unfolding aircraft_of
  without e = rw e

  pub with_one : plain_of s ≡ None → prefixed_of s ≡ aircraft_of s
  unfolding aircraft_of
  with_one e = rw e

  -- the reading without a prefix, or else what another reader says
  pub read_either : (r : Option Aircraft) (P : Type 0) (q : Option Aircraft) → q ≡ plain_of s → MatchOption q P (λ a. r ≡ Some a) → (P → r ≡ prefixed_of s) → r ≡ aircraft_of s
  read_either r P (Some a) e p f = p ∙ without (sym e)
  read_either r P None e p f = f p ∙ with_one (sym e)

-- ---- writing

module _ (a : Aircraft) (e : is_aircraft_value a ≡ true) where
  pub tail_value : is_pair MODEL LETTER a.model a.letter ≡ true
  unfolding is_aircraft_value
  tail_value = and_left (is_pair MODEL LETTER a.model a.letter) (eqb a.prefix 0 || is_word PREFIX a.prefix) e

  pub prefix_part : (eqb a.prefix 0 || is_word PREFIX a.prefix) ≡ true
  unfolding is_aircraft_value
  prefix_part = and_right (is_pair MODEL LETTER a.model a.letter) (eqb a.prefix 0 || is_word PREFIX a.prefix) e

  pub prefix_value : eqb a.prefix 0 ≡ false → is_word PREFIX a.prefix ≡ true
  prefix_value q = rw q at prefix_part

  tail_writes : is_pair_text MODEL LETTER a.model a.letter ≡ true
  unfolding is_pair_text
  tail_writes =
      let h : length (pair_text a.model a.letter) ≤ 12 = omega (arith, tail_short a.model a.letter tail_value) in
      rw (tail_value, le-leb (length (pair_text a.model a.letter)) 12 h)

  -- the word that `word` finds is that of the aircraft's text
  pub aircraft_writes : {t : ℕ} → aircraft_word a ≡ Some t → (is_packed t ≡ is_aircraft_value a) × (text_of t ≡ aircraft_text a)
  unfolding aircraft_word aircraft_text
  aircraft_writes {t} f = go (pair_word a.model a.letter) refl (eqb a.prefix 0) refl
    where
      go : (w : Option ℕ) → pair_word a.model a.letter ≡ w → (b : Bool) → eqb a.prefix 0 ≡ b → (is_packed t ≡ is_aircraft_value a) × (text_of t ≡ aircraft_text a)
      go None q b r = let z : None ≡ Some t = rw q at f in ((cc), (cc))
      go (Some u) q true r =
          let p = pair_writes MODEL LETTER a.model a.letter tail_value q in
          let z : Some u ≡ Some t = rw (q, r) at f in
          let y : u ≡ t = cc in
          (sym (ap is_packed y) ∙ p.0 ∙ tail_writes ∙ sym e, sym (ap text_of y) ∙ p.1 ∙ rw r)
      go (Some u) q false r =
          let p = pair_writes MODEL LETTER a.model a.letter tail_value q in
          let z : join_of a.prefix u ≡ Some t = rw (q, r) at f in
          let j = join_known a.prefix u z in
          (ap is_packed j.0 ∙ packed_is (slashed (text_of a.prefix) (text_of u)) j.1 ∙ sym e, ap text_of j.0 ∙ text_packed (slashed (text_of a.prefix) (text_of u)) j.1 ∙ rw (p.1, r))

  -- and it finds one
  pub aircraft_word_lem : aircraft_word a ≡ None → ⊥
  unfolding aircraft_word
  aircraft_word_lem f = go (pair_word a.model a.letter) refl (eqb a.prefix 0) refl
    where
      go : (w : Option ℕ) → pair_word a.model a.letter ≡ w → (b : Bool) → eqb a.prefix 0 ≡ b → ⊥
      go None q b r = true_false tail_writes (pair_too_long MODEL LETTER a.model a.letter tail_value q)
      go (Some u) q true r = let z : Some u ≡ None = rw (q, r) at f in let y : ◌≡◌ {A = ℕ} 0 1 = cc in omega arith
      go (Some u) q false r =
          let p = pair_writes MODEL LETTER a.model a.letter tail_value q in
          let z : join_of a.prefix u ≡ None = rw (q, r) at f in
          let w = prefix_value r in
          omega (
            arith,
            join_none a.prefix u (word_packed PREFIX a.prefix w) (p.0 ∙ tail_writes) z,
            length-slashed (text_of a.prefix) (text_of u),
            prefix_short (text_of a.prefix) (word_form PREFIX a.prefix w),
            ap length p.1,
            tail_short a.model a.letter tail_value,
          )
