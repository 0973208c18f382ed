-- THE LAWS of words, once for every kind: reading is sound and complete, and a text and its word give each other.
-- Assumes nothing.
use Rattle.std.specs.Prelude.{None, Some}
use mathlib.Core.Path.{◌≡◌, refl, sym, ◌∙◌}
use mathlib.Core.Bool.{Bool, true, false}
use mathlib.Core.List.{List}
use Prim.Native.Nat.{ℕ, ◌<◌}
use native.Mathlib.Omega.{arith}
use lib.ListN.{length}
use Rattle.text.specs.Text.{packed, text_of, is_packed}
use Rattle.text.proofs.Logic.{and_left, and_right, not_holds}
use Rattle.text.proofs.Laws.{text_packed, packed_is, packed_text}
use Rattle.rules.specs.Kind.{is_form}
use Rattle.rules.proofs.Held.{form_held}
use Rattle.fields.specs.Word.{word_of, is_word}

module _ (k : ℕ) (s : List ℕ) where
  pub form_word : is_form k s ≡ true → is_word k (packed s) ≡ true
  unfolding is_word
  form_word e = let h = (form_held k s e).text in rw (packed_is s h, text_packed s h, e)

  -- what reads has the form, its text is what was read, and it is a word of the kind
  pub read_sound : {t : ℕ} → word_of k s ≡ Some t → (is_form k s ≡ true) × (text_of t ≡ s) × (is_word k t ≡ true)
  unfolding word_of
  read_sound {t} e = go (is_form k s) refl
    where
      go : (b : Bool) → is_form k s ≡ b → (is_form k s ≡ true) × (text_of t ≡ s) × (is_word k t ≡ true)
      go true q = let z : packed s ≡ t = cc in (q, rw (← z) (text_packed s (form_held k s q).text), rw (← z) (form_word q))
      go false q = let z : None ≡ Some t = rw q at e in ((cc), (cc), (cc))

  -- what is refused has not the form
  pub read_refused : word_of k s ≡ None → is_form k s ≡ false
  unfolding word_of
  read_refused e = not_holds (is_form k s) (λ q. let z : Some (packed s) ≡ None = rw q at e in absurd (let y : ◌≡◌ {A = ℕ} 0 1 = cc in omega arith))

module _ (k t : ℕ) (e : is_word k t ≡ true) where
  pub word_packed : is_packed t ≡ true
  unfolding is_word
  word_packed = and_left (is_packed t) (is_form k (text_of t)) e

  pub word_form : is_form k (text_of t) ≡ true
  unfolding is_word
  word_form = and_right (is_packed t) (is_form k (text_of t)) e

  -- the text of every word of the kind reads as that word
  pub read_complete : word_of k (text_of t) ≡ Some t
  unfolding word_of
  read_complete = rw (word_form, packed_text t word_packed)

  -- and has a byte, so that no word is 0
  pub word_some : 0 < length (text_of t)
  word_some = (form_held k (text_of t) word_form).some

-- ---- the ways of `read`

pub read_form : (k : ℕ) (s : List ℕ) → is_form k s ≡ true → Some (packed s) ≡ word_of k s
unfolding word_of
read_form k s e = rw e

pub read_none : (k : ℕ) (s : List ℕ) → is_form k s ≡ false → None ≡ word_of k s
unfolding word_of
read_none k s e = rw e

-- a word of the kind is written exactly where a text is
pub writes_word : (k t : ℕ) → is_word k t ≡ true → is_packed t ≡ is_word k t
writes_word k t e = word_packed k t e ∙ sym e

pub word_known : (k : ℕ) (s : List ℕ) {t : ℕ} → word_of k s ≡ Some t → (is_form k s ≡ true) × (t ≡ packed s)
unfolding word_of
word_known k s {t} e = go (is_form k s) refl
  where
    go : (b : Bool) → is_form k s ≡ b → (is_form k s ≡ true) × (t ≡ packed s)
    go true q = (q, (cc))
    go false q = let z : None ≡ Some t = rw q at e in ((cc), (cc))

-- ---- the words of a kind are exactly those that some text of the kind gives

pub text_of_word : (k t : ℕ) → is_word k t ≡ true → (s : List ℕ) × (is_form k s ≡ true) × (packed s ≡ t)
text_of_word k t e = (text_of t, word_form k t e, packed_text t (word_packed k t e))

pub word_of_text : (k t : ℕ) (s : List ℕ) → is_form k s ≡ true → packed s ≡ t → is_word k t ≡ true
word_of_text k t s e z = rw (← z) (form_word k s e)
