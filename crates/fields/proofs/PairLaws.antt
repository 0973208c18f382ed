-- THE LAWS of two words in one field, once for every two kinds of which the first has no slash. Assumes nothing.
use Rattle.std.specs.Prelude.{None, Some}
use mathlib.Core.Path.{◌≡◌, refl, sym, ap, ◌∙◌}
use mathlib.Core.Bool.{Bool, true, false, ◌&&◌, ◌||◌, and-false}
use mathlib.Core.List.{List, []}
use Prim.Native.Nat.{ℕ, ◌+◌, ◌-◌, ◌≤◌, ◌<◌}
use native.Mathlib.Omega.{arith}
use lib.Dec.{eqb}
use lib.ListN.{length, take, drop}
use borrow.Author.Tests.{ne_eqb, eqb-true, lt-leb, le-leb}
use Rattle.text.specs.Place.{value, digits}
use Rattle.text.specs.Text.{packed, text_of, is_text, is_packed, slashed, join_of}
use Rattle.text.proofs.Logic.{some_pair, and_left, and_right}
use Rattle.text.proofs.Laws.{text_packed, packed_text, packed_is, text_length, text_short}
use Rattle.text.proofs.Joined.{join_known, join_none, length-slashed}
use Rattle.shapes.specs.Cut.{up_to, has, before, after}
use Rattle.shapes.proofs.Laws.{up_to_le, not_cut, is_cut, cut_before, cut_after}
use Rattle.shapes.proofs.Joins.{no_cut, cut_whole, joined_has, joined_before, joined_after, whole_has, whole_before, whole_after}
use Rattle.rules.specs.Kind.{is_form}
use Rattle.rules.proofs.Held.{form_held}
use Rattle.fields.specs.Word.{word_of, is_word}
use Rattle.fields.specs.Pair.{slash, is_pair_form, pair_of, pair_text, is_pair, pair_word, is_pair_text}
use Rattle.fields.proofs.WordLaws.{word_known, read_refused, word_packed, word_form, form_word}

pub packed_none : packed [] ≡ 0
unfolding packed value
packed_none = refl

-- ---- the ways of `read_pair`

module _ (k l : ℕ) (s : List ℕ) (i : ℕ) (at : i ≡ up_to slash s) where
  module _ (whole : length s ≤ i) where
    pub alone_none : word_of k s ≡ None → None ≡ pair_of k l s
    unfolding pair_of is_pair_form
    alone_none e = rw (not_cut slash s i at whole, read_refused k s e)

    pub alone : {a : ℕ} → word_of k s ≡ Some a → Some (a, 0) ≡ pair_of k l s
    unfolding pair_of is_pair_form
    alone e =
        let w = word_known k s e in
        let n : up_to slash s ≡ length s = omega (arith, up_to_le slash s) in
        rw (not_cut slash s i at whole, w.0, w.1, whole_before slash s n, whole_after slash s n, packed_none)

  module _ (cut : i < length s) where
    pub first_none : word_of k (take i s) ≡ None → None ≡ pair_of k l s
    unfolding pair_of is_pair_form
    first_none e = rw (is_cut slash s i at cut, cut_before slash s i at cut, read_refused k (take i s) e)

    module _ {a : ℕ} (e : word_of k (take i s) ≡ Some a) where
      pub second_none : word_of l (take (length s - (i + 1)) (drop (i + 1) s)) ≡ None → None ≡ pair_of k l s
      unfolding pair_of is_pair_form
      second_none f = rw (is_cut slash s i at cut, cut_before slash s i at cut, cut_after slash s i at cut, read_refused l (take (length s - (i + 1)) (drop (i + 1) s)) f, and-false)

      pub both : {b : ℕ} → word_of l (take (length s - (i + 1)) (drop (i + 1) s)) ≡ Some b → Some (a, b) ≡ pair_of k l s
      unfolding pair_of is_pair_form
      both f =
          let w = word_known k (take i s) e in
          let v = word_known l (take (length s - (i + 1)) (drop (i + 1) s)) f in
          rw (is_cut slash s i at cut, cut_before slash s i at cut, cut_after slash s i at cut, w.0, v.0, w.1, v.1)

-- ---- sound and complete

pub text_none : text_of 0 ≡ []
unfolding text_of digits
text_none = refl

-- a text with a byte has a number above 0
pub packed_some : (s : List ℕ) → is_text s ≡ true → 0 < length s → packed s ≡ 0 → ⊥
packed_some s e h z = omega (arith, ap length (sym (text_packed s e) ∙ ap text_of z ∙ text_none))

-- the words of a text that has the form
module _ (k l : ℕ) (s : List ℕ) (e : is_pair_form k l s ≡ true) where
  pub pair_held : (pair_text (packed (before slash s)) (packed (after slash s)) ≡ s) × (is_pair k l (packed (before slash s)) (packed (after slash s)) ≡ true)
  unfolding is_pair_form pair_text is_pair slashed
  pair_held = go (has slash s) refl
    where
      x : List ℕ
      x = before slash s

      y : List ℕ
      y = after slash s

      go : (t : Bool) → has slash s ≡ t → (pair_text (packed x) (packed y) ≡ s) × (is_pair k l (packed x) (packed y) ≡ true)
      go true q =
          let f : (is_form k x && is_form l y) ≡ true = rw q at e in
          let fx = and_left (is_form k x) (is_form l y) f in
          let fy = and_right (is_form k x) (is_form l y) f in
          let hx = form_held k x fx in
          let hy = form_held l y fy in
          let some = ne_eqb (packed y) 0 (packed_some y hy.text hy.some) in
          (rw (some, text_packed x hx.text, text_packed y hy.text) (cut_whole slash s q), rw (form_word k x fx, form_word l y fy, some))
      go false q =
          let f : is_form k s ≡ true = rw q at e in
          let n = no_cut slash s q in
          rw (whole_before slash s n, whole_after slash s n, packed_none) (text_packed s (form_held k s f).text, rw (form_word k s f))

-- what reads has the form, its text is what was read, and its words are words of the kinds
pub pair_sound : (k l : ℕ) (s : List ℕ) {a b : ℕ} → pair_of k l s ≡ Some (a, b) → (is_pair_form k l s ≡ true) × (pair_text a b ≡ s) × (is_pair k l a b ≡ true)
unfolding pair_of
pair_sound k l s {a} {b} e = go (is_pair_form k l s) refl
  where
    go : (t : Bool) → is_pair_form k l s ≡ t → (is_pair_form k l s ≡ true) × (pair_text a b ≡ s) × (is_pair k l a b ≡ true)
    go false q = let z : None ≡ Some (a, b) = rw q at e in ((cc), (cc), (cc))
    go true q =
        let z : Some (packed (before slash s), packed (after slash s)) ≡ Some (a, b) = rw q at e in
        let p : packed (before slash s) ≡ a = (some_pair z).0 in
        let r : packed (after slash s) ≡ b = (some_pair z).1 in
        let h = pair_held k l s q in
        (q, rw (← p, ← r) h.0, rw (← p, ← r) h.1)

-- the text of all such words reads as these
module _ (k l : ℕ) (no_slash : (s : List ℕ) → is_form k s ≡ true → up_to slash s ≡ length s) where
  pub pair_complete : (a b : ℕ) → is_pair k l a b ≡ true → pair_of k l (pair_text a b) ≡ Some (a, b)
  unfolding is_pair pair_text pair_of is_pair_form slashed
  pair_complete a b e = go (eqb b 0) refl
    where
      wa : is_word k a ≡ true
      wa = and_left (is_word k a) (eqb b 0 || is_word l b) e

      fa : is_form k (text_of a) ≡ true
      fa = word_form k a wa

      n : up_to slash (text_of a) ≡ length (text_of a)
      n = no_slash (text_of a) fa

      pa : packed (text_of a) ≡ a
      pa = packed_text a (word_packed k a wa)

      go : (t : Bool) → eqb b 0 ≡ t → pair_of k l (pair_text a b) ≡ Some (a, b)
      go true q = rw (q, whole_has slash (text_of a) n, fa, whole_before slash (text_of a) n, whole_after slash (text_of a) n, pa, packed_none, eqb-true b 0 q)
      go false q =
          let wb : is_word l b ≡ true = rw q at (and_right (is_word k a) (eqb b 0 || is_word l b) e) in
          rw (
            q,
            joined_has slash (text_of a) (text_of b) n,
            joined_before slash (text_of a) (text_of b) n,
            joined_after slash (text_of a) (text_of b) n,
            fa,
            word_form l b wb,
            pa,
            packed_text b (word_packed l b wb),
          )

-- ---- writing

module _ (k l a b : ℕ) (e : is_pair k l a b ≡ true) where
  pub first_word : is_word k a ≡ true
  unfolding is_pair
  first_word = and_left (is_word k a) (eqb b 0 || is_word l b) e

  pub second_part : (eqb b 0 || is_word l b) ≡ true
  unfolding is_pair
  second_part = and_right (is_word k a) (eqb b 0 || is_word l b) e

  second_word : eqb b 0 ≡ false → is_word l b ≡ true
  second_word q = rw q at second_part

  pub pair_writes : {t : ℕ} → pair_word a b ≡ Some t → (is_packed t ≡ is_pair_text k l a b) × (text_of t ≡ pair_text a b)
  unfolding pair_word pair_text is_pair_text
  pair_writes {t} f = go (eqb b 0) refl
    where
      go : (x : Bool) → eqb b 0 ≡ x → (is_packed t ≡ is_pair_text k l a b) × (text_of t ≡ pair_text a b)
      go true q =
          let z : Some a ≡ Some t = rw q at f in
          let p : a ≡ t = cc in
          let h = word_packed k a first_word in
          (rw (q, e, ← p, h, le-leb (length (text_of a)) 12 (text_short a h)), rw (q, p))
      go false q =
          let z : join_of a b ≡ Some t = rw q at f in
          let j = join_known a b z in
          let s = slashed (text_of a) (text_of b) in
          (rw (q, e, j.0, packed_is s j.1, le-leb (length s) 12 (text_length s j.1)), rw (q, j.0) (text_packed s j.1))

  pub pair_too_long : pair_word a b ≡ None → is_pair_text k l a b ≡ false
  unfolding pair_word pair_text is_pair_text
  pair_too_long f = go (eqb b 0) refl
    where
      go : (x : Bool) → eqb b 0 ≡ x → is_pair_text k l a b ≡ false
      go true q = let z : Some a ≡ None = rw q at f in cc
      go false q =
          let z : join_of a b ≡ None = rw q at f in
          rw (q, e, lt-leb (length (slashed (text_of a) (text_of b))) 12 (join_none a b (word_packed k a first_word) (word_packed l b (second_word q)) z))

-- ---- lengths

-- the text of two words whose own texts have at most m and n bytes
pub pair_short : (k l m n : ℕ) → ((s : List ℕ) → is_form k s ≡ true → length s ≤ m) → ((s : List ℕ) → is_form l s ≡ true → length s ≤ n) → (a b : ℕ) → is_pair k l a b ≡ true → length (pair_text a b) ≤ m + 1 + n
unfolding pair_text
pair_short k l m n f g a b e = go (eqb b 0) refl
  where
    x : length (text_of a) ≤ m
    x = f (text_of a) (word_form k a (first_word k l a b e))

    go : (t : Bool) → eqb b 0 ≡ t → length (pair_text a b) ≤ m + 1 + n
    go true q = rw q (omega (arith, x))
    go false q = rw q (omega (arith, x, g (text_of b) (word_form l b (second_word k l a b e q)), length-slashed (text_of a) (text_of b)))
