-- Two words in one field: one of the kind k, then optionally a slash and one of the kind l. A second word 0 is none.
-- (Document 01: the ident, and an aircraft's type and letter.) Assumes nothing.
use Rattle.std.specs.Prelude.{ℕ, Bool, cond, ◌&&◌, ◌||◌, List, eqb, leb, length, None, Option, Some}
use Prim.Native.Char.{code}
use Rattle.text.specs.Text.{packed, text_of, slashed, join_of}
use Rattle.shapes.specs.Cut.{has, before, after}
use Rattle.rules.specs.Kind.{is_form}
use Rattle.fields.specs.Word.{is_word}

abbrev pub slash : ℕ
slash = code "/"

-- cut at the first slash, the parts have the forms; with no slash the whole has the first
unfoldable pub is_pair_form : ℕ → ℕ → List ℕ → Bool
is_pair_form k l s = cond (has slash s) (is_form k (before slash s) && is_form l (after slash s)) (is_form k s)

unfoldable pub pair_of : ℕ → ℕ → List ℕ → Option (ℕ × ℕ)
pair_of k l s = cond (is_pair_form k l s) (Some (packed (before slash s), packed (after slash s))) None

-- the text of two words
unfoldable pub pair_text : ℕ → ℕ → List ℕ
pair_text a b = cond (eqb b 0) (text_of a) (slashed (text_of a) (text_of b))

-- two words that some text of the kinds gives
unfoldable pub is_pair : ℕ → ℕ → ℕ → ℕ → Bool
is_pair k l a b = is_word k a && (eqb b 0 || is_word l b)

-- the word of that text
unfoldable pub pair_word : ℕ → ℕ → Option ℕ
pair_word a b = cond (eqb b 0) (Some a) (join_of a b)

-- what can be written: such words, whose text is a short text
unfoldable pub is_pair_text : ℕ → ℕ → ℕ → ℕ → Bool
is_pair_text k l a b = is_pair k l a b && leb (length (pair_text a b)) 12
