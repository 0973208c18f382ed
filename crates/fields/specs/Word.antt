-- A field of a kind that is held as its text: the word of a text, the words of a kind, and what writing one does.
-- Assumes nothing.
use Rattle.std.specs.Prelude.{ℕ, Bool, cond, ◌&&◌, List, None, Option, Some}
use Rattle.text.specs.Text.{packed, text_of, is_packed}
use Rattle.rules.specs.Kind.{is_form}

-- what is read of s as a field of the kind k
unfoldable pub word_of : ℕ → List ℕ → Option ℕ
word_of k s = cond (is_form k s) (Some (packed s)) None

-- t is the word of some text of the kind k
unfoldable pub is_word : ℕ → ℕ → Bool
is_word k t = is_packed t && is_form k (text_of t)

-- what a type whose values are made of words by `of` reads: the value of the word that was read
abbrev pub as_field : {F : Type 0} → (ℕ → F) → Option ℕ → Option F
as_field of (Some t) = Some (of t)
as_field of None = None
