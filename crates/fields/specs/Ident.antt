-- The ident (document 01, "Fields"): what its two readers answer, its text, and which values some text gives.
-- Assumes nothing.
use Rattle.std.specs.Prelude.{ℕ, Bool, cond, List, None, Option, Some}
use Rattle.text.specs.Text.{packed}
use Rattle.shapes.specs.Cut.{before, after}
use Rattle.rules.specs.Form.{is_ident, is_tz_ident}
use Rattle.rules.specs.Kind.{KEY, NUMBER}
use Rattle.fields.specs.Pair.{slash, pair_text, is_pair}
use Rattle.fields.specs.declared.idents.Ident.{Ident}

-- the part before the slash is the key; the number is what comes after it, or none
unfoldable pub ident_from : List ℕ → Ident
ident_from s = record { key = record { 0 = packed (before slash s) }; number = record { 0 = packed (after slash s) } }

unfoldable pub ident_of : List ℕ → Option Ident
ident_of s = cond (is_ident s) (Some (ident_from s)) None

-- "in TZ the number is required"
unfoldable pub tz_ident_of : List ℕ → Option Ident
tz_ident_of s = cond (is_tz_ident s) (Some (ident_from s)) None

abbrev pub ident_text : Ident → List ℕ
ident_text i = pair_text i.key.0 i.number.0

abbrev pub is_ident_value : Ident → Bool
is_ident_value i = is_pair KEY NUMBER i.key.0 i.number.0

-- document 01's answer number
abbrev pub ident_answer : Option Ident → ℕ
ident_answer (Some i) = 0
ident_answer None = 9
