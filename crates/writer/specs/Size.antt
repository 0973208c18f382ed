-- How long a message's line is, and its parts, where a line can have them: what the functions of `sizes` answer, and what they
-- ask for. Assumes nothing.
use Rattle.std.specs.Prelude.{ℕ, ◌≤◌, Bool, false, cond, List, length, None, Option, Some}
use Rattle.table.specs.Spacing.{body_of}
use Rattle.table.specs.Field.{trace_of, marks_of, follows, is_value, shown}
use Rattle.table.specs.declared.kinds.Value.{Value}
use Rattle.table.specs.Show.{texts_from, allowed_from, marks_from}
use Rattle.messages.specs.Allowed.{is_fielded, is_body, body_text, kinds_in}
use Rattle.messages.specs.Body.{values_in}
use Rattle.messages.specs.declared.Body.{Body}
use Rattle.messages.specs.declared.Reading.{Reading}
use Rattle.line.specs.Line.{line_by, is_allowed_by}
use Rattle.rules.specs.Frame.{longest_line}
use Rattle.rules.specs.declared.Rule.{Rule}

-- ---- sizes

unfoldable pub sized_text : ℕ → ℕ → ℕ → List ℕ → Option (ℕ × ℕ × ℕ)
sized_text k p m s = cond (follows k p m s) (Some (length s, trace_of k s, marks_of k m s)) None

unfoldable pub sized_field : ℕ → ℕ → ℕ → List ℕ → Value → Option (ℕ × ℕ × ℕ)
sized_field k p m r v = cond (is_value k p r v) (sized_text k p m (shown k p r v)) None

-- the fields, each after a space
unfoldable pub fields_text : List ℕ → List ℕ → List Value → List ℕ
fields_text ks r vs = body_of (texts_from ks 0 r vs) false

unfoldable pub sized_all : List ℕ → List ℕ → List Value → Option (ℕ × ℕ)
sized_all ks r vs = cond (allowed_from ks 0 0 r vs) (Some (length (fields_text ks r vs), marks_from ks 0 0 r vs)) None

unfoldable pub sized_fields : Rule → Body → List ℕ → Option ℕ
sized_fields ρ b r = cond (is_fielded ρ b r) (Some (length (fields_text (kinds_in ρ b) r (values_in b)))) None

unfoldable pub sized_body : Rule → Body → List ℕ → Bool → Option ℕ
sized_body ρ b r t = cond (is_body ρ b r t) (Some (length (body_text ρ b r t))) None

unfoldable pub sized_line : Rule → Reading → List ℕ → Option ℕ
sized_line ρ x r = cond (is_allowed_by ρ x r) (Some (length (line_by ρ x r))) None

-- ---- what is asked for

pub record AllAsks (ks r : List ℕ) : Type 0 where
  pub few : length ks ≤ 19
  pub short : length r ≤ longest_line
