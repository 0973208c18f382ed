-- The text of a body and which bodies a line can have. r is the free text that stands beside the message: the route, or
-- the body of RT, TO and HB. Assumes nothing.
use Rattle.std.specs.Prelude.{ℕ, Bool, true, cond, not, ◌&&◌, ◌||◌, List, [], ◌∷◌, eqb, length}
use Rattle.text.specs.Place.{all_in}
use Rattle.table.specs.Spacing.{body_of}
use Rattle.table.specs.Field.{is_one}
use Rattle.table.specs.declared.kinds.Value.{Value}
use Rattle.table.specs.Show.{texts_from, allowed_from, marks_from}
use Rattle.rules.specs.declared.Rule.{Rule}
use Rattle.table.specs.Table.{is_count, has_fields, has_route_with, kinds_of}
use Rattle.messages.specs.Body.{type_in, field_count, values_in, spare, marks_in}
use Rattle.messages.specs.declared.Body.{Body}

-- "RT, TO and HB bodies are kept whole and may be empty"
unfoldable pub is_whole : Body → Bool
is_whole b = not (has_fields (type_in b))

-- a route is among the fields
unfoldable pub has_route : Body → Bool
has_route b = has_route_with (type_in b) (marks_in b)

-- the kinds of its fields under the rule
unfoldable pub kinds_in : Rule → Body → List ℕ
kinds_in ρ b = kinds_of ρ (type_in b) (field_count b)

-- the text of a body; t says whether a space stands at its end
unfoldable pub body_text : Rule → Body → List ℕ → Bool → List ℕ
body_text ρ b r t = cond (is_whole b) r (body_of (texts_from (kinds_in ρ b) 0 r (values_in b)) t)

abbrev pub all_none : List Value → Bool
all_none [] = true
all_none (v ∷ vs) = eqb v.a 0 && is_one v && all_none vs

-- the count of fields is right; each is one that some text gives and may follow those before it; the marks are those of
-- the amendments, and no amendment comes after these; free text only where a route is
unfoldable pub is_fielded : Rule → Body → List ℕ → Bool
is_fielded ρ b r =
    is_count (type_in b) (field_count b) && allowed_from (kinds_in ρ b) 0 0 r (values_in b) && eqb (marks_from (kinds_in ρ b) 0 0 r (values_in b)) (marks_in b) && all_none (spare b) && (has_route b || eqb (length r) 0)

-- the bodies that a line can have
unfoldable pub is_body : Rule → Body → List ℕ → Bool → Bool
is_body ρ b r t = cond (is_whole b) (all_in 32 126 r && not t) (is_fielded ρ b r)
