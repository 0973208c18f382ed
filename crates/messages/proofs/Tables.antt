-- What a body that is made of a type, marks and values is by the table: its count of fields, the marks that it keeps,
-- and whether a route is among its fields. Assumes nothing.
use mathlib.Core.Path.{◌≡◌, sym, ap, ◌∙◌}
use mathlib.Core.Bool.{true}
use mathlib.Core.List.{List}
use Prim.Native.Nat.{ℕ}
use lib.Count.{ones}
use Rattle.table.specs.Field.{AMENDMENT}
use Rattle.fields.specs.declared.heads.MessageType.{MessageType}
use Rattle.table.specs.declared.kinds.Value.{Value}
use Rattle.table.specs.Show.{allowed_from, marks_from, routed}
use Rattle.table.proofs.MarksKept.{times}
use Rattle.rules.specs.declared.Rule.{Rule}
use Rattle.table.specs.Table.{is_count, kinds_of}
use Rattle.table.proofs.Tables.{marks_kept, kept_count, kept_route, count_marks, marks_none, route_with}
use Rattle.messages.specs.Body.{body_from, field_count, marks_in}
use Rattle.messages.specs.Allowed.{has_route}
use Rattle.messages.proofs.Bodies.{type_from, marks_from_lem}

-- "the count of marks set is the count of amendments"
pub count_from : (ρ : Rule) (m : ℕ) (w : List Value) (t : MessageType) (n : ℕ) → is_count t n ≡ true → ones m ≡ times AMENDMENT (kinds_of ρ t n) → field_count (body_from t m w) ≡ n
unfolding field_count
count_from ρ m w t n c e = rw (type_from t m w, marks_from_lem t m w) (kept_count t m ∙ count_marks ρ m t n c e)

-- a body keeps the marks that its fields set
pub marks_kept_lem : (ρ : Rule) (m : ℕ) (w : List Value) (r : List ℕ) (vs : List Value) (t : MessageType) (n : ℕ) → is_count t n ≡ true → marks_from (kinds_of ρ t n) 0 0 r vs ≡ m → marks_in (body_from t m w) ≡ m
marks_kept_lem ρ m w r vs t n c q = marks_from_lem t m w ∙ ap (marks_kept t) (sym q) ∙ sym (marks_none ρ r vs t n c) ∙ q

-- a route is among the fields exactly where the body says so
pub has_route_lem : (ρ : Rule) (m : ℕ) (w : List Value) (r : List ℕ) (vs : List Value) (t : MessageType) (n : ℕ) → is_count t n ≡ true → allowed_from (kinds_of ρ t n) 0 0 r vs ≡ true → marks_from (kinds_of ρ t n) 0 0 r vs ≡ m → has_route (body_from t m w) ≡ routed (kinds_of ρ t n) 0 r vs
unfolding has_route
has_route_lem ρ m w r vs t n c e q = rw (type_from t m w, marks_from_lem t m w) (kept_route t m ∙ route_with ρ m r vs t n c e q)
