-- The ways of `read_body`: a body by the table, or kept whole; document 01's number of each. Assumes nothing.
use Rattle.std.specs.Prelude.{Bool, Err, Ok, Result}
use mathlib.Core.Path.{◌≡◌, refl}
use mathlib.Core.Bool.{true, false}
use mathlib.Core.List.{List, []}
use Prim.Native.Nat.{ℕ}
use Rattle.fields.specs.declared.heads.MessageType.{MessageType}
use Rattle.table.specs.declared.kinds.Value.{Value}
use Rattle.table.specs.Read.{padded, answer_number}
use Rattle.rules.specs.declared.Rule.{Rule}
use Rattle.table.specs.Table.{has_fields, answer_by, values_by}
use Rattle.messages.specs.Body.{body_from}
use Rattle.messages.specs.Read.{typed_of, body_read, body_number}
use Rattle.table.specs.declared.walk.Fault.{Fault}

typed_number : (t : MessageType) (w : List Value) (a : Result (Bool × ℕ) Fault) → body_number (typed_of t w a) ≡ answer_number a
typed_number t w (Ok (u, m)) = refl
typed_number t w (Err x) = refl

module _ (ρ : Rule) (t : MessageType) (s : List ℕ) where
  pub by_table : has_fields t ≡ true → body_read ρ t s ≡ typed_of t (padded (values_by ρ t s)) (answer_by ρ t s)
  unfolding body_read
  by_table e = rw e

  pub kept_whole : has_fields t ≡ false → body_read ρ t s ≡ Ok (body_from t 0 (padded []), false)
  unfolding body_read
  kept_whole e = rw e

  -- THE NUMBER of a body is the table's answer to it, and 0 where it is kept whole
  pub table_number : has_fields t ≡ true → body_number (body_read ρ t s) ≡ answer_number (answer_by ρ t s)
  table_number e = rw (by_table e) (typed_number t (padded (values_by ρ t s)) (answer_by ρ t s))

  pub whole_number : has_fields t ≡ false → body_number (body_read ρ t s) ≡ 0
  whole_number e = rw (kept_whole e)
