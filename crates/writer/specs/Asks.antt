-- What the inner functions of the writer ask for. The writer's own promise is in the words of line/specs/Line. Assumes nothing.
use Rattle.std.specs.Prelude.{ℕ, ◌≤◌, ◌≡◌, Bool, true, List, ◌++◌, length}
use Rattle.rules.specs.declared.Rule.{Rule}
use Rattle.fields.specs.Head.{sequence_in, stamp_in, facility_in, head_length}
use Rattle.fields.specs.MessageType.{type_text}
use Rattle.fields.specs.declared.heads.MessageType.{MessageType}
use Rattle.table.specs.Field.{is_value, shown}
use Rattle.table.specs.declared.kinds.Value.{Value}
use Rattle.table.specs.Show.{allowed_from}
use Rattle.messages.specs.Allowed.{is_body, body_text}
use Rattle.messages.specs.declared.Body.{Body}
use Rattle.messages.specs.declared.Reading.{Reading}
use Rattle.line.specs.Line.{line_by, is_allowed_by}
use Rattle.writer.specs.Size.{fields_text}

pub record FieldAsks (k p : ℕ) (r : List ℕ) (v : Value) (out : List ℕ) : Type 0 where
  pub good : is_value k p r v ≡ true
  pub room : length (shown k p r v) ≤ length out

pub record PutAsks (ks r : List ℕ) (vs : List Value) (out : List ℕ) : Type 0 where
  pub few : length ks ≤ 19
  pub good : allowed_from ks 0 0 r vs ≡ true
  pub room : length (fields_text ks r vs) ≤ length out

pub record BodyAsks (ρ : Rule) (b : Body) (r : List ℕ) (t : Bool) (out : List ℕ) : Type 0 where
  pub good : is_body ρ b r t ≡ true
  pub room : length (body_text ρ b r t) ≤ length out

-- the parts of a head, one after the other
abbrev pub head_text : Rule → ℕ → ℕ → ℕ → MessageType → List ℕ
head_text ρ a b c t = (sequence_in ρ).shown a ++ (stamp_in ρ).shown b ++ (facility_in ρ).shown c ++ type_text t

pub record HeadAsks (ρ : Rule) (a b c : ℕ) (out : List ℕ) : Type 0 where
  pub sequence : (sequence_in ρ).held a ≡ true
  pub stamp : (stamp_in ρ).held b ≡ true
  pub facility : (facility_in ρ).held c ≡ true
  pub room : head_length ρ ≤ length out

pub record LineAsks (ρ : Rule) (x : Reading) (r : List ℕ) (out : List ℕ) : Type 0 where
  pub good : is_allowed_by ρ x r ≡ true
  pub room : length (line_by ρ x r) ≤ length out
