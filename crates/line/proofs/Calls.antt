-- THE CALLS of the readers by the rule: a call is its function's `ensures` as it stands in the source, `Post`, for any arguments, answer and state at exit.
-- What a theorem says of a call under the rule New it says of `line::read` and `line::free`, and under Old of `line::read_old` and `line::free`. Assumes
-- nothing.
use mathlib.Core.Path.{◌≡◌}
use mathlib.Core.List.{List}
use Prim.Native.Nat.{ℕ}
use Rattle.rules.specs.declared.Rule.{Rule}
use Rattle.rules.specs.declared.Rule.TheVariants.{New, Old}
use Rattle.line.specs.Cases.{Case}
use Rattle.line.specs.Messages.{AnswerOf, answer_to, number_of, place_of}
use Rattle.line.specs.Read.{free_of}
use Rattle.line.proofs.read.Reads as read
use Rattle.line.proofs.read_old.Reads as read-old
use Rattle.line.proofs.free.Reads as free

-- of a line what its reader answered
pub data ReadCall : (ρ : Rule) → List ℕ → AnswerOf ρ → Type 0 where
  Read : (κs : _) (a : _) (r : _) (s : _) → read.Post κs a r s → ReadCall New a.0.now r
  ReadOld : (κs : _) (a : _) (r : _) (s : _) → read-old.Post κs a r s → ReadCall Old a.0.now r

-- and its free text
pub data FreeCall : Rule → List ℕ → List ℕ → Type 0 where
  Free : (κs : _) (a : _) (r : _) (s : _) → free.Post κs a r s → FreeCall a.0 a.1.0.now r.now

-- what they promise
pub read_told : {ρ : Rule} {line : List ℕ} {r : AnswerOf ρ} → ReadCall ρ line r → r ≡ answer_to ρ line
read_told (Read κs a r s p) = p.0
read_told (ReadOld κs a r s p) = p.0

pub read_case : {ρ : Rule} {line : List ℕ} {r : AnswerOf ρ} → ReadCall ρ line r → Case ρ line (number_of ρ r) (place_of ρ r)
read_case (Read κs a r s p) = p.1
read_case (ReadOld κs a r s p) = p.1

pub free_told : {ρ : Rule} {line f : List ℕ} → FreeCall ρ line f → f ≡ free_of ρ line
free_told (Free κs a r s p) = p.0
