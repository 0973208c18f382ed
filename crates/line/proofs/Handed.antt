-- What a `?` and a `map` hand on. Assumes nothing.
use Rattle.std.specs.Prelude.{Bool, Err, None, Ok, Option, Result, Some}
use Rattle.std.specs.Option.{ok_or}
use Rattle.std.specs.Result.{MatchResult, IsOkAnd, IsErrAnd}
use mathlib.Core.Path.{◌≡◌, refl, sym, ap, ◌∙◌}
use Prim.Native.Nat.{ℕ}
use native.Mathlib.Omega.{arith}
use Rattle.table.specs.declared.walk.Fault.{Fault}
use Rattle.messages.specs.Reading.{message_of, old_message_of}
use Rattle.messages.specs.declared.Body.{Body as BodyOf}
use Rattle.messages.specs.declared.Message.{Message}
use Rattle.messages.specs.declared.OldMessage.{OldMessage}
use Rattle.messages.specs.declared.Reading.{Reading}
use Rattle.line.specs.Read.{newly, oldly}
use Rattle.line.specs.declared.Refusal.{Refusal}
use Rattle.line.specs.declared.Refusal.TheVariants.{Body}

pub handed_err : {T E : Type 0} (r : Result T E) (x : E) → IsErrAnd r (λ e. e ≡ x) → r ≡ Err x
handed_err (Ok t) x h = absurd h
handed_err (Err e) x h = ap Err h

-- the refusal x in place of a part that is none
pub none_err : {P T E : Type 0} (p : Option P) (n x : E) (r : Result T E) → p ≡ None → Err n ≡ ok_or p x → IsErrAnd r (λ e. e ≡ n) → r ≡ Err x
none_err None n x r is e h = let z : n ≡ x = cc in handed_err r n h ∙ ap Err z
none_err (Some y) n x r is e h = let z : n ≡ x = cc in handed_err r n h ∙ ap Err z

-- a body's fault as the line's refusal
abbrev pub Bodied : Result (BodyOf × Bool) Fault → Result (BodyOf × Bool) Refusal → Type 0
Bodied r h = MatchResult r (λ b. h ≡ Ok b) (λ f. IsErrAnd h (λ n. n ≡ Body f))

pub bodied_ok : (r : Result (BodyOf × Bool) Fault) (b : BodyOf × Bool) → Bodied r (Ok b) → r ≡ Ok b
bodied_ok (Ok x) b h = let z : b ≡ x = cc in ap Ok (sym z)
bodied_ok (Err f) b h = absurd h

pub bodied_err : (r : Result (BodyOf × Bool) Fault) (n : Refusal) → Bodied r (Err n) → (f : Fault) × (r ≡ Err f) × (n ≡ Body f)
bodied_err (Ok x) n h = let z : ◌≡◌ {A = ℕ} 0 1 = cc in let none : ⊥ = omega arith in absurd none
bodied_err (Err f) n h = (f, refl, h)

-- a reading as a message of its feed
pub newly_as : (r : Result Reading Refusal) (a : Result Message Refusal) → MatchResult r (λ x. IsOkAnd a (λ m. m ≡ message_of x)) (λ e. a ≡ Err e) → a ≡ newly r
newly_as (Ok x) (Ok m) h = ap Ok h
newly_as (Ok x) (Err e) h = absurd h
newly_as (Err e) a h = h

pub oldly_as : (r : Result Reading Refusal) (a : Result OldMessage Refusal) → MatchResult r (λ x. IsOkAnd a (λ m. m ≡ old_message_of x)) (λ e. a ≡ Err e) → a ≡ oldly r
oldly_as (Ok x) (Ok m) h = ap Ok h
oldly_as (Ok x) (Err e) h = absurd h
oldly_as (Err e) a h = h
