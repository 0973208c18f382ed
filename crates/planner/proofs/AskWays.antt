-- What each way through the code asks is what the definition says. Assumes nothing.
use Rattle.std.specs.Prelude.{Err, Ok, Result}
use Rattle.std.specs.Result.{MatchResult, IsOkAnd}
use mathlib.Core.Path.{◌≡◌, refl, sym, ap, ◌∙◌}
use mathlib.Core.List.{List, [], ◌∷◌}
use Prim.Native.Nat.{ℕ}
use denote.Enum.Declared.{tag_of}
use types.Run.{OneOf, miss}
use Rattle.fields.specs.declared.frame.Stamp.{Stamp}
use Rattle.messages.specs.declared.Message.{Message}
use Rattle.messages.specs.declared.Body.{Body}
use Rattle.messages.specs.declared.Body.TheVariants as body
use Rattle.messages.specs.contracts.Body.{the_type}
use Rattle.line.specs.Read.{read_of}
use Rattle.planner.specs.Asked.{asked_in, asked_by, asked_from, asked_of}
use Rattle.planner.specs.declared.asks.Asked.{Asked}
use Rattle.planner.specs.declared.asks.Asked.TheVariants.{Other}
use Rattle.line.specs.declared.Refusal.{Refusal}

-- the types that ask nothing, of which the code tells only the variant's number
pub asks_nothing : (s : Stamp) (b : Body) → OneOf (0 ∷ 3 ∷ 4 ∷ 6 ∷ 7 ∷ 8 ∷ 9 ∷ []) (tag_of the_type b) → Other ≡ asked_in s b
asks_nothing s (body.Af m) h = refl
asks_nothing s (body.Az m) h = absurd (miss (0 ∷ 3 ∷ 4 ∷ 6 ∷ 7 ∷ 8 ∷ 9 ∷ []) 1 tt h)
asks_nothing s (body.Dz m) h = absurd (miss (0 ∷ 3 ∷ 4 ∷ 6 ∷ 7 ∷ 8 ∷ 9 ∷ []) 2 tt h)
asks_nothing s (body.Fz m) h = refl
asks_nothing s (body.Rz m) h = refl
asks_nothing s (body.Tz m) h = absurd (miss (0 ∷ 3 ∷ 4 ∷ 6 ∷ 7 ∷ 8 ∷ 9 ∷ []) 5 tt h)
asks_nothing s (body.Uz m) h = refl
asks_nothing s body.Rt h = refl
asks_nothing s body.To h = refl
asks_nothing s body.Hb h = refl

pub asks_by : (m : Message) → asked_in m.stamp m.body ≡ asked_by m
unfolding asked_by
asks_by m = refl

pub asks_body : (m : Message) (b : Body) → m.body ≡ b → asked_in m.stamp b ≡ asked_by m
unfolding asked_by
asks_body m b e = ap (asked_in m.stamp) (sym e)

-- a line that reads as r asks what r does: what each message of it asks, or its refusal
pub asks_as : (s : List ℕ) (r : Result Message Refusal) (a : Result Asked Refusal) → r ≡ read_of s
    → MatchResult r (λ m. IsOkAnd a (λ x. x ≡ asked_by m)) (λ e. a ≡ Err e) → a ≡ asked_of s
unfolding asked_of
asks_as s (Ok m) (Ok x) e h = ap Ok h ∙ ap asked_from e
asks_as s (Ok m) (Err x) e h = absurd h
asks_as s (Err x) a e h = h ∙ ap asked_from e
