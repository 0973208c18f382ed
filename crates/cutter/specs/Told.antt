-- The lines that come from a state, and the state that is left, where the pieces of the bytes to come are given: each piece but the last
-- ends a line. Assumes nothing.
use Rattle.std.specs.Prelude.{ℕ, List, [], ◌∷◌}
use Rattle.cutter.specs.Feed.{Line, Whole, TooLong}
use Rattle.cutter.specs.State.{State, Bytes, Mark, more}

abbrev pub ended : State → Line
ended (Bytes l) = Whole l
ended Mark = TooLong

unfoldable pub told : State → List (List ℕ) → List Line
told h [] = []
told h (p ∷ []) = []
told h (p ∷ (q ∷ ps)) = ended (more h p) ∷ told (Bytes []) (q ∷ ps)

unfoldable pub state_after : State → List (List ℕ) → State
state_after h [] = h
state_after h (p ∷ []) = more h p
state_after h (p ∷ (q ∷ ps)) = state_after (Bytes []) (q ∷ ps)
