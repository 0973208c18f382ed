-- `is_option` meets its contract: an empty word is none. Assumes nothing.
use mathlib.Core.Path.{◌≡◌, refl}
use mathlib.Core.Bool.{false}
use mathlib.Core.List.{List, [], ◌∷◌}
use Prim.Native.Nat.{ℕ}
use native.Mathlib.Omega.{arith}
use lib.Dec.{eqb}
use lib.ListN.{length, get_or}
use Rattle.intake.proofs.words.is_option.Goals as goal

empty : (s : List ℕ) → length s ≡ 0 → false ≡ eqb (get_or s 0 0) 45
empty [] e = refl
empty (x ∷ s) e = absurd (omega arith)

pub returns-then-word-eq0 : goal.returns-then-word-eq0
returns-then-word-eq0 c = empty c.args.word.now (omega arith)
