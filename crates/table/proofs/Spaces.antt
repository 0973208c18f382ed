-- What the spaces of a body tell: its spacing is wrong exactly if two stand side by side, and else it has a field for each space
-- before its last byte. Assumes nothing.
use Rattle.std.specs.Prelude.{None, Option, Some}
use mathlib.Core.Path.{◌≡◌, refl, sym, ap, ◌∙◌}
use mathlib.Core.Bool.{Bool, true, false, cond, ◌&&◌, ◌||◌}
use mathlib.Core.List.{List, [], ◌∷◌}
use Prim.Native.Nat.{ℕ, suc, ◌-◌, ◌<◌}
use native.Mathlib.Omega.{arith}
use lib.Dec.{eqb}
use lib.ListN.{length, take, drop, get_or}
use borrow.Author.Tests.{eq-eqb}
use Rattle.shapes.specs.Pieces.{grow, pieces}
use Rattle.shapes.proofs.Pieces.{pieces_turn}
use Rattle.shapes.specs.Many.{how_many, twice}
use Rattle.table.specs.Spacing.{space, Split, Fields, Wrong, more, ended, fields_of, counts, count_of}

-- two spaces side by side; how many there are before the last byte; whether that is one
unfoldable pub told : Bool → ℕ → Bool → Option (ℕ × Bool)
told true n t = None
told false n t = Some (n, t)

-- one field more
plus : Option (ℕ × Bool) → Option (ℕ × Bool)
plus None = None
plus (Some (n, t)) = Some (suc n, t)

counts_more : (f : List ℕ) (r : Split) → counts (more f r) ≡ plus (counts r)
unfolding counts plus
counts_more f Wrong = refl
counts_more f (Fields fs t) = refl

told_more : (w : Bool) (n : ℕ) (t : Bool) → told w (suc n) t ≡ plus (told w n t)
unfolding told plus
told_more true n t = refl
told_more false n t = refl

-- the first piece is a field, and those after it are the others
first_field : (y : ℕ) (ps : List (List ℕ)) → counts (ended (grow y ps)) ≡ plus (counts (ended (drop 1 (grow y ps))))
unfolding ended
first_field y [] = counts_more (y ∷ []) (ended [])
first_field y (p ∷ ps) = counts_more (y ∷ p) (ended ps)

grown_after : (x : ℕ) (ps : List (List ℕ)) → drop 1 (grow x ps) ≡ drop 1 ps
grown_after x [] = refl
grown_after x (p ∷ ps) = refl

-- a byte x before a byte y, each a space or not, before the pieces ps
two_bytes : (a b : Bool) (x y : ℕ) (ps : List (List ℕ)) (w : Bool) (n : ℕ) (e : Bool)
    → 0 < length ps → counts (ended (drop 1 (cond b ([] ∷ ps) (grow y ps)))) ≡ told w n e
    → counts (ended (drop 1 (cond a ([] ∷ cond b ([] ∷ ps) (grow y ps)) (grow x (cond b ([] ∷ ps) (grow y ps)))))) ≡ told (a && b || w) (cond a (suc n) n) e
unfolding counts ended told
two_bytes false b x y ps w n e h r = rw (grown_after x (cond b ([] ∷ ps) (grow y ps))) r
two_bytes true true x y [] w n e h r = absurd (omega arith)
two_bytes true true x y (p ∷ ps) w n e h r = refl
two_bytes true false x y ps w n e h r = first_field y ps ∙ ap plus r ∙ sym (told_more w n e)

-- what the pieces after the first are, of a text with a last byte
after_first : (x : ℕ) (s : List ℕ)
    → counts (ended (drop 1 (pieces space (x ∷ s)))) ≡ told (twice space (x ∷ s)) (how_many space (take (length s) (x ∷ s))) (eqb (get_or (x ∷ s) (length s) 0) space)
unfolding counts ended pieces twice how_many told
after_first x [] = go (eqb x space)
  where
    go : (t : Bool) → counts (ended (drop 1 (cond t ([] ∷ [] ∷ []) (grow x ([] ∷ []))))) ≡ Some (0, t)
    go true = refl
    go false = refl
after_first x (y ∷ s) =
    two_bytes (eqb x space) (eqb y space) x y (pieces space s) (twice space (y ∷ s)) (how_many space (take (length s) (y ∷ s))) (eqb (get_or (y ∷ s) (length s) 0) space)
    (rw (pieces_turn space s) (omega arith)) (after_first y s)

pub spaces_told : (s : List ℕ) → 0 < length s → get_or s 0 0 ≡ space
    → count_of s ≡ told (twice space s) (how_many space (take (length s - 1) s)) (eqb (get_or s (length s - 1) 0) space)
unfolding count_of fields_of pieces
spaces_told [] h e = absurd (omega arith)
spaces_told (x ∷ s) h e = let l : suc (length s) - 1 ≡ length s = omega arith in rw l ((rw (eq-eqb x space e)) ∙ after_first x s)
