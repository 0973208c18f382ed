-- The rules with a slash in them, said of their parts: a text has the rule exactly if it is two such parts with a slash
-- between them. Assumes nothing.
use mathlib.Core.Path.{◌≡◌, refl}
use mathlib.Core.Bool.{true, or-true}
use mathlib.Core.List.{List, ◌∷◌, ◌++◌}
use Prim.Native.Char.{code}
use Prim.Native.Nat.{ℕ}
use lib.ListN.{length}
use Rattle.text.specs.Class.{is_digit, is_letter, is_alnum}
use Rattle.text.proofs.Logic.{true_false, not_fails}
use Rattle.shapes.specs.Picture.{is_of, run}
use Rattle.shapes.specs.Cut.{up_to, before, after}
use Rattle.shapes.proofs.Laws.{run_class}
use Rattle.shapes.proofs.Joins.{has_no, joins_parts, parts_join}
use Rattle.rules.specs.Form.{is_key, is_number, is_tz_ident, is_fix}

alnum_slashless : (least most : ℕ) (x : List ℕ) → run (code "a") least most x ≡ true → up_to (code "/") x ≡ length x
unfolding is_of is_alnum is_digit is_letter
alnum_slashless least most x e = has_no (code "/") (is_of (code "a")) refl x (run_class (code "a") least most x e)

-- a key, a slash and a computer number are a TZ's ident
pub tz_ident_of_lem : (x y : List ℕ) → is_key x ≡ true → is_number y ≡ true → is_tz_ident (x ++ code "/" ∷ y) ≡ true
unfolding is_tz_ident is_key
tz_ident_of_lem x y e f = parts_join (code "/") is_key is_number x y (alnum_slashless 2 7 x (not_fails _ (λ q. true_false (rw q at e) refl))) e f

-- and every TZ's ident is one
pub tz_ident_parts : (s : List ℕ) → is_tz_ident s ≡ true → (before (code "/") s ++ code "/" ∷ after (code "/") s ≡ s) × (is_key (before (code "/") s) ≡ true) × (is_number (after (code "/") s) ≡ true)
unfolding is_tz_ident
tz_ident_parts = joins_parts (code "/") is_key is_number

-- 2 to 5 alnum, a slash and 1 to 6 alnum are a fix
pub fix_of : (x y : List ℕ) → run (code "a") 2 5 x ≡ true → run (code "a") 1 6 y ≡ true → is_fix (x ++ code "/" ∷ y) ≡ true
unfolding is_fix
fix_of x y e f =
    rw (parts_join (code "/") (run (code "a") 2 5) (run (code "a") 1 6) x y (alnum_slashless 2 5 x e) e f, or-true)
