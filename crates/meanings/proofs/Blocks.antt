-- THE NUMBERS of a level: what `level_numbers` tells are the numbers of its digits, and those of a block do not fall. Assumes nothing.
use Rattle.std.specs.Prelude.{Option}
use mathlib.Core.Path.{◌≡◌, refl}
use mathlib.Core.Bool.{Bool, true, false}
use mathlib.Core.List.{List}
use Prim.Native.Nat.{ℕ}
use Rattle.text.specs.Text.{text_of}
use Rattle.text.proofs.Logic.{true_false}
use Rattle.rules.specs.Form.{is_level}
use Rattle.rules.specs.Level.{Digits, Level, One, Two}
use Rattle.rules.proofs.Levels.{digits_read, digits_uncut, block_cut, level_exactly}
use Rattle.meanings.specs.declared.Levels.{Levels}
use Rattle.meanings.specs.Meaning.{decimal_of, levels_of, levels_in, Tells, TellsIn}

digits_decimal : (n : ℕ) (s : List ℕ) → Digits n s → decimal_of s ≡ n
unfolding decimal_of
digits_decimal n s d = rw (digits_read n s d)

level_tells : (s : List ℕ) → Tells s (levels_of s)
unfolding levels_of
level_tells s = go (is_level s) refl
  where
    level : Level s → is_level s ≡ true → Tells s (levels_of s)
    level (One n d) q = rw (q, digits_uncut n s d, digits_decimal n s d) d
    level (Two n m b h) q =
        let c = block_cut n m s b in
        rw (q, c.0, c.1, c.2, digits_decimal n b.first b.first_is, digits_decimal m b.second b.second_is) (b, h)

    go : (b : Bool) → is_level s ≡ b → Tells s (levels_of s)
    go true q = level ((level_exactly s).0 q) q
    go false q = rw q (λ l. true_false ((level_exactly s).1 l) q)

-- what `level_numbers` promises of its answer
pub level_told : (t : ℕ) {r : Option Levels} → r ≡ levels_in t → (r ≡ levels_in t) × TellsIn t r
unfolding levels_in
level_told t e = (e, λ q. rw (e, q) (level_tells (text_of t)))
