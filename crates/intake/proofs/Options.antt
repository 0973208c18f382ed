-- THE LAW of the options of `desk check`: a word asks for one thing. Assumes nothing.
use Rattle.std.specs.Prelude.{Option}
use mathlib.Core.Path.{◌≡◌, refl, sym, ap, ◌∙◌}
use mathlib.Core.List.{List}
use Prim.Native.Nat.{ℕ}
use native.Mathlib.Omega.{arith}
use lib.ListN.{length}
use Rattle.text.specs.Bytes.{bytes}
use Rattle.text.proofs.Logic.{true_false}
use Rattle.rules.specs.declared.Rule.TheVariants.{New, Old}
use Rattle.checks.specs.declared.Asked.{Asked}
use Rattle.intake.specs.Options.{OptionIs, AsksOld, AsksRefused, AsksNothing}

pub two_words : (w : List ℕ) → w ≡ bytes "--old" → w ≡ bytes "--refused" → ⊥
two_words w e f = omega (arith, ap length (sym e ∙ f))

two_rules : (a : Asked) → a.rule ≡ Old → a.rule ≡ New → ⊥
two_rules a e f = let z : ◌≡◌ {A = ℕ} 0 1 = cc in omega arith

pub asks_one : (a : Asked) (w : List ℕ) {r r' : (Option Asked)} → OptionIs a w r → OptionIs a w r' → r ≡ r'
asks_one a w (AsksOld e f) (AsksOld e' f') = refl
asks_one a w (AsksOld e f) (AsksRefused e' f') = absurd (two_words w e e')
asks_one a w (AsksOld e f) (AsksNothing d d') = absurd (two_rules a (d e) f)
asks_one a w (AsksRefused e f) (AsksOld e' f') = absurd (two_words w e' e)
asks_one a w (AsksRefused e f) (AsksRefused e' f') = refl
asks_one a w (AsksRefused e f) (AsksNothing d d') = absurd (true_false (d' e) f)
asks_one a w (AsksNothing d d') (AsksOld e f) = absurd (two_rules a (d e) f)
asks_one a w (AsksNothing d d') (AsksRefused e f) = absurd (true_false (d' e) f)
asks_one a w (AsksNothing d d') (AsksNothing e e') = refl
