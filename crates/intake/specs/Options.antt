-- THE OPTIONS of `desk check` (document 02, l): what the word w asks for, beyond what the words before it asked. Assumes nothing.
use Rattle.std.specs.Prelude.{ℕ, ◌≡◌, true, false, List, None, Option, Some}
use Rattle.text.specs.Bytes.{bytes}
use Rattle.rules.specs.declared.Rule.TheVariants.{New, Old}
use Rattle.checks.specs.declared.Asked.{Asked}

pub data OptionIs (a : Asked) (w : List ℕ) : Option Asked → Type 0 where
  -- lines of the old feed
  AsksOld : w ≡ bytes "--old" → a.rule ≡ New → OptionIs a w (Some (record { rule = Old; refused = a.refused }))
  -- the refused lines alone
  AsksRefused : w ≡ bytes "--refused" → a.refused ≡ false → OptionIs a w (Some (record { rule = a.rule; refused = true }))
  -- neither, or one that was given
  AsksNothing : (w ≡ bytes "--old" → a.rule ≡ Old) → (w ≡ bytes "--refused" → a.refused ≡ true) → OptionIs a w None
