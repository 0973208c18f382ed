-- The end of a feed: inside a line, or at a line's start. Assumes nothing.
use mathlib.Core.Path.{◌≡◌, refl, ap, ◌∙◌}
use mathlib.Core.Bool.{Bool, true, false}
use mathlib.Core.List.{List}
use Prim.Native.Nat.{ℕ}
use lib.Dec.{eqb}
use Rattle.cutter.specs.Feed.{rest_of}
use Rattle.cutter.specs.Run.{at_end}
use Rattle.cutter.specs.Calls.{end_of, end_number}
use Rattle.cutter.specs.declared.Begun.{Begun}
use Rattle.cutter.specs.declared.EndAnswer.{EndAnswer}
use Rattle.cutter.specs.declared.EndAnswer.TheVariants.{AtStart, InsideLine, NotAllowed}
use Rattle.cutter.specs.declared.AfterEnd.{AfterEnd}
use Rattle.cutter.proofs.Cases.{end_case}
use Rattle.cutter.proofs.Feeds.{start_rest}
use Rattle.cutter.proofs.Runs.{at_end_lem}
use Rattle.feeding.specs.Fed.{read_in}
use Rattle.reports.specs.Report.{most_lines}
use Rattle.reports.proofs.Theorems.{read_stands}
use Rattle.intake.specs.Day.{ReadTo, is_torn}
use Rattle.intake.specs.declared.Day.{Day}

-- what `end` answered, as the code took it apart
abbrev told : EndAnswer → Bool
told AtStart = false
told InsideLine = true
told NotAllowed = false

told_is : (a : EndAnswer) → told a ≡ eqb (end_number a) 17
unfolding end_number
told_is AtStart = refl
told_is InsideLine = refl
told_is NotAllowed = refl

pub torn_as : (held : List ℕ) (begun : Begun) (r : AfterEnd) → r ≡ end_of held begun → (a : EndAnswer) → r.answer ≡ a → told a ≡ is_torn held begun
unfolding is_torn
torn_as held begun r e a q = rw (← e, q) (told_is a)

-- 17 exactly if the feed that was read has a rest that no line feed ended
pub torn_rest : (feed board held : List ℕ) (d : Day) → ReadTo feed board held d → is_torn held d.begun ≡ eqb (at_end (rest_of (read_in most_lines feed))) 17
unfolding is_torn
torn_rest feed board held d p =
    let s = read_stands most_lines p in
    ap (λ (n : ℕ). eqb n 17) (at_end_lem (rest_of (read_in most_lines feed)) (end_case held d.begun) s.state_allowed (s.state ∙ start_rest (read_in most_lines feed)))
