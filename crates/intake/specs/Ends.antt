-- Which descriptor an end has: the number that the system gives it. Assumes nothing.
use Rattle.std.specs.Prelude.{ℤ, pos}
use Rattle.std.specs.Fd.{file_raw_fd}
use Rattle.intake.specs.declared.ends.Source.{Source}
use Rattle.intake.specs.declared.ends.Source.TheVariants as source
use Rattle.intake.specs.declared.ends.Target.{Target}
use Rattle.intake.specs.declared.ends.Target.TheVariants as target

-- standard input is 0
abbrev pub source_fd : Source → ℤ
source_fd (source.Standard stream) = pos 0
source_fd (source.Named file) = file_raw_fd file

-- standard output is 1
abbrev pub target_fd : Target → ℤ
target_fd (target.Standard stream) = pos 1
target_fd (target.Named file) = file_raw_fd file
