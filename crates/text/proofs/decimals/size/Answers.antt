-- `text::decimals::size` meets its contract: one digit, or the power of 10 that n reaches. Assumes nothing.
use native.Mathlib.Nat.{pow-succ'}
use native.Mathlib.Omega.{arith}
use Rattle.text.proofs.DecimalDigits.{width_one, decimal_long}
use Rattle.text.proofs.Decimal.{width_is}
use Rattle.text.proofs.decimals.size.Goals as goal

pub returns-then-n-lt10 : goal.returns-then-n-lt10
returns-then-n-lt10 c = omega (arith, decimal_long c.args.n, width_one 19 c.args.n c.if-n-lt10.true)

pub returns : goal.returns
returns c =
    let n = c.args.n in
    let k = c.ilog10.result in
    let over = c.ilog10.ensures in
    omega (arith, decimal_long n, width_is n k (omega arith) over.power_le (rw pow-succ' over.next_power_gt))
