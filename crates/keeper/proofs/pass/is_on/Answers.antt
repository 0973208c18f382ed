-- `is_on` meets its contract. Assumes nothing.
use borrow.Author.Tests.{not-true, not-false}
use Rattle.text.proofs.Logic.{so, not_so}
use Rattle.keeper.proofs.Passes.{not_read, not_live, no_further, further}
use Rattle.keeper.proofs.pass.is_on.Goals as goal

pub returns-then-not-pass : goal.returns-then-not-pass
returns-then-not-pass c = let s = c.args in not_read s.day s.before s.pass (not-true s.pass.read c.if-not-pass.true)

pub returns-then-not-is_live : goal.returns-then-not-is_live
returns-then-not-is_live c =
    let s = c.args in
    not_live s.day s.before s.pass (not-false s.pass.read c.if-not-pass.false) (not_so c.is_live.ensures c.if-not-is_live.true-raw)

pub returns-then-sweep-before : goal.returns-then-sweep-before
returns-then-sweep-before c =
    let s = c.args in
    no_further s.day s.before s.pass (not-false s.pass.read c.if-not-pass.false) (so c.is_live.ensures c.if-not-is_live.false-raw) c.if-sweep-before.true

pub returns : goal.returns
returns c =
    let s = c.args in
    further s.day s.before s.pass (not-false s.pass.read c.if-not-pass.false) (so c.is_live.ensures c.if-not-is_live.false-raw) c.if-sweep-before.false
