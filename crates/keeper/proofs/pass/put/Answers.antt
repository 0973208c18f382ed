-- `put` meets its contract. Assumes nothing.
use borrow.Author.Tests.{not-true, not-false}
use Rattle.keeper.proofs.Passes.{no_put, one_put}
use Rattle.keeper.proofs.pass.put.Goals as goal

pub returns-then-not-writes : goal.returns-then-not-writes
returns-then-not-writes c = let s = c.args in no_put s.writes s.shelf _ (not-true s.writes c.if-not-writes.true-raw)

pub put_lines-requires : goal.put_lines-requires
put_lines-requires c = c.requires (not-false c.args.writes c.if-not-writes.false-raw)

pub returns : goal.returns
returns c =
    let s = c.args in
    one_put s.writes s.shelf _ c.put_lines.result (not-false s.writes c.if-not-writes.false-raw) c.put_lines.ensures
