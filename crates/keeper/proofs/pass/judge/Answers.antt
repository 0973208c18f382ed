-- `judge` meets its contract. Assumes nothing.
use mathlib.Core.Path.{sym}
use lib.Seq.{length-take-le}
use Rattle.keeper.proofs.Passes.{used_inside, next_piece, judges}
use Rattle.keeper.proofs.pass.judge.Goals as goal

pub slice_bounds-put-end : goal.slice_bounds-put-end
slice_bounds-put-end c = let s = c.args in
    let w = c.sweep_on-next in
    sym (length-take-le _ _ (used_inside s.day s.pass _ _ w.result w.ensures))

pub put-shelf-requires : goal.put-shelf-requires
put-shelf-requires c = λ e. let w = c.sweep_on-next in
    next_piece c.args.day c.args.pass _ _ w.result w.ensures (c.requires.after_lines e)

pub returns : goal.returns
returns c = let s = c.args in
    let w = c.sweep_on-next in
    judges s.day s.pass _ _ w.result w.ensures s.writes c.put-shelf.result c.put-shelf.ensures
