-- `turn` meets its contract: both windows are read from where the pass stands, and judged. Assumes nothing.
use mathlib.Core.Path.{sym, ◌∙◌}
use native.Mathlib.Omega.{arith}
use lib.Seq.{length-take-le, length_front}
use borrow.Author.Rules.{rules}
use Rattle.keeper.proofs.Passes.{pass_size, turn_unread, after_lines, s_same, i_same, windows_wide, turn_read}
use Rattle.keeper.proofs.pass.turn.Goals as goal

pub slice_bounds-fill-end-2 : goal.slice_bounds-fill-end-2
slice_bounds-fill-end-2 c = sym (length-take-le _ _ (omega (arith, c.least-n.ensures)))

pub fill-requires : goal.fill-requires
fill-requires c =
    let a = c.least-n in
    let v = c.requires.passing in
    omega (arith, a.ensures, length-take-le a.result c.args.lines.now (omega (arith, a.ensures)), v.swept.inside, pass_size v, c.args.volume.fits)

pub returns-in_default : goal.returns-in_default
returns-in_default c = turn_unread c.requires.passing _ _ c.unread.ensures

pub overflow_mul-day : goal.overflow_mul-day
overflow_mul-day c = omega (arith, pass_size c.requires.passing, c.args.volume.fits)

pub overflow_mul-place : goal.overflow_mul-place
overflow_mul-place c = omega (arith, pass_size c.requires.passing, c.requires.passing.swept.fewer, c.args.volume.fits)

pub overflow_add-place : goal.overflow_add-place
overflow_add-place c = omega (arith, pass_size c.requires.passing, c.requires.passing.swept.fewer, c.args.volume.fits)

pub slice_bounds-fill-end-4 : goal.slice_bounds-fill-end-4
slice_bounds-fill-end-4 c = sym (length-take-le _ _ (omega (arith, c.least-m.ensures)))

pub fill-requires-2 : goal.fill-requires-2
fill-requires-2 c =
    let b = c.least-m in
    omega (arith, b.ensures, length-take-le b.result c.args.index.now (omega (arith, b.ensures)), pass_size c.requires.passing, c.args.volume.fits)

pub returns-in_default-fill : goal.returns-in_default-fill
returns-in_default-fill c = turn_unread c.requires.passing _ _ c.unread-in_default-fill.ensures

pub slice_bounds-judge-end-2 : goal.slice_bounds-judge-end-2
slice_bounds-judge-end-2 c = sym (length-take-le _ _ (search rules))

pub slice_bounds-judge-end-4 : goal.slice_bounds-judge-end-4
slice_bounds-judge-end-4 c = sym (length-take-le _ _ (search rules))

pub judge-requires : goal.judge-requires
judge-requires c =
    let f = c.fill in
    let g = c.fill-2 in
    let a = c.least-n in
    let b = c.least-m in
    let x = f.new.window in
    let y = g.new.window in
    record {
      wide = windows_wide c.requires.passing c.args.lines.now c.args.index.now x y a.result b.result a.ensures b.ensures f.auto.window g.auto.window c.args.volume.fits c.requires.to_go.1 c.requires.lines_len.0 c.requires.lines_len.1;
      read_from = (c.in-Some.ensures.0, c.in-Some.ensures.1 ∙ s_same c.requires.passing c.args.lines.now c.args.index.now x y a.result b.result a.ensures b.ensures f.auto.window g.auto.window, c.in-Some.ensures.2);
      read_from_2 = (c.in-Some-fill.ensures.0, c.in-Some-fill.ensures.1 ∙ i_same c.requires.passing c.args.lines.now c.args.index.now x y a.result b.result a.ensures b.ensures f.auto.window g.auto.window, c.in-Some-fill.ensures.2);
      after_lines = after_lines c.requires.passing c.requires.to_go.0;
    }

pub shape_of-lines : goal.shape_of-lines
shape_of-lines c = let f = c.fill in length_front c.args.lines.now f.new.window c.least-n.result f.auto.window

pub returns : goal.returns
returns c =
    let f = c.fill in
    let g = c.fill-2 in
    let a = c.least-n in
    let b = c.least-m in
    let x = f.new.window in
    let y = g.new.window in
    turn_read c.requires.passing c.args.lines.now c.args.index.now x y a.result b.result a.ensures b.ensures f.auto.window g.auto.window c.requires.to_go.0 c.judge.result c.judge.ensures
