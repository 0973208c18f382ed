-- The search by halves tells what the whole range tells. Assumes nothing.
use mathlib.Core.Path.{◌∙◌}
use Prim.Native.Nat.{◌<◌}
use native.Mathlib.Omega.{arith}
use Rattle.board.specs.Halving.{half, looks}
use Rattle.board.proofs.Allowed.{parts}
use Rattle.board.proofs.Halves.{half_inside, half_tells}
use Rattle.board.proofs.Looks.{looks_half}
use Rattle.board.proofs.halving.+one_left.Goals as goal

pub half_left-half-requires : goal.half_left-half-requires
half_left-half-requires t c =
    let p = parts _ c.requires.0 in
    (c.requires.1, omega (arith, p.size, p.count, c.requires.2))

pub one_left-requires : goal.one_left-requires
one_left-requires t c =
    let more : 1 < c.args.width = omega (arith, c.requires.1, c.if-width-eq1.false) in
    let fewer : looks (half c.args.width) < t = omega (arith, looks_half c.args.width more) in
    let inside = half_inside c.args.board.now c.args.key c.args.first c.args.width more c.requires.2 in
    (fewer, (c.requires.0, omega (arith, more), omega (arith, c.half_left-half.ensures, inside, c.requires.2)))

pub returns : goal.returns
returns t c =
    let more : 1 < c.args.width = omega (arith, c.requires.1, c.if-width-eq1.false) in
    let tells = half_tells c.args.board.now c.args.key c.args.first c.args.width more c.requires.2 c.requires.0 in
    record {
      row = c.one_left.ensures.row;
      tells = c.one_left.ensures.tells ∙ rw c.half_left-half.ensures tells;
    }
