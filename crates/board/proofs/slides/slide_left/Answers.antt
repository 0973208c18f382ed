-- `slide_left` meets its contract. Assumes nothing.
use mathlib.Core.Path.{ap, ◌≡◌, ◌∙◌}
use lib.ListN.{drop}
use lib.Seq.{paste}
use Prim.Native.Nat.{◌+◌, ◌-◌}
use native.Mathlib.Omega.{arith}
use Rattle.board.specs.Slides.{slid_left}
use Rattle.board.proofs.slides.slide_left.Goals as goal

pub returns : goal.returns
unfolding slid_left
returns c = let a = c.args in
    let e : a.p + a.w + a.n - (a.p + a.w) ≡ a.n = omega arith in
    c.copy_within.ensures.after ∙ ap (paste a.s.now a.p (drop (a.p + a.w) a.s.now)) e
