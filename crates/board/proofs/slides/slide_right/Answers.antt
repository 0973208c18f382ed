-- `slide_right` meets its contract. Assumes nothing.
use mathlib.Core.Path.{ap, ◌≡◌, ◌∙◌}
use mathlib.Core.List.{◌++◌, append_assoc}
use lib.ListN.{take, drop}
use Prim.Native.Nat.{ℕ, ◌+◌, ◌-◌}
use native.Mathlib.Omega.{arith}
use Rattle.board.specs.Slides.{slid_right}
use Rattle.board.proofs.slides.slide_right.Goals as goal

pub returns : goal.returns
unfolding slid_right
returns c = let a = c.args in
    let e : a.p + a.w + (a.e - a.p) ≡ a.e + a.w = omega arith in
    c.copy_within.ensures.after
    ∙ append_assoc (take (a.p + a.w) a.s.now) (take (a.e - a.p) (drop a.p a.s.now)) (drop (a.p + a.w + (a.e - a.p)) a.s.now)
    ∙ ap (λ (k : ℕ). take (a.p + a.w) a.s.now ++ (take (a.e - a.p) (drop a.p a.s.now) ++ drop k a.s.now)) e
