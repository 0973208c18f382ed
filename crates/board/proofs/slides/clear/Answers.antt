-- `clear` meets its contract. Assumes nothing.
use mathlib.Core.Path.{◌≡◌, ap, sym, ◌∙◌}
use mathlib.Core.List.{List, ◌++◌}
use Prim.Native.Nat.{ℕ, ◌+◌, ◌-◌}
use native.Mathlib.Omega.{arith}
use lib.ListN.{length, take, drop, replicate, length-take, length-drop, length-replicate}
use Rattle.std.proofs.lemmas.List.{take-replicate}
use Rattle.std.proofs.lemmas.Slice.{put_mid-paste}
use Rattle.board.specs.Slides.{zeroed}
use Rattle.board.proofs.slides.clear.Goals as goal

pub returns : goal.returns
unfolding zeroed
returns c =
    let a = c.args in
    let m : length (take (a.p + a.n - a.p) (drop a.p a.s.now)) ≡ a.n = simp (length-take, length-drop) (omega arith) in
    let k : a.n ≡ a.p + a.n - a.p = omega arith in
    let e : c.fill.new.self ≡ replicate a.n 0 = c.fill.ensures.after (λ y e. e) ∙ ap (λ (i : ℕ). replicate i 0) m in
    put_mid-paste a.p (a.p + a.n - a.p) a.s.now c.fill.new.self (replicate a.n 0) a.n e k (sym (length-replicate a.n 0))
    ∙ ap (λ (z : List ℕ). take a.p a.s.now ++ z ++ drop (a.p + a.n) a.s.now) (take-replicate a.n a.n 0 (omega arith))
