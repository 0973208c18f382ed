-- `shapes::sweeps::how_many` meets its contract: those that are counted and those that are left make all. Assumes nothing.
use Rattle.std.proofs.Common.{◌≡◌, ◌∙◌, ap, List, ℕ, ◌+◌, ◌++◌, arith}
use Rattle.std.specs.Slice.Iter.{chunks_rest}
use Rattle.shapes.specs.Many.{how_many}
use Rattle.shapes.proofs.Passes.{many_append, many_le}
use Rattle.shapes.proofs.sweeps.how_many.Goals as goal

turn : (b : ℕ) {left : List ℕ} (part next : List ℕ) → left ≡ part ++ next → how_many b left ≡ how_many b part + how_many b next
turn b part next e = ap (how_many b) e ∙ many_append b part next

pub overflow_add-n : goal.overflow_add-n
overflow_add-n c =
    let a = c.args in
    let p = c.in-Some.ensures.steps.1.0 in
    omega (arith, c.loop-part.invariant.rest, turn a.b c.in-Some.part.now (chunks_rest c.next.new.self) p, c.how_many_of_few.ensures, many_le a.b a.s.now)

pub loop-part-preserved : goal.loop-part-preserved
loop-part-preserved c =
    let p = c.in-Some.ensures.steps in
    record { few = p.0 ∙ c.loop-part.invariant.few; rest = omega (arith, c.loop-part.invariant.rest, turn c.args.b c.in-Some.part.now (chunks_rest c.next.new.self) p.1.0, c.how_many_of_few.ensures) }

pub returns : goal.returns
returns c = omega (arith, c.loop-part.invariant.rest, many_le c.args.b (chunks_rest c.loop-part.part-iterator), c.in-None.ensures.steps.1.0)
