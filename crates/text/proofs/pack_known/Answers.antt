-- `text::pack_known` meets its contract: its loop keeps `Packs`, and each byte is a text byte. Assumes nothing.
use native.Mathlib.Omega.{arith}
use Rattle.text.proofs.Laws.{text_length}
use Rattle.text.proofs.Packs.{begin, all_summed, text_byte_at, text_some_at, fits, again}
use Rattle.text.proofs.pack_known.Goals as goal

pub loop-b-init : goal.loop-b-init
loop-b-init c = begin _ (text_length _ c.requires)

pub text_code-requires : goal.text_code-requires
text_code-requires c = text_byte_at c.loop-b.invariant c.loop-b-test.true c.requires

pub overflow_mul-n : goal.overflow_mul-n
overflow_mul-n c = omega (arith, (fits c.loop-b.invariant c.text_code.result c.loop-b-test.true c.text_code.ensures))

pub overflow_add-n : goal.overflow_add-n
overflow_add-n c = omega (arith, (fits c.loop-b.invariant c.text_code.result c.loop-b-test.true c.text_code.ensures))

pub loop-b-preserved : goal.loop-b-preserved
loop-b-preserved c =
    let v = c.loop-b.invariant in
    let k = c.text_code in
    let more = c.loop-b-test.true in
    again v k.result more k.ensures (text_some_at v k.result more k.ensures c.requires)

pub returns : goal.returns
returns c = all_summed c.loop-b.invariant c.loop-b-test.false
