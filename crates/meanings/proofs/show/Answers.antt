-- `meanings::show` meets its contract: twelve bytes have room for every text. Assumes nothing.
use mathlib.Core.Path.{sym, ◌∙◌}
use native.Mathlib.Omega.{arith}
use Rattle.text.proofs.Laws.{shown_packed, shown_size, shown_text, text_short, twelve_unwritten}
use Rattle.meanings.specs.Meaning.{shown_of}
use Rattle.meanings.proofs.show.Goals as goal

pub returns-in-Ok : goal.returns-in-Ok
unfolding shown_of
returns-in-Ok c =
    let p = c.put-written in
    let twelve = c.put-arg-1.given.0.1 in
    let told = sym p.ensures.value ∙ c.in-Ok.is in
    let packed = shown_packed _ _ _ _ twelve told p.ensures.out_after in
    record {
      upper_bound = omega (arith, shown_size _ _ _ _ twelve told p.ensures.out_after, text_short _ packed, p.auto.out);
      room_after = shown_text _ _ _ _ twelve told p.ensures.out_after ∙ rw packed;
    }

pub returns-in-Err : goal.returns-in-Err
unfolding shown_of
returns-in-Err c =
    record { upper_bound = omega arith; room_after = rw (twelve_unwritten _ _ _ c.put-arg-1.given.0.1 (sym c.put-written.ensures.value ∙ c.in-Err.is)) }
