-- `fields::words::holds` meets its contract: the text stands at the start of twelve bytes, and is tested there. Assumes nothing.
use mathlib.Core.Path.{refl, sym, ◌∙◌}
use native.Mathlib.Omega.{arith}
use lib.Seq.{length-take-le}
use Rattle.text.proofs.Laws.{shown_packed, shown_size, shown_text, text_short, twelve_unwritten}
use Rattle.fields.specs.Word.{is_word}
use Rattle.fields.proofs.words.holds.Goals as goal

pub slice_bounds-room-end : goal.slice_bounds-room-end
slice_bounds-room-end c =
    let p = c.put in
    let told = sym p.ensures.value ∙ c.in-Ok.is in
    omega (arith, shown_size _ _ _ _ refl told p.ensures.out_after, text_short _ (shown_packed _ _ _ _ refl told p.ensures.out_after), p.auto.out)

pub slice_bounds-is_form-end : goal.slice_bounds-is_form-end
slice_bounds-is_form-end c =
    let p = c.put in
    let told = sym p.ensures.value ∙ c.in-Ok.is in
    sym (length-take-le _ _ (omega (arith, shown_size _ _ _ _ refl told p.ensures.out_after, text_short _ (shown_packed _ _ _ _ refl told p.ensures.out_after), p.auto.out)))

pub returns-in-Ok : goal.returns-in-Ok
unfolding is_word
returns-in-Ok c =
    let p = c.put in
    let told = sym p.ensures.value ∙ c.in-Ok.is in
    c.is_form.ensures ∙ rw (shown_text _ _ _ _ refl told p.ensures.out_after, shown_packed _ _ _ _ refl told p.ensures.out_after)

pub returns-in-Err : goal.returns-in-Err
unfolding is_word
returns-in-Err c = rw (twelve_unwritten _ _ _ refl (sym c.put.ensures.value ∙ c.in-Err.is))
