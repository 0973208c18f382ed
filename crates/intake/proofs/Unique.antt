-- Two answers that a promise allows are equal. What the reads hand over is not the caller's to say, so two reports are equal where the same
-- bytes came, and two answers of `input::next` where as many came and both reads failed, or neither. Assumes nothing.
use mathlib.Core.Path.{◌≡◌, sym, ap, ◌∙◌}
use mathlib.Core.Bool.{true}
use native.Mathlib.Omega.{arith}
use lib.ListN.{length, take}
use Rattle.text.specs.Text.{spliced}
use Rattle.text.proofs.Logic.{same_test, not_fails}
use Rattle.intake.specs.declared.input.Input.{Input}
use Rattle.intake.proofs.Options.{asks_one}
use Rattle.intake.proofs.input.Input.is_barren.Reads as is-barren
use Rattle.intake.proofs.input.Input.is_live.Reads as is_live
use Rattle.intake.proofs.input.Input.next.Reads as next
use Rattle.intake.proofs.input.Input.start.Reads as start
use Rattle.intake.proofs.input.Input.total.Reads as total
use Rattle.intake.proofs.is_torn.Reads as is-torn
use Rattle.intake.proofs.report.Reads as report
use Rattle.intake.proofs.words.is_help.Reads as is-help
use Rattle.intake.proofs.words.is_option.Reads as is-option
use Rattle.intake.proofs.words.option.Reads as option

pub report_one : (κs : _) (a : _) (r r' : _) (s s' : _) (p : report.Post κs a r s) (q : report.Post κs a r' s') → p.1.0.feed ≡ q.1.0.feed
    → (s.1.1.0.now ≡ s'.1.1.0.now) × (r.size ≡ r'.size) × (r.torn ≡ r'.torn)
report_one κs a r r' s s' p q e =
    let x = p.1.0 in
    let y = q.1.0 in
    let t : take r.size s.1.1.0.now ≡ take r'.size s'.1.1.0.now = x.report ∙ rw e (sym y.report) in
    (p.1.1 ∙ ap (spliced a.1.1.0.now 0) t ∙ sym q.1.1, p.0.1 ∙ ap length t ∙ sym q.0.1, x.torn ∙ rw e (sym y.torn))

pub is_help_one : (κs : _) (a : _) (r r' : _) (s s' : _) → is-help.Post κs a r s → is-help.Post κs a r' s' → r ≡ r'
is_help_one κs a r r' s s' p q = same_test r r' (λ e. q.1 (p.0 e)) (λ e. p.1 (q.0 e))

pub is_option_one : (κs : _) (a : _) (r r' : _) (s s' : _) → is-option.Post κs a r s → is-option.Post κs a r' s' → r ≡ r'
is_option_one κs a r r' s s' p q = p ∙ sym q

pub option_one : (κs : _) (a : _) (r r' : _) (s s' : _) → option.Post κs a r s → option.Post κs a r' s' → r ≡ r'
option_one κs a r r' s s' p q = asks_one a.0 a.1.0.now p q

same_input : (i j : Input) → i.total ≡ j.total → i.live ≡ j.live → i.failed ≡ j.failed → i.fd ≡ j.fd → i ≡ j
same_input i j e f g h = let z : record { fd = i.fd; total = i.total; live = i.live; failed = i.failed } ≡ j = rw (e, f, g, h) in z

pub start_one : (κs : _) (a : _) (r r' : _) (s s' : _) → start.Post κs a r s → start.Post κs a r' s' → r ≡ r'
start_one κs a r r' s s' p q = same_input r r' (p.0 ∙ sym q.0) (p.1 ∙ sym q.1) (p.2 ∙ sym q.2) (p.3 ∙ sym q.3)

pub next_one : (κs : _) (a : _) (r r' : _) (s s' : _) → next.Post κs a r s → next.Post κs a r' s' → r.total ≡ r'.total → r.failed ≡ r'.failed → r ≡ r'
next_one κs a r r' s s' p q e f =
    let there : r.live ≡ true → r'.live ≡ true = λ t. not_fails r'.live (λ z. omega (arith, (p.0.some t).0, q.0.none z, e)) in
    let back : r'.live ≡ true → r.live ≡ true = λ t. not_fails r.live (λ z. omega (arith, (q.0.some t).0, p.0.none z, e)) in
    same_input r r' e (same_test r.live r'.live there back) f (p.0.same ∙ sym q.0.same)

pub total_one : (κs : _) (a : _) (r r' : _) (s s' : _) → total.Post κs a r s → total.Post κs a r' s' → r ≡ r'
total_one κs a r r' s s' p q = p ∙ sym q

pub is_live_one : (κs : _) (a : _) (r r' : _) (s s' : _) → is_live.Post κs a r s → is_live.Post κs a r' s' → r ≡ r'
is_live_one κs a r r' s s' p q = p ∙ sym q

pub is_barren_one : (κs : _) (a : _) (r r' : _) (s s' : _) → is-barren.Post κs a r s → is-barren.Post κs a r' s' → r ≡ r'
is_barren_one κs a r r' s s' p q = p ∙ sym q

pub is_torn_one : (κs : _) (a : _) (r r' : _) (s s' : _) → is-torn.Post κs a r s → is-torn.Post κs a r' s' → r ≡ r'
is_torn_one κs a r r' s s' p q = p ∙ sym q
