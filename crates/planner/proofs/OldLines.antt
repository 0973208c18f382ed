-- "Old lines never touch a board" (document 02, l), though its bytes were given to one: a line that `line::read_old` reads is to the board one without a
-- reading, and a call of `apply` with it refuses it and hands the board back equal, whatever words it has. Assumes nothing.
use Rattle.std.specs.Prelude.{Ok}
use mathlib.Core.Path.{◌≡◌, refl, sym, ◌∙◌}
use mathlib.Core.List.{List}
use Prim.Native.Nat.{ℕ}
use Rattle.rules.specs.declared.Rule.TheVariants.{New, Old}
use Rattle.messages.specs.declared.OldMessage.{OldMessage}
use Rattle.history.specs.Events.{unread}
use Rattle.line.specs.Messages.{Took}
use Rattle.line.specs.Read.{read_of, old_read_of, line_number}
use Rattle.line.proofs.Calls.{ReadCall, read_told}
use Rattle.line.proofs.OldLines.{one_rule}
use Rattle.line.proofs.Theorems.{number_zero}
use Rattle.planner.specs.Apply.{line_event, apply_number}
use Rattle.planner.specs.Cases.{ApplyCase, Unread, NotAllowed, Full, Taken}
use Rattle.planner.proofs.ByBytes.{unread_exactly}
use Rattle.planner.proofs.apply.Reads as apply

no_number : (s : List ℕ) (m : OldMessage) → old_read_of s ≡ Ok m → line_number (read_of s) ≡ 0 → ⊥
no_number s m e z = let x = number_zero New (read_of s) z in one_rule s x.0 m x.1 e

pub old_unread : (s : List ℕ) (m : OldMessage) → old_read_of s ≡ Ok m → line_event s ≡ unread
old_unread s m e = (unread_exactly s).1 (no_number s m e)

unread_leaves : {l s l' : List ℕ} {n i : ℕ} → (line_number (read_of s) ≡ 0 → ⊥) → ApplyCase l s n i l' → (n ≡ line_number (read_of s)) × (l' ≡ l)
unread_leaves d (Unread e) = (refl, refl)
unread_leaves d (NotAllowed e f) = absurd (d e)
unread_leaves d (Full e f k g h) = absurd (d e)
unread_leaves d (Taken e f g) = absurd (d e)

pub apply_old : (κs : _) (a : _) (r : _) (s : _) → apply.Post κs a r s → (m : OldMessage) → ReadCall Old a.1.0.now (Took Old m) → (apply_number r ≡ 0 → ⊥) × (s.0.now ≡ a.0.now)
apply_old κs a r s p m c =
    let d = no_number a.1.0.now m (sym (read_told c)) in
    let q = unread_leaves d p.1.1 in
    (λ z. d (sym q.0 ∙ z), q.1)
