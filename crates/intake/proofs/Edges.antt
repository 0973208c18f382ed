-- What a read leaves: no more, or some bytes more. Assumes nothing.
use mathlib.Core.Path.{◌≡◌, ◌∙◌}
use mathlib.Core.Bool.{Bool, true, false}
use Prim.Native.Nat.{ℕ, ◌+◌, ◌≤◌, ◌<◌, ◌^◌}
use native.Mathlib.Omega.{arith}
use Rattle.text.proofs.Logic.{true_false}
use Rattle.intake.specs.Edge.{Came}
use Rattle.intake.specs.declared.input.Input.{Input}

module _ (i : Input) (size : ℕ) (j : Input) where
  -- only a read that was made can fail
  pub none_came : (failed : Bool) → (2 ^ 64 ≤ i.total + size → failed ≡ false)
      → (j.total ≡ i.total) × (j.live ≡ false) × (j.failed ≡ failed) × (j.fd ≡ i.fd) → Came i size j
  none_came failed made e =
      record {
        some = λ q. true_false q e.1;
        none = λ q. e.0;
        least = omega (arith, e.0);
        most = omega (arith, e.0);
        same = e.3;
        ends = λ q. e.1;
        unread = λ q. (e.1, e.2 ∙ made q);
      }

  pub some_came : (n : ℕ) → 0 < n → n ≤ size → j.total ≡ i.total + n → i.total + size < 2 ^ 64 → j.live ≡ true → j.failed ≡ false → j.fd ≡ i.fd → Came i size j
  some_came n h k e f l w d =
      record {
        some = λ q. (omega (arith, e), omega (arith, e, f));
        none = λ q. true_false l q;
        least = omega (arith, e);
        most = omega (arith, e);
        same = d;
        ends = λ q. true_false q w;
        unread = λ q. absurd (omega (arith, f));
      }
