-- `text::text_code` meets its contract: a byte of no range has no code. Assumes nothing.
use mathlib.Core.Path.{◌≡◌, sym}
use mathlib.Core.Bool.{true}
use Prim.Native.Nat.{ℕ, ◌-◌, ◌≤◌, ◌<◌}
use native.Mathlib.Omega.{arith}
use lib.Dec.{leb, eqb}
use borrow.Author.Tests.{leb-true, leb-false, eqb-true, eqb-false}
use Rattle.text.specs.Class.{is_text_byte}
use Rattle.text.specs.Code.{code_of}
use Rattle.text.proofs.Logic.{not_fails}
use Rattle.text.proofs.Codes.{code_slash, code_low, code_digit, code_between, code_letter, code_high, text_some}
use Rattle.text.proofs.text_code.Goals as goal

module _ (b : ℕ) (is : is_text_byte b ≡ true) where
  coded : code_of b ≡ 0 → ⊥
  coded e = omega (arith, text_some b is)

  letter : 64 < b → b - 54 ≡ code_of b
  letter h = sym (code_letter b h (leb-true b 90 (not_fails (leb b 90) (λ q. coded (code_high b (leb-false b 90 q))))))

  digit : b ≤ 64 → 47 < b → b - 47 ≡ code_of b
  digit h k = sym (code_digit b k (leb-true b 57 (not_fails (leb b 57) (λ q. coded (code_between b (leb-false b 57 q) (omega arith))))))

  slash : b ≤ 47 → 37 ≡ code_of b
  slash h = sym (code_slash b (eqb-true b 47 (not_fails (eqb b 47) (λ q. coded (code_low b (omega arith) (eqb-false b 47 q))))))

pub returns-then-b-gt64 : goal.returns-then-b-gt64
returns-then-b-gt64 c = letter _ c.requires (omega (arith, c.if-b-gt64.true))

pub returns-then-b-gt47 : goal.returns-then-b-gt47
returns-then-b-gt47 c = digit _ c.requires (omega (arith, c.if-b-gt64.false)) (omega (arith, c.if-b-gt47.true))

pub returns : goal.returns
returns c = slash _ c.requires (omega (arith, c.if-b-gt47.false))
