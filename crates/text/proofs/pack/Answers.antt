-- `text::pack` meets its contract: its loop keeps `Packs`. Assumes nothing.
use Rattle.std.specs.Prelude.{None, Some}
use mathlib.Core.Path.{◌≡◌, sym, ◌∙◌}
use mathlib.Core.Bool.{false}
use mathlib.Core.List.{List, map}
use Prim.Native.Nat.{ℕ, ◌≤◌, ◌<◌}
use native.Mathlib.Omega.{arith}
use lib.ListN.{length, get_or}
use borrow.Author.Tests.{le-leb, lt-leb}
use Rattle.text.specs.Code.{code_of}
use Rattle.text.specs.Class.{all}
use Rattle.text.specs.Place.{all_in}
use Rattle.text.specs.Text.{is_text, pack_of}
use Rattle.text.proofs.Codes.{text_all}
use Rattle.text.proofs.Packs.{Packs, begin, all_summed, all_codes, codes, fits, again}
use Rattle.text.proofs.pack.Goals as goal

module _ {s : List ℕ} {n w i : ℕ} (v : Packs s n w i) where
  done : length s ≤ i → Some n ≡ pack_of s
  unfolding pack_of is_text
  done left = rw (le-leb (length s) 12 v.short, text_all, all_codes v left, all_summed v left)

  bad : (c : ℕ) → i < length s → c ≡ code_of (get_or s i 0) → c ≡ 0 → None ≡ pack_of s
  unfolding pack_of is_text all_in all
  bad c more is none =
      let all : all_in 1 37 (map code_of s) ≡ false = sym v.rest ∙ rw (codes v c more is, lt-leb 1 c (omega arith)) in
      rw (le-leb (length s) 12 v.short, text_all, all)

pub returns-then-s-gt12 : goal.returns-then-s-gt12
unfolding pack_of is_text
returns-then-s-gt12 c = simp (lt-leb _ _ c.if-s-gt12.true)

pub loop-b-init : goal.loop-b-init
unfolding pack_of is_text
loop-b-init c = begin _ c.if-s-gt12.false

pub code-c-requires : goal.code-c-requires
unfolding pack_of is_text
code-c-requires c = tt

pub returns-then-c-eq0 : goal.returns-then-c-eq0
returns-then-c-eq0 c =
    let k = c.code-c in
    bad c.loop-b.invariant k.result c.loop-b-test.true k.ensures c.if-c-eq0.true

pub overflow_mul-n : goal.overflow_mul-n
unfolding pack_of is_text
overflow_mul-n c = omega (arith, (let k = c.code-c in fits c.loop-b.invariant k.result c.loop-b-test.true k.ensures))

pub overflow_add-n : goal.overflow_add-n
unfolding pack_of is_text
overflow_add-n c = omega (arith, (let k = c.code-c in fits c.loop-b.invariant k.result c.loop-b-test.true k.ensures))

pub loop-b-preserved : goal.loop-b-preserved
loop-b-preserved c =
    let k = c.code-c in
    again c.loop-b.invariant k.result c.loop-b-test.true k.ensures (omega (arith, c.if-c-eq0.false))

pub returns : goal.returns
unfolding pack_of is_text
returns c = done c.loop-b.invariant c.loop-b-test.false
