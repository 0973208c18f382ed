-- `checks::check` meets its contract: what was said so far is what is said of the bytes used so far. Assumes nothing.
use mathlib.Core.Path.{◌≡◌, refl, sym, ap, ◌∙◌, subst}
use mathlib.Core.List.{List, ◌++◌}
use mathlib.Core.Bool.{true, false}
use borrow.Author.Tests.{eqb-true, eqb-false}
use lib.Dec.{eqb}
use Prim.Native.Nat.{ℕ, ◌+◌, ◌*◌, ◌-◌, ◌≤◌, ◌<◌}
use native.Mathlib.Omega.{arith}
use lib.ListN.{length, take, drop, length-drop}
use lib.Seq.{drop-drop, length-take-le, take_all, take-add}
use Rattle.shapes.proofs.Laws.{rest_all}
use Rattle.cutter.specs.State.{state_in}
use Rattle.cutter.proofs.States.{allowed_size}
use Rattle.checks.specs.Part.{longest_saying, lines_in, text_in, Adds, Ready, StepReady, Steps, Continues}
use Rattle.checks.specs.declared.Asked.{Asked}
use Rattle.checks.specs.declared.Sums.{Sums}
use Rattle.checks.specs.declared.Turn.{Turn}
use Rattle.checks.proofs.Joins.{reads_few, lines_few, adds_none, adds_then, same_size, text_few}
use Rattle.checks.proofs.Feeds.{continues}
use Rattle.checks.proofs.check.Invariants.{Inv}
use Rattle.checks.proofs.check.Goals as goal

-- whether bytes are left, as `is_empty` tells it
some : (n : ℕ) → false ≡ eqb n 0 → 0 < n
some n e = omega (arith, eqb-false n 0 (sym e))

no_more : (n : ℕ) → true ≡ eqb n 0 → n ≤ 0
no_more n e = omega (arith, eqb-true n 0 (sym e))

start : (asked : Asked) (held : List ℕ) (s : Sums) (part out : List ℕ) → Ready held s part (length out) → Inv asked held s part out held out s part 0
start asked held s part out r = record { ready = r; used = 0; inside = omega arith; left = refl; adds = adds_none asked held s out 0 r.allowed }

module _ {asked : Asked} {held₀ : List ℕ} {s₀ : Sums} {part out₀ held out : List ℕ} {s : Sums} {rest : List ℕ} {at : ℕ} (v : Inv asked held₀ s₀ part out₀ held out s rest at) where
  abbrev used : ℕ
  used = v.used

  wide : length rest ≡ length part - used
  wide = ap length v.left ∙ length-drop used part

  size : length (take used part) ≡ used
  size = length-take-le used part v.inside

  -- no more lines than bytes, and no more text than there is room for
  few : s.lines ≤ s₀.lines + used
  few = omega (arith, v.adds.lines, lines_few (state_in held₀ s₀.begun) (take used part), size)

  short : at ≤ longest_saying * used
  short = omega (arith, v.adds.place, text_few v.adds, size)

  fits : 0 + length (text_in asked held₀ s₀ (take used part)) ≤ length out₀
  fits = omega (arith, text_few v.adds, size, v.inside, v.ready.roomy)

  same_out : length out ≡ length out₀
  same_out = same_size v.adds fits

  same_held : length held ≡ length held₀
  same_held = allowed_size held s.begun v.adds.allowed ∙ sym (allowed_size held₀ s₀.begun v.ready.allowed)

  module _ (more : 0 < length rest) where
    step_ready : StepReady held s rest out at
    step_ready =
        record {
          more = more;
          allowed = v.adds.allowed;
          few = omega (arith, few, v.ready.few, wide, v.inside);
          less = omega (arith, v.adds.read, v.adds.lines, v.ready.less, reads_few asked.rule (lines_in held₀ s₀ (take used part)));
          roomy = omega (arith, short, v.ready.roomy, same_out, wide, v.inside);
        }

    module _ {held' : List ℕ} {r : Turn} {out' : List ℕ} (t : Steps asked held s rest out at held' r out') where
      within : used + r.used ≤ length part
      within = omega (arith, t.within, wide, v.inside)

      again : Inv asked held₀ s₀ part out₀ held' out' r.sums (take (length rest - r.used) (drop r.used rest)) r.next
      again =
          let z : take used part ++ take r.used rest ≡ take (used + r.used) part =
          ap (λ (l : List ℕ). take used part ++ take r.used l) v.left ∙ sym (take-add used r.used part) in
          record {
            ready = v.ready;
            used = used + r.used;
            inside = within;
            left = rest_all rest r.used ∙ ap (drop r.used) v.left ∙ drop-drop r.used used part;
            adds = subst (λ (l : List ℕ). Adds asked held₀ s₀ l out₀ 0 held' r.sums out' r.next) z (adds_then v.adds fits t.adds);
          }

  module _ (none : length rest ≤ 0) where
    over : length part ≤ used
    over = omega (arith, wide)

    all : Adds asked held₀ s₀ part out₀ 0 held s out at
    all = subst (λ (l : List ℕ). Adds asked held₀ s₀ l out₀ 0 held s out at) (take_all used part over) v.adds

    done : Adds asked held₀ s₀ part out₀ 0 held s out at × ((at ≤ length out) × Continues asked held₀ s₀ part held s (take at out))
    done = (all, (omega (arith, short, v.inside, v.ready.roomy, same_out), continues all))

pub loop-rest-init : goal.loop-rest-init
loop-rest-init c = start c.args.asked _ c.args.sums _ _ c.requires

pub step-turn-requires : goal.step-turn-requires
step-turn-requires c = step_ready c.loop-rest.invariant (some _ c.loop-rest-test.ensures)

pub loop-rest-preserved : goal.loop-rest-preserved
loop-rest-preserved c = again c.loop-rest.invariant (some _ c.loop-rest-test.ensures) c.step-turn.ensures

pub shape_of-held : goal.shape_of-held
shape_of-held c = same_held c.loop-rest.invariant

pub shape_of-out : goal.shape_of-out
shape_of-out c = same_out c.loop-rest.invariant

pub returns : goal.returns
returns c =
    let both = done c.loop-rest.invariant (no_more _ c.loop-rest-test.ensures) in
    record { adds = both.0; size_in_bounds = both.1.0; continues = both.1.1 }
