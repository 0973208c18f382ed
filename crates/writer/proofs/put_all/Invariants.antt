-- `writer::put_all` meets its contract: what is left, written from the place that is reached, makes what the whole text makes.
-- Assumes nothing.
use mathlib.Core.Path.{◌≡◌}
use mathlib.Core.Bool.{true, false}
use mathlib.Core.List.{List}
use Prim.Native.Nat.{ℕ, ◌+◌, ◌≤◌}
use lib.ListN.{length, take, drop}
use Rattle.text.specs.Text.{spliced}
use Rattle.table.specs.Spacing.{body_of}
use Rattle.table.specs.declared.kinds.Value.{Value}
use Rattle.table.specs.Show.{texts_from, allowed_from}
use Rattle.writer.specs.Size.{fields_text}
use Rattle.writer.proofs.put_all.Given as goal

-- the fields from k on, after what the one before them left, p
abbrev pub left : List ℕ → List ℕ → List Value → ℕ → ℕ → List ℕ
left ks r vs k p = body_of (texts_from (drop k ks) p r (drop k vs)) false

pub record Inv (ks r : List ℕ) (vs : List Value) (out₀ out : List ℕ) (at k p : ℕ) : Type 0 where
  pub marks : ℕ
  pub few : length ks ≤ 19
  pub good : allowed_from (drop k ks) p marks r (drop k vs) ≡ true
  pub room : length (fields_text ks r vs) ≤ length out₀
  pub same : length out ≡ length out₀
  pub size : at + length (left ks r vs k p) ≡ length (fields_text ks r vs)
  pub text : spliced out at (left ks r vs k p) ≡ spliced out₀ 0 (fields_text ks r vs)

abbrev pub invariant-loop-k : goal.invariant-loop-k
invariant-loop-k l = Inv l.kinds l.route (take (length l.kinds) l.values) l.initial.out l.out l.at l.k l.trace
