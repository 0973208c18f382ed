-- Two parts of a feed, one after the other: their lines, what is said of these, and how many they are. Assumes nothing.
use mathlib.Core.Path.{◌≡◌, refl, sym, ap, ◌∙◌}
use mathlib.Core.Bool.{Bool, true, false, cond}
use mathlib.Core.List.{List, [], ◌∷◌, ◌++◌, append_assoc}
use Prim.Native.Nat.{ℕ, suc, ◌+◌, ◌*◌, ◌≤◌}
use native.Mathlib.Omega.{arith}
use lib.Dec.{eqb}
use lib.ListN.{length, length-append}
use Rattle.text.proofs.Splice.{spliced_none, spliced_next, length-spliced}
use Rattle.shapes.specs.Many.{how_many}
use Rattle.shapes.specs.Pieces.{grow, pieces}
use Rattle.rules.specs.Frame.{line_feed}
use Rattle.rules.specs.declared.Rule.{Rule}
use Rattle.cutter.specs.Feed.{Line, feed_of, all_but_last, texts_of, rest_of}
use Rattle.cutter.specs.State.{State, Bytes, state_in, is_allowed}
use Rattle.cutter.specs.Told.{told, state_after}
use Rattle.cutter.proofs.States.{more_none}
use Rattle.cutter.proofs.Feeds.{feed_text, feed_then}
use Rattle.checks.specs.Check.{is_taken, said_of}
use Rattle.checks.specs.Feed.{checks_from, reads_in}
use Rattle.checks.specs.Part.{lines_in, text_in, longest_saying, Adds}
use Rattle.checks.specs.declared.Asked.{Asked}
use Rattle.checks.specs.declared.Sums.{Sums}
use Rattle.checks.proofs.Lines.{checks_few}

-- ---- lines after lines

pub reads_then : (ρ : Rule) (ls ms : List Line) → reads_in ρ (ls ++ ms) ≡ reads_in ρ ls + reads_in ρ ms
unfolding reads_in
reads_then ρ [] ms = omega arith
reads_then ρ (l ∷ ls) ms = go (is_taken ρ l) (reads_then ρ ls ms)
  where
    go : (b : Bool) → reads_in ρ (ls ++ ms) ≡ reads_in ρ ls + reads_in ρ ms → cond b (suc (reads_in ρ (ls ++ ms))) (reads_in ρ (ls ++ ms)) ≡ cond b (suc (reads_in ρ ls)) (reads_in ρ ls) + reads_in ρ ms
    go true e = omega arith
    go false e = e

pub reads_few : (ρ : Rule) (ls : List Line) → reads_in ρ ls ≤ length ls
unfolding reads_in
reads_few ρ [] = omega arith
reads_few ρ (l ∷ ls) = go (is_taken ρ l) (reads_few ρ ls)
  where
    go : (b : Bool) → reads_in ρ ls ≤ length ls → cond b (suc (reads_in ρ ls)) (reads_in ρ ls) ≤ suc (length ls)
    go true h = omega arith
    go false h = omega arith

pub checks_then : (asked : Asked) (n : ℕ) (ls ms : List Line) → checks_from asked n (ls ++ ms) ≡ checks_from asked n ls ++ checks_from asked (n + length ls) ms
unfolding checks_from
checks_then asked n [] ms = let z : n + 0 ≡ n = omega arith in rw z
checks_then asked n (l ∷ ls) ms =
    let z : n + suc (length ls) ≡ suc n + length ls = omega arith in
    rw (z, checks_then asked (suc n) ls ms, append_assoc (said_of asked n l) (checks_from asked (suc n) ls) (checks_from asked (suc n + length ls) ms))

-- ---- not more lines than bytes, whatever state they come from

feed_long : (ls : List (List ℕ)) (rest : List ℕ) → length ls + length rest ≤ length (feed_of ls rest)
unfolding feed_of
feed_long [] rest = omega arith
feed_long (l ∷ ls) rest = omega (arith, feed_long ls rest, length-append l (line_feed ∷ feed_of ls rest))

told_count : (h : State) (ps : List (List ℕ)) → length (told h ps) ≡ length (all_but_last ps)
unfolding told all_but_last
told_count h [] = refl
told_count h (p ∷ []) = refl
told_count h (p ∷ (q ∷ ps)) = ap suc (told_count (Bytes []) (q ∷ ps))

pub lines_few : (h : State) (s : List ℕ) → length (told h (pieces line_feed s)) + length (rest_of s) ≤ length s
unfolding texts_of
lines_few h s = omega (arith, told_count h (pieces line_feed s), ap length (feed_text s), feed_long (texts_of s) (rest_of s))

-- ---- as many lines as line feeds

grow_size : (x : ℕ) (ps : List (List ℕ)) → 1 ≤ length ps → length (grow x ps) ≡ length ps
grow_size x [] h = absurd (omega arith)
grow_size x (p ∷ ps) h = refl

pieces_count : (b : ℕ) (s : List ℕ) → length (pieces b s) ≡ suc (how_many b s)
unfolding pieces how_many
pieces_count b [] = refl
pieces_count b (x ∷ s) = go (eqb x b) (pieces_count b s)
  where
    go : (t : Bool) → length (pieces b s) ≡ suc (how_many b s) → length (cond t ([] ∷ pieces b s) (grow x (pieces b s))) ≡ suc (cond t (suc (how_many b s)) (how_many b s))
    go true e = ap suc e
    go false e = grow_size x (pieces b s) (omega (arith, e)) ∙ e

but_last : (ps : List (List ℕ)) → 1 ≤ length ps → suc (length (all_but_last ps)) ≡ length ps
unfolding all_but_last
but_last [] h = absurd (omega arith)
but_last (p ∷ []) h = refl
but_last (p ∷ (q ∷ ps)) h = ap suc (but_last (q ∷ ps) (omega arith))

pub feeds_told : (h : State) (s : List ℕ) → length (told h (pieces line_feed s)) ≡ how_many line_feed s
feeds_told h s =
    let c = pieces_count line_feed s in
    omega (arith, told_count h (pieces line_feed s), c, but_last (pieces line_feed s) (omega (arith, c)))

-- ---- parts after parts

pub adds_none : (asked : Asked) (held : List ℕ) (s : Sums) (out : List ℕ) (at : ℕ) → is_allowed held s.begun ≡ true → Adds asked held s [] out at held s out at
unfolding pieces told state_after checks_from reads_in
adds_none asked held s out at a =
    record {
      allowed = a;
      state = sym (more_none held s.begun a);
      lines = omega arith;
      read = omega arith;
      place = omega arith;
      bytes = sym (spliced_none out at);
    }

module _ {asked : Asked} {held : List ℕ} {s : Sums} {a out : List ℕ} {at : ℕ} {held₁ : List ℕ} {s₁ : Sums} {out₁ : List ℕ} {at₁ : ℕ} (x : Adds asked held s a out at held₁ s₁ out₁ at₁) where
  -- the lines of both
  pub lines_then : (b : List ℕ) → lines_in held s (a ++ b) ≡ lines_in held s a ++ lines_in held₁ s₁ b
  lines_then b = (feed_then (state_in held s.begun) a b).0 ∙ rw x.state

  pub text_then : (b : List ℕ) → text_in asked held s (a ++ b) ≡ text_in asked held s a ++ text_in asked held₁ s₁ b
  text_then b =
      let z : suc s.lines + length (lines_in held s a) ≡ suc s₁.lines = omega (arith, x.lines) in
      rw (lines_then b, checks_then asked (suc s.lines) (lines_in held s a) (lines_in held₁ s₁ b), z)

  pub text_few : length (text_in asked held s a) ≤ longest_saying * length a
  text_few = omega (arith, checks_few asked (suc s.lines) (lines_in held s a), lines_few (state_in held s.begun) a)

  module _ (room : at + length (text_in asked held s a) ≤ length out) where
    pub same_size : length out₁ ≡ length out
    same_size = ap length x.bytes ∙ length-spliced out (text_in asked held s a) at room

    -- WHAT BOTH ADD
    pub adds_then : {b held₂ : List ℕ} {s₂ : Sums} {out₂ : List ℕ} {at₂ : ℕ} → Adds asked held₁ s₁ b out₁ at₁ held₂ s₂ out₂ at₂ → Adds asked held s (a ++ b) out at held₂ s₂ out₂ at₂
    adds_then {b} y =
        let t = text_then b in
        let l = lines_then b in
        record {
          allowed = y.allowed;
          state = y.state ∙ rw x.state (sym (feed_then (state_in held s.begun) a b).1);
          lines = omega (arith, y.lines, x.lines, ap length l, length-append (lines_in held s a) (lines_in held₁ s₁ b));
          read = omega (arith, y.read, x.read, ap (reads_in asked.rule) l, reads_then asked.rule (lines_in held s a) (lines_in held₁ s₁ b));
          place = omega (arith, y.place, x.place, ap length t, length-append (text_in asked held s a) (text_in asked held₁ s₁ b));
          bytes = y.bytes ∙ rw (t, x.bytes, x.place) (spliced_next out (text_in asked held s a) (text_in asked held₁ s₁ b) at room);
        }
