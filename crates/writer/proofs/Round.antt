-- THE THEOREMS of demand 2 that need the writer, under the rule ρ: writing what was read gives the same bytes; reading what was written gives the
-- same reading. `written_next` and `written_bytes` are what the writers promise of their answer and of the buffer, `read_by` and `free_of` what is read of a
-- line and what `line::free` answers. Of messages, and of the calls, they stand in `Calls`. Assumes nothing.
use Rattle.std.specs.Prelude.{Err, Ok}
use mathlib.Core.Path.{◌≡◌, refl}
use mathlib.Core.Bool.{Bool, true, false}
use mathlib.Core.List.{List, ◌++◌, append_assoc}
use Prim.Native.Nat.{ℕ, ◌+◌, ◌-◌, ◌≤◌}
use native.Mathlib.Omega.{arith}
use lib.ListN.{length, take, drop}
use lib.Seq.{length-take-le, take_at, drop_at}
use borrow.Author.Tests.{leb-true}
use Rattle.text.specs.Text.{spliced, has_room, written_next, written_bytes}
use Rattle.shapes.specs.Picture.{part}
use Rattle.rules.specs.declared.Rule.{Rule}
use Rattle.messages.specs.declared.Reading.{Reading}
use Rattle.line.specs.Line.{line_by, is_allowed_by}
use Rattle.line.specs.Read.{read_by, free_of}
use Rattle.line.proofs.Lines.{reads_allowed, allowed_reads}
use Rattle.text.specs.declared.NotWritten.TheVariants.{NoRoom, NoText}

-- writing what was read, given room, gives the same bytes at the place, and all others stay
pub written_same : (ρ : Rule) (s out : List ℕ) (at : ℕ) (x : Reading) → read_by ρ s ≡ Ok x → has_room s out at ≡ true
    → (written_next (is_allowed_by ρ x (free_of ρ s)) (line_by ρ x (free_of ρ s)) out at ≡ Ok (at + length s)) × (written_bytes (is_allowed_by ρ x (free_of ρ s)) (line_by ρ x (free_of ρ s)) out at ≡ spliced out at s)
unfolding written_next written_bytes
written_same ρ s out at x e h =
    let a = reads_allowed ρ s x e in
    (rw (a.0, a.1, h), rw (a.0, a.1, h))

-- bytes that were written stand where they were written
written_part : (out vs : List ℕ) (at : ℕ) → at + length vs ≤ length out → part at (length vs) (spliced out at vs) ≡ vs
unfolding spliced
written_part out vs at h =
    let n : length (take at out) ≡ at = length-take-le at out (omega arith) in
    rw (append_assoc (take at out) vs (drop (at + length vs) out), drop_at (take at out) (vs ++ drop (at + length vs) out) at n) (take_at vs (drop (at + length vs) out) (length vs) refl)

room_fits : (vs out : List ℕ) (at : ℕ) → has_room vs out at ≡ true → at + length vs ≤ length out
unfolding has_room
room_fits vs out at q = leb-true (at + length vs) (length out) q

-- reading what was written gives the same reading and free text
pub read_same : (ρ : Rule) (x : Reading) (r out : List ℕ) (at n : ℕ) → written_next (is_allowed_by ρ x r) (line_by ρ x r) out at ≡ Ok n
    → let line = part at (n - at) (written_bytes (is_allowed_by ρ x r) (line_by ρ x r) out at) in (read_by ρ line ≡ Ok x) × (free_of ρ line ≡ r)
unfolding written_next written_bytes
read_same ρ x r out at n e = go (is_allowed_by ρ x r) refl (has_room (line_by ρ x r) out at) refl
  where
    none : {X : Type 0} → Err NoText ≡ Ok n → X
    none z = absurd (let y : ◌≡◌ {A = ℕ} 0 1 = cc in omega arith)

    full : {X : Type 0} → Err NoRoom ≡ Ok n → X
    full z = absurd (let y : ◌≡◌ {A = ℕ} 0 1 = cc in omega arith)

    go : (b : Bool) → is_allowed_by ρ x r ≡ b → (c : Bool) → has_room (line_by ρ x r) out at ≡ c
        → let line = part at (n - at) (written_bytes (is_allowed_by ρ x r) (line_by ρ x r) out at) in (read_by ρ line ≡ Ok x) × (free_of ρ line ≡ r)
    go true p true q =
        let d : Ok (at + length (line_by ρ x r)) ≡ Ok n = rw (p, q) at e in
        let y : at + length (line_by ρ x r) ≡ n = cc in
        let z : n - at ≡ length (line_by ρ x r) = omega arith in
        rw (p, q, z, written_part out (line_by ρ x r) at (room_fits (line_by ρ x r) out at q)) (allowed_reads ρ x r p)
    go true p false q = full (rw (p, q) at e)
    go false p c q = none (rw p at e)
