-- Writing a head under the rule ρ: its parts one after the other, each at the start of the rest after those before it. Assumes nothing.
use mathlib.Core.Path.{◌≡◌, refl}
use mathlib.Core.Bool.{true}
use mathlib.Core.List.{List, ◌++◌}
use Prim.Native.Nat.{ℕ, ◌+◌, ◌≤◌}
use native.Mathlib.Omega.{arith}
use lib.ListN.{length, length-append}
use Rattle.text.specs.Text.{spliced, written_bytes}
use Rattle.rules.specs.declared.Rule.{Rule}
use Rattle.fields.specs.Head.{Part, sequence_in, stamp_in, facility_in, stamp_at, facility_at, type_at, head_length}
use Rattle.fields.specs.MessageType.{type_text}
use Rattle.fields.specs.declared.heads.MessageType.{MessageType}
use Rattle.fields.proofs.HeadLaws.{Lawful, sequence_lawful, stamp_lawful, facility_lawful}
use Rattle.fields.proofs.TypeLaws.{length-type}
use Rattle.writer.specs.Asks.{HeadAsks, head_text}
use Rattle.writer.proofs.Puts.{rest_from, given, Stand, written_first, written_next}

-- ---- a part that some text gives

module _ {p : Part} (w : Lawful p) {v : ℕ} (e : p.held v ≡ true) where
  part_size : length (p.shown v) ≡ p.size
  part_size = w.long (p.shown v) (w.forth v e).0

  -- at the start
  part_first : {l o : List ℕ} → p.size ≤ length l → o ≡ written_bytes (p.held v) (p.shown v) l 0 → Stand l (p.shown v) p.size o
  part_first {l} h q = written_first l (p.shown v) part_size h e q

  -- after n bytes
  part_after : {l vs o ys : List ℕ} {n : ℕ} → n + p.size ≤ length l → Stand l vs n o → ys ≡ written_bytes (p.held v) (p.shown v) (rest_from n o) 0
      → Stand l (vs ++ p.shown v) (n + p.size) (given n o ys)
  part_after h s q = written_next s (p.shown v) part_size h e q

-- ---- THE LAWS of a head: what stands after each of its parts

module _ {ρ : Rule} {a b c : ℕ} {out : List ℕ} (k : HeadAsks ρ a b c out) where
  pub sequence_first : {o : List ℕ} → o ≡ written_bytes ((sequence_in ρ).held a) ((sequence_in ρ).shown a) out 0 → Stand out ((sequence_in ρ).shown a) (stamp_at ρ) o
  sequence_first = part_first (sequence_lawful ρ) k.sequence (omega (arith, k.room))

  -- where no sequence number comes before it
  pub stamp_first : {o : List ℕ} → o ≡ written_bytes ((stamp_in ρ).held b) ((stamp_in ρ).shown b) out 0 → Stand out ((stamp_in ρ).shown b) (stamp_in ρ).size o
  stamp_first = part_first (stamp_lawful ρ) k.stamp (omega (arith, k.room))

  module _ {vs o ys : List ℕ} where
    pub stamp_after : Stand out vs (stamp_at ρ) o → ys ≡ written_bytes ((stamp_in ρ).held b) ((stamp_in ρ).shown b) (rest_from (stamp_at ρ) o) 0
        → Stand out (vs ++ (stamp_in ρ).shown b) (facility_at ρ) (given (stamp_at ρ) o ys)
    stamp_after = part_after (stamp_lawful ρ) k.stamp (omega (arith, k.room))

    pub facility_after : Stand out vs (facility_at ρ) o → ys ≡ written_bytes ((facility_in ρ).held c) ((facility_in ρ).shown c) (rest_from (facility_at ρ) o) 0
        → Stand out (vs ++ (facility_in ρ).shown c) (type_at ρ) (given (facility_at ρ) o ys)
    facility_after = part_after (facility_lawful ρ) k.facility (omega (arith, k.room))

    pub type_after : (t : MessageType) → Stand out vs (type_at ρ) o → ys ≡ written_bytes true (type_text t) (rest_from (type_at ρ) o) 0
        → Stand out (vs ++ type_text t) (head_length ρ) (given (type_at ρ) o ys)
    type_after t s q = written_next s (type_text t) (length-type t) k.room refl q

  -- and the whole head
  pub head_stands : (t : MessageType) {o : List ℕ} → o ≡ spliced out 0 (head_text ρ a b c t) → Stand out (head_text ρ a b c t) (head_length ρ) o
  head_stands t q = record {
    size = simp length-append (omega (arith, part_size (sequence_lawful ρ) k.sequence, part_size (stamp_lawful ρ) k.stamp, part_size (facility_lawful ρ) k.facility, length-type t));
    fits = k.room;
    bytes = q;
  }
