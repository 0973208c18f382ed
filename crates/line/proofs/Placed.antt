-- THE LAW of a line that reads: the parts of its message stand where document 01 says, and so does the flight's key; those of an old line where
-- document 02 says. Assumes nothing.
use Rattle.std.specs.Prelude.{Ok}
use mathlib.Core.Path.{◌≡◌, sym, ◌∙◌}
use mathlib.Core.Bool.{true, false}
use mathlib.Core.List.{List}
use Prim.Native.Nat.{ℕ}
use lib.ListN.{drop}
use Rattle.text.specs.Text.{text_of}
use Rattle.shapes.specs.Cut.{before}
use Rattle.rules.specs.Kind.{KEY}
use Rattle.rules.specs.declared.Rule.{Rule}
use Rattle.rules.specs.declared.Rule.TheVariants.{New, Old}
use Rattle.fields.specs.Head.{sequence_in, stamp_in, facility_in, sequence_part, stamp_part, facility_part, type_part, body_part, head_length}
use Rattle.fields.specs.MessageType.{type_text}
use Rattle.fields.specs.Word.{is_word}
use Rattle.fields.specs.declared.heads.MessageType.{MessageType}
use Rattle.fields.specs.Pair.{slash}
use Rattle.table.specs.Table.{has_fields, has_type}
use Rattle.messages.specs.Body.{type_in, key_in}
use Rattle.messages.specs.Named.{named, AreFields, field_at}
use Rattle.messages.specs.Reading.{reading_of, old_reading_of}
use Rattle.messages.specs.declared.Message.{Message}
use Rattle.messages.specs.declared.OldMessage.{OldMessage}
use Rattle.messages.specs.declared.Reading.{Reading}
use Rattle.messages.proofs.Theorems.{body_sound}
use Rattle.messages.proofs.Named.{body_named}
use Rattle.messages.proofs.Keys.{body_key}
use Rattle.line.specs.Read.{read_by, read_of, old_read_of, free_of}
use Rattle.line.specs.Placed.{Placed, OldPlaced}
use Rattle.line.proofs.Heads.{printable_left}
use Rattle.line.proofs.Steps.{Passes, reads_passes, passes_head, passes_free}
use Rattle.line.proofs.Theorems.{message_reading}
use Rattle.line.proofs.read.Reads as read
use Rattle.line.proofs.read_old.Reads as read-old

-- under either rule
pub record Stands (ρ : Rule) (s : List ℕ) (x : Reading) : Type 0 where
  pub stamp_held : (stamp_in ρ).held x.stamp ≡ true
  pub facility_held : (facility_in ρ).held x.facility ≡ true
  pub sequence : (sequence_in ρ).shown x.sequence ≡ sequence_part ρ s
  pub stamp : (stamp_in ρ).shown x.stamp ≡ stamp_part ρ s
  pub facility : (facility_in ρ).shown x.facility ≡ facility_part ρ s
  pub type : type_text (type_in x.body) ≡ type_part ρ s
  pub given : has_type ρ (type_in x.body) ≡ true
  pub fields : has_fields (type_in x.body) ≡ true → AreFields (body_part ρ s) (named x.body (free_of ρ s))

module _ (ρ : Rule) (s : List ℕ) (x : Reading) (e : read_by ρ s ≡ Ok x) where
  passed : (k : MessageType) × Passes ρ s x k
  passed = reads_passes ρ x s e

  kind : type_in x.body ≡ passed.0
  kind = let (k, p) = passed in (body_sound ρ k (body_part ρ s) x.body x.trailing (printable_left (head_length ρ) s p.printable) p.body).0

  pub reads_stand : Stands ρ s x
  reads_stand =
      let (k, p) = passed in
      let h = passes_head ρ s x k p in
      record {
        stamp_held = h.stamp_held;
        facility_held = h.facility_held;
        sequence = h.sequence_text;
        stamp = h.stamp_text;
        facility = h.facility_text_lem;
        type = rw kind h.type_text_lem;
        given = rw kind h.type_given;
        fields = λ f. rw (passes_free ρ s x k p) (body_named ρ k (body_part ρ s) x.body x.trailing (rw kind at f) p.body).1;
      }

  pub kept_free : has_fields (type_in x.body) ≡ false → free_of ρ s ≡ body_part ρ s
  kept_free f = let (k, p) = passed in passes_free ρ s x k p ∙ rw (rw kind at f)

  -- "The flight's key is the part before the slash", of the line's first field
  pub stands_key : has_fields (type_in x.body) ≡ true → (is_word KEY (key_in x.body) ≡ true) × (text_of (key_in x.body) ≡ before slash (field_at 1 (body_part ρ s)))
  stands_key f = let (k, p) = passed in body_key ρ k (body_part ρ s) x.body x.trailing (rw kind at f) p.body

pub reads_placed : (s : List ℕ) (m : Message) → read_of s ≡ Ok m → Placed s m
reads_placed s m e =
    let q = message_reading New s m e in
    let a = reads_stand New s (reading_of m) q in
    record {
      sequence = a.sequence;
      stamp = a.stamp;
      facility = a.facility;
      type = a.type;
      fields = a.fields;
      whole = kept_free New s (reading_of m) q;
    }

pub reads_key : (s : List ℕ) (m : Message) → read_of s ≡ Ok m → has_fields (type_in m.body) ≡ true
    → (is_word KEY (key_in m.body) ≡ true) × (text_of (key_in m.body) ≡ before slash (field_at 1 (drop 18 s)))
reads_key s m e = stands_key New s (reading_of m) (message_reading New s m e)

pub old_reads_placed : (s : List ℕ) (m : OldMessage) → old_read_of s ≡ Ok m → OldPlaced s m
old_reads_placed s m e =
    let a = reads_stand Old s (old_reading_of m) (message_reading Old s m e) in
    record { stamp = a.stamp; center = a.facility; type = a.type; seven = a.given; fields = a.fields a.given }

-- so of what `line::read` and `line::read_old` answer: `Post` is the `ensures` as it stands in the source
pub read_placed : (κs : _) (a : _) (r : _) (s : _) (m : Message) → read.Post κs a r s → r ≡ Ok m → Placed a.0.now m
read_placed κs a r s m p e = reads_placed a.0.now m (sym p.0 ∙ e)

pub read_old_placed : (κs : _) (a : _) (r : _) (s : _) (m : OldMessage) → read-old.Post κs a r s → r ≡ Ok m → OldPlaced a.0.now m
read_old_placed κs a r s m p e = old_reads_placed a.0.now m (sym p.0 ∙ e)
