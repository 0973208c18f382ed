-- THE LAWS of the fields that are read by their own type, of each in its own words: what is read has the form, its text is what was
-- read, and it is a value that some text gives; the text of every such value reads as it. One argument proves them all. Assumes nothing.
use Rattle.std.specs.Prelude.{None, Option, Some}
use mathlib.Core.Path.{◌≡◌, refl, sym, ap, ◌∙◌}
use mathlib.Core.Bool.{true}
use mathlib.Core.List.{List}
use Prim.Native.Nat.{ℕ}
use Rattle.text.specs.Text.{text_of}
use Rattle.rules.specs.Form.{is_key, is_sequence, is_stamp, is_time}
use Rattle.rules.specs.Kind.{SEQUENCE, STAMP, KEY, TIME, is_form}
use Rattle.fields.specs.Word.{word_of, is_word, as_field}
use Rattle.fields.proofs.WordLaws.{read_sound, read_complete}
use Rattle.fields.specs.Typed.{as_sequence, as_stamp, as_key, as_time}
use Rattle.fields.specs.declared.frame.Sequence.{Sequence}
use Rattle.fields.specs.declared.frame.Stamp.{Stamp}
use Rattle.fields.specs.declared.flight.Key.{Key}
use Rattle.fields.specs.declared.plan.Time.{Time}

-- a type F whose values are made of the words of the kind k, and back
module _ {F : Type 0} (of : ℕ → F) (word : F → ℕ) (back : (t : ℕ) → word (of t) ≡ t) (whole : (f : F) → of (word f) ≡ f) (k : ℕ) where
  read_back : (q : Option ℕ) (f : F) → as_field of q ≡ Some f → q ≡ Some (word f)
  read_back (Some t) f e = let z : of t ≡ f = cc in ap Some (sym (back t) ∙ ap word z)
  read_back None f e = cc

  sound : (s : List ℕ) (f : F) → as_field of (word_of k s) ≡ Some f → (is_form k s ≡ true) × (text_of (word f) ≡ s) × (is_word k (word f) ≡ true)
  sound s f e = read_sound k s (read_back (word_of k s) f e)

  complete : (f : F) → is_word k (word f) ≡ true → as_field of (word_of k (text_of (word f))) ≡ Some f
  complete f e = ap (as_field of) (read_complete k (word f) e) ∙ ap Some (whole f)

pub sequence_sound : (s : List ℕ) (f : Sequence) → as_sequence (word_of SEQUENCE s) ≡ Some f → (is_sequence s ≡ true) × (text_of f.0 ≡ s) × (is_word SEQUENCE f.0 ≡ true)
unfolding is_form
sequence_sound = sound (λ t. record { 0 = t }) (λ f. f.0) (λ t. refl) (λ f. refl) SEQUENCE

pub sequence_complete : (f : Sequence) → is_word SEQUENCE f.0 ≡ true → as_sequence (word_of SEQUENCE (text_of f.0)) ≡ Some f
sequence_complete = complete (λ t. record { 0 = t }) (λ f. f.0) (λ t. refl) (λ f. refl) SEQUENCE

pub stamp_sound : (s : List ℕ) (f : Stamp) → as_stamp (word_of STAMP s) ≡ Some f → (is_stamp s ≡ true) × (text_of f.0 ≡ s) × (is_word STAMP f.0 ≡ true)
unfolding is_form
stamp_sound = sound (λ t. record { 0 = t }) (λ f. f.0) (λ t. refl) (λ f. refl) STAMP

pub stamp_complete : (f : Stamp) → is_word STAMP f.0 ≡ true → as_stamp (word_of STAMP (text_of f.0)) ≡ Some f
stamp_complete = complete (λ t. record { 0 = t }) (λ f. f.0) (λ t. refl) (λ f. refl) STAMP

pub key_sound : (s : List ℕ) (f : Key) → as_key (word_of KEY s) ≡ Some f → (is_key s ≡ true) × (text_of f.0 ≡ s) × (is_word KEY f.0 ≡ true)
unfolding is_form
key_sound = sound (λ t. record { 0 = t }) (λ f. f.0) (λ t. refl) (λ f. refl) KEY

pub key_complete : (f : Key) → is_word KEY f.0 ≡ true → as_key (word_of KEY (text_of f.0)) ≡ Some f
key_complete = complete (λ t. record { 0 = t }) (λ f. f.0) (λ t. refl) (λ f. refl) KEY

pub time_sound : (s : List ℕ) (f : Time) → as_time (word_of TIME s) ≡ Some f → (is_time s ≡ true) × (text_of f.0 ≡ s) × (is_word TIME f.0 ≡ true)
unfolding is_form
time_sound = sound (λ t. record { 0 = t }) (λ f. f.0) (λ t. refl) (λ f. refl) TIME

pub time_complete : (f : Time) → is_word TIME f.0 ≡ true → as_time (word_of TIME (text_of f.0)) ≡ Some f
time_complete = complete (λ t. record { 0 = t }) (λ f. f.0) (λ t. refl) (λ f. refl) TIME
