-- THE LAWS of levels in lines (document 02, d), of the call: every level of a message that is read is one number or a block that does not fall,
-- and a block that falls answers 9 with its place, 6 in FZ and UZ and the content's in AF. Assumes nothing.
use mathlib.Core.Path.{◌≡◌, sym, ap, ◌∙◌}
use mathlib.Core.Bool.{true}
use mathlib.Core.List.{List, Memᴰ}
use Prim.Native.Nat.{ℕ, suc}
use Rattle.text.specs.Text.{text_of}
use Rattle.rules.specs.Kind.{LEVEL, is_form}
use Rattle.rules.specs.Level as level
use Rattle.rules.specs.declared.Rule.{Rule}
use Rattle.rules.specs.Level.{Falls}
use Rattle.rules.proofs.Levels.{level_exactly}
use Rattle.fields.proofs.WordLaws.{word_form}
use Rattle.fields.specs.declared.heads.MessageType.{MessageType}
use Rattle.fields.specs.declared.plan.Level.{Level}
use Rattle.table.specs.Fault.{field_at}
use Rattle.table.specs.Levels.{LevelAt}
use Rattle.table.proofs.Levels.{level_right, level_falls}
use Rattle.messages.specs.Levels.{levels_in}
use Rattle.messages.specs.declared.Reading.{Reading}
use Rattle.messages.proofs.Levels.{body_levels}
use Rattle.line.specs.Cases.{RightUpTo}
use Rattle.line.specs.Line.{is_allowed_by}
use Rattle.line.specs.Messages.{MessageOf, reading_in, AnswerOf, Took, number_of, place_of}
use Rattle.line.proofs.Calls.{ReadCall, read_told}
use Rattle.line.proofs.Cases.{wrong_there, right_there}
use Rattle.line.proofs.Steps.{allowed_allows}
use Rattle.line.proofs.Theorems.{reads_allowed, answer_told}

pub allowed_levels : (ρ : Rule) (y : Reading) (r : List ℕ) → is_allowed_by ρ y r ≡ true → (l : Level) → Memᴰ l (levels_in y.body) → level.Level (text_of l.0)
unfolding is_form
allowed_levels ρ y r e l x = (level_exactly (text_of l.0)).0 (word_form LEVEL l.0 (body_levels ρ y.body r y.trailing (allowed_allows ρ y r e).body l x))

-- ---- of the calls

module _ (ρ : Rule) where
  -- what a reader hands out
  pub read_levels : {s : List ℕ} (m : MessageOf ρ) → ReadCall ρ s (Took ρ m) → (l : Level) → Memᴰ l (levels_in (reading_in ρ m).body) → level.Level (text_of l.0)
  read_levels {s} m k = allowed_levels ρ (reading_in ρ m) _ (reads_allowed ρ s m (sym (read_told k))).0

  -- and what it refuses, of a line that is right up to the place of a level: a block that falls there, and no level
  module _ {s : List ℕ} {r : AnswerOf ρ} (k : ReadCall ρ s r) (t : MessageType) (fs : List (List ℕ)) (i : ℕ) (u : RightUpTo ρ s t fs i) (l : LevelAt fs t i) where
    pub read_falls : Falls (field_at fs i) → (number_of ρ r ≡ 9) × (place_of ρ r ≡ suc i)
    read_falls f =
        let q = wrong_there ρ s t fs i u (level_falls ρ t fs i u.count u.inside l f) in
        (ap (number_of ρ) (read_told k) ∙ (answer_told ρ s).0 ∙ q.0, ap (place_of ρ) (read_told k) ∙ (answer_told ρ s).1 ∙ q.1)

    pub read_rises : level.Level (field_at fs i) → place_of ρ r ≡ suc i → ⊥
    read_rises v e =
        right_there ρ s t fs i u (level_right ρ t fs i u.count u.inside l v) (sym (ap (place_of ρ) (read_told k) ∙ (answer_told ρ s).1) ∙ e)
