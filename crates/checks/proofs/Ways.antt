-- What each way through the code gives, but for the loop, is what its definition says. Assumes nothing.
use Rattle.std.specs.Prelude.{None, Some}
use mathlib.Core.Path.{◌≡◌, refl, sym, ap, ◌∙◌}
use mathlib.Core.Bool.{Bool, true, false}
use mathlib.Core.List.{List, [], ◌∷◌}
use Prim.Native.Nat.{ℕ, ◌+◌}
use native.Mathlib.Nat.{add-zero}
use lib.ListN.{length}
use borrow.Author.Tests.{eq-eqb, ne_eqb}
use denote.Enum.Declared.{tag_of}
use types.Run.{OneOf, miss}
use Rattle.text.specs.Text.{packed, spliced}
use Rattle.text.proofs.Splice.{spliced_none}
use Rattle.rules.specs.declared.Rule.{Rule}
use Rattle.fields.specs.MessageType.{type_text}
use Rattle.fields.specs.declared.heads.MessageType.{MessageType}
use Rattle.cutter.specs.Calls.{line_in}
use Rattle.cutter.specs.Cases.{told_by}
use Rattle.cutter.specs.declared.CutAnswer.{CutAnswer}
use Rattle.cutter.specs.declared.CutAnswer.TheVariants as cut
use Rattle.cutter.specs.contracts.CutAnswer.{the_type}
use Rattle.messages.specs.Body.{type_in, key_in}
use Rattle.messages.specs.declared.Body.{Body}
use Rattle.line.specs.Messages.{AnswerOf, answer_to, read_as}
use Rattle.line.specs.Read.{read_by, refusal_number, refusal_place}
use Rattle.line.specs.declared.Refusal.{Refusal}
use Rattle.line.proofs.Theorems.{answer_reading}
use Rattle.checks.specs.Part.{body_verdict, refused_verdict, verdict_by, overlong, verdict_of, judged_of, verdict_text, verdict_said, counted}
use Rattle.checks.specs.declared.Sums.{Sums}
use Rattle.checks.specs.declared.Verdict.{Verdict}

-- ---- `of_body`, `of_refusal`, `judge_new` and `judge_old`

pub body_as : (b : Body) {t : MessageType} {w k : ℕ} → t ≡ type_in b → w ≡ packed (type_text t) → k ≡ key_in b → record { answer = 0; place = 0; kind = w; key = k } ≡ body_verdict b
body_as b e f g = rw (f, e, g)

pub refused_as : (y : Refusal) {n p : ℕ} → n ≡ refusal_number y → p ≡ refusal_place y → record { answer = n; place = p; kind = 0; key = 0 } ≡ refused_verdict y
refused_as y e f = rw (e, f)

pub answer_judged : (ρ : Rule) (s : List ℕ) (v : Verdict) {r : AnswerOf ρ} → r ≡ answer_to ρ s → (x : AnswerOf ρ) → r ≡ x → v ≡ verdict_by (read_as ρ x) → v ≡ verdict_by (read_by ρ s)
answer_judged ρ s v e x g f = f ∙ ap (λ (y : AnswerOf ρ). verdict_by (read_as ρ y)) (sym g ∙ e) ∙ ap verdict_by (answer_reading ρ s)

-- ---- `judge`

module _ (ρ : Rule) (a : CutAnswer) (held rest : List ℕ) where
  module _ (s : List ℕ) (is : s ≡ line_in a held rest) (v : Verdict) (e : v ≡ verdict_by (read_by ρ s)) where
    pub buffer_judged : (n : ℕ) → a ≡ cut.InBuffer n → Some v ≡ judged_of ρ (told_by a (line_in a held rest))
    unfolding told_by verdict_of
    buffer_judged n q = rw (← is, q, e)

    pub part_judged : (n : ℕ) → a ≡ cut.InPart n → Some v ≡ judged_of ρ (told_by a (line_in a held rest))
    unfolding told_by verdict_of
    part_judged n q = rw (← is, q, e)

  pub long_judged : a ≡ cut.TooLong → Some overlong ≡ judged_of ρ (told_by a (line_in a held rest))
  unfolding told_by verdict_of
  long_judged q = rw q

-- where no line ended, the code tells only the variant's number
pub none_judged : (ρ : Rule) (a : CutAnswer) (l : List ℕ) → OneOf (0 ∷ 4 ∷ []) (tag_of the_type a) → None ≡ judged_of ρ (told_by a l)
unfolding told_by
none_judged ρ cut.Taken l h = refl
none_judged ρ (cut.InBuffer n) l h = absurd (miss (0 ∷ 4 ∷ []) 1 tt h)
none_judged ρ (cut.InPart n) l h = absurd (miss (0 ∷ 4 ∷ []) 2 tt h)
none_judged ρ cut.TooLong l h = absurd (miss (0 ∷ 4 ∷ []) 3 tt h)
none_judged ρ cut.NotAllowed l h = refl

-- ---- `say`

module _ (only : Bool) (n : ℕ) (v : Verdict) (out : List ℕ) (at : ℕ) where
  -- what is said, and where it ends
  abbrev pub Says : ℕ → List ℕ → Type 0
  Says r out' = (r ≡ at + length (verdict_said only n v)) × (out' ≡ spliced out at (verdict_said only n v))

  abbrev pub Puts : ℕ → List ℕ → Type 0
  Puts r out' = (r ≡ at + length (verdict_text n v)) × (out' ≡ spliced out at (verdict_text n v))

  pub says_all : only ≡ false → {r : ℕ} {out' : List ℕ} → Puts r out' → Says r out'
  unfolding verdict_said
  says_all q p = rw q p

  pub says_refused : only ≡ true → (v.answer ≡ 0 → ⊥) → {r : ℕ} {out' : List ℕ} → Puts r out' → Says r out'
  unfolding verdict_said
  says_refused q h p = rw (q, ne_eqb v.answer 0 h) p

  pub says_nothing : only ≡ true → v.answer ≡ 0 → Says at out
  unfolding verdict_said
  says_nothing q e = rw (q, eq-eqb v.answer 0 e) (sym (add-zero at), sym (spliced_none out at))

-- ---- `count`

module _ (s : Sums) (v : Verdict) where
  pub count_read : v.answer ≡ 0 → record { begun = s.begun; lines = s.lines + 1; read = s.read + 1 } ≡ counted s v
  count_read e = rw (eq-eqb v.answer 0 e)

  pub count_refused : (v.answer ≡ 0 → ⊥) → record { begun = s.begun; lines = s.lines + 1; read = s.read } ≡ counted s v
  count_refused h = rw (ne_eqb v.answer 0 h, add-zero s.read)
