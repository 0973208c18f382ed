-- THE LAW of levels: every level of a body that a line can have has the level's form, in FZ, in UZ and in both amendments. Assumes nothing.
use mathlib.Core.Path.{◌≡◌, refl}
use mathlib.Core.Bool.{Bool, true}
use mathlib.Core.List.Memᴰ
use mathlib.Core.List.{List, [], ◌∷◌, ◌++◌, Memᴰ}
use mathlib.Core.Logic.{◌⊎◌, inl, inr}
use Prim.Native.Nat.{ℕ, zero, suc}
use lib.Count.{ones}
use lib.ListN.{take}
use Rattle.text.proofs.Logic.{and_left, true_false}
use Rattle.rules.specs.Kind.{FILED_SPEED, FIX, LEVEL}
use Rattle.rules.specs.declared.Rule.{Rule}
use Rattle.fields.specs.Word.{is_word}
use Rattle.fields.specs.declared.plan.Level.{Level}
use Rattle.table.specs.Amends.{is_mark, content_of}
use Rattle.table.specs.Field.{IDENT, AIRCRAFT, ROUTE, PLAN_TIME, is_one, plain, is_kind_value, is_value}
use Rattle.table.specs.declared.kinds.Value.{Value}
use Rattle.table.specs.Show.{allowed_from}
use Rattle.table.specs.Table.{count_with}
use Rattle.table.proofs.Eight.{each_mark}
use Rattle.table.proofs.OldKinds.{kind_allowed}
use Rattle.messages.specs.Body.{amended_in, held_from, value_of_word, value_of_ident, value_of_aircraft, slots_of, pairs_of, slots, field_count, values_in}
use Rattle.messages.specs.Allowed.{is_whole, kinds_in, is_body}
use Rattle.messages.specs.Levels.{level_in, amended_levels, levels_in}
use Rattle.messages.specs.declared.Amendment.{Amendment}
use Rattle.messages.specs.declared.Plan.{Plan}
use Rattle.messages.specs.declared.Body.{Body}
use Rattle.messages.specs.declared.Body.TheVariants as body
use Rattle.messages.proofs.Amendments.{amendments_by, leads, af_amendments}
use Rattle.messages.proofs.Theorems.{counted, allowed}
use Rattle.messages.proofs.InOrder.{first, next, word_in, body_fielded, body_values}

-- each is a word of the level's form
abbrev AreLevels : List Level → Type 0
AreLevels [] = Unit
AreLevels (l ∷ ls) = (is_word LEVEL l.0 ≡ true) × AreLevels ls

both_levels : (ls ms : List Level) → AreLevels ls → AreLevels ms → AreLevels (ls ++ ms)
both_levels [] ms p q = q
both_levels (l ∷ ls) ms p q = (p.0, both_levels ls ms p.1 q)

level_among : (ls : List Level) → AreLevels ls → (l : Level) → Memᴰ l ls → is_word LEVEL l.0 ≡ true
level_among [] p l m = absurd (Memᴰ.not-nil m)
level_among (k ∷ ls) p l m = go (Memᴰ.cases_cons m) (level_among ls p.1 l)
  where
    go : (l ≡ k) ⊎ Memᴰ l ls → (Memᴰ l ls → is_word LEVEL l.0 ≡ true) → is_word LEVEL l.0 ≡ true
    go (inl e) rest = rw e p.0
    go (inr n) rest = rest n

-- ---- FZ and UZ: the sixth value

module _ (p : Plan) (r : List ℕ) where
  abbrev kinds : List ℕ
  kinds = IDENT ∷ AIRCRAFT ∷ FILED_SPEED ∷ FIX ∷ PLAN_TIME ∷ LEVEL ∷ ROUTE ∷ []

  plan_level_lem : (vs : List Value) → allowed_from kinds 0 0 r (value_of_ident p.ident ∷ value_of_aircraft p.aircraft ∷ value_of_word p.speed.0 ∷ value_of_word p.fix.0 ∷ value_of_word p.time.0 ∷ value_of_word p.level.0 ∷ vs) ≡ true → is_word LEVEL p.level.0 ≡ true
  unfolding is_value is_kind_value plain
  plan_level_lem vs e =
      let f = next (next (next (next (next (first IDENT _ 0 0 r (value_of_ident p.ident) _ e))))) in
      word_in LEVEL f.left r (value_of_word p.level.0) refl f.value

-- ---- AF: the content by its mark

content_levels : (v : Value) (r : List ℕ) (m : ℕ) → is_mark m ≡ true → is_kind_value (content_of m) r v ≡ true → AreLevels (level_in (amended_in (held_from (value_of_word m) v)))
unfolding content_of is_kind_value amended_in
content_levels v r =
    each_mark (λ (m : ℕ). is_kind_value (content_of m) r v ≡ true → AreLevels (level_in (amended_in (held_from (value_of_word m) v))))
    (λ e. tt) (λ e. tt) (λ e. tt) (λ e. tt) (λ e. tt) (λ e. (and_left (is_word LEVEL v.a) (is_one v) e, tt))
    (λ e. (and_left (is_word LEVEL v.a) (is_one v) e, tt)) (λ e. tt)

amended_levels_lem : (ρ : Rule) (j p m : ℕ) (r : List ℕ) (xs : List Amendment) → allowed_from (amendments_by ρ j) p m r (pairs_of xs) ≡ true → AreLevels (amended_levels xs)
unfolding allowed_from
amended_levels_lem ρ j p m r [] e = tt
amended_levels_lem ρ zero p m r (x ∷ xs) e = true_false e refl
amended_levels_lem ρ (suc j) p m r (x ∷ xs) e =
    let f = leads ρ j p m r x xs e in
    both_levels (level_in (amended_in x)) (amended_levels xs) (content_levels x.content r x.mark f.number (kind_allowed ρ (content_of x.mark) r x.content f.value))
    (amended_levels_lem ρ j f.left f.marks_left r xs f.others)

-- ---- by type

are_levels : (ρ : Rule) (b : Body) (r : List ℕ) (t : Bool) → is_body ρ b r t ≡ true → AreLevels (levels_in b)
unfolding kinds_in values_in field_count count_with slots is_whole
are_levels ρ (body.Fz p) r t e = (plan_level_lem p r _ (body_values ρ (body.Fz p) r t refl e), tt)
are_levels ρ (body.Uz p) r t e = (plan_level_lem p r _ (body_values ρ (body.Uz p) r t refl e), tt)
are_levels ρ (body.Af a) r t e =
    let g = body_fielded ρ (body.Af a) r t refl e in
    let (p, m, x) = af_amendments a (counted ρ (body.Af a) r t g) ρ r (allowed ρ (body.Af a) r t g) in
    amended_levels_lem ρ (ones a.marks) p m r (take (ones a.marks) (slots_of a)) x
are_levels ρ (body.Az m) r t e = tt
are_levels ρ (body.Dz m) r t e = tt
are_levels ρ (body.Rz m) r t e = tt
are_levels ρ (body.Tz m) r t e = tt
are_levels ρ body.Rt r t e = tt
are_levels ρ body.To r t e = tt
are_levels ρ body.Hb r t e = tt

-- THE LAW
pub body_levels : (ρ : Rule) (b : Body) (r : List ℕ) (t : Bool) → is_body ρ b r t ≡ true → (l : Level) → Memᴰ l (levels_in b) → is_word LEVEL l.0 ≡ true
body_levels ρ b r t e = level_among (levels_in b) (are_levels ρ b r t e)
