-- THE LAWS of the head under the rule ρ: exactly which heads a line reads as, a line is its five parts, the parts of a line made of a head and
-- a body are these, and a head's texts are printable. Assumes nothing.
use Rattle.std.specs.Prelude.{Err, None, Ok, Option, Some}
use mathlib.Core.Path.{◌≡◌, refl, sym, ap, ◌∙◌, subst}
use mathlib.Core.Bool.{Bool, true, false, cond}
use mathlib.Core.List.{List, [], ◌∷◌, ◌++◌}
use Prim.Native.Nat.{ℕ, zero, suc, ◌+◌}
use native.Mathlib.Omega.{arith}
use lib.ListN.{length, take, drop, take-append-drop, length-append}
use lib.Seq.{take_at, drop_at, drop-drop}
use Rattle.text.specs.Class.{all}
use Rattle.text.specs.Place.{in_range, all_in}
use Rattle.text.proofs.Parts.{all_append}
use Rattle.text.proofs.Logic.{and_right}
use Rattle.shapes.specs.Picture.{part}
use Rattle.rules.specs.declared.Rule.{Rule}
use Rattle.fields.specs.Head.{sequence_in, stamp_in, facility_in, stamp_at, facility_at, type_at, head_length, sequence_part, stamp_part, facility_part, type_part, body_part}
use Rattle.fields.specs.MessageType.{type_text, type_of}
use Rattle.fields.specs.declared.heads.MessageType.{MessageType}
use Rattle.fields.specs.declared.heads.MessageType.TheVariants.{Af, Az, Dz, Fz, Rz, Tz, Uz, Rt, To, Hb}
use Rattle.fields.proofs.HeadLaws.{sequence_lawful, stamp_lawful, facility_lawful}
use Rattle.fields.proofs.TypeLaws.{type_sound, type_complete, length-type}
use Rattle.table.specs.Table.{has_type}
use Rattle.line.specs.Read.{of_rule, type_by, typed, head_of}
use Rattle.line.specs.declared.front.Head.{Head}
use Rattle.line.specs.declared.Refusal.TheVariants.{NoSequence, NoStamp, NoFacility}

-- ---- a line is its five parts

next_part : (i n : ℕ) (s : List ℕ) → part i n s ++ drop (i + n) s ≡ drop i s
next_part i n s = rw (← drop-drop n i s) (take-append-drop n (drop i s))

pub five_parts : (ρ : Rule) (s : List ℕ) → sequence_part ρ s ++ (stamp_part ρ s ++ (facility_part ρ s ++ (type_part ρ s ++ body_part ρ s))) ≡ s
five_parts ρ s =
    rw (next_part (type_at ρ) 2 s, next_part (facility_at ρ) (facility_in ρ).size s, next_part (stamp_at ρ) (stamp_in ρ).size s) (take-append-drop (sequence_in ρ).size s)

-- ---- and a line joined of texts as long as the head's parts and a rest has these as its parts

pub record Parts (ρ : Rule) (a b c d e s : List ℕ) : Type 0 where
  pub first : sequence_part ρ s ≡ a
  pub second : stamp_part ρ s ≡ b
  pub third : facility_part ρ s ≡ c
  pub fourth : type_part ρ s ≡ d
  pub rest : body_part ρ s ≡ e
  pub size : length s ≡ head_length ρ + length e

-- what is left after i bytes begins with x, so after as many more as x has comes what follows it
further : (i n : ℕ) (s x y : List ℕ) → length x ≡ n → drop i s ≡ x ++ y → drop (i + n) s ≡ y
further i n s x y h e = sym (drop-drop n i s) ∙ ap (drop n) e ∙ drop_at x y n h

pub joined_parts : (ρ : Rule) (a b c d e : List ℕ) → length a ≡ (sequence_in ρ).size → length b ≡ (stamp_in ρ).size → length c ≡ (facility_in ρ).size → length d ≡ 2
    → Parts ρ a b c d e (a ++ (b ++ (c ++ (d ++ e))))
joined_parts ρ a b c d e p q r two =
    let s = a ++ (b ++ (c ++ (d ++ e))) in
    let x = drop_at a (b ++ (c ++ (d ++ e))) (stamp_at ρ) p in
    let y = further (stamp_at ρ) (stamp_in ρ).size s b (c ++ (d ++ e)) q x in
    let z = further (facility_at ρ) (facility_in ρ).size s c (d ++ e) r y in
    record {
      first = take_at a (b ++ (c ++ (d ++ e))) (sequence_in ρ).size p;
      second = ap (take (stamp_in ρ).size) x ∙ take_at b (c ++ (d ++ e)) (stamp_in ρ).size q;
      third = ap (take (facility_in ρ).size) y ∙ take_at c (d ++ e) (facility_in ρ).size r;
      fourth = ap (take 2) z ∙ take_at d e 2 two;
      rest = further (type_at ρ) 2 s d e two z;
      size = simp length-append (omega (arith, p, q, r, two));
    }

-- ---- a type by the rule

pub type_by_sound : (ρ : Rule) (s : List ℕ) (t : MessageType) → type_by ρ s ≡ Some t → (type_text t ≡ s) × (has_type ρ t ≡ true)
unfolding type_by
type_by_sound ρ s t e = go (type_of s) refl e
  where
    none : {X : Type 0} → None ≡ Some t → X
    none z = absurd (let y : ◌≡◌ {A = ℕ} 0 1 = cc in omega arith)

    kept : (u : MessageType) (c : Bool) → has_type ρ u ≡ c → type_of s ≡ Some u → cond c (Some u) None ≡ Some t → (type_text t ≡ s) × (has_type ρ t ≡ true)
    kept u true q p d = let z : u ≡ t = cc in rw (← z) (type_sound s u p, q)
    kept u false q p d = none d

    go : (x : Option MessageType) → type_of s ≡ x → of_rule ρ x ≡ Some t → (type_text t ≡ s) × (has_type ρ t ≡ true)
    go (Some u) p d = kept u (has_type ρ u) refl p d
    go None p d = none d

pub type_by_complete : (ρ : Rule) (t : MessageType) → has_type ρ t ≡ true → type_by ρ (type_text t) ≡ Some t
unfolding type_by
type_by_complete ρ t e = rw (type_complete t, e)

-- ---- what a head and a line have to do with each other where the line reads as that head

pub record IsHeadOf (ρ : Rule) (h : Head) (s : List ℕ) : Type 0 where
  pub sequence_held : (sequence_in ρ).held h.sequence ≡ true
  pub stamp_held : (stamp_in ρ).held h.stamp ≡ true
  pub facility_held : (facility_in ρ).held h.facility ≡ true
  pub sequence_text : (sequence_in ρ).shown h.sequence ≡ sequence_part ρ s
  pub stamp_text : (stamp_in ρ).shown h.stamp ≡ stamp_part ρ s
  pub facility_text_lem : (facility_in ρ).shown h.facility ≡ facility_part ρ s
  pub type_given : has_type ρ h.kind ≡ true
  pub type_text_lem : type_text h.kind ≡ type_part ρ s
  pub type_read : type_by ρ (type_part ρ s) ≡ Some h.kind

-- the head that a line of these forms reads as
abbrev pub made_of : Rule → List ℕ → MessageType → Head
made_of ρ s t = record { sequence = (sequence_in ρ).kept (sequence_part ρ s); stamp = (stamp_in ρ).kept (stamp_part ρ s); facility = (facility_in ρ).kept (facility_part ρ s); kind = t }

made_known : (ρ : Rule) (s : List ℕ) (t : MessageType) → (sequence_in ρ).form (sequence_part ρ s) ≡ true → (stamp_in ρ).form (stamp_part ρ s) ≡ true
    → (facility_in ρ).form (facility_part ρ s) ≡ true → type_by ρ (type_part ρ s) ≡ Some t → IsHeadOf ρ (made_of ρ s t) s
made_known ρ s t p q r y =
    let a = (sequence_lawful ρ).back (sequence_part ρ s) p in
    let b = (stamp_lawful ρ).back (stamp_part ρ s) q in
    let c = (facility_lawful ρ).back (facility_part ρ s) r in
    let d = type_by_sound ρ (type_part ρ s) t y in
    record {
      sequence_held = a.1;
      stamp_held = b.1;
      facility_held = c.1;
      sequence_text = a.0;
      stamp_text = b.0;
      facility_text_lem = c.0;
      type_given = d.1;
      type_text_lem = d.0;
      type_read = y;
    }

-- an answer that isn't the one that a test gives where it fails, or where it holds, is the other one
pub where_holds : {A X : Type 0} (t : Bool) (x w r : A) → (w ≡ r → ⊥) → (t ≡ true → x ≡ r → X) → cond t x w ≡ r → X
where_holds true x w r f g e = g refl e
where_holds false x w r f g e = absurd (f e)

pub where_fails : {A X : Type 0} (t : Bool) (w x r : A) → (w ≡ r → ⊥) → (t ≡ false → x ≡ r → X) → cond t w x ≡ r → X
where_fails true w x r f g e = absurd (f e)
where_fails false w x r f g e = g refl e

-- a line that reads as a head has it
pub head_sound : (ρ : Rule) (s : List ℕ) (h : Head) → head_of ρ s ≡ Ok h → IsHeadOf ρ h s
unfolding head_of
head_sound ρ s h =
    where_holds ((sequence_in ρ).form (sequence_part ρ s)) _ (Err NoSequence) (Ok h) (λ e. let z : ◌≡◌ {A = ℕ} 0 1 = cc in omega arith)
    (λ p. where_holds ((stamp_in ρ).form (stamp_part ρ s)) _ (Err NoStamp) (Ok h) (λ e. let z : ◌≡◌ {A = ℕ} 0 1 = cc in omega arith)
    (λ q. where_holds ((facility_in ρ).form (facility_part ρ s)) _ (Err NoFacility) (Ok h) (λ e. let z : ◌≡◌ {A = ℕ} 0 1 = cc in omega arith)
    (λ r. go p q r (type_by ρ (type_part ρ s)) refl)))
  where
    go : (sequence_in ρ).form (sequence_part ρ s) ≡ true → (stamp_in ρ).form (stamp_part ρ s) ≡ true → (facility_in ρ).form (facility_part ρ s) ≡ true
        → (d : Option MessageType) → type_by ρ (type_part ρ s) ≡ d → typed ρ s d ≡ Ok h → IsHeadOf ρ h s
    go p q r (Some t) y e = let z : made_of ρ s t ≡ h = cc in subst (λ (g : Head). IsHeadOf ρ g s) z (made_known ρ s t p q r y)
    go p q r None y e = absurd (let z : ◌≡◌ {A = ℕ} 0 1 = cc in omega arith)

-- and one that has it reads as it
pub head_complete : (ρ : Rule) (s : List ℕ) (h : Head) → IsHeadOf ρ h s → head_of ρ s ≡ Ok h
unfolding head_of
head_complete ρ s h k =
    let a : ((sequence_in ρ).form (sequence_part ρ s) ≡ true) × ((sequence_in ρ).kept (sequence_part ρ s) ≡ h.sequence) = rw (← k.sequence_text) ((sequence_lawful ρ).forth h.sequence k.sequence_held) in
    let b : ((stamp_in ρ).form (stamp_part ρ s) ≡ true) × ((stamp_in ρ).kept (stamp_part ρ s) ≡ h.stamp) = rw (← k.stamp_text) ((stamp_lawful ρ).forth h.stamp k.stamp_held) in
    let c : ((facility_in ρ).form (facility_part ρ s) ≡ true) × ((facility_in ρ).kept (facility_part ρ s) ≡ h.facility) = rw (← k.facility_text_lem) ((facility_lawful ρ).forth h.facility k.facility_held) in
    rw (a.0, b.0, c.0, k.type_read, a.1, b.1, c.1)

-- ---- the line that a head and a body make

abbrev pub headed : Rule → Head → List ℕ → List ℕ
headed ρ h b = (sequence_in ρ).shown h.sequence ++ ((stamp_in ρ).shown h.stamp ++ ((facility_in ρ).shown h.facility ++ (type_text h.kind ++ b)))

-- ---- printable texts

-- a class of bytes holds of what is left
all_left : (f : ℕ → Bool) (n : ℕ) (s : List ℕ) → all f s ≡ true → all f (drop n s) ≡ true
unfolding all
all_left f zero s e = e
all_left f (suc n) [] e = refl
all_left f (suc n) (b ∷ s) e = all_left f n s (and_right (f b) (all f s) e)

pub printable_left : (n : ℕ) (s : List ℕ) → all_in 32 126 s ≡ true → all_in 32 126 (drop n s) ≡ true
unfolding all_in
printable_left n s e = all_left (in_range 32 126) n s e

pub printable_joined : (x y : List ℕ) → all_in 32 126 x ≡ true → all_in 32 126 y ≡ true → all_in 32 126 (x ++ y) ≡ true
unfolding all_in
printable_joined x y c d = rw (all_append (in_range 32 126) x y, c) d

type_printable : (t : MessageType) → all_in 32 126 (type_text t) ≡ true
unfolding all_in all
type_printable Af = refl
type_printable Az = refl
type_printable Dz = refl
type_printable Fz = refl
type_printable Rz = refl
type_printable Tz = refl
type_printable Uz = refl
type_printable Rt = refl
type_printable To = refl
type_printable Hb = refl

-- ---- THE LAWS of the line that a head and a body b make

module _ (ρ : Rule) (h : Head) (b : List ℕ) (x : (sequence_in ρ).held h.sequence ≡ true) (y : (stamp_in ρ).held h.stamp ≡ true) (z : (facility_in ρ).held h.facility ≡ true) where
  pub headed_parts : Parts ρ ((sequence_in ρ).shown h.sequence) ((stamp_in ρ).shown h.stamp) ((facility_in ρ).shown h.facility) (type_text h.kind) b (headed ρ h b)
  headed_parts =
      joined_parts ρ ((sequence_in ρ).shown h.sequence) ((stamp_in ρ).shown h.stamp) ((facility_in ρ).shown h.facility) (type_text h.kind) b
      ((sequence_lawful ρ).long _ ((sequence_lawful ρ).forth h.sequence x).0) ((stamp_lawful ρ).long _ ((stamp_lawful ρ).forth h.stamp y).0)
      ((facility_lawful ρ).long _ ((facility_lawful ρ).forth h.facility z).0) (length-type h.kind)

  -- it reads as that head
  pub headed_is : has_type ρ h.kind ≡ true → IsHeadOf ρ h (headed ρ h b)
  headed_is given =
      record {
        sequence_held = x;
        stamp_held = y;
        facility_held = z;
        sequence_text = sym headed_parts.first;
        stamp_text = sym headed_parts.second;
        facility_text_lem = sym headed_parts.third;
        type_given = given;
        type_text_lem = sym headed_parts.fourth;
        type_read = ap (type_by ρ) headed_parts.fourth ∙ type_by_complete ρ h.kind given;
      }

  -- and is printable where its body is
  pub headed_printable : all_in 32 126 b ≡ true → all_in 32 126 (headed ρ h b) ≡ true
  headed_printable e =
      printable_joined ((sequence_in ρ).shown h.sequence) _ ((sequence_lawful ρ).clean _ ((sequence_lawful ρ).forth h.sequence x).0)
      (printable_joined ((stamp_in ρ).shown h.stamp) _ ((stamp_lawful ρ).clean _ ((stamp_lawful ρ).forth h.stamp y).0)
      (printable_joined ((facility_in ρ).shown h.facility) _ ((facility_lawful ρ).clean _ ((facility_lawful ρ).forth h.facility z).0)
      (printable_joined (type_text h.kind) b (type_printable h.kind) e)))
