-- THE THEOREMS of the old feed's lines (document 02, l), of the call where a call is meant: 4 is not given; RT, TO and HB answer 7; no message has an
-- aircraft's last letter or an AZ clock with a prefix, and a line that has one answers 9 with its place; no line reads under both rules. Assumes nothing.
use Rattle.std.specs.Prelude.{Ok, Some}
use mathlib.Core.Path.{◌≡◌, refl, sym, ap, ◌∙◌}
use mathlib.Core.Bool.{true, false, ◌&&◌}
use mathlib.Core.List.{List, [], ◌∷◌}
use Prim.Native.Nat.{ℕ, suc}
use native.Mathlib.Omega.{arith}
use lib.Dec.{leb, lit≤}
use lib.ListN.{drop}
use borrow.Author.Tests.{leb-true}
use Rattle.text.specs.Bytes.{bytes}
use Rattle.text.specs.Class.{is_digit, is_letter}
use Rattle.text.proofs.Logic.{and_left, and_right, true_false, not_fails}
use Rattle.shapes.specs.Picture.{is_of, fits, part}
use Rattle.shapes.proofs.Laws.{part_part}
use Rattle.shapes.proofs.Parts.{fits_parts}
use Rattle.rules.specs.Form.{is_stamp, is_one_letter, is_clock}
use Rattle.rules.specs.Kind.{STAMP, LETTER, is_form}
use Rattle.rules.specs.declared.Rule.TheVariants.{New, Old}
use Rattle.fields.specs.Aircraft.{CutInto}
use Rattle.fields.specs.Head.{stamp_in, facility_in, type_part}
use Rattle.fields.specs.MessageType.{type_text, type_of}
use Rattle.fields.specs.declared.heads.MessageType.{MessageType}
use Rattle.fields.specs.declared.heads.MessageType.TheVariants.{Af, Az, Dz, Fz, Rz, Tz, Uz, Rt, To, Hb}
use Rattle.fields.proofs.HeadLaws.{stamp_lawful, facility_lawful}
use Rattle.fields.proofs.TypeLaws.{type_complete}
use Rattle.table.specs.Fault.{field_at}
use Rattle.table.specs.Letters.{AircraftAt}
use Rattle.table.specs.Table.{has_type}
use Rattle.table.proofs.Letters.{letter_wrong, clock_wrong}
use Rattle.messages.specs.Lacks.{Lacks}
use Rattle.messages.specs.Reading.{reading_of, old_reading_of}
use Rattle.messages.specs.declared.Message.{Message}
use Rattle.messages.specs.declared.OldMessage.{OldMessage}
use Rattle.messages.specs.declared.Reading.{Reading}
use Rattle.messages.proofs.OldBodies.{old_lacks}
use Rattle.line.specs.Cases.{Stamped, RightUpTo, Case, Taken, Short, Long, Unprintable, NoSequence, NoStamp, NoFacility, NoType, Spacing, Field, Number, LongPlan}
use Rattle.line.specs.Messages.{Took}
use Rattle.line.specs.Read.{read_by, read_of, old_read_of, old_number, old_place, free_of}
use Rattle.line.proofs.Calls.{ReadCall, read_told}
use Rattle.line.proofs.Cases.{answer_only, wrong_there}
use Rattle.line.proofs.Placed.{reads_stand}
use Rattle.line.proofs.Steps.{allowed_allows}
use Rattle.line.proofs.Theorems.{reads_allowed, message_reading, answer_told}
use Rattle.line.proofs.read_old.Reads as read-old

-- ---- "with 1 under nine bytes and 4 not given"

never_4 : (s : List ℕ) (n p : ℕ) → Case Old s n p → n ≡ 4 → ⊥
never_4 s n p (Taken x r a e) z = omega (arith, z)
never_4 s n p (Short h) z = omega (arith, z)
never_4 s n p (Long h) z = omega (arith, z)
never_4 s n p (Unprintable h k e) z = omega (arith, z)
never_4 s n p (NoSequence f a) z = true_false refl a
never_4 s n p (NoStamp f a b) z = omega (arith, z)
never_4 s n p (NoFacility f a b c) z = omega (arith, z)
never_4 s n p (NoType f d) z = omega (arith, z)
never_4 s n p (Spacing t k l h d) z = omega (arith, z)
never_4 s n p (Field t i k l f) z = omega (arith, z)
never_4 s n p (Number t i k l f) z = omega (arith, z)
never_4 s n p (LongPlan k h) z = omega (arith, z)

pub read_old_never_4 : (κs : _) (a : _) (r : _) (s : _) → read-old.Post κs a r s → old_number r ≡ 4 → ⊥
read_old_never_4 κs a r s p e = never_4 a.0.now (old_number r) (old_place r) p.1 e

-- ---- "a type (our seven, no RT, TO or HB)"

pub seven : (has_type Old Af ≡ true) × (has_type Old Az ≡ true) × (has_type Old Dz ≡ true) × (has_type Old Fz ≡ true) × (has_type Old Rz ≡ true) × (has_type Old Tz ≡ true)
    × (has_type Old Uz ≡ true) × (has_type Old Rt ≡ false) × (has_type Old To ≡ false) × (has_type Old Hb ≡ false)
seven = (refl, refl, refl, refl, refl, refl, refl, refl, refl, refl)

-- letters that are those of another type, or of none, are no type's of the old feed
pub read_old_no_type : (κs : _) (a : _) (r : _) (s : _) → read-old.Post κs a r s → (t : MessageType) → has_type Old t ≡ false → Stamped Old a.0.now → part 7 2 a.0.now ≡ type_text t → old_number r ≡ 7
read_old_no_type κs a r s p t n f e = ap old_number p.0 ∙ (answer_only Old a.0.now 7 0 (NoType f other)).0
  where
    other : (u : MessageType) → has_type Old u ≡ true → type_part Old a.0.now ≡ type_text u → ⊥
    other u g q =
        let z : Some u ≡ Some t = sym (type_complete u) ∙ ap type_of (sym q ∙ e) ∙ type_complete t in
        let y : u ≡ t = cc in
        true_false g (rw y n)

-- ---- "An aircraft field with a last letter, or an AZ clock with a prefix, has no reading there"

-- what is read has neither
pub read_old_lacks : (κs : _) (a : _) (r : _) (s : _) (m : OldMessage) → read-old.Post κs a r s → r ≡ Ok m → Lacks m.body
read_old_lacks κs a r s m p e =
    let x = (reads_allowed Old a.0.now m (sym p.0 ∙ e)).0 in
    old_lacks m.body _ m.trailing (allowed_allows Old (old_reading_of m) (free_of Old a.0.now) x).body

-- and a line that is right up to such a field answers 9 with its place
pub read_old_letter : (κs : _) (a : _) (r : _) (s : _) → read-old.Post κs a r s → (t : MessageType) (fs : List (List ℕ)) (i : ℕ) → RightUpTo Old a.0.now t fs i → AircraftAt fs t i
    → (x y l : List ℕ) → CutInto (field_at fs i) x y l → is_one_letter l ≡ true → (old_number r ≡ 9) × (old_place r ≡ suc i)
read_old_letter κs a r s p t fs i u c x y l k e =
    let q = wrong_there Old a.0.now t fs i u (letter_wrong t fs i u.count u.inside c x y l k e) in
    (ap old_number p.0 ∙ (answer_told Old a.0.now).0 ∙ q.0, ap old_place p.0 ∙ (answer_told Old a.0.now).1 ∙ q.1)

pub read_old_prefix : (κs : _) (a : _) (r : _) (s : _) → read-old.Post κs a r s → (fs : List (List ℕ)) → RightUpTo Old a.0.now Az fs 3
    → is_clock (field_at fs 3) ≡ false → (old_number r ≡ 9) × (old_place r ≡ 4)
read_old_prefix κs a r s p fs u e =
    let q = wrong_there Old a.0.now Az fs 3 u (clock_wrong fs u.inside e) in
    (ap old_number p.0 ∙ (answer_told Old a.0.now).0 ∙ q.0, ap old_place p.0 ∙ (answer_told Old a.0.now).1 ∙ q.1)

-- ---- no line reads under both rules: its seventh byte is a digit of DDHHMMSS in the one, and a capital in the other

no_both : (s : List ℕ) → fits (bytes "d") s ≡ true → fits (bytes "l") s ≡ true → ⊥
unfolding fits is_of is_digit is_letter
no_both [] e f = true_false e refl
no_both (b ∷ s) e f =
    let x = and_left (leb 48 b && leb b 57) (fits [] s) e in
    let y = and_left (leb 65 b && leb b 90) (fits [] s) f in
    omega (arith, leb-true b 57 (and_right (leb 48 b) (leb b 57) x), leb-true 65 b (and_left (leb 65 b) (leb b 90) y))

seventh_digit : (s : List ℕ) → is_form STAMP (part 4 8 s) ≡ true → fits (bytes "d") (part 6 1 s) ≡ true
unfolding is_form is_stamp
seventh_digit s e =
    let a : fits (bytes "dddddddd") (part 4 8 s) ≡ true = not_fails _ (λ q. true_false (rw q at e) refl) in
    let b = and_right (fits (bytes "dd") (part 0 2 (part 4 8 s))) (fits (bytes "dddddd") (drop 2 (part 4 8 s))) (sym (fits_parts (bytes "dd") (bytes "dddddd") (part 4 8 s)) ∙ a) in
    let c = and_left (fits (bytes "d") (part 2 1 (part 4 8 s))) (fits (bytes "ddddd") (drop 1 (drop 2 (part 4 8 s)))) (sym (fits_parts (bytes "d") (bytes "ddddd") (drop 2 (part 4 8 s))) ∙ b) in
    rw (part_part 4 8 2 1 s (lit≤ tt)) at c

seventh_letter : (s : List ℕ) → is_form LETTER (part 6 1 s) ≡ true → fits (bytes "l") (part 6 1 s) ≡ true
unfolding is_form
seventh_letter s e = e

never_both : (s : List ℕ) (x y : Reading) → read_by New s ≡ Ok x → read_by Old s ≡ Ok y → ⊥
never_both s x y e f =
    let a = reads_stand New s x e in
    let b = reads_stand Old s y f in
    no_both (part 6 1 s)
    (seventh_digit s (ap (stamp_in New).form (sym a.stamp) ∙ ((stamp_lawful New).forth x.stamp a.stamp_held).0))
    (seventh_letter s (ap (facility_in Old).form (sym b.facility) ∙ ((facility_lawful Old).forth y.facility b.facility_held).0))

pub one_rule : (s : List ℕ) (m : Message) (o : OldMessage) → read_of s ≡ Ok m → old_read_of s ≡ Ok o → ⊥
one_rule s m o e f = never_both s (reading_of m) (old_reading_of o) (message_reading New s m e) (message_reading Old s o f)

pub read_one_rule : {line : List ℕ} {m : Message} {o : OldMessage} → ReadCall New line (Took New m) → ReadCall Old line (Took Old o) → ⊥
read_one_rule {line} {m} {o} c d = one_rule line m o (sym (read_told c)) (sym (read_told d))
