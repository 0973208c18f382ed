-- THE LAWS of one field, once for every kind: reading is sound and complete, and what is read or shown is visible and short.
-- Assumes nothing.
use Rattle.std.specs.Prelude.{Err, None, Ok, Option, Some}
use mathlib.Core.Path.{◌≡◌, refl, sym, ap, ◌∙◌}
use mathlib.Core.Bool.{Bool, true, false, cond, not, ◌&&◌, ◌||◌}
use mathlib.Core.List.{List, [], ◌∷◌}
use Prim.Native.Char.{code}
use Prim.Native.Nat.{ℕ, ◌≤◌}
use native.Mathlib.Omega.{arith}
use lib.Dec.{eqb, leb, lit≤}
use lib.ListN.{length}
use borrow.Author.Tests.{eqb-true, le-leb, leb-true, not-true}
use Rattle.text.specs.Class.{all, is_digit, is_letter, is_alnum, is_text_byte}
use Rattle.text.specs.Text.{is_text}
use Rattle.text.proofs.Logic.{and_left, and_right, true_false, either_of}
use Rattle.text.proofs.Laws.{text_is, text_length}
use Rattle.shapes.specs.Picture.{is_of, run}
use Rattle.shapes.specs.Cut.{up_to, has, joins}
use Rattle.rules.specs.Form.{is_key, is_tz_ident, is_ident, is_route}
use Rattle.rules.specs.Kind.{KEY, NUMBER, is_form}
use Rattle.rules.specs.declared.Rule.{Rule}
use Rattle.rules.specs.declared.Rule.TheVariants.{New, Old}
use Rattle.rules.proofs.Held.{form_held}
use Rattle.fields.specs.Word.{word_of, is_word}
use Rattle.fields.specs.Pair.{is_pair_form, pair_of, pair_text, is_pair, pair_word}
use Rattle.fields.proofs.WordLaws.{read_sound, read_complete, word_packed}
use Rattle.fields.proofs.PairLaws.{pair_writes, pair_too_long}
use Rattle.fields.specs.Ident.{ident_of, tz_ident_of, is_ident_value}
use Rattle.fields.specs.Aircraft.{plain_of, prefixed_of, aircraft_of, aircraft_by, is_letter_by, aircraft_text, is_aircraft_value, aircraft_word}
use Rattle.fields.specs.declared.idents.Ident.{Ident}
use Rattle.fields.specs.declared.aircraft.Aircraft.{Aircraft}
use Rattle.fields.proofs.IdentLaws.{as_tz, tz_as, ident_sound, ident_complete, tz_sound, tz_complete, ident_writes}
use Rattle.fields.proofs.AircraftLaws.{aircraft_writes, aircraft_word_lem}
use Rattle.fields.proofs.Single.{by_read, aircraft_one_by, aircraft_complete}
use Rattle.table.specs.Field.{AMENDMENT, IDENT, TZ_IDENT, AIRCRAFT, OLD_AIRCRAFT, ROUTE, mark_of, mark_text, is_mark, follows, plain, valued, ident_in, aircraft_in, is_one, is_two, of_ident, of_aircraft, of_route, of_word, read_kind, read_mark, barred, read_in, is_kind_value, shown_kind, is_value, shown}
use Rattle.table.specs.declared.kinds.Value.{Value}
use Rattle.table.proofs.Eight.{mark_is, mark_some, mark_text_lem, text_mark, each_text}
use Rattle.table.specs.declared.kinds.NotRead.TheVariants.{Nothing, Number}

-- ---- what each way of reading keeps

ident_kept : (x : Option Ident) (v : Value) → of_ident x ≡ Ok v → (x ≡ Some (ident_in v)) × (is_two v ≡ true)
unfolding is_two
ident_kept (Some i) v e =
    let z : valued i.key.0 i.number.0 0 ≡ v = cc in
    (ap (λ (w : Value). Some (ident_in w)) z, sym (ap is_two z))
ident_kept None v e = ((cc), (cc))

aircraft_kept : (x : Option Aircraft) (v : Value) → of_aircraft x ≡ Ok v → x ≡ Some (aircraft_in v)
aircraft_kept (Some y) v e =
    let z : valued y.prefix y.model y.letter ≡ v = cc in
    ap (λ (w : Value). Some (aircraft_in w)) z
aircraft_kept None v e = cc

-- by either rule: what reads is an aircraft that the rule allows, and each of these reads
aircraft_sound : (ρ : Rule) (s : List ℕ) (v : Value) → of_aircraft (aircraft_by ρ s) ≡ Ok v → (is_aircraft_value (aircraft_in v) ≡ true) × (is_letter_by ρ v.c ≡ true) × (aircraft_text (aircraft_in v) ≡ s)
aircraft_sound ρ s v e =
    let t = (aircraft_one_by ρ s (aircraft_in v) (aircraft_kept (aircraft_by ρ s) v e)).0 in
    (t.reading.value, t.letter, t.reading.text)

aircraft_back : (ρ : Rule) (v : Value) → is_aircraft_value (aircraft_in v) ≡ true → is_letter_by ρ v.c ≡ true → of_aircraft (aircraft_by ρ (aircraft_text (aircraft_in v))) ≡ Ok v
aircraft_back ρ v e l = ap of_aircraft (by_read ρ (aircraft_text (aircraft_in v)) (aircraft_in v) (aircraft_complete (aircraft_in v) e) l)

route_kept : (b : Bool) (v : Value) → of_route b ≡ Ok v → (b ≡ true) × (eqb v.a 0 ≡ true) × (is_one v ≡ true)
unfolding is_one
route_kept true v e = let z : valued 0 0 0 ≡ v = cc in (refl, sym (ap (λ (w : Value). eqb w.a 0) z), sym (ap is_one z))
route_kept false v e = ((cc), (cc), (cc))

word_kept : (x : Option ℕ) (v : Value) → of_word x ≡ Ok v → (x ≡ Some v.a) × (is_one v ≡ true)
unfolding is_one
word_kept (Some t) v e =
    let z : valued t 0 0 ≡ v = cc in
    (ap (λ (w : Value). Some w.a) z, sym (ap is_one z))
word_kept None v e = ((cc), (cc))

-- a TZ's ident has a number
tz_number : (q : Option (ℕ × ℕ)) (i : Ident) → as_tz q ≡ Some i → eqb i.number.0 0 ≡ false
tz_number (Some (k, n)) i e = go (eqb n 0) refl
  where
    go : (b : Bool) → eqb n 0 ≡ b → eqb i.number.0 0 ≡ false
    go true q = let z : None ≡ Some i = rw q at e in cc
    go false q =
        let z : Some (record { key = record { 0 = k }; number = record { 0 = n } }) ≡ Some i = rw q at e in
        let y : record { key = record { 0 = k }; number = record { 0 = n } } ≡ i = cc in
        sym (ap (λ (j : Ident). eqb j.number.0 0) y) ∙ q
tz_number None i e = cc

-- a value that has one part, or two, is made of these
only_one : (v : Value) → is_one v ≡ true → valued v.a 0 0 ≡ v
unfolding is_one
only_one v e =
    let p = eqb-true v.b 0 (and_left (eqb v.b 0) (eqb v.c 0) e) in
    let q = eqb-true v.c 0 (and_right (eqb v.b 0) (eqb v.c 0) e) in
    sym (λ i. record { a = v.a; b = p i; c = q i })

only_two : (v : Value) → is_two v ≡ true → valued v.a v.b 0 ≡ v
unfolding is_two
only_two v e = let q = eqb-true v.c 0 e in sym (λ i. record { a = v.a; b = v.b; c = q i })

-- ---- a kind by itself

-- what reads gives a value of the kind, whose text is what was read; a route r stands beside its value
pub kind_sound : (k : ℕ) (r s : List ℕ) (v : Value) → read_kind k s ≡ Ok v → (eqb k ROUTE ≡ true → r ≡ s) → (is_kind_value k r v ≡ true) × (shown_kind k r v ≡ s)
unfolding read_kind is_kind_value shown_kind
kind_sound k r s v e same = go (eqb k IDENT) refl (eqb k TZ_IDENT) refl (eqb k AIRCRAFT) refl (eqb k OLD_AIRCRAFT) refl (eqb k ROUTE) refl
  where
    go : (a : Bool) → eqb k IDENT ≡ a → (b : Bool) → eqb k TZ_IDENT ≡ b → (c : Bool) → eqb k AIRCRAFT ≡ c → (o : Bool) → eqb k OLD_AIRCRAFT ≡ o → (d : Bool) → eqb k ROUTE ≡ d → (is_kind_value k r v ≡ true) × (shown_kind k r v ≡ s)
    go true x b y c z o u d w =
        let h = ident_kept (ident_of s) v (rw x at e) in
        let t = ident_sound s (ident_in v) h.0 in
        (rw (x, t.2, h.1), rw x t.1)
    go false x true y c z o u d w =
        let h = ident_kept (tz_ident_of s) v (rw (x, y) at e) in
        let t = ident_sound s (ident_in v) (tz_sound s (ident_in v) h.0).1 in
        (rw (x, y, t.2, tz_number (pair_of KEY NUMBER s) (ident_in v) (tz_as s ∙ h.0), h.1), rw (x, y) t.1)
    go false x false y true z o u d w =
        let t = aircraft_sound New s v (rw (x, y, z) at e) in
        (rw (x, y, z) t.0, rw (x, y, z) t.2)
    go false x false y false z true u d w =
        let t = aircraft_sound Old s v (rw (x, y, z, u) at e) in
        (rw (x, y, z, u, t.0) t.1, rw (x, y, z, u) t.2)
    go false x false y false z false u true w =
        let h = route_kept (is_route s) v (rw (x, y, z, u, w) at e) in
        (rw (x, y, z, u, w, same w, h.0, h.1, h.2), rw (x, y, z, u, w) (same w))
    go false x false y false z false u false w =
        let h = word_kept (word_of k s) v (rw (x, y, z, u, w) at e) in
        let t = read_sound k s h.0 in
        (rw (x, y, z, u, w, t.2, h.1), rw (x, y, z, u, w) t.1)

-- the text of every value of the kind reads as it
pub kind_complete : (k : ℕ) (r : List ℕ) (v : Value) → is_kind_value k r v ≡ true → read_kind k (shown_kind k r v) ≡ Ok v
unfolding read_kind is_kind_value shown_kind
kind_complete k r v e = go (eqb k IDENT) refl (eqb k TZ_IDENT) refl (eqb k AIRCRAFT) refl (eqb k OLD_AIRCRAFT) refl (eqb k ROUTE) refl
  where
    go : (a : Bool) → eqb k IDENT ≡ a → (b : Bool) → eqb k TZ_IDENT ≡ b → (c : Bool) → eqb k AIRCRAFT ≡ c → (o : Bool) → eqb k OLD_AIRCRAFT ≡ o → (d : Bool) → eqb k ROUTE ≡ d → read_kind k (shown_kind k r v) ≡ Ok v
    go true x b y c z o u d w =
        let f : (is_ident_value (ident_in v) && is_two v) ≡ true = rw x at e in
        rw (x, ident_complete (ident_in v) (and_left (is_ident_value (ident_in v)) (is_two v) f)) (ap Ok (only_two v (and_right (is_ident_value (ident_in v)) (is_two v) f)))
    go false x true y c z o u d w =
        let f : (is_ident_value (ident_in v) && not (eqb v.b 0) && is_two v) ≡ true = rw (x, y) at e in
        let g = and_left (is_ident_value (ident_in v) && not (eqb v.b 0)) (is_two v) f in
        let n = not-true (eqb v.b 0) (and_right (is_ident_value (ident_in v)) (not (eqb v.b 0)) g) in
        rw (x, y, tz_complete (ident_in v) (and_left (is_ident_value (ident_in v)) (not (eqb v.b 0)) g) n)
        (ap Ok (only_two v (and_right (is_ident_value (ident_in v) && not (eqb v.b 0)) (is_two v) f)))
    go false x false y true z o u d w = rw (x, y, z) (aircraft_back New v (rw (x, y, z) at e) refl)
    go false x false y false z true u d w =
        let f : (is_aircraft_value (aircraft_in v) && is_letter_by Old v.c) ≡ true = rw (x, y, z, u) at e in
        rw (x, y, z, u)
        (aircraft_back Old v (and_left (is_aircraft_value (aircraft_in v)) (is_letter_by Old v.c) f) (and_right (is_aircraft_value (aircraft_in v)) (is_letter_by Old v.c) f))
    go false x false y false z false u true w =
        let f : (is_route r && eqb v.a 0 && is_one v) ≡ true = rw (x, y, z, u, w) at e in
        let g = and_left (is_route r && eqb v.a 0) (is_one v) f in
        let n = eqb-true v.a 0 (and_right (is_route r) (eqb v.a 0) g) in
        rw (x, y, z, u, w, and_left (is_route r) (eqb v.a 0) g)
        (ap (λ (a : ℕ). Ok (valued a 0 0)) (sym n) ∙ ap Ok (only_one v (and_right (is_route r && eqb v.a 0) (is_one v) f)))
    go false x false y false z false u false w =
        let f : (is_word k v.a && is_one v) ≡ true = rw (x, y, z, u, w) at e in
        rw (x, y, z, u, w, read_complete k v.a (and_left (is_word k v.a) (is_one v) f)) (ap Ok (only_one v (and_right (is_word k v.a) (is_one v) f)))

-- ---- what is shown is a short text, but for a route

ident_text_lem : (a b : ℕ) → is_pair KEY NUMBER a b ≡ true → is_text (pair_text a b) ≡ true
ident_text_lem a b e = go (pair_word a b) refl
  where
    go : (w : Option ℕ) → pair_word a b ≡ w → is_text (pair_text a b) ≡ true
    go (Some t) q =
        let p = pair_writes KEY NUMBER a b e q in
        rw p.1 at (text_is t (p.0 ∙ ident_writes a b ∙ e))
    go None q = true_false (ident_writes a b ∙ e) (pair_too_long KEY NUMBER a b e q)

aircraft_text_lem : (a : Aircraft) → is_aircraft_value a ≡ true → is_text (aircraft_text a) ≡ true
aircraft_text_lem a e = go (aircraft_word a) refl
  where
    go : (w : Option ℕ) → aircraft_word a ≡ w → is_text (aircraft_text a) ≡ true
    go (Some t) q = let p = aircraft_writes a e q in rw p.1 at (text_is t (p.0 ∙ e))
    go None q = absurd (aircraft_word_lem a e q)

pub kind_text : (k : ℕ) (r : List ℕ) (v : Value) → is_kind_value k r v ≡ true → eqb k ROUTE ≡ false → is_text (shown_kind k r v) ≡ true
unfolding is_kind_value shown_kind
kind_text k r v e w = go (eqb k IDENT) refl (eqb k TZ_IDENT) refl (eqb k AIRCRAFT) refl (eqb k OLD_AIRCRAFT) refl
  where
    go : (a : Bool) → eqb k IDENT ≡ a → (b : Bool) → eqb k TZ_IDENT ≡ b → (c : Bool) → eqb k AIRCRAFT ≡ c → (o : Bool) → eqb k OLD_AIRCRAFT ≡ o → is_text (shown_kind k r v) ≡ true
    go true x b y c z o u = rw x (ident_text_lem v.a v.b (and_left (is_ident_value (ident_in v)) (is_two v) (rw x at e)))
    go false x true y c z o u =
        rw (x, y)
        (ident_text_lem v.a v.b
        (and_left (is_ident_value (ident_in v)) (not (eqb v.b 0))
        (and_left (is_ident_value (ident_in v) && not (eqb v.b 0)) (is_two v) (rw (x, y) at e))))
    go false x false y true z o u = rw (x, y, z) (aircraft_text_lem (aircraft_in v) (rw (x, y, z) at e))
    go false x false y false z true u =
        rw (x, y, z, u) (aircraft_text_lem (aircraft_in v) (and_left (is_aircraft_value (aircraft_in v)) (is_letter_by Old v.c) (rw (x, y, z, u) at e)))
    go false x false y false z false u =
        rw (x, y, z, u, w) (text_is v.a (word_packed k v.a (and_left (is_word k v.a) (is_one v) (rw (x, y, z, u, w) at e))))

pub kind_short : (k : ℕ) (r : List ℕ) (v : Value) → is_kind_value k r v ≡ true → eqb k ROUTE ≡ false → length (shown_kind k r v) ≤ 12
kind_short k r v e w = text_length (shown_kind k r v) (kind_text k r v e w)

-- ---- what is read is one or more bytes 33 to 126

byte_visible : (b : ℕ) → is_text_byte b ≡ true → is_of (code "v") b ≡ true
unfolding is_text_byte is_alnum is_digit is_letter is_of
byte_visible b =
    either_of (is_digit b || is_letter b) (eqb b 47)
    (either_of (is_digit b) (is_letter b) (λ e. from 48 57 (lit≤ tt) (lit≤ tt) (and_left (leb 48 b) (leb b 57) e) (and_right (leb 48 b) (leb b 57) e))
    (λ e. from 65 90 (lit≤ tt) (lit≤ tt) (and_left (leb 65 b) (leb b 90) e) (and_right (leb 65 b) (leb b 90) e)))
    (λ e. rw (eqb-true b 47 e))
  where
    from : (lo hi : ℕ) → 33 ≤ lo → hi ≤ 126 → leb lo b ≡ true → leb b hi ≡ true → (leb 33 b && leb b 126) ≡ true
    from lo hi h g e f =
        let l = leb-true lo b e in
        let m = leb-true b hi f in
        rw (le-leb 33 b (omega arith), le-leb b 126 (omega arith))

bytes_visible : (s : List ℕ) → all is_text_byte s ≡ true → all (is_of (code "v")) s ≡ true
unfolding all
bytes_visible [] e = refl
bytes_visible (b ∷ s) e = rw (byte_visible b (and_left (is_text_byte b) (all is_text_byte s) e), bytes_visible s (and_right (is_text_byte b) (all is_text_byte s) e))

text_visible : (b : ℕ) (s : List ℕ) → is_text (b ∷ s) ≡ true → is_route (b ∷ s) ≡ true
unfolding is_text is_route
text_visible b s e = rw (bytes_visible (b ∷ s) (and_right (leb (length (b ∷ s)) 12) (all is_text_byte (b ∷ s)) e), le-leb 1 (length (b ∷ s)) (omega arith))

-- a text of no bytes is no field
kind_some : (k : ℕ) (v : Value) → read_kind k [] ≡ Ok v → ⊥
unfolding read_kind ident_of tz_ident_of is_ident is_tz_ident is_key joins has up_to run aircraft_by aircraft_of plain_of prefixed_of pair_of is_pair_form is_form is_route
kind_some k v e = go (eqb k IDENT) refl (eqb k TZ_IDENT) refl (eqb k AIRCRAFT) refl (eqb k OLD_AIRCRAFT) refl (eqb k ROUTE) refl
  where
    never : (Err Nothing) ≡ Ok v → ⊥
    never z = let y : ◌≡◌ {A = ℕ} 0 1 = cc in omega arith

    go : (a : Bool) → eqb k IDENT ≡ a → (b : Bool) → eqb k TZ_IDENT ≡ b → (c : Bool) → eqb k AIRCRAFT ≡ c → (o : Bool) → eqb k OLD_AIRCRAFT ≡ o → (d : Bool) → eqb k ROUTE ≡ d → ⊥
    go true x b y c z o u d w = never (rw x at e)
    go false x true y c z o u d w = never (rw (x, y) at e)
    go false x false y true z o u d w = never (rw (x, y, z) at e)
    go false x false y false z true u d w = never (rw (x, y, z, u) at e)
    go false x false y false z false u true w = never (rw (x, y, z, u, w) at e)
    go false x false y false z false u false w =
        let h = word_kept (word_of k []) v (rw (x, y, z, u, w) at e) in
        omega (arith, (form_held k [] (read_sound k [] h.0).0).some)

read_route : (s : List ℕ) → read_kind ROUTE s ≡ of_route (is_route s)
unfolding read_kind
read_route s = refl

pub kind_visible : (k : ℕ) (s : List ℕ) (v : Value) → read_kind k s ≡ Ok v → is_route s ≡ true
kind_visible k [] v e = absurd (kind_some k v e)
kind_visible k (b ∷ s) v e = go (eqb k ROUTE) refl
  where
    route : eqb k ROUTE ≡ true → is_route (b ∷ s) ≡ true
    route w =
        let f : read_kind ROUTE (b ∷ s) ≡ Ok v = rw (eqb-true k ROUTE w) at e in
        (route_kept (is_route (b ∷ s)) v (sym (read_route (b ∷ s)) ∙ f)).0

    go : (d : Bool) → eqb k ROUTE ≡ d → is_route (b ∷ s) ≡ true
    go true w = route w
    go false w =
        let t = kind_sound k (b ∷ s) (b ∷ s) v e (λ _. refl) in
        text_visible b s (rw t.1 at (kind_text k (b ∷ s) v t.0 w))

-- ---- after the fields before it

mark_kept : (s : List ℕ) (v : Value) → read_mark s ≡ Ok v → (eqb (mark_of s) 0 ≡ false) × (mark_of s ≡ v.a) × (is_one v ≡ true)
unfolding read_mark is_one
mark_kept s v e = go (eqb (mark_of s) 0) refl
  where
    go : (b : Bool) → eqb (mark_of s) 0 ≡ b → (eqb (mark_of s) 0 ≡ false) × (mark_of s ≡ v.a) × (is_one v ≡ true)
    go true q = let z : (Err Number) ≡ Ok v = rw q at e in ((cc), (cc), (cc))
    go false q =
        let f : Ok (valued (mark_of s) 0 0) ≡ Ok v = rw q at e in
        let z : valued (mark_of s) 0 0 ≡ v = cc in
        (q, ap (λ (w : Value). w.a) z, sym (ap is_one z))

mark_visible : (m : ℕ) → is_mark m ≡ true → is_route (mark_text m) ≡ true
unfolding is_route all is_of
mark_visible = each_text is_route refl refl refl refl refl refl refl refl

mark_short : (m : ℕ) → is_mark m ≡ true → leb (length (mark_text m)) 12 ≡ true
mark_short = each_text (λ s. leb (length s) 12) refl refl refl refl refl refl refl refl

-- what is read followed, and was read as a number or by its kind
in_known : (k p m : ℕ) (s : List ℕ) (v : Value) → read_in k p m s ≡ Ok v → (follows k p m s ≡ true) × (cond (eqb k AMENDMENT) (read_mark s) (read_kind (plain k p) s) ≡ Ok v)
unfolding read_in barred
in_known k p m s v e = go (follows k p m s) refl (eqb k AMENDMENT) refl
  where
    go : (t : Bool) → follows k p m s ≡ t → (b : Bool) → eqb k AMENDMENT ≡ b → (follows k p m s ≡ true) × (cond (eqb k AMENDMENT) (read_mark s) (read_kind (plain k p) s) ≡ Ok v)
    go true q b x = (q, rw q at e)
    go false q true x = let z : (Err Number) ≡ Ok v = rw (q, x) at e in ((cc), (cc))
    go false q false x = let z : (Err Nothing) ≡ Ok v = rw (q, x) at e in ((cc), (cc))

-- what reads gives a value, it may follow, and the value's text is what was read
pub in_sound : (k p m : ℕ) (r s : List ℕ) (v : Value) → read_in k p m s ≡ Ok v → (eqb (plain k p) ROUTE ≡ true → r ≡ s) → (is_value k p r v ≡ true) × (follows k p m s ≡ true) × (shown k p r v ≡ s)
unfolding is_value shown
in_sound k p m r s v e same = go (eqb k AMENDMENT) refl
  where
    known : (follows k p m s ≡ true) × (cond (eqb k AMENDMENT) (read_mark s) (read_kind (plain k p) s) ≡ Ok v)
    known = in_known k p m s v e

    go : (b : Bool) → eqb k AMENDMENT ≡ b → (is_value k p r v ≡ true) × (follows k p m s ≡ true) × (shown k p r v ≡ s)
    go true x =
        let h = mark_kept s v (rw x at known.1) in
        (rw (x, h.2, ← h.1, mark_is s h.0), known.0, rw (x, ← h.1) (text_mark s h.0))
    go false x =
        let t = kind_sound (plain k p) r s v (rw x at known.1) same in
        (rw x t.0, known.0, rw x t.1)

-- the text of every value that may follow reads as it
pub in_complete : (k p m : ℕ) (r : List ℕ) (v : Value) → is_value k p r v ≡ true → follows k p m (shown k p r v) ≡ true → read_in k p m (shown k p r v) ≡ Ok v
unfolding is_value shown read_in read_mark
in_complete k p m r v e f = rw f (go (eqb k AMENDMENT) refl)
  where
    go : (b : Bool) → eqb k AMENDMENT ≡ b → cond (eqb k AMENDMENT) (read_mark (shown k p r v)) (read_kind (plain k p) (shown k p r v)) ≡ Ok v
    go true x =
        let g : (is_mark v.a && is_one v) ≡ true = rw x at e in
        let h = and_left (is_mark v.a) (is_one v) g in
        rw (x, mark_text_lem v.a h, mark_some v.a h) (ap Ok (only_one v (and_right (is_mark v.a) (is_one v) g)))
    go false x = rw x (kind_complete (plain k p) r v (rw x at e))

-- every field is one or more bytes 33 to 126
pub in_visible : (k p m : ℕ) (s : List ℕ) (v : Value) → read_in k p m s ≡ Ok v → is_route s ≡ true
in_visible k p m s v e = go (eqb k AMENDMENT) refl (in_known k p m s v e).1
  where
    go : (b : Bool) → eqb k AMENDMENT ≡ b → cond (eqb k AMENDMENT) (read_mark s) (read_kind (plain k p) s) ≡ Ok v → is_route s ≡ true
    go true x f = let h = (mark_kept s v (rw x at f)).0 in rw (text_mark s h) at (mark_visible (mark_of s) (mark_is s h))
    go false x f = kind_visible (plain k p) s v (rw x at f)

pub shown_visible : (k p : ℕ) (r : List ℕ) (v : Value) → is_value k p r v ≡ true → is_route (shown k p r v) ≡ true
unfolding is_value shown
shown_visible k p r v e = go (eqb k AMENDMENT) refl
  where
    go : (b : Bool) → eqb k AMENDMENT ≡ b → is_route (shown k p r v) ≡ true
    go true x = rw x (mark_visible v.a (and_left (is_mark v.a) (is_one v) (rw x at e)))
    go false x = rw x (kind_visible (plain k p) (shown_kind (plain k p) r v) v (kind_complete (plain k p) r v (rw x at e)))

-- and, but for a route, at most twelve
pub shown_short : (k p : ℕ) (r : List ℕ) (v : Value) → is_value k p r v ≡ true → eqb (plain k p) ROUTE ≡ false → length (shown k p r v) ≤ 12
unfolding is_value shown
shown_short k p r v e w = go (eqb k AMENDMENT) refl
  where
    go : (b : Bool) → eqb k AMENDMENT ≡ b → length (shown k p r v) ≤ 12
    go true x = rw x (leb-true (length (mark_text v.a)) 12 (mark_short v.a (and_left (is_mark v.a) (is_one v) (rw x at e))))
    go false x = rw x (kind_short (plain k p) r v (rw x at e) w)
