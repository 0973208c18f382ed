-- THE THEOREMS of bodies by their types: what reads is a body that a line can have, and its text is what was read; the
-- text of every such body reads as it. Assumes nothing.
use Rattle.std.specs.Prelude.{Err, Ok, Result}
use mathlib.Core.Path.{◌≡◌, refl, sym, ap, ◌∙◌}
use mathlib.Core.Bool.{Bool, true, false, cond, not, ◌&&◌, ◌||◌}
use mathlib.Core.List.{List, [], ◌∷◌, map}
use Prim.Native.Nat.{ℕ, ◌+◌, ◌*◌, ◌≤◌}
use native.Mathlib.Omega.{arith}
use lib.Count.{ones}
use lib.Dec.{eqb}
use lib.ListN.{length, take}
use borrow.Author.Tests.{eq-eqb, eqb-true}
use Rattle.text.specs.Place.{all_in}
use Rattle.text.proofs.Logic.{ok_pair, and_left, and_right, true_false}
use Rattle.rules.specs.declared.Rule.{Rule}
use Rattle.fields.specs.declared.heads.MessageType.{MessageType}
use Rattle.fields.specs.declared.heads.MessageType.TheVariants as type
use Rattle.table.specs.Spacing.{Fields, body_of, fields_of, fields_in}
use Rattle.table.specs.Field.{trace_of}
use Rattle.table.specs.declared.kinds.Value.{Value}
use Rattle.table.specs.Read.{padded, answer_of, values_of, route_in, route_of}
use Rattle.table.specs.Show.{texts_from, allowed_from, marks_from, routed}
use Rattle.table.specs.declared.walk.Fault.{Fault}
use Rattle.table.proofs.Theorems.{complete, allowed_taken, body_printable}
use Rattle.table.proofs.Routes.{Back, route_back, written_back}
use Rattle.table.proofs.Amends.{marks_count}
use Rattle.table.specs.Table.{table_by, count_with, is_count, has_fields, kinds_of, count_in, answer_by, values_by, route_by, free_in}
use Rattle.table.proofs.TableWays.{kinds_length}
use Rattle.table.proofs.Tables.{table_few, table_one}
use Rattle.messages.specs.Body.{amended_in, held_of, slots_of, type_in, marks_in, field_count, values_in, spare, body_from}
use Rattle.messages.specs.Allowed.{is_whole, has_route, kinds_in, body_text, all_none, is_fielded, is_body}
use Rattle.messages.specs.declared.Amendment.{Amendment}
use Rattle.messages.specs.declared.Af.{Af}
use Rattle.messages.specs.declared.Body.{Body}
use Rattle.messages.specs.declared.Body.TheVariants as body
use Rattle.messages.proofs.Amendments.{amendments_kept}
use Rattle.messages.proofs.Bodies.{type_from, body_back, values_back}
use Rattle.messages.proofs.Tables.{count_from, marks_kept_lem, has_route_lem}
use Rattle.messages.specs.Read.{typed_of, body_read}
use Rattle.messages.proofs.ReadWays.{by_table, kept_whole}

-- kinds after the last field find no route
route_take : (ks : List ℕ) (p : ℕ) (fs : List (List ℕ)) → route_in (take (length fs) ks) p fs ≡ route_in ks p fs
unfolding route_in
route_take [] p [] = refl
route_take [] p (f ∷ fs) = refl
route_take (k ∷ ks) p [] = refl
route_take (k ∷ ks) p (f ∷ fs) = rw (route_take ks (trace_of k f) fs)

-- the route of a type's body is that of as many kinds as it has fields
route_by_lem : (ρ : Rule) (t : MessageType) (s : List ℕ) → route_by ρ t s ≡ route_of (kinds_of ρ t (count_in s)) s
unfolding route_by route_of kinds_of count_in
route_by_lem ρ t s = sym (route_take (table_by ρ t) 0 (fields_in (fields_of s)))

-- ---- what reads

record Taken (ρ : Rule) (t : MessageType) (s : List ℕ) (b : Body) (u : Bool) : Type 0 where
  marks : ℕ
  count : is_count t (count_in s) ≡ true
  answer : answer_of (kinds_of ρ t (count_in s)) s ≡ Ok (u, marks)
  is : body_from t marks (padded (values_of (kinds_of ρ t (count_in s)) s)) ≡ b

typed_taken : (ρ : Rule) (t : MessageType) (s : List ℕ) (b : Body) (u : Bool) → typed_of t (padded (values_by ρ t s)) (answer_by ρ t s) ≡ Ok (b, u) → Taken ρ t s b u
unfolding answer_by values_by
typed_taken ρ t s b u e = go (is_count t (count_in s)) refl
  where
    none : {X : Type 0} (x : Fault) → ◌≡◌ {A = Result (Body × Bool) Fault} (Err x) (Ok (b, u)) → X
    none x z = absurd (let y : ◌≡◌ {A = ℕ} 0 1 = cc in omega arith)

    at : is_count t (count_in s) ≡ true → (a : Result (Bool × ℕ) Fault) → answer_of (kinds_of ρ t (count_in s)) s ≡ a → typed_of t (padded (values_of (kinds_of ρ t (count_in s)) s)) a ≡ Ok (b, u) → Taken ρ t s b u
    at q (Ok (v, m)) p d =
        let z : v ≡ u = (ok_pair d).1 in
        let y : body_from t m (padded (values_of (kinds_of ρ t (count_in s)) s)) ≡ b = (ok_pair d).0 in
        record { marks = m; count = q; answer = p ∙ rw z; is = y }
    at q (Err x) p d = none x d

    go : (c : Bool) → is_count t (count_in s) ≡ c → Taken ρ t s b u
    go true q = at q (answer_of (kinds_of ρ t (count_in s)) s) refl (rw q at e)
    go false q = none _ (rw q at e)

-- the text and the rules of what is read
pub record Held (ρ : Rule) (t : MessageType) (s : List ℕ) (b : Body) (u : Bool) : Type 0 where
  pub type : type_in b ≡ t
  pub fields : field_count b ≡ count_in s
  pub good : is_fielded ρ b (route_by ρ t s) ≡ true
  pub text : body_of (texts_from (kinds_in ρ b) 0 (route_by ρ t s) (values_in b)) u ≡ s

either : (a b : Bool) → (a ≡ false → b ≡ true) → (a || b) ≡ true
either true b h = refl
either false b h = h refl

pub fields_held : (ρ : Rule) (t : MessageType) (s : List ℕ) (b : Body) (u : Bool) → typed_of t (padded (values_by ρ t s)) (answer_by ρ t s) ≡ Ok (b, u) → Held ρ t s b u
unfolding is_fielded kinds_in
fields_held ρ t s b u e = rw (← x.is) (record { type = same; fields = count; good = good; text = text })
  where
    x : Taken ρ t s b u
    x = typed_taken ρ t s b u e

    n : ℕ
    n = count_in s

    ks : List ℕ
    ks = kinds_of ρ t n

    vs : List Value
    vs = values_of ks s

    m : ℕ
    m = x.marks

    r : List ℕ
    r = route_by ρ t s

    c : Body
    c = body_from t m (padded vs)

    same : type_in c ≡ t
    same = type_from t m (padded vs)

    w : Back ks s u m
    w = written_back ks s u m (table_one ρ t n x.count) x.answer

    allowed : allowed_from ks 0 0 r vs ≡ true
    allowed = rw (route_by_lem ρ t s) w.allowed

    marked : marks_from ks 0 0 r vs ≡ m
    marked = rw (route_by_lem ρ t s) w.marks

    back : body_of (texts_from ks 0 r vs) u ≡ s
    back = rw (route_by_lem ρ t s) w.text

    count : field_count c ≡ n
    count = count_from ρ m (padded vs) t n x.count (rw (← marked) (marks_count ks r vs allowed).1)

    v : (values_in c ≡ vs) × (all_none (spare c) ≡ true)
    v = values_back ρ t n m r vs x.count allowed count

    -- free text only where a route is
    free : (has_route c || eqb (length r) 0) ≡ true
    free = either (has_route c) (eqb (length r) 0) (λ q. eq-eqb (length r) 0 (ap length (none q)))
      where
        none : has_route c ≡ false → r ≡ []
        none q =
            let l : length ks ≤ 19 = rw (kinds_length ρ t n x.count) (table_few t n x.count) in
            let z : route_of ks s ≡ cond (routed ks 0 r vs) r [] = rw back at (route_back ks r vs u l allowed) in
            let y : routed ks 0 r vs ≡ false = sym (has_route_lem ρ m (padded vs) r vs t n x.count allowed marked) ∙ q in
            route_by_lem ρ t s ∙ z ∙ rw y

    good : is_fielded ρ c r ≡ true
    good = rw (same, count, x.count, v.0, allowed, marked, eq-eqb m (marks_in c) (sym (marks_kept_lem ρ m (padded vs) r vs t n x.count marked)), v.1) free

    text : body_of (texts_from (kinds_of ρ (type_in c) (field_count c)) 0 r (values_in c)) u ≡ s
    text = rw (same, count, v.0) back

whole_not : (b : Body) → has_fields (type_in b) ≡ true → is_whole b ≡ false
unfolding is_whole
whole_not b e = rw e

fielded : (ρ : Rule) (t : MessageType) (s : List ℕ) (b : Body) (u : Bool) → has_fields t ≡ true → Held ρ t s b u → (type_in b ≡ t) × (is_body ρ b (route_by ρ t s) u ≡ true) × (body_text ρ b (route_by ρ t s) u ≡ s)
unfolding is_body body_text
fielded ρ t s b u f h =
    let q : is_whole b ≡ false = whole_not b (rw h.type f) in
    (h.type, rw q h.good, rw q h.text)

-- a body that is kept whole
whole_held : (ρ : Rule) (t : MessageType) (s : List ℕ) → has_fields t ≡ false → all_in 32 126 s ≡ true
    → let b = body_from t 0 (padded []) in (type_in b ≡ t) × (is_body ρ b s false ≡ true) × (body_text ρ b s false ≡ s)
unfolding is_body body_text is_whole
whole_held ρ t s f h = let k = type_from t 0 (padded []) in (k, rw (k, f, h), rw (k, f))

-- what reads is a body that a line can have, and its text is what was read
pub body_sound : (ρ : Rule) (t : MessageType) (s : List ℕ) (b : Body) (u : Bool) → all_in 32 126 s ≡ true → body_read ρ t s ≡ Ok (b, u)
    → (type_in b ≡ t) × (is_body ρ b (free_in ρ t s) u ≡ true) × (body_text ρ b (free_in ρ t s) u ≡ s)
body_sound ρ t s b u h e = go (has_fields t) refl
  where
    go : (c : Bool) → has_fields t ≡ c → (type_in b ≡ t) × (is_body ρ b (free_in ρ t s) u ≡ true) × (body_text ρ b (free_in ρ t s) u ≡ s)
    go true f = rw f (fielded ρ t s b u f (fields_held ρ t s b u (sym (by_table ρ t s f) ∙ e)))
    go false f =
        let d = ok_pair (sym (kept_whole ρ t s f) ∙ e) in
        let z : body_from t 0 (padded []) ≡ b = d.0 in
        let y : false ≡ u = d.1 in
        rw (f, ← z, ← y) (whole_held ρ t s f h)

-- "the count of marks set is the count of amendments": an AF that is read has three fields, and two more for each mark
pub marks_amendments : (ρ : Rule) (s : List ℕ) (a : Af) (u : Bool) → body_read ρ type.Af s ≡ Ok (body.Af a, u) → count_in s ≡ 3 + 2 * ones a.marks
unfolding field_count count_with
marks_amendments ρ s a u e = sym (fields_held ρ type.Af s (body.Af a) u (sym (by_table ρ type.Af s refl) ∙ e)).fields

-- ---- what is shown

module _ (ρ : Rule) (b : Body) (r : List ℕ) (u : Bool) (e : is_fielded ρ b r ≡ true) where
  abbrev t : MessageType
  t = type_in b

  abbrev n : ℕ
  n = field_count b

  abbrev ks : List ℕ
  ks = kinds_in ρ b

  abbrev vs : List Value
  vs = values_in b

  abbrev s : List ℕ
  s = body_of (texts_from ks 0 r vs) u

  abbrev a₁ : Bool
  a₁ = is_count t n

  abbrev a₂ : Bool
  a₂ = allowed_from ks 0 0 r vs

  abbrev a₃ : Bool
  a₃ = eqb (marks_from ks 0 0 r vs) (marks_in b)

  abbrev a₄ : Bool
  a₄ = all_none (spare b)

  abbrev a₅ : Bool
  a₅ = has_route b || eqb (length r) 0

  five : (a₁ && a₂ && a₃ && a₄ && a₅) ≡ true
  unfolding is_fielded
  five = e

  pub counted : is_count t n ≡ true
  counted = and_left a₁ a₂ (and_left (a₁ && a₂) a₃ (and_left (a₁ && a₂ && a₃) a₄ (and_left (a₁ && a₂ && a₃ && a₄) a₅ five)))

  pub allowed : allowed_from ks 0 0 r vs ≡ true
  allowed = and_right a₁ a₂ (and_left (a₁ && a₂) a₃ (and_left (a₁ && a₂ && a₃) a₄ (and_left (a₁ && a₂ && a₃ && a₄) a₅ five)))

  marked : marks_from ks 0 0 r vs ≡ marks_in b
  marked = eqb-true (marks_from ks 0 0 r vs) (marks_in b) (and_right (a₁ && a₂) a₃ (and_left (a₁ && a₂ && a₃) a₄ (and_left (a₁ && a₂ && a₃ && a₄) a₅ five)))

  spared : all_none (spare b) ≡ true
  spared = and_right (a₁ && a₂ && a₃) a₄ (and_left (a₁ && a₂ && a₃ && a₄) a₅ five)

  routes : (has_route b || eqb (length r) 0) ≡ true
  routes = and_right (a₁ && a₂ && a₃ && a₄) a₅ five

  long : length ks ≡ n
  unfolding kinds_in
  long = kinds_length ρ t n counted

  few : length ks ≤ 19
  few = rw long (table_few t n counted)

  is : body_from t (marks_in b) (padded vs) ≡ b
  is = body_back b spared

  pub parts : (answer_of ks s ≡ Ok (u, marks_from ks 0 0 r vs)) × (values_of ks s ≡ vs) × (fields_of s ≡ Fields (texts_from ks 0 r vs) u) × (length vs ≡ length ks)
  parts = complete ks r vs u few allowed

  number : count_in s ≡ n
  unfolding count_in
  number = ap (λ f. length (fields_in f)) parts.2 ∙ (allowed_taken ks 0 0 r vs allowed).texts ∙ long

  shown_read : typed_of t (padded (values_by ρ t s)) (answer_by ρ t s) ≡ Ok (b, u)
  unfolding answer_by values_by kinds_in
  shown_read = rw (number, counted, parts.0, parts.1, marked, is)

  shown_free : route_by ρ t s ≡ r
  unfolding kinds_in
  shown_free = route_by_lem ρ t s ∙ ap (λ i. route_of (kinds_of ρ t i) s) number ∙ route_back ks r vs u few allowed ∙ go (routed ks 0 r vs) refl
    where
      same : has_route b ≡ routed ks 0 r vs
      same = sym (ap has_route is) ∙ has_route_lem ρ (marks_in b) (padded vs) r vs t n counted allowed marked

      none : (l : List ℕ) → eqb (length l) 0 ≡ true → [] ≡ l
      none [] q = refl
      none (x ∷ l) q = absurd (omega (arith, eqb-true (length (x ∷ l)) 0 q))

      go : (c : Bool) → routed ks 0 r vs ≡ c → cond (routed ks 0 r vs) r [] ≡ r
      go true q = rw q
      go false q = let z : eqb (length r) 0 ≡ true = rw (same, q) at routes in rw q (none r z)

  shown_printable : all_in 32 126 s ≡ true
  shown_printable = body_printable ks 0 0 r vs u allowed

-- an AF that is read keeps its amendments by their types: what each is held as is what its type keeps
pub amendments_typed : (ρ : Rule) (s : List ℕ) (a : Af) (u : Bool) → body_read ρ type.Af s ≡ Ok (body.Af a, u)
    → map (λ (x : Amendment). held_of (amended_in x)) (take (ones a.marks) (slots_of a)) ≡ take (ones a.marks) (slots_of a)
unfolding kinds_in
amendments_typed ρ s a u e =
    let g = (fields_held ρ type.Af s (body.Af a) u (sym (by_table ρ type.Af s refl) ∙ e)).good in
    amendments_kept ρ a (route_by ρ type.Af s) (counted ρ (body.Af a) (route_by ρ type.Af s) u g) (allowed ρ (body.Af a) (route_by ρ type.Af s) u g)

-- a body that is kept whole
whole_complete : (r : List ℕ) (u : Bool) → (all_in 32 126 r && not u) ≡ true → (u ≡ false) × (all_in 32 126 r ≡ true)
whole_complete r true e = let z = and_right (all_in 32 126 r) false e in (sym z, true_false z refl)
whole_complete r false e = (refl, and_left (all_in 32 126 r) true e)

whole_is : (b : Body) → has_fields (type_in b) ≡ false → is_whole b ≡ true
unfolding is_whole
whole_is b e = rw e

-- it is its type alone
whole_back : (b : Body) → has_fields (type_in b) ≡ false → body_from (type_in b) 0 (padded []) ≡ b
unfolding body_from
whole_back (body.Af m) e = true_false refl e
whole_back (body.Az m) e = true_false refl e
whole_back (body.Dz m) e = true_false refl e
whole_back (body.Fz p) e = true_false refl e
whole_back (body.Rz m) e = true_false refl e
whole_back (body.Tz m) e = true_false refl e
whole_back (body.Uz p) e = true_false refl e
whole_back body.Rt e = refl
whole_back body.To e = refl
whole_back body.Hb e = refl

-- the text of every body that a line can have reads as it, and its free text is handed back
pub body_complete : (ρ : Rule) (b : Body) (r : List ℕ) (u : Bool) → is_body ρ b r u ≡ true
    → (body_read ρ (type_in b) (body_text ρ b r u) ≡ Ok (b, u)) × (free_in ρ (type_in b) (body_text ρ b r u) ≡ r) × (all_in 32 126 (body_text ρ b r u) ≡ true)
unfolding is_body body_text
body_complete ρ b r u e = go (has_fields (type_in b)) refl
  where
    go : (c : Bool) → has_fields (type_in b) ≡ c → (body_read ρ (type_in b) (body_text ρ b r u) ≡ Ok (b, u)) × (free_in ρ (type_in b) (body_text ρ b r u) ≡ r) × (all_in 32 126 (body_text ρ b r u) ≡ true)
    go true f =
        let q = whole_not b f in
        let g : is_fielded ρ b r ≡ true = rw q at e in
        rw (q, f) (by_table ρ (type_in b) (body_of (texts_from (kinds_in ρ b) 0 r (values_in b)) u) f ∙ shown_read ρ b r u g, shown_free ρ b r u g, shown_printable ρ b r u g)
    go false f =
        let q = whole_is b f in
        let h = whole_complete r u (rw q at e) in
        rw (q, f) (kept_whole ρ (type_in b) r f ∙ rw (whole_back b f, h.0), refl, h.1)
