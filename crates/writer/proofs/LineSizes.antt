-- The laws of the sizes of bodies and lines under the rule ρ: what each test of a reading says of its size. Assumes nothing.
use Rattle.std.specs.Prelude.{None, Some}
use mathlib.Core.Path.{◌≡◌, refl, sym, ap, ◌∙◌}
use mathlib.Core.Bool.{Bool, true, false, cond, not, ◌||◌, and-false}
use mathlib.Core.List.{List, [], ◌∷◌}
use Prim.Native.Nat.{ℕ, ◌+◌, ◌*◌, ◌≤◌, ◌<◌}
use native.Mathlib.Omega.{arith}
use lib.Dec.{eqb}
use lib.ListN.{length, take, length-append}
use borrow.Author.Tests.{eq-eqb, ne_eqb, le-leb, lt-leb}
use Rattle.text.specs.Place.{all_in}
use Rattle.text.proofs.Logic.{true_false, not_fails, not_holds, and_four, some_pair}
use Rattle.rules.specs.Frame.{longest_line}
use Rattle.rules.specs.declared.Rule.{Rule}
use Rattle.rules.specs.declared.Rule.TheVariants.{New, Old}
use Rattle.fields.specs.Head.{sequence_in, stamp_in, facility_in, head_length}
use Rattle.fields.specs.declared.heads.MessageType.{MessageType}
use Rattle.table.specs.Spacing.{Split, Fields, Wrong, body_of, fields_of, fields_in}
use Rattle.table.proofs.SpacingLaws.{fields_text_lem}
use Rattle.table.specs.Field.{ROUTE, plain, trace_of, marks_of, shown}
use Rattle.table.specs.declared.kinds.Value.{Value}
use Rattle.table.specs.Read.{route_in, route_of}
use Rattle.table.specs.Show.{texts_from, allowed_from, marks_from}
use Rattle.table.proofs.WalkWays.{route_no_fields}
use Rattle.table.specs.Table.{count_with, is_count, has_fields, has_type, has_route_with, table_by, dotted, kinds_of, route_by, free_in}
use Rattle.table.specs.Plan.{is_long_plan}
use Rattle.table.proofs.TableWays.{count_dotted, dotted_kinds, kinds_length}
use Rattle.table.proofs.Tables.{table_few}
use Rattle.messages.specs.Body.{type_in, field_count, slots, values_in, spare, marks_in}
use Rattle.messages.specs.Allowed.{has_route, all_none, kinds_in, body_text, is_whole, is_fielded, is_body}
use Rattle.messages.specs.declared.Body.{Body}
use Rattle.messages.specs.declared.Reading.{Reading}
use Rattle.messages.proofs.Bodies.{allowed_first, allowed_rest}
use Rattle.messages.proofs.Theorems.{body_complete}
use Rattle.line.specs.Line.{line_by, is_head_by, has_size_by, is_allowed_by}
use Rattle.line.proofs.Heads.{headed_parts}
use Rattle.line.proofs.Steps.{head_in, Allows, allowed_allows}
use Rattle.writer.specs.Size.{AllAsks, fields_text, sized_all, sized_fields, sized_body, sized_line}
use Rattle.writer.proofs.FieldSizes.{shown_line}

-- ---- a size that was found, or not

bytes_known : (b : Bool) (x : ℕ) {n : ℕ} → cond b (Some x) None ≡ Some n → (b ≡ true) × (n ≡ x)
bytes_known true x e = (refl, (cc))
bytes_known false x e = ((cc), (cc))

bytes_unknown : (b : Bool) (x : ℕ) → cond b (Some x) None ≡ None → b ≡ false
bytes_unknown true x e = cc
bytes_unknown false x e = refl

module _ (ks r : List ℕ) (vs : List Value) where
  all_known : {n m : ℕ} → sized_all ks r vs ≡ Some (n, m) → (allowed_from ks 0 0 r vs ≡ true) × (n ≡ length (fields_text ks r vs)) × (m ≡ marks_from ks 0 0 r vs)
  unfolding sized_all
  all_known {n} {m} e = go (allowed_from ks 0 0 r vs) refl
    where
      go : (b : Bool) → allowed_from ks 0 0 r vs ≡ b → (allowed_from ks 0 0 r vs ≡ true) × (n ≡ length (fields_text ks r vs)) × (m ≡ marks_from ks 0 0 r vs)
      go true q = let z : Some (length (fields_text ks r vs), marks_from ks 0 0 r vs) ≡ Some (n, m) = rw q at e in let s = some_pair z in (q, sym s.0, sym s.1)
      go false q = let z : None ≡ Some (n, m) = rw q at e in ((cc), (cc), (cc))

  all_unknown : sized_all ks r vs ≡ None → allowed_from ks 0 0 r vs ≡ false
  unfolding sized_all
  all_unknown e = go (allowed_from ks 0 0 r vs) refl
    where
      go : (b : Bool) → allowed_from ks 0 0 r vs ≡ b → allowed_from ks 0 0 r vs ≡ false
      go true q = let z : Some (length (fields_text ks r vs), marks_from ks 0 0 r vs) ≡ None = rw q at e in cc
      go false q = q

-- ---- what the code finds by a body's type and marks

module _ (b : Body) {t : MessageType} (is : t ≡ type_in b) where
  module _ {r : Bool} (found : r ≡ has_fields t) where
    pub whole_of : not r ≡ true → is_whole b ≡ true
    unfolding is_whole
    whole_of e = ap (λ (u : MessageType). not (has_fields u)) (sym is) ∙ ap not (sym found) ∙ e

    pub parted_of : not r ≡ false → is_whole b ≡ false
    unfolding is_whole
    parted_of e = ap (λ (u : MessageType). not (has_fields u)) (sym is) ∙ ap not (sym found) ∙ e

  module _ {m : ℕ} (marks : m ≡ marks_in b) where
    pub count_of : {n : ℕ} → n ≡ count_with t m → n ≡ field_count b
    unfolding field_count
    count_of e = e ∙ rw (is, marks)

    pub route_of_lem : {r : Bool} → r ≡ has_route_with t m → r ≡ has_route b
    unfolding has_route
    route_of_lem e = e ∙ rw (is, marks)

-- ---- the kinds and the values of a body's fields, where its count is right

-- what the code has of a body
pub record Has (ρ : Rule) (b : Body) (t : MessageType) (n : ℕ) (ks : List ℕ) (vs : List Value) : Type 0 where
  pub type : t ≡ type_in b
  pub count : n ≡ field_count b
  pub kinds : ks ≡ dotted ρ t
  pub values : vs ≡ slots b
  pub right : is_count t n ≡ true

module _ {ρ : Rule} {b : Body} {t : MessageType} {n : ℕ} {ks : List ℕ} {vs : List Value} (h : Has ρ b t n ks vs) where
  pub has_kinds : take n ks ≡ kinds_of ρ t n
  has_kinds = rw h.kinds (dotted_kinds ρ t n h.right)

  pub has_length : length (take n ks) ≡ n
  has_length = rw has_kinds (kinds_length ρ t n h.right)

  pub has_values : take (length (take n ks)) vs ≡ values_in b
  unfolding values_in
  has_values = rw (has_length, h.values, h.count)

  pub has_few : n ≤ length ks
  has_few = rw h.kinds (count_dotted ρ t n h.right)

  pub has_asks : (r : List ℕ) → length r ≤ longest_line → AllAsks (take n ks) r
  has_asks r s = record { few = rw has_length (table_few t n h.right); short = s }

  pub has_sized : (r : List ℕ) → sized_all (take n ks) r (take (length (take n ks)) vs) ≡ sized_all (kinds_in ρ b) r (values_in b)
  unfolding kinds_in
  has_sized r = rw (has_values, has_kinds, h.type, h.count)

-- ---- the fields of a body: each of the five tests

module _ (ρ : Rule) (b : Body) (r : List ℕ) where
  fields_not : is_fielded ρ b r ≡ false → None ≡ sized_fields ρ b r
  unfolding sized_fields
  fields_not e = rw e

  pub not_count : is_count (type_in b) (field_count b) ≡ false → None ≡ sized_fields ρ b r
  unfolding is_fielded
  not_count e = fields_not (rw e)

  pub not_free : (has_route b || eqb (length r) 0) ≡ false → None ≡ sized_fields ρ b r
  unfolding is_fielded
  not_free e = fields_not (rw (e, and-false))

  pub not_none : all_none (spare b) ≡ false → None ≡ sized_fields ρ b r
  unfolding is_fielded
  not_none e = fields_not (rw (e, and-false))

  pub not_allowed : sized_all (kinds_in ρ b) r (values_in b) ≡ None → None ≡ sized_fields ρ b r
  unfolding is_fielded
  not_allowed e = fields_not (rw (all_unknown (kinds_in ρ b) r (values_in b) e, and-false))

  module _ {n m : ℕ} (e : sized_all (kinds_in ρ b) r (values_in b) ≡ Some (n, m)) where
    pub not_marks : (m ≡ marks_in b → ⊥) → None ≡ sized_fields ρ b r
    unfolding is_fielded
    not_marks h = fields_not (rw (← (all_known (kinds_in ρ b) r (values_in b) e).2, ne_eqb m (marks_in b) h, and-false))

    pub fields_are : is_count (type_in b) (field_count b) ≡ true → (has_route b || eqb (length r) 0) ≡ true → all_none (spare b) ≡ true → m ≡ marks_in b → Some n ≡ sized_fields ρ b r
    unfolding sized_fields is_fielded
    fields_are c f s h =
        let k = all_known (kinds_in ρ b) r (values_in b) e in
        rw (c, k.0, ← k.2, eq-eqb m (marks_in b) h, s, f, k.1)

-- ---- the size of the fields' text

module _ (ρ : Rule) (b : Body) (r : List ℕ) where
  pub fields_known : {n : ℕ} → sized_fields ρ b r ≡ Some n → (is_fielded ρ b r ≡ true) × (n ≡ length (fields_text (kinds_in ρ b) r (values_in b)))
  unfolding sized_fields
  fields_known e = bytes_known (is_fielded ρ b r) (length (fields_text (kinds_in ρ b) r (values_in b))) e

  fields_unknown : sized_fields ρ b r ≡ None → is_fielded ρ b r ≡ false
  unfolding sized_fields
  fields_unknown e = bytes_unknown (is_fielded ρ b r) (length (fields_text (kinds_in ρ b) r (values_in b))) e

-- a space at the end makes the text longer by one
space_long : (fs : List (List ℕ)) → length (body_of fs true) ≡ length (body_of fs false) + 1
unfolding body_of
space_long [] = refl
space_long (f ∷ fs) = omega (arith, length-append f (body_of fs true), length-append f (body_of fs false), space_long fs)

-- each field and its space have at most 2,049 bytes where the route has at most 2,048
texts_short : (ks : List ℕ) (p m : ℕ) (r : List ℕ) (vs : List Value) → allowed_from ks p m r vs ≡ true → length r ≤ longest_line → length (body_of (texts_from ks p r vs) false) ≤ length ks * 2049
unfolding allowed_from texts_from body_of
texts_short [] p m r [] e h = omega arith
texts_short [] p m r (v ∷ vs) e h = true_false e refl
texts_short (k ∷ ks) p m r [] e h = true_false e refl
texts_short (k ∷ ks) p m r (v ∷ vs) e h =
    let s = shown k p r v in
    let rest = body_of (texts_from ks (trace_of k s) r vs) false in
    omega (arith, length-append s rest, shown_line k p r v (allowed_first k ks p m r v vs e) h, texts_short ks (trace_of k s) (marks_of k m s) r vs (allowed_rest k ks p m r v vs e) h)

module _ (ρ : Rule) (b : Body) (r : List ℕ) (e : is_fielded ρ b r ≡ true) where
  pub fielded_count : is_count (type_in b) (field_count b) ≡ true
  unfolding is_fielded
  fielded_count = not_fails _ (λ q. true_false (rw q at e) refl)

  pub fielded_allowed : allowed_from (kinds_in ρ b) 0 0 r (values_in b) ≡ true
  unfolding is_fielded
  fielded_allowed = not_fails _ (λ q. true_false (rw (q, and-false) at e) refl)

  pub fields_short : length r ≤ longest_line → length (fields_text (kinds_in ρ b) r (values_in b)) ≤ 38931
  unfolding fields_text kinds_in
  fields_short h =
      omega (arith, texts_short (kinds_in ρ b) 0 0 r (values_in b) fielded_allowed h, kinds_length ρ (type_in b) (field_count b) fielded_count, table_few (type_in b) (field_count b) fielded_count)

-- ---- the body

module _ (ρ : Rule) (b : Body) (r : List ℕ) (t : Bool) where
  body_not : is_body ρ b r t ≡ false → None ≡ sized_body ρ b r t
  unfolding sized_body
  body_not e = rw e

  module _ (w : is_whole b ≡ true) where
    pub whole_trailing : t ≡ true → None ≡ sized_body ρ b r t
    unfolding is_body
    whole_trailing e = body_not (rw (w, e, and-false))

    pub whole_unprintable : all_in 32 126 r ≡ false → None ≡ sized_body ρ b r t
    unfolding is_body
    whole_unprintable e = body_not (rw (w, e))

    pub whole_is : t ≡ false → all_in 32 126 r ≡ true → Some (length r) ≡ sized_body ρ b r t
    unfolding sized_body is_body body_text
    whole_is e f = rw (w, e, f)

  module _ (w : is_whole b ≡ false) where
    pub unfielded : sized_fields ρ b r ≡ None → None ≡ sized_body ρ b r t
    unfolding is_body
    unfielded e = body_not (rw (w, fields_unknown ρ b r e))

    -- with a space at its end, or none
    pub spaced_is : {n : ℕ} → sized_fields ρ b r ≡ Some n → t ≡ true → Some (n + 1) ≡ sized_body ρ b r t
    unfolding sized_body is_body body_text fields_text
    spaced_is e f = let k = fields_known ρ b r e in rw (w, k.0, f, space_long, k.1)

    pub plain_is : {n : ℕ} → sized_fields ρ b r ≡ Some n → t ≡ false → Some n ≡ sized_body ρ b r t
    unfolding sized_body is_body body_text fields_text
    plain_is e f = let k = fields_known ρ b r e in rw (w, k.0, f, k.1)

-- where the code knows the body's size
module _ (ρ : Rule) (b : Body) (r : List ℕ) (t : Bool) where
  body_known : {n : ℕ} → sized_body ρ b r t ≡ Some n → (is_body ρ b r t ≡ true) × (n ≡ length (body_text ρ b r t))
  unfolding sized_body
  body_known e = bytes_known (is_body ρ b r t) (length (body_text ρ b r t)) e

  body_unknown : sized_body ρ b r t ≡ None → is_body ρ b r t ≡ false
  unfolding sized_body
  body_unknown e = bytes_unknown (is_body ρ b r t) (length (body_text ρ b r t)) e

  body_short : is_body ρ b r t ≡ true → length r ≤ longest_line → length (body_text ρ b r t) ≤ 38932
  unfolding is_body body_text fields_text
  body_short e h = go (is_whole b) refl t
    where
      go : (w : Bool) → is_whole b ≡ w → (u : Bool) → length (body_text ρ b r u) ≤ 38932
      go true q u = rw q (omega arith)
      go false q true = rw (q, space_long) (omega (arith, fields_short ρ b r (rw q at e) h))
      go false q false = rw q (omega (arith, fields_short ρ b r (rw q at e) h))

-- ---- free text is a part of the body

route_short : (ks : List ℕ) (p : ℕ) (fs : List (List ℕ)) (t : Bool) → length (route_in ks p fs) ≤ length (body_of fs t)
unfolding route_in body_of
route_short [] p fs t = omega arith
route_short (k ∷ ks) p [] t = omega arith
route_short (k ∷ ks) p (f ∷ fs) t = go (eqb (plain k p) ROUTE) refl (route_short ks (trace_of k f) fs t)
  where
    go : (b : Bool) → eqb (plain k p) ROUTE ≡ b → length (route_in ks (trace_of k f) fs) ≤ length (body_of fs t) → length (route_in (k ∷ ks) p (f ∷ fs)) ≤ length (body_of (f ∷ fs) t)
    go true q i = rw q (omega (arith, length-append f (body_of fs t)))
    go false q i = rw q (omega (arith, length-append f (body_of fs t)))

route_inside : (ρ : Rule) (t : MessageType) (s : List ℕ) → length (route_by ρ t s) ≤ length s
unfolding route_by route_of
route_inside ρ t s = go (fields_of s) refl
  where
    go : (d : Split) → fields_of s ≡ d → length (route_in (table_by ρ t) 0 (fields_in (fields_of s))) ≤ length s
    go Wrong q = rw (q, route_no_fields (table_by ρ t) 0) (omega arith)
    go (Fields fs u) q = rw q (omega (arith, route_short (table_by ρ t) 0 fs u, ap length (fields_text_lem s fs u q).0))

free_inside : (ρ : Rule) (t : MessageType) (s : List ℕ) → length (free_in ρ t s) ≤ length s
free_inside ρ t s = go (has_fields t) refl
  where
    go : (c : Bool) → has_fields t ≡ c → length (free_in ρ t s) ≤ length s
    go true q = rw q (route_inside ρ t s)
    go false q = rw q (omega arith)

-- no body that a line can have is shorter than its free text
free_short : (ρ : Rule) (b : Body) (r : List ℕ) (t : Bool) → is_body ρ b r t ≡ true → length r ≤ length (body_text ρ b r t)
free_short ρ b r t e = omega (arith, free_inside ρ (type_in b) (body_text ρ b r t), ap length (body_complete ρ b r t e).1)

-- ---- the line

-- a line of a head and a body has the head's bytes and the body's
pub line_length : (ρ : Rule) (x : Reading) (r : List ℕ) → (sequence_in ρ).held x.sequence ≡ true → (stamp_in ρ).held x.stamp ≡ true → (facility_in ρ).held x.facility ≡ true
    → length (line_by ρ x r) ≡ head_length ρ + length (body_text ρ x.body r x.trailing)
unfolding line_by
line_length ρ x r a b c = (headed_parts ρ (head_in x (type_in x.body)) (body_text ρ x.body r x.trailing) a b c).size

module _ (ρ : Rule) (x : Reading) (r : List ℕ) where
  line_not : is_allowed_by ρ x r ≡ false → None ≡ sized_line ρ x r
  unfolding sized_line
  line_not e = rw e

  pub no_head : is_head_by ρ x ≡ false → None ≡ sized_line ρ x r
  unfolding is_allowed_by
  no_head e = line_not (rw e)

  pub no_type : has_type ρ (type_in x.body) ≡ false → None ≡ sized_line ρ x r
  unfolding is_head_by
  no_type e = no_head (rw (e, and-false))

  pub no_body : sized_body ρ x.body r x.trailing ≡ None → None ≡ sized_line ρ x r
  unfolding is_allowed_by
  no_body e = line_not (rw (body_unknown ρ x.body r x.trailing e, and-false))

  -- free text over 2,048 bytes makes a line as long
  pub free_long : longest_line < length r → None ≡ sized_line ρ x r
  free_long h = line_not (not_holds (is_allowed_by ρ x r) (λ e. over (allowed_allows ρ x r e)))
    where
      over : Allows ρ x r → ⊥
      over a = omega (arith, a.short, free_short ρ x.body r x.trailing a.body, line_length ρ x r a.sequence_held a.stamp_held a.facility_held)

-- a head that a line can have, and the size of the body after it
pub record Known (ρ : Rule) (x : Reading) (r : List ℕ) (n : ℕ) : Type 0 where
  pub head : is_head_by ρ x ≡ true
  pub body : sized_body ρ x.body r x.trailing ≡ Some n

head_few : (ρ : Rule) → head_length ρ ≤ 18
head_few New = omega arith
head_few Old = omega arith

module _ {ρ : Rule} {x : Reading} {r : List ℕ} {n : ℕ} (s : Known ρ x r n) where
  line_size_lem : length (line_by ρ x r) ≡ head_length ρ + n
  unfolding is_head_by
  line_size_lem =
      let four = and_four ((sequence_in ρ).held x.sequence) ((stamp_in ρ).held x.stamp) ((facility_in ρ).held x.facility) (has_type ρ (type_in x.body)) s.head in
      omega (arith, line_length ρ x r four.0 four.1 four.2, (body_known ρ x.body r x.trailing s.body).1)

  pub line_fits : length r ≤ longest_line → head_length ρ + n ≤ 38950
  line_fits h = let k = body_known ρ x.body r x.trailing s.body in omega (arith, head_few ρ, k.1, body_short ρ x.body r x.trailing k.0 h)

  pub too_long : longest_line < head_length ρ + n → None ≡ sized_line ρ x r
  unfolding is_allowed_by has_size_by
  too_long h = line_not ρ x r (rw (line_size_lem, lt-leb (head_length ρ + n) longest_line h, and-false))

  pub long_plan : is_long_plan ρ (type_in x.body) (head_length ρ + n) ≡ true → None ≡ sized_line ρ x r
  unfolding is_allowed_by has_size_by
  long_plan h = line_not ρ x r (rw (line_size_lem, h, and-false, and-false))

  pub line_is : head_length ρ + n ≤ longest_line → is_long_plan ρ (type_in x.body) (head_length ρ + n) ≡ false → Some (head_length ρ + n) ≡ sized_line ρ x r
  unfolding sized_line is_allowed_by has_size_by
  line_is h q = rw (s.head, (body_known ρ x.body r x.trailing s.body).0, line_size_lem, le-leb (head_length ρ + n) longest_line h, q)

-- ---- a line by its size

module _ (ρ : Rule) (x : Reading) (r : List ℕ) where
  pub line_known : {n : ℕ} → sized_line ρ x r ≡ Some n → (is_allowed_by ρ x r ≡ true) × (n ≡ length (line_by ρ x r))
  unfolding sized_line
  line_known e = bytes_known (is_allowed_by ρ x r) (length (line_by ρ x r)) e

  pub line_unknown : sized_line ρ x r ≡ None → is_allowed_by ρ x r ≡ false
  unfolding sized_line
  line_unknown e = bytes_unknown (is_allowed_by ρ x r) (length (line_by ρ x r)) e
