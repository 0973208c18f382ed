-- THE THEOREMS of reading by any list of kinds: what is taken is shown again, what is shown is taken, and what is refused is
-- refused exactly. Assumes nothing.
use Rattle.std.specs.Prelude.{Err, Ok, Result}
use mathlib.Core.Path.{◌≡◌, refl, sym, ap}
use mathlib.Core.Bool.{Bool, true, false, ◌&&◌}
use mathlib.Core.List.{List, [], ◌∷◌, ◌++◌}
use Prim.Native.Char.{code}
use Prim.Native.Nat.{ℕ, suc, ◌≤◌}
use native.Mathlib.Nat.{suc_inj}
use native.Mathlib.Omega.{arith}
use lib.Dec.{eqb, leb}
use lib.ListN.{length}
use borrow.Author.Tests.{eq-eqb, eqb-true, le-leb, leb-true}
use Rattle.text.specs.Class.{all}
use Rattle.text.specs.Place.{all_in}
use Rattle.text.proofs.Logic.{ok_pair, and_left, and_right, true_false}
use Rattle.shapes.specs.Picture.{is_of}
use Rattle.rules.specs.Form.{is_route}
use Rattle.table.specs.Spacing.{body_of, all_fields, Split, Fields, Wrong, fields_of}
use Rattle.table.proofs.SpacingLaws.{fields_text_lem, fields_body, visible_field}
use Rattle.table.specs.Field.{ROUTE, read_in, plain, trace_of, marks_of, follows, is_value, shown}
use Rattle.table.specs.declared.kinds.Value.{Value}
use Rattle.table.proofs.FieldLaws.{in_sound, in_complete, in_visible}
use Rattle.table.specs.Read.{values_from, answer_from, counted, answers, values, answer_of, values_of}
use Rattle.table.specs.Show.{texts_from, allowed_from, marks_from}
use Rattle.table.specs.declared.walk.Fault.{Fault}
use Rattle.table.specs.declared.walk.Fault.TheVariants.{Spacing}
use Rattle.table.specs.declared.kinds.NotRead.TheVariants.{Nothing, Number}
use Rattle.table.specs.declared.kinds.NotRead.{NotRead}

-- ---- what the theorems speak of

-- every field that is read as a route is r
abbrev pub RoutesAre : List ℕ → ℕ → List ℕ → List (List ℕ) → Type 0
RoutesAre [] p r fs = Unit
RoutesAre (k ∷ ks) p r [] = Unit
RoutesAre (k ∷ ks) p r (f ∷ fs) = (eqb (plain k p) ROUTE ≡ true → r ≡ f) × RoutesAre ks (trace_of k f) r fs

-- each text is one or more bytes 33 to 126
unfoldable pub all_visible : List (List ℕ) → Bool
all_visible [] = true
all_visible (f ∷ fs) = is_route f && all_visible fs

-- values that are allowed, with their texts and the marks that they set in the end
pub record Shows (ks : List ℕ) (p m : ℕ) (r : List ℕ) (vs : List Value) (fs : List (List ℕ)) (n : ℕ) : Type 0 where
  pub allowed : allowed_from ks p m r vs ≡ true
  pub texts : texts_from ks p r vs ≡ fs
  pub marks : marks_from ks p m r vs ≡ n

-- fields that are all read, and whose values show them again
pub record Reads (ks : List ℕ) (p m : ℕ) (fs : List (List ℕ)) (n : ℕ) : Type 0 where
  pub count : length (values_from ks p m fs) ≡ length ks
  pub visible : all_visible fs ≡ true
  pub shows : (r : List ℕ) → RoutesAre ks p r fs → Shows ks p m r (values_from ks p m fs) fs n

-- ---- visible texts

pub visible_fields : (fs : List (List ℕ)) → all_visible fs ≡ true → all_fields fs ≡ true
unfolding all_visible all_fields is_route
visible_fields [] e = refl
visible_fields (f ∷ fs) e =
    let v = and_left (is_route f) (all_visible fs) e in
    let l = leb-true 1 (length f) (and_left (leb 1 (length f)) (all (is_of (code "v")) f) v) in
    rw (visible_field f (and_right (leb 1 (length f)) (all (is_of (code "v")) f) v) l, visible_fields fs (and_right (is_route f) (all_visible fs) e))

-- a text of bytes 33 to 126, and then one of bytes 32 to 126
visible_then : (f s : List ℕ) → all (is_of (code "v")) f ≡ true → all_in 32 126 s ≡ true → all_in 32 126 (f ++ s) ≡ true
unfolding all is_of all_in
visible_then [] s e h = h
visible_then (x ∷ f) s e h =
    let v = and_left (leb 33 x && leb x 126) (all (is_of (code "v")) f) e in
    let l = leb-true 33 x (and_left (leb 33 x) (leb x 126) v) in
    let c : leb 32 x ≡ true = le-leb 32 x (omega arith) in
    rw (c, and_right (leb 33 x) (leb x 126) v) (visible_then f s (and_right (leb 33 x && leb x 126) (all (is_of (code "v")) f) e) h)

pub visible_body : (fs : List (List ℕ)) (t : Bool) → all_visible fs ≡ true → all_in 32 126 (body_of fs t) ≡ true
unfolding all_visible body_of is_route all_in all
visible_body [] true e = refl
visible_body [] false e = refl
visible_body (f ∷ fs) t e =
    let v = and_left (is_route f) (all_visible fs) e in
    visible_then f (body_of fs t) (and_right (leb 1 (length f)) (all (is_of (code "v")) f) v) (visible_body fs t (and_right (is_route f) (all_visible fs) e))

-- ---- the fields of a body

pub counted_known : (ks : List ℕ) (fs : List (List ℕ)) → counted ks fs ≡ true → (length fs ≡ length ks) × (length ks ≤ 19)
unfolding counted
counted_known ks fs e =
    let a = eqb (length fs) (length ks) in
    let b = leb (length ks) 19 in
    (eqb-true (length fs) (length ks) (and_left a b e), leb-true (length ks) 19 (and_right a b e))

pub counted_is : (ks : List ℕ) (fs : List (List ℕ)) → length fs ≡ length ks → length ks ≤ 19 → counted ks fs ≡ true
unfolding counted
counted_is ks fs e h = rw (eq-eqb (length fs) (length ks) e) (le-leb (length ks) 19 h)

-- a body whose answer is a, found in its fields
pub record Parted (ks body : List ℕ) (a : Result (Bool × ℕ) Fault) : Type 0 where
  pub fields : List (List ℕ)
  pub trailing : Bool
  pub split : fields_of body ≡ Fields fields trailing
  pub count : length fields ≡ length ks
  pub few : length ks ≤ 19
  pub answer : answer_from 1 trailing ks 0 0 fields ≡ a
  pub values : values_of ks body ≡ values_from ks 0 0 fields

pub parted : (ks body : List ℕ) (a : Result (Bool × ℕ) Fault) → answer_of ks body ≡ a → (Err Spacing ≡ a → ⊥) → Parted ks body a
unfolding answer_of values_of answers values
parted ks body a e h = go (fields_of body) refl
  where
    go : (p : Split) → fields_of body ≡ p → Parted ks body a
    go Wrong q = absurd (h (rw q at e))
    go (Fields fs u) q = at (counted ks fs) refl
      where
        at : (b : Bool) → counted ks fs ≡ b → Parted ks body a
        at true c =
            let n = counted_known ks fs c in
            record { fields = fs; trailing = u; split = q; count = n.0; few = n.1; answer = rw (q, c) at e; values = rw (q, c) }
        at false c = absurd (h (rw (q, c) at e))

-- a body that is taken: its values show it again, with the route that it has
pub record Sound (ks body : List ℕ) (t : Bool) (m : ℕ) : Type 0 where
  pub fields : List (List ℕ)
  pub split : fields_of body ≡ Fields fields t
  pub text : body_of fields t ≡ body
  pub count : length fields ≡ length ks
  pub few : length ks ≤ 19
  pub every : all_fields fields ≡ true
  pub visible : all_visible fields ≡ true
  pub answer : answer_from 1 t ks 0 0 fields ≡ Ok (t, m)
  pub values : values_of ks body ≡ values_from ks 0 0 fields
  pub whole : length (values_of ks body) ≡ length ks
  pub shows : (r : List ℕ) → RoutesAre ks 0 r fields → Shows ks 0 0 r (values_of ks body) fields m
  pub back : (r : List ℕ) → RoutesAre ks 0 r fields → body_of (texts_from ks 0 r (values_of ks body)) t ≡ body

-- ---- the fields of a body that is taken

shows_more : (k : ℕ) (ks : List ℕ) (p m : ℕ) (r : List ℕ) (v : Value) (vs : List Value) (f : List ℕ) (fs : List (List ℕ)) (n : ℕ) → is_value k p r v ≡ true → follows k p m f ≡ true → shown k p r v ≡ f
    → Shows ks (trace_of k f) (marks_of k m f) r vs fs n → Shows (k ∷ ks) p m r (v ∷ vs) (f ∷ fs) n
unfolding allowed_from texts_from marks_from
shows_more k ks p m r v vs f fs n i g s h = record { allowed = rw (s, i, g, h.allowed); texts = rw (s, h.texts); marks = rw s h.marks }

-- what is refused is not taken
pub not_taken : {X : Type 0} (u : Bool) (n : ℕ) (x : Fault) → ◌≡◌ {A = Result (Bool × ℕ) Fault} (Err x) (Ok (u, n)) → X
not_taken u n x e = absurd (let z : ◌≡◌ {A = ℕ} 0 1 = cc in omega arith)

-- where all fields are read, the first is, and all others are
pub taken_more : (i : ℕ) (t : Bool) (k : ℕ) (ks : List ℕ) (p m : ℕ) (f : List ℕ) (fs : List (List ℕ)) (u : Bool) (n : ℕ) → answer_from i t (k ∷ ks) p m (f ∷ fs) ≡ Ok (u, n)
    → (v : Value) × (read_in k p m f ≡ Ok v) × (answer_from (suc i) t ks (trace_of k f) (marks_of k m f) fs ≡ Ok (u, n))
unfolding answer_from
taken_more i t k ks p m f fs u n e = go (read_in k p m f) refl
  where
    go : (a : Result Value NotRead) → read_in k p m f ≡ a → (v : Value) × (read_in k p m f ≡ Ok v) × (answer_from (suc i) t ks (trace_of k f) (marks_of k m f) fs ≡ Ok (u, n))
    go (Ok v) q = (v, q, rw q at e)
    go (Err Nothing) q = not_taken u n _ (rw q at e)
    go (Err Number) q = not_taken u n _ (rw q at e)

pub answer_taken : (i : ℕ) (t : Bool) (ks : List ℕ) (p m : ℕ) (fs : List (List ℕ)) (u : Bool) (n : ℕ) → length fs ≡ length ks → answer_from i t ks p m fs ≡ Ok (u, n) → (u ≡ t) × Reads ks p m fs n
unfolding answer_from values_from allowed_from texts_from marks_from all_visible
answer_taken i t [] p m [] u n h e = (sym (ok_pair e).0, record { count = refl; visible = refl; shows = λ r a. record { allowed = refl; texts = refl; marks = (ok_pair e).1 } })
answer_taken i t [] p m (f ∷ fs) u n h e = absurd (omega arith)
answer_taken i t (k ∷ ks) p m [] u n h e = absurd (omega arith)
answer_taken i t (k ∷ ks) p m (f ∷ fs) u n h e =
    let c = taken_more i t k ks p m f fs u n e in
    let v = c.0 in
    let q = c.1 in
    let x = answer_taken (suc i) t ks (trace_of k f) (marks_of k m f) fs u n (suc_inj h) c.2 in
    let vs = values_from ks (trace_of k f) (marks_of k m f) fs in (
      x.0,
      record {
        count = rw q (ap suc x.1.count);
        visible = rw (in_visible k p m f v q) x.1.visible;
        shows = λ r a. let s = in_sound k p m r f v q a.0 in rw q (shows_more k ks p m r v vs f fs n s.0 s.1 s.2 (x.1.shows r a.1));
      },
    )

-- ---- the texts of values that are allowed

pub record Allowed (ks : List ℕ) (p m : ℕ) (r : List ℕ) (vs : List Value) : Type 0 where
  pub answer : (i : ℕ) (t : Bool) → answer_from i t ks p m (texts_from ks p r vs) ≡ Ok (t, marks_from ks p m r vs)
  pub values : values_from ks p m (texts_from ks p r vs) ≡ vs
  pub visible : all_visible (texts_from ks p r vs) ≡ true
  pub texts : length (texts_from ks p r vs) ≡ length ks
  pub count : length vs ≡ length ks

pub allowed_taken : (ks : List ℕ) (p m : ℕ) (r : List ℕ) (vs : List Value) → allowed_from ks p m r vs ≡ true → Allowed ks p m r vs
unfolding allowed_from texts_from marks_from answer_from values_from all_visible
allowed_taken [] p m r [] e = record { answer = λ i t. refl; values = refl; visible = refl; texts = refl; count = refl }
allowed_taken [] p m r (v ∷ vs) e = true_false e refl
allowed_taken (k ∷ ks) p m r [] e = true_false e refl
allowed_taken (k ∷ ks) p m r (v ∷ vs) e =
    let s = shown k p r v in
    let g = is_value k p r v && follows k p m s in
    let a = allowed_from ks (trace_of k s) (marks_of k m s) r vs in
    let b = and_left g a e in
    let q = in_complete k p m r v (and_left (is_value k p r v) (follows k p m s) b) (and_right (is_value k p r v) (follows k p m s) b) in
    let x = allowed_taken ks (trace_of k s) (marks_of k m s) r vs (and_right g a e) in
    record {
      answer = λ i t. rw q (x.answer (suc i) t);
      values = rw (q, x.values);
      visible = rw (in_visible k p m s v q, x.visible);
      texts = ap suc x.texts;
      count = ap suc x.count;
    }

-- 1. what is taken
pub sound : (ks body : List ℕ) (t : Bool) (m : ℕ) → answer_of ks body ≡ Ok (t, m) → Sound ks body t m
sound ks body t m e =
    let s = parted ks body (Ok (t, m)) e (not_taken t m Spacing) in
    let fs = s.fields in
    let x = answer_taken 1 s.trailing ks 0 0 fs t m s.count s.answer in
    let y = fields_text_lem body fs s.trailing s.split in
    let h : (r : List ℕ) → RoutesAre ks 0 r fs → Shows ks 0 0 r (values_of ks body) fs m = λ r a. rw s.values (x.1.shows r a) in
    record {
      fields = fs;
      split = rw (sym x.0) at s.split;
      text = rw (sym x.0) at y.0;
      count = s.count;
      few = s.few;
      every = y.1;
      visible = x.1.visible;
      answer = rw (sym x.0) at s.answer;
      values = s.values;
      whole = rw s.values x.1.count;
      shows = h;
      back = λ r a. rw (h r a).texts (rw (sym x.0) at y.0);
    }

-- 2. the text of values that are allowed is taken, as these values
pub complete : (ks r : List ℕ) (vs : List Value) (t : Bool) → length ks ≤ 19 → allowed_from ks 0 0 r vs ≡ true
    → let body = body_of (texts_from ks 0 r vs) t in
    (answer_of ks body ≡ Ok (t, marks_from ks 0 0 r vs)) × (values_of ks body ≡ vs) × (fields_of body ≡ Fields (texts_from ks 0 r vs) t) × (length vs ≡ length ks)
unfolding answer_of values_of answers values
complete ks r vs t few e =
    let a = allowed_taken ks 0 0 r vs e in
    let fs = texts_from ks 0 r vs in
    let q = fields_body fs t (visible_fields fs a.visible) in
    let c = counted_is ks fs a.texts few in
    (rw (q, c) (a.answer 1 t), rw (q, c) a.values, q, a.count)

pub allowed_visible : (ks : List ℕ) (p m : ℕ) (r : List ℕ) (vs : List Value) → allowed_from ks p m r vs ≡ true → all_visible (texts_from ks p r vs) ≡ true
allowed_visible ks p m r vs e = (allowed_taken ks p m r vs e).visible

pub body_printable : (ks : List ℕ) (p m : ℕ) (r : List ℕ) (vs : List Value) (t : Bool) → allowed_from ks p m r vs ≡ true → all_in 32 126 (body_of (texts_from ks p r vs) t) ≡ true
body_printable ks p m r vs t e = visible_body (texts_from ks p r vs) t (allowed_visible ks p m r vs e)
