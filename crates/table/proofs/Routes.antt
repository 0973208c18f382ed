-- THE THEOREMS of the route: where a list of kinds has one route at most, the one that is found is the only one, and the one
-- that is shown is found. Assumes nothing.
use Rattle.std.specs.Prelude.{Ok}
use mathlib.Core.Path.{◌≡◌, refl, sym, ap, ◌∙◌}
use mathlib.Core.Bool.{Bool, true, false, cond, not, ◌&&◌, ◌||◌}
use mathlib.Core.List.{List, [], ◌∷◌, map}
use Prim.Native.Nat.{ℕ, suc, ◌≤◌, ◌<◌}
use native.Mathlib.Nat.{suc_inj}
use native.Mathlib.Omega.{arith}
use lib.Dec.{eqb, lit≤}
use lib.ListN.{length}
use borrow.Author.Tests.{eq-eqb, eqb-true, not-true}
use Rattle.text.specs.Bytes.{bytes}
use Rattle.text.specs.Class.{all}
use Rattle.text.proofs.Logic.{and_left, and_right, true_false, not_fails, not_holds, either_of}
use Rattle.rules.specs.Form.{is_route}
use Rattle.rules.specs.declared.Rule.{Rule}
use Rattle.table.specs.Spacing.{body_of}
use Rattle.table.proofs.Eight.{each_mark, no_mark}
use Rattle.table.specs.Field.{AMENDMENT, ROUTE, PLAN_TIME, CONTENT, kind_by, is_mark, content_of, plain, trace_of, marks_of, shown, shown_kind}
use Rattle.table.specs.declared.kinds.Value.{Value}
use Rattle.table.specs.Read.{answer_from, answer_of, values_of, route_in, route_of}
use Rattle.table.specs.Show.{texts_from, allowed_from, marks_from, routed}
use Rattle.table.proofs.Theorems.{RoutesAre, all_visible, taken_more, allowed_visible, sound, complete}
use Rattle.table.proofs.KindRules.{is_content, some_rule, not_for, plain_content, by_route, by_content, all_by}
use Rattle.table.proofs.MarksKept.{times, times_by, routeless, step}

-- ---- lists of kinds

-- none is an amendment's content
unfoldable pub no_content : List ℕ → Bool
no_content ks = all (λ k. not (is_content k)) ks

-- at most one field of a body can be read as a route: there is no field of that kind, or one, and then no content
unfoldable pub one_route : List ℕ → Bool
one_route ks = eqb (times ROUTE ks) 0 || (eqb (times ROUTE ks) 1 && no_content ks)

-- document 01's tables are such lists
pub examples_one : one_route (bytes "IPPA") && one_route (bytes "IZPTPC") && one_route (bytes "IPP") && one_route (bytes "JGMO") && one_route (bytes "IZSFHLR") ≡ true
unfolding one_route times no_content all
examples_one = refl

-- a kind that is not in a list is not its first, and not in the others
pub none_more : (k j : ℕ) (ks : List ℕ) → times k (j ∷ ks) ≡ 0 → (eqb j k ≡ false) × (times k ks ≡ 0)
unfolding times
none_more k j ks e = go (eqb j k) refl
  where
    go : (b : Bool) → eqb j k ≡ b → (eqb j k ≡ false) × (times k ks ≡ 0)
    go true q = let d : suc (times k ks) ≡ 0 = rw q at e in absurd (omega arith)
    go false q = (q, rw q at e)

content_more : (k : ℕ) (ks : List ℕ) → no_content (k ∷ ks) ≡ true → (is_content k ≡ false) × (no_content ks ≡ true)
unfolding no_content all
content_more k ks e = (not-true (is_content k) (and_left (not (is_content k)) (no_content ks) e), and_right (not (is_content k)) (no_content ks) e)

-- by any rule
pub content_by : (ρ : Rule) (ks : List ℕ) → no_content (map (kind_by ρ) ks) ≡ no_content ks
unfolding no_content
content_by ρ ks = all_by ρ (λ k. not (is_content k)) (λ k. rw (by_content ρ k)) ks

pub one_by : (ρ : Rule) (ks : List ℕ) → one_route (map (kind_by ρ) ks) ≡ one_route ks
unfolding one_route
one_by ρ ks = rw (times_by ρ ROUTE (by_route ρ) ks, content_by ρ ks)

-- ---- which fields are routes

-- a number's content is a route exactly for the mark 128
content_route : (p : ℕ) → eqb (content_of p) ROUTE ≡ eqb p 128
unfolding content_of is_mark
content_route p = go (is_mark p) refl
  where
    go : (b : Bool) → is_mark p ≡ b → eqb (content_of p) ROUTE ≡ eqb p 128
    go true q = each_mark (λ m. eqb (content_of m) ROUTE ≡ eqb m 128) refl refl refl refl refl refl refl refl p q
    go false q = rw ((no_mark p q).1, not_holds (eqb p 128) (λ z. true_false (rw (eqb-true p 128 z)) q))

pub plain_route : (k p : ℕ) → eqb (plain k p) ROUTE ≡ cond (is_content k) (eqb p 128) (eqb k ROUTE)
unfolding plain
plain_route k p = go (is_content k) refl (eqb k PLAN_TIME) refl
  where
    content : is_content k ≡ true → eqb (plain k p) ROUTE ≡ eqb p 128
    content e = let (ρ, q) = some_rule CONTENT k e in ap (λ i. eqb (plain i p) ROUTE) q ∙ rw (plain_content ρ p, by_route ρ (content_of p)) (content_route p)

    go : (b : Bool) → is_content k ≡ b → (c : Bool) → eqb k PLAN_TIME ≡ c → eqb (plain k p) ROUTE ≡ cond (is_content k) (eqb p 128) (eqb k ROUTE)
    go true q c z = content q ∙ rw q
    go false q true z = let n = not_for CONTENT k q in rw (n.0, n.1, z, eqb-true k PLAN_TIME z)
    go false q false z = let n = not_for CONTENT k q in rw (n.0, n.1, z)

plain_letter : (p : ℕ) → plain ROUTE p ≡ ROUTE
unfolding plain
plain_letter p = refl

-- the text of a route is the route
route_text : (k p : ℕ) (r : List ℕ) (v : Value) → eqb (plain k p) ROUTE ≡ true → shown k p r v ≡ r
unfolding shown shown_kind plain
route_text k p r v e = go (eqb k AMENDMENT) refl
  where
    go : (b : Bool) → eqb k AMENDMENT ≡ b → shown k p r v ≡ r
    go true q = let d : eqb (plain AMENDMENT p) ROUTE ≡ true = rw (eqb-true k AMENDMENT q) at e in true_false d refl
    go false q = rw (q, eqb-true (plain k p) ROUTE e)

-- ---- the route

-- some field is read as a route
unfoldable pub routed_in : List ℕ → ℕ → List (List ℕ) → Bool
routed_in [] p fs = false
routed_in (k ∷ ks) p [] = false
routed_in (k ∷ ks) p (f ∷ fs) = cond (eqb (plain k p) ROUTE) true (routed_in ks (trace_of k f) fs)

-- where none is, every route is r, whatever r is
none_are : (ks : List ℕ) (p : ℕ) (r : List ℕ) (fs : List (List ℕ)) → routed_in ks p fs ≡ false → RoutesAre ks p r fs
unfolding routed_in
none_are [] p r fs e = tt
none_are (k ∷ ks) p r [] e = tt
none_are (k ∷ ks) p r (f ∷ fs) e = go (eqb (plain k p) ROUTE) refl (none_are ks (trace_of k f) r fs)
  where
    go : (b : Bool) → eqb (plain k p) ROUTE ≡ b → (routed_in ks (trace_of k f) fs ≡ false → RoutesAre ks (trace_of k f) r fs) → (eqb (plain k p) ROUTE ≡ true → r ≡ f) × RoutesAre ks (trace_of k f) r fs
    go true q ih = let d : true ≡ false = rw q at e in true_false refl d
    go false q ih = ((λ h. true_false h q), ih (rw q at e))

-- and none is found
pub none_found : (ks : List ℕ) (p : ℕ) (fs : List (List ℕ)) → routed_in ks p fs ≡ false → route_in ks p fs ≡ []
unfolding routed_in route_in
none_found [] p fs e = refl
none_found (k ∷ ks) p [] e = refl
none_found (k ∷ ks) p (f ∷ fs) e = go (eqb (plain k p) ROUTE) refl (none_found ks (trace_of k f) fs)
  where
    go : (b : Bool) → eqb (plain k p) ROUTE ≡ b → (routed_in ks (trace_of k f) fs ≡ false → route_in ks (trace_of k f) fs ≡ []) → route_in (k ∷ ks) p (f ∷ fs) ≡ []
    go true q ih = let d : true ≡ false = rw q at e in true_false refl d
    go false q ih = rw q (ih (rw q at e))

-- a route that is found has one or more bytes, each from 33 to 126
pub found_visible : (ks : List ℕ) (p : ℕ) (fs : List (List ℕ)) → all_visible fs ≡ true → routed_in ks p fs ≡ true → is_route (route_in ks p fs) ≡ true
unfolding routed_in route_in all_visible
found_visible [] p fs v e = true_false e refl
found_visible (k ∷ ks) p [] v e = true_false e refl
found_visible (k ∷ ks) p (f ∷ fs) v e = go (eqb (plain k p) ROUTE) refl (found_visible ks (trace_of k f) fs (and_right (is_route f) (all_visible fs) v))
  where
    go : (b : Bool) → eqb (plain k p) ROUTE ≡ b → (routed_in ks (trace_of k f) fs ≡ true → is_route (route_in ks (trace_of k f) fs) ≡ true) → is_route (route_in (k ∷ ks) p (f ∷ fs)) ≡ true
    go true q ih = rw q (and_left (is_route f) (all_visible fs) v)
    go false q ih = rw q (ih (rw q at e))

-- no route without the letter and without a mark
pub not_route : (k p : ℕ) → eqb k ROUTE ≡ false → eqb p 128 ≡ false → eqb (plain k p) ROUTE ≡ false
not_route k p h g = plain_route k p ∙ go (is_content k) refl
  where
    go : (b : Bool) → is_content k ≡ b → cond (is_content k) (eqb p 128) (eqb k ROUTE) ≡ false
    go true q = rw (q, g)
    go false q = rw (q, h)

-- none where neither letter is
pub no_letters : (ks : List ℕ) (p : ℕ) (fs : List (List ℕ)) → times ROUTE ks ≡ 0 → no_content ks ≡ true → routed_in ks p fs ≡ false
unfolding routed_in
no_letters [] p fs e h = refl
no_letters (k ∷ ks) p [] e h = refl
no_letters (k ∷ ks) p (f ∷ fs) e h =
    let a = none_more ROUTE k ks e in
    let c = content_more k ks h in
    let z : eqb (plain k p) ROUTE ≡ false = plain_route k p ∙ rw (c.0, a.0) in
    rw z (no_letters ks (trace_of k f) fs a.1 c.1)

-- none once the mark of the route is set, and its content past: "no number comes twice"
none_after : (i : ℕ) (t : Bool) (ks : List ℕ) (p m : ℕ) (fs : List (List ℕ)) (u : Bool) (n : ℕ) → m < 256 → times ROUTE ks ≡ 0 → routeless m ≡ false → eqb p 128 ≡ false → answer_from i t ks p m fs ≡ Ok (u, n) → routed_in ks p fs ≡ false
unfolding routed_in
none_after i t [] p m fs u n l a h g e = refl
none_after i t (k ∷ ks) p m [] u n l a h g e = refl
none_after i t (k ∷ ks) p m (f ∷ fs) u n l a h g e =
    let c = taken_more i t k ks p m f fs u n e in
    let s = step k p m f c.0 l c.1 in
    let b = none_more ROUTE k ks a in
    rw (not_route k p b.0 g) (none_after (suc i) t ks (trace_of k f) (marks_of k m f) fs u n s.small b.1 (s.keeps h) (s.fresh h) c.2)

-- the route of an amendment
content_routes : (i : ℕ) (t : Bool) (ks : List ℕ) (p m : ℕ) (fs : List (List ℕ)) (u : Bool) (n : ℕ) → m < 256 → times ROUTE ks ≡ 0 → (eqb p 128 ≡ true → routeless m ≡ false) → answer_from i t ks p m fs ≡ Ok (u, n) → RoutesAre ks p (route_in ks p fs) fs
unfolding route_in
content_routes i t [] p m fs u n l a h e = tt
content_routes i t (k ∷ ks) p m [] u n l a h e = tt
content_routes i t (k ∷ ks) p m (f ∷ fs) u n l a h e =
    let c = taken_more i t k ks p m f fs u n e in
    let s = step k p m f c.0 l c.1 in
    let b = none_more ROUTE k ks a in
    go (eqb (plain k p) ROUTE) refl b.0 (λ g. none_after (suc i) t ks (trace_of k f) (marks_of k m f) fs u n s.small b.1 (s.keeps g) (s.fresh g) c.2)
    (content_routes (suc i) t ks (trace_of k f) (marks_of k m f) fs u n s.small b.1 s.sets c.2)
  where
    go : (b : Bool) → eqb (plain k p) ROUTE ≡ b → eqb k ROUTE ≡ false → (routeless m ≡ false → routed_in ks (trace_of k f) fs ≡ false) → RoutesAre ks (trace_of k f) (route_in ks (trace_of k f) fs) fs
        → (eqb (plain k p) ROUTE ≡ true → route_in (k ∷ ks) p (f ∷ fs) ≡ f) × RoutesAre ks (trace_of k f) (route_in (k ∷ ks) p (f ∷ fs)) fs
    go true q z none ih =
        let g = not_fails (eqb p 128) (λ x. true_false q (not_route k p z x)) in
        ((λ x. rw q), none_are ks (trace_of k f) (route_in (k ∷ ks) p (f ∷ fs)) fs (none (h g)))
    go false q z none ih = ((λ x. true_false x q), rw q ih)

-- the route by its letter
letter_routes : (ks : List ℕ) (p : ℕ) (fs : List (List ℕ)) → times ROUTE ks ≤ 1 → no_content ks ≡ true → RoutesAre ks p (route_in ks p fs) fs
unfolding route_in times
letter_routes [] p fs a h = tt
letter_routes (k ∷ ks) p [] a h = tt
letter_routes (k ∷ ks) p (f ∷ fs) a h =
    let c = content_more k ks h in
    let z : eqb (plain k p) ROUTE ≡ eqb k ROUTE = plain_route k p ∙ rw c.0 in
    go (eqb k ROUTE) refl z (λ l. no_letters ks (trace_of k f) fs l c.1) (λ l. letter_routes ks (trace_of k f) fs l c.1)
  where
    go : (b : Bool) → eqb k ROUTE ≡ b → eqb (plain k p) ROUTE ≡ eqb k ROUTE → (times ROUTE ks ≡ 0 → routed_in ks (trace_of k f) fs ≡ false) → (times ROUTE ks ≤ 1 → RoutesAre ks (trace_of k f) (route_in ks (trace_of k f) fs) fs)
        → (eqb (plain k p) ROUTE ≡ true → route_in (k ∷ ks) p (f ∷ fs) ≡ f) × RoutesAre ks (trace_of k f) (route_in (k ∷ ks) p (f ∷ fs)) fs
    go true q z none ih =
        let l : suc (times ROUTE ks) ≤ 1 = rw q at a in
        ((λ x. rw (z, q)), none_are ks (trace_of k f) (route_in (k ∷ ks) p (f ∷ fs)) fs (none (omega arith)))
    go false q z none ih = let l : times ROUTE ks ≤ 1 = rw q at a in ((λ x. true_false x (z ∙ q)), rw (z, q) (ih l))

-- 5. where a list of kinds has one route at most, the one that is found is the only one
pub routes : (ks : List ℕ) (fs : List (List ℕ)) (t : Bool) (m : ℕ) → one_route ks ≡ true → answer_from 1 t ks 0 0 fs ≡ Ok (t, m) → RoutesAre ks 0 (route_in ks 0 fs) fs
unfolding one_route
routes ks fs t m o e =
    let a = eqb (times ROUTE ks) 1 in
    let b = no_content ks in
    either_of (eqb (times ROUTE ks) 0) (a && b)
    (λ q. content_routes 1 t ks 0 0 fs t m (lit≤ tt) (eqb-true (times ROUTE ks) 0 q) (λ x. true_false x refl) e)
    (λ q. letter_routes ks 0 fs (omega (arith, eqb-true (times ROUTE ks) 1 (and_left a b q))) (and_right a b q))
    o

-- ---- the texts of values

pub routed_texts : (ks : List ℕ) (p : ℕ) (r : List ℕ) (vs : List Value) → routed_in ks p (texts_from ks p r vs) ≡ routed ks p r vs
unfolding routed_in texts_from routed
routed_texts [] p r vs = refl
routed_texts (k ∷ ks) p r [] = refl
routed_texts (k ∷ ks) p r (v ∷ vs) = rw (routed_texts ks (trace_of k (shown k p r v)) r vs)

-- 6. the route that stands beside the values is the one that is found among their texts
pub route_shown : (ks : List ℕ) (p : ℕ) (r : List ℕ) (vs : List Value) → route_in ks p (texts_from ks p r vs) ≡ cond (routed ks p r vs) r []
unfolding route_in texts_from routed
route_shown [] p r vs = refl
route_shown (k ∷ ks) p r [] = refl
route_shown (k ∷ ks) p r (v ∷ vs) = go (eqb (plain k p) ROUTE) refl (route_shown ks (trace_of k (shown k p r v)) r vs)
  where
    go : (b : Bool) → eqb (plain k p) ROUTE ≡ b → route_in ks (trace_of k (shown k p r v)) (texts_from ks (trace_of k (shown k p r v)) r vs) ≡ cond (routed ks (trace_of k (shown k p r v)) r vs) r []
        → route_in (k ∷ ks) p (texts_from (k ∷ ks) p r (v ∷ vs)) ≡ cond (routed (k ∷ ks) p r (v ∷ vs)) r []
    go true q ih = rw q (route_text k p r v q)
    go false q ih = rw q ih

-- and in a body of the values
pub route_back : (ks r : List ℕ) (vs : List Value) (t : Bool) → length ks ≤ 19 → allowed_from ks 0 0 r vs ≡ true → route_of ks (body_of (texts_from ks 0 r vs) t) ≡ cond (routed ks 0 r vs) r []
unfolding route_of
route_back ks r vs t few e = rw (complete ks r vs t few e).2 (route_shown ks 0 r vs)

-- it has one or more bytes, each from 33 to 126
pub allowed_route : (ks : List ℕ) (p m : ℕ) (r : List ℕ) (vs : List Value) → allowed_from ks p m r vs ≡ true → routed ks p r vs ≡ true → is_route r ≡ true
allowed_route ks p m r vs e h =
    let found : route_in ks p (texts_from ks p r vs) ≡ r = route_shown ks p r vs ∙ rw h in
    rw found at (found_visible ks p (texts_from ks p r vs) (allowed_visible ks p m r vs e) (routed_texts ks p r vs ∙ h))

-- a list with the letter has a route always
pub routed_letter : (ks : List ℕ) (p : ℕ) (r : List ℕ) (vs : List Value) → length vs ≡ length ks → 0 < times ROUTE ks → routed ks p r vs ≡ true
unfolding routed times
routed_letter [] p r vs h l = absurd (omega arith)
routed_letter (k ∷ ks) p r [] h l = absurd (omega arith)
routed_letter (k ∷ ks) p r (v ∷ vs) h l = go (eqb (plain k p) ROUTE) refl (routed_letter ks (trace_of k (shown k p r v)) r vs (suc_inj h))
  where
    other : eqb (plain k p) ROUTE ≡ false → eqb k ROUTE ≡ false
    other q = not_holds (eqb k ROUTE) (λ x. let z : plain k p ≡ ROUTE = rw (eqb-true k ROUTE x) (plain_letter p) in true_false (eq-eqb (plain k p) ROUTE z) q)

    go : (b : Bool) → eqb (plain k p) ROUTE ≡ b → (0 < times ROUTE ks → routed ks (trace_of k (shown k p r v)) r vs ≡ true) → routed (k ∷ ks) p r (v ∷ vs) ≡ true
    go true q ih = rw q
    go false q ih = let d : 0 < times ROUTE ks = rw (other q) at l in rw q (ih d)

-- and one with neither letter has none
pub routed_none : (ks : List ℕ) (p : ℕ) (r : List ℕ) (vs : List Value) → times ROUTE ks ≡ 0 → no_content ks ≡ true → routed ks p r vs ≡ false
routed_none ks p r vs a h = sym (routed_texts ks p r vs) ∙ no_letters ks p (texts_from ks p r vs) a h

-- 7. a body that is taken is the text of its values and its route
pub record Back (ks body : List ℕ) (t : Bool) (m : ℕ) : Type 0 where
  pub allowed : allowed_from ks 0 0 (route_of ks body) (values_of ks body) ≡ true
  pub text : body_of (texts_from ks 0 (route_of ks body) (values_of ks body)) t ≡ body
  pub marks : marks_from ks 0 0 (route_of ks body) (values_of ks body) ≡ m

pub written_back : (ks body : List ℕ) (t : Bool) (m : ℕ) → one_route ks ≡ true → answer_of ks body ≡ Ok (t, m) → Back ks body t m
unfolding route_of
written_back ks body t m o e =
    let s = sound ks body t m e in
    let a : RoutesAre ks 0 (route_of ks body) s.fields = rw s.split (routes ks s.fields t m o s.answer) in
    let x = s.shows (route_of ks body) a in
    record { allowed = x.allowed; text = s.back (route_of ks body) a; marks = x.marks }
