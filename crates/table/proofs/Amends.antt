-- THE THEOREMS of the marks: how many there are in the end, and that an amendment has a route exactly if the mark of the route
-- is among them. Assumes nothing.
use Rattle.std.specs.Prelude.{Ok}
use mathlib.Core.Path.{◌≡◌, refl, sym, ◌∙◌}
use mathlib.Core.Bool.{Bool, true, false, not, ◌&&◌, ◌||◌}
use mathlib.Core.List.{List, [], ◌∷◌, map}
use Prim.Native.Nat.{ℕ, suc, ◌<◌}
use native.Mathlib.Nat.{suc_inj}
use native.Mathlib.Omega.{arith}
use lib.Bits.{bit_and}
use lib.Count.{ones}
use lib.Dec.{eqb, lit≤}
use lib.ListN.{length, get_or}
use borrow.Author.Tests.{eqb-true}
use Rattle.text.specs.Bytes.{bytes}
use Rattle.text.proofs.Logic.{ok_pair, and_left, and_right, true_false, not_fails, not_holds, implied}
use Rattle.rules.specs.declared.Rule.{Rule}
use Rattle.table.specs.Field.{AMENDMENT, ROUTE, kind_by, plain, trace_of, marks_of}
use Rattle.table.specs.declared.kinds.Value.{Value}
use Rattle.table.specs.Read.{answer_from}
use Rattle.table.specs.Show.{texts_from, allowed_from, marks_from, routed}
use Rattle.table.proofs.Theorems.{taken_more, allowed_taken}
use Rattle.table.proofs.KindRules.{is_content, by_amendment, by_route, by_content}
use Rattle.table.proofs.MarksKept.{times, times_by, left_route, routeless, step, marks_number, marks_stay}
use Rattle.table.proofs.Routes.{one_route, plain_route, not_route, none_more, routed_in, routed_texts}

-- each number has its content after it
unfoldable pub followed : List ℕ → Bool
followed [] = true
followed (k ∷ ks) = (not (eqb k AMENDMENT) || is_content (get_or ks 0 0)) && followed ks

-- a body's route, if it has one, is the content of an amendment
unfoldable pub amends : List ℕ → Bool
amends ks = eqb (times ROUTE ks) 0 && followed ks

-- by any rule
followed_by : (ρ : Rule) (ks : List ℕ) → followed (map (kind_by ρ) ks) ≡ followed ks
unfolding followed
followed_by ρ [] = refl
followed_by ρ (k ∷ []) = rw (by_amendment ρ k)
followed_by ρ (k ∷ (j ∷ ks)) = rw (by_amendment ρ k, by_content ρ j, followed_by ρ (j ∷ ks))

pub amends_by : (ρ : Rule) (ks : List ℕ) → amends (map (kind_by ρ) ks) ≡ amends ks
unfolding amends
amends_by ρ ks = rw (times_by ρ ROUTE (by_route ρ) ks, followed_by ρ ks)

-- document 01's tables of amendments are such lists
pub examples_amends : amends (bytes "I") && amends (bytes "IPP") && amends (bytes "IPPBW") && amends (bytes "IPPBWBW") && amends (bytes "IPPBWBWBW") && amends (bytes "IPPBWBWBWBW") && amends (bytes "IPPBWBWBWBWBW") && amends (bytes "IPPBWBWBWBWBWBW") && amends (bytes "IPPBWBWBWBWBWBWBW") && amends (bytes "IPPBWBWBWBWBWBWBWBW") ≡ true
unfolding amends times followed
examples_amends = refl

pub amends_one : (ks : List ℕ) → amends ks ≡ true → one_route ks ≡ true
unfolding amends one_route
amends_one ks e = rw (and_left (eqb (times ROUTE ks) 0) (followed ks) e)

-- a route that is content has its mark
routed_set : (i : ℕ) (t : Bool) (ks : List ℕ) (p m : ℕ) (fs : List (List ℕ)) (u : Bool) (n : ℕ) → m < 256 → times ROUTE ks ≡ 0 → (eqb p 128 ≡ true → routeless m ≡ false) → answer_from i t ks p m fs ≡ Ok (u, n) → routed_in ks p fs ≡ true → routeless n ≡ false
unfolding routed_in
routed_set i t [] p m fs u n l a h e r = true_false r refl
routed_set i t (k ∷ ks) p m [] u n l a h e r = true_false r refl
routed_set i t (k ∷ ks) p m (f ∷ fs) u n l a h e r =
    let c = taken_more i t k ks p m f fs u n e in
    let s = step k p m f c.0 l c.1 in
    let b = none_more ROUTE k ks a in
    go (eqb (plain k p) ROUTE) refl b.0 (routed_set (suc i) t ks (trace_of k f) (marks_of k m f) fs u n s.small b.1 s.sets c.2)
  where
    go : (b : Bool) → eqb (plain k p) ROUTE ≡ b → eqb k ROUTE ≡ false → (routed_in ks (trace_of k f) fs ≡ true → routeless n ≡ false) → routeless n ≡ false
    go true q z ih = marks_stay i t (k ∷ ks) p m (f ∷ fs) u n l (h (not_fails (eqb p 128) (λ x. true_false q (not_route k p z x)))) e
    go false q z ih = ih (rw q at r)

-- the content that is asked for by the mark of the route is a route
content_next : (ks : List ℕ) (p : ℕ) (fs : List (List ℕ)) → length fs ≡ length ks → is_content (get_or ks 0 0) ≡ true → eqb p 128 ≡ true → routed_in ks p fs ≡ true
unfolding routed_in
content_next [] p fs h c e = true_false c refl
content_next (k ∷ ks) p [] h c e = absurd (omega arith)
content_next (k ∷ ks) p (f ∷ fs) h c e = let z : eqb (plain k p) ROUTE ≡ true = plain_route k p ∙ rw (c, e) in rw z

-- so where each number has its content, the mark comes with a route
set-routed : (i : ℕ) (t : Bool) (ks : List ℕ) (p m : ℕ) (fs : List (List ℕ)) (u : Bool) (n : ℕ) → m < 256 → length fs ≡ length ks → followed ks ≡ true → routeless m ≡ true → answer_from i t ks p m fs ≡ Ok (u, n) → routed_in ks p fs ≡ false → routeless n ≡ true
unfolding routed_in answer_from followed
set-routed i t [] p m fs u n l h w g e r = let z : m ≡ n = (ok_pair e).1 in rw z at g
set-routed i t (k ∷ ks) p m [] u n l h w g e r = absurd (omega arith)
set-routed i t (k ∷ ks) p m (f ∷ fs) u n l h w g e r =
    let c = taken_more i t k ks p m f fs u n e in
    let s = step k p m f c.0 l c.1 in
    let a = not (eqb k AMENDMENT) || is_content (get_or ks 0 0) in
    let y = rest (eqb (plain k p) ROUTE) refl in
    let x = not_holds (eqb (trace_of k f) 128) (λ q. true_false (content_next ks (trace_of k f) fs (suc_inj h) (implied (eqb k AMENDMENT) (is_content (get_or ks 0 0)) (and_left a (followed ks) w) (number q)) q) y) in
    set-routed (suc i) t ks (trace_of k f) (marks_of k m f) fs u n s.small (suc_inj h) (and_right a (followed ks) w) (s.other g x) c.2 y
  where
    rest : (b : Bool) → eqb (plain k p) ROUTE ≡ b → routed_in ks (trace_of k f) fs ≡ false
    rest true q = let d : true ≡ false = rw q at r in true_false refl d
    rest false q = rw q at r

    number : eqb (trace_of k f) 128 ≡ true → eqb k AMENDMENT ≡ true
    number q = not_fails (eqb k AMENDMENT) (λ x. true_false q (left_route k f ∙ rw x))

-- 8. an amendment has a route exactly if the mark of the route is among those that are set in the end
pub routed_answer : (ks : List ℕ) (fs : List (List ℕ)) (t : Bool) (m : ℕ) → amends ks ≡ true → length fs ≡ length ks → answer_from 1 t ks 0 0 fs ≡ Ok (t, m) → routed_in ks 0 fs ≡ not (eqb (bit_and m 128) 0)
unfolding amends
routed_answer ks fs t m w h e = go (routed_in ks 0 fs) refl
  where
    a : times ROUTE ks ≡ 0
    a = eqb-true (times ROUTE ks) 0 (and_left (eqb (times ROUTE ks) 0) (followed ks) w)

    go : (b : Bool) → routed_in ks 0 fs ≡ b → routed_in ks 0 fs ≡ not (eqb (bit_and m 128) 0)
    go true q = rw (q, routed_set 1 t ks 0 0 fs t m (lit≤ tt) a (λ x. true_false x refl) e q)
    go false q = rw (q, set-routed 1 t ks 0 0 fs t m (lit≤ tt) h (and_right (eqb (times ROUTE ks) 0) (followed ks) w) refl e q)

pub routed_marks : (ks r : List ℕ) (vs : List Value) → amends ks ≡ true → allowed_from ks 0 0 r vs ≡ true → routed ks 0 r vs ≡ not (eqb (bit_and (marks_from ks 0 0 r vs) 128) 0)
routed_marks ks r vs w e =
    let a = allowed_taken ks 0 0 r vs e in
    sym (routed_texts ks 0 r vs) ∙ routed_answer ks (texts_from ks 0 r vs) true (marks_from ks 0 0 r vs) w a.texts (a.answer 1 true)

-- 9. the marks that are set in the end are as many as the numbers, for any list of kinds
pub marks_count : (ks r : List ℕ) (vs : List Value) → allowed_from ks 0 0 r vs ≡ true → (marks_from ks 0 0 r vs < 256) × (ones (marks_from ks 0 0 r vs) ≡ times AMENDMENT ks)
unfolding ones
marks_count ks r vs e =
    let a = allowed_taken ks 0 0 r vs e in
    let x = marks_number 1 true ks 0 0 (texts_from ks 0 r vs) true (marks_from ks 0 0 r vs) (lit≤ tt) a.texts (a.answer 1 true) in
    (x.0, omega (arith, x.1))
