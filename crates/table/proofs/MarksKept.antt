-- The marks that the fields of a body set, by any list of kinds: one for each number, and whether that of the route, 128, is
-- among them. Assumes nothing.
use Rattle.std.specs.Prelude.{Ok}
use mathlib.Core.Path.{◌≡◌, refl, sym, ap, ◌∙◌}
use mathlib.Core.Bool.{Bool, true, false, cond, ◌&&◌}
use mathlib.Core.List.{List, [], ◌∷◌, map}
use Prim.Native.Nat.{ℕ, suc, ◌+◌, ◌<◌}
use native.Mathlib.Nat.{suc_inj}
use native.Mathlib.Omega.{arith}
use lib.Bits.{bit_and, bit_or}
use lib.Count.{ones}
use lib.Dec.{eqb}
use lib.ListN.{length}
use borrow.Author.Tests.{eqb-true, eqb-false}
use Rattle.text.proofs.Logic.{ok_pair, and_left, true_false, not_holds}
use Rattle.rules.specs.Form.{is_position}
use Rattle.rules.specs.Kind.{FIX}
use Rattle.rules.specs.declared.Rule.{Rule}
use Rattle.table.specs.Field.{AMENDMENT, kind_by, mark_of, mark_text, is_mark, is_one, read_in, trace_of, marks_of, follows, is_value, shown}
use Rattle.table.specs.declared.kinds.Value.{Value}
use Rattle.table.proofs.FieldLaws.{in_sound}
use Rattle.table.proofs.Eight.{mark_text_lem}
use Rattle.table.proofs.MarkSets.{set_more, set_keeps, set-has, set_other}
use Rattle.table.specs.Read.{answer_from}
use Rattle.table.proofs.Theorems.{taken_more}

-- how often the kind k stands in a list
unfoldable pub times : ℕ → List ℕ → ℕ
times k [] = 0
times k (j ∷ ks) = cond (eqb j k) (suc (times k ks)) (times k ks)

-- one that no rule changes stands as often by any rule
pub times_by : (ρ : Rule) (k : ℕ) → ((j : ℕ) → eqb (kind_by ρ j) k ≡ eqb j k) → (ks : List ℕ) → times k (map (kind_by ρ) ks) ≡ times k ks
unfolding times
times_by ρ k h [] = refl
times_by ρ k h (j ∷ ks) = rw (h j, times_by ρ k h ks)

-- the mark 128 is left by its number only
pub left_route : (k : ℕ) (s : List ℕ) → eqb (trace_of k s) 128 ≡ cond (eqb k AMENDMENT) (eqb (mark_of s) 128) false
unfolding trace_of
left_route k s = go (eqb k AMENDMENT) refl (eqb k FIX && is_position s) refl
  where
    go : (b : Bool) → eqb k AMENDMENT ≡ b → (c : Bool) → (eqb k FIX && is_position s) ≡ c → eqb (trace_of k s) 128 ≡ cond (eqb k AMENDMENT) (eqb (mark_of s) 128) false
    go true q c z = rw q
    go false q true z = rw (q, z)
    go false q false z = rw (q, z)

-- the mark of the route is not in the set m
abbrev pub routeless : ℕ → Bool
routeless m = eqb (bit_and m 128) 0

-- the marks after a field s of the kind k that is read
pub record Step (k m : ℕ) (s : List ℕ) : Type 0 where
  pub small : marks_of k m s < 256
  pub count : ones (marks_of k m s) ≡ cond (eqb k AMENDMENT) (suc (ones m)) (ones m)
  pub keeps : routeless m ≡ false → routeless (marks_of k m s) ≡ false
  pub sets : eqb (trace_of k s) 128 ≡ true → routeless (marks_of k m s) ≡ false
  pub other : routeless m ≡ true → eqb (trace_of k s) 128 ≡ false → routeless (marks_of k m s) ≡ true
  pub fresh : routeless m ≡ false → eqb (trace_of k s) 128 ≡ false

-- a number that is read has a mark, which is not in the set yet
number_read : (k p m : ℕ) (s : List ℕ) (v : Value) → eqb k AMENDMENT ≡ true → read_in k p m s ≡ Ok v → (is_mark (mark_of s) ≡ true) × (bit_and m (mark_of s) ≡ 0)
unfolding is_value follows shown
number_read k p m s v a e =
    let x = in_sound k p m s s v e (λ q. refl) in
    let i : is_mark v.a && is_one v ≡ true = rw a at x.0 in
    let h = and_left (is_mark v.a) (is_one v) i in
    let w : mark_text v.a ≡ s = rw a at x.2 in
    let z : mark_of s ≡ v.a = ap mark_of (sym w) ∙ mark_text_lem v.a h in
    (rw z h, eqb-true (bit_and m (mark_of s)) 0 (rw a at x.1))

set_route : (m b : ℕ) → m < 256 → eqb b 128 ≡ true → routeless (bit_or m b) ≡ false
unfolding is_mark
set_route m b l q = rw (eqb-true b 128 q) (set-has m 128 l refl)

pub step : (k p m : ℕ) (s : List ℕ) (v : Value) → m < 256 → read_in k p m s ≡ Ok v → Step k m s
unfolding marks_of
step k p m s v l e = go (eqb k AMENDMENT) refl
  where
    go : (b : Bool) → eqb k AMENDMENT ≡ b → Step k m s
    go true q =
        let x = number_read k p m s v q e in
        let y = set_more m (mark_of s) l x.0 x.1 in
        let is : eqb (trace_of k s) 128 ≡ eqb (mark_of s) 128 = left_route k s ∙ rw q in
        record {
          small = rw q y.0;
          count = rw q y.1;
          keeps = λ h. rw q (set_keeps m (mark_of s) l x.0 h);
          sets = λ h. rw q (set_route m (mark_of s) l (sym is ∙ h));
          other = λ h g. rw q (set_other m (mark_of s) l x.0 (sym is ∙ g) h);
          fresh = λ h. not_holds (eqb (trace_of k s) 128) (λ g. eqb-false (bit_and m 128) 0 h (rw (eqb-true (mark_of s) 128 (sym is ∙ g)) at x.1));
        }
    go false q =
        let is : eqb (trace_of k s) 128 ≡ false = left_route k s ∙ rw q in
        record { small = rw q l; count = rw q; keeps = λ h. rw q h; sets = λ h. true_false h is; other = λ h g. rw q h; fresh = λ h. is }

-- the marks that are set in the end: one more for each number
pub marks_number : (i : ℕ) (t : Bool) (ks : List ℕ) (p m : ℕ) (fs : List (List ℕ)) (u : Bool) (n : ℕ) → m < 256 → length fs ≡ length ks → answer_from i t ks p m fs ≡ Ok (u, n) → (n < 256) × (ones n ≡ times AMENDMENT ks + ones m)
unfolding answer_from times
marks_number i t [] p m fs u n l h e = let z : m ≡ n = (ok_pair e).1 in (omega arith, omega (arith, ap ones z))
marks_number i t (k ∷ ks) p m [] u n l h e = absurd (omega arith)
marks_number i t (k ∷ ks) p m (f ∷ fs) u n l h e =
    let c = taken_more i t k ks p m f fs u n e in
    let s = step k p m f c.0 l c.1 in
    let x = marks_number (suc i) t ks (trace_of k f) (marks_of k m f) fs u n s.small (suc_inj h) c.2 in
    (x.0, go (eqb k AMENDMENT) refl s.count x.1)
  where
    go : (b : Bool) → eqb k AMENDMENT ≡ b → ones (marks_of k m f) ≡ cond (eqb k AMENDMENT) (suc (ones m)) (ones m) → ones n ≡ times AMENDMENT ks + ones (marks_of k m f) → ones n ≡ times AMENDMENT (k ∷ ks) + ones m
    go true q z y = let w : ones (marks_of k m f) ≡ suc (ones m) = rw q at z in rw q (omega (arith, w, y))
    go false q z y = let w : ones (marks_of k m f) ≡ ones m = rw q at z in rw q (omega (arith, w, y))

-- a mark that is set stays
pub marks_stay : (i : ℕ) (t : Bool) (ks : List ℕ) (p m : ℕ) (fs : List (List ℕ)) (u : Bool) (n : ℕ) → m < 256 → routeless m ≡ false → answer_from i t ks p m fs ≡ Ok (u, n) → routeless n ≡ false
unfolding answer_from
marks_stay i t [] p m fs u n l h e = let z : m ≡ n = (ok_pair e).1 in rw z at h
marks_stay i t (k ∷ ks) p m [] u n l h e = let z : m ≡ n = (ok_pair e).1 in rw z at h
marks_stay i t (k ∷ ks) p m (f ∷ fs) u n l h e =
    let c = taken_more i t k ks p m f fs u n e in
    let s = step k p m f c.0 l c.1 in
    marks_stay (suc i) t ks (trace_of k f) (marks_of k m f) fs u n s.small (s.keeps h) c.2
