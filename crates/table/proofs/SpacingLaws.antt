-- The laws of the spacing: a body and its fields give each other, and a walk goes from one field to the next. Assumes nothing.
use Rattle.std.specs.Prelude.{None, Some}
use mathlib.Core.Path.{◌≡◌, refl, sym, ap, ◌∙◌}
use mathlib.Core.Bool.{Bool, true, false, ◌&&◌, not}
use mathlib.Core.List.{List, [], ◌∷◌, ◌++◌}
use Prim.Native.Char.{code}
use Prim.Native.Nat.{ℕ, zero, suc, ◌+◌, ◌-◌, ◌≤◌, ◌<◌}
use native.Mathlib.Omega.{arith}
use lib.Dec.{eqb, leb}
use lib.ListN.{length, take, drop, get_or, length-drop}
use lib.Seq.{drop-drop, take-append_seam, drop-append_seam}
use borrow.Author.Tests.{eq-eqb, ne_eqb, eqb-true, eqb-false, not-true, leb-true}
use Rattle.text.proofs.Logic.{some_pair, and_left, and_right, true_false}
use Rattle.text.specs.Class.{all}
use Rattle.shapes.specs.Picture.{is_of}
use Rattle.shapes.specs.Cut.{up_to}
use Rattle.shapes.specs.Pieces.{grow, pieces, each_after}
use Rattle.shapes.proofs.Laws.{up_to_le}
use Rattle.shapes.proofs.Pieces.{pieces_after, pieces_turn, pieces_text}
use Rattle.table.specs.Spacing.{space, body_of, no_space, is_field, all_fields, Split, Fields, Wrong, more, ended, fields_of, fields_in, counts, count_of, end_of}

-- what is left of a body, from a space on
unfoldable pub rest : List ℕ → Split
rest s = ended (pieces_after space s)

pub rest_none : rest [] ≡ Fields [] false
unfolding rest ended
rest_none = refl

pub rest_space : (x : ℕ) → rest (x ∷ []) ≡ Fields [] true
unfolding rest ended pieces
rest_space x = refl

pub rest_wrong : (x y : ℕ) (s : List ℕ) → up_to space (y ∷ s) ≡ 0 → rest (x ∷ y ∷ s) ≡ Wrong
unfolding rest ended
rest_wrong x y s e = rw (pieces_turn space (y ∷ s), e, pieces_turn space s)

pub rest_more : (x : ℕ) (s : List ℕ) → 0 < up_to space s → rest (x ∷ s) ≡ more (take (up_to space s) s) (rest (drop (up_to space s) s))
unfolding rest ended
rest_more x s h = rw (pieces_turn space s) (go s (up_to space s) h (up_to_le space s))
  where
    go : (s : List ℕ) (m : ℕ) → 0 < m → m ≤ length s → ended (take m s ∷ pieces_after space (drop m s)) ≡ more (take m s) (ended (pieces_after space (drop m s)))
    go s zero h k = absurd (omega arith)
    go [] (suc m) h k = absurd (omega arith)
    go (y ∷ s) (suc m) h k = refl

-- a body that begins with a space, or is empty, is all left at its start
pub fields_rest : (s : List ℕ) → (get_or s 0 space ≡ space) → fields_of s ≡ rest s
unfolding fields_of rest ended
fields_rest [] e = refl
fields_rest (x ∷ s) e = rw (eq-eqb x space e)

pub split_rest : (s : List ℕ) (fs : List (List ℕ)) (t : Bool) → fields_of s ≡ Fields fs t → rest s ≡ Fields fs t
unfolding fields_of rest ended
split_rest [] fs t e = e
split_rest (x ∷ s) fs t e = go (eqb x space) refl
  where
    go : (b : Bool) → eqb x space ≡ b → ended (pieces space s) ≡ Fields fs t
    go true q = rw q at e
    go false q = let d : Wrong ≡ Fields fs t = rw q at e in cc

-- where a field is left, it goes up to the next space, and the others are left after it
rest_cons : (u f : List ℕ) (fs : List (List ℕ)) (t : Bool) → rest u ≡ Fields (f ∷ fs) t
    → (0 < length u) × (take (up_to space (drop 1 u)) (drop 1 u) ≡ f) × (rest (drop (up_to space (drop 1 u)) (drop 1 u)) ≡ Fields fs t)
rest_cons [] f fs t e = let d : Fields [] false ≡ Fields (f ∷ fs) t = rw rest_none at e in absurd (let z : ◌≡◌ {A = ℕ} 0 1 = cc in omega arith)
rest_cons (x ∷ []) f fs t e = let d : Fields [] true ≡ Fields (f ∷ fs) t = rw rest_space at e in (omega arith, (cc), (cc))
rest_cons (x ∷ y ∷ s) f fs t e = go (eqb (up_to space (y ∷ s)) 0) refl
  where
    take_more : (p : Split) → rest (drop (up_to space (y ∷ s)) (y ∷ s)) ≡ p → more (take (up_to space (y ∷ s)) (y ∷ s)) p ≡ Fields (f ∷ fs) t
        → (take (up_to space (y ∷ s)) (y ∷ s) ≡ f) × (rest (drop (up_to space (y ∷ s)) (y ∷ s)) ≡ Fields fs t)
    take_more Wrong q d = ((cc), (cc))
    take_more (Fields gs u) q d = ((cc), q ∙ (cc))

    go : (b : Bool) → eqb (up_to space (y ∷ s)) 0 ≡ b
        → (0 < suc (suc (length s))) × (take (up_to space (y ∷ s)) (y ∷ s) ≡ f) × (rest (drop (up_to space (y ∷ s)) (y ∷ s)) ≡ Fields fs t)
    go true q = let d : Wrong ≡ Fields (f ∷ fs) t = sym (rest_wrong x y s (eqb-true (up_to space (y ∷ s)) 0 q)) ∙ e in (omega arith, (cc), (cc))
    go false q =
        let h : 0 < up_to space (y ∷ s) = omega (arith, eqb-false (up_to space (y ∷ s)) 0 q) in
        let p = take_more (rest (drop (up_to space (y ∷ s)) (y ∷ s))) refl (sym (rest_more x (y ∷ s) h) ∙ e) in
        (omega arith, p.0, p.1)

-- ---- a walk: the field after the space at `at`

-- the end of what begins at j is not past the body
pub end_to : (s : List ℕ) (j : ℕ) → j ≤ length s → end_of s j ≤ length s
unfolding end_of
end_to s j h = omega (arith, up_to_le space (drop j s), length-drop j s)

pub end_le : (s : List ℕ) (at : ℕ) → at < length s → end_of s (at + 1) ≤ length s
end_le s at h = end_to s (at + 1) (omega arith)

-- where the fields f and fs are left at the space at `at`, f stands from the next byte to e, and fs are left at e
pub record Turn (s : List ℕ) (at e : ℕ) (f : List ℕ) (fs : List (List ℕ)) (t : Bool) : Type 0 where
  pub inside : at < length s
  pub from : at + 1 ≤ e
  pub to : e ≤ length s
  pub field : take (e - (at + 1)) (drop (at + 1) s) ≡ f
  pub left : rest (drop e s) ≡ Fields fs t

pub turn : (s : List ℕ) (at e : ℕ) (f : List ℕ) (fs : List (List ℕ)) (t : Bool) → rest (drop at s) ≡ Fields (f ∷ fs) t → e ≡ end_of s (at + 1) → Turn s at e f fs t
unfolding end_of
turn s at e f fs t h is =
    let c = rest_cons (drop at s) f fs t h in
    let d : drop 1 (drop at s) ≡ drop (at + 1) s = drop-drop 1 at s in
    let n : e - (at + 1) ≡ up_to space (drop (at + 1) s) = omega arith in
    let m : take (up_to space (drop (at + 1) s)) (drop (at + 1) s) ≡ f = rw d at c.1 in
    let l : rest (drop (up_to space (drop (at + 1) s)) (drop (at + 1) s)) ≡ Fields fs t = rw d at c.2 in
    let i : at < length s = omega (arith, c.0, length-drop at s) in
    record {
      inside = i;
      from = omega arith;
      to = omega (arith, is, end_le s at i);
      field = rw n m;
      left = rw (is, ← (drop-drop (up_to space (drop (at + 1) s)) (at + 1) s)) l;
    }

-- ---- from the fields to the body, and back

-- the body of pieces is their text, each after a space
body_after : (ps : List (List ℕ)) → body_of ps false ≡ each_after space ps
unfolding body_of each_after
body_after [] = refl
body_after (p ∷ ps) = rw (body_after ps)

-- no piece has a space
unfoldable clean : List (List ℕ) → Bool
clean [] = true
clean (p ∷ ps) = no_space p && clean ps

clean_pieces : (s : List ℕ) → clean (pieces space s) ≡ true
unfolding pieces clean no_space
clean_pieces [] = refl
clean_pieces (x ∷ s) = go (eqb x space) refl (clean_pieces s)
  where
    grown : (ps : List (List ℕ)) → eqb x space ≡ false → clean ps ≡ true → clean (grow x ps) ≡ true
    grown [] q e = rw q
    grown (p ∷ ps) q e = rw (q, e)

    go : (b : Bool) → eqb x space ≡ b → clean (pieces space s) ≡ true → clean (pieces space (x ∷ s)) ≡ true
    go true q r = rw (q, r)
    go false q r = rw q (grown (pieces space s) q r)

-- what `ended` finds
ended_text : (ps fs : List (List ℕ)) (t : Bool) → ended ps ≡ Fields fs t → clean ps ≡ true → (body_of ps false ≡ body_of fs t) × (all_fields fs ≡ true)
unfolding ended body_of clean all_fields is_field no_space
ended_text [] fs t e c =
    let z : fs ≡ [] = cc in
    let w : t ≡ false = cc in
    (rw (z, w), rw z)
ended_text ([] ∷ []) fs t e c =
    let z : fs ≡ [] = cc in
    let w : t ≡ true = cc in
    (rw (z, w), rw z)
ended_text ([] ∷ (p ∷ ps)) fs t e c = ((cc), (cc))
ended_text ((x ∷ f) ∷ ps) fs t e c = go (ended ps) refl (ended_text ps)
  where
    go : (r : Split) → ended ps ≡ r → ((gs : List (List ℕ)) (u : Bool) → ended ps ≡ Fields gs u → clean ps ≡ true → (body_of ps false ≡ body_of gs u) × (all_fields gs ≡ true))
        → (body_of ((x ∷ f) ∷ ps) false ≡ body_of fs t) × (all_fields fs ≡ true)
    go Wrong q r = let d : Wrong ≡ Fields fs t = rw q at e in ((cc), (cc))
    go (Fields gs u) q r =
        let d : Fields ((x ∷ f) ∷ gs) u ≡ Fields fs t = rw q at e in
        let z : fs ≡ (x ∷ f) ∷ gs = cc in
        let w : t ≡ u = cc in
        let h = and_left (not (eqb x space) && no_space f) (clean ps) c in
        let p = r gs u q (and_right (not (eqb x space) && no_space f) (clean ps) c) in
        (rw (z, w, p.0), rw (z, h, p.1))

-- THE LAWS OF THE SPACING

-- a body that is split is the text of its fields, and each of them is a field
pub fields_text_lem : (s : List ℕ) (fs : List (List ℕ)) (t : Bool) → fields_of s ≡ Fields fs t → (body_of fs t ≡ s) × (all_fields fs ≡ true)
unfolding fields_of body_of all_fields
fields_text_lem [] fs t e =
    let z : fs ≡ [] = cc in
    let w : t ≡ false = cc in
    (rw (z, w), rw z)
fields_text_lem (x ∷ s) fs t e = go (eqb x space) refl
  where
    go : (b : Bool) → eqb x space ≡ b → (body_of fs t ≡ x ∷ s) × (all_fields fs ≡ true)
    go true q =
        let d : ended (pieces space s) ≡ Fields fs t = rw q at e in
        let p = ended_text (pieces space s) fs t d (clean_pieces s) in
        (sym p.0 ∙ body_after (pieces space s) ∙ pieces_text space s ∙ rw (eqb-true x space q), p.1)
    go false q = let d : Wrong ≡ Fields fs t = rw q at e in ((cc), (cc))

-- the text of fields begins with a space, where it is not empty
body_space : (fs : List (List ℕ)) (t : Bool) → up_to space (body_of fs t) ≡ 0
unfolding body_of up_to
body_space [] true = refl
body_space [] false = refl
body_space (f ∷ fs) t = refl

-- before a space, or at the end, a text without one is passed whole
pub up_to_field : (f r : List ℕ) → no_space f ≡ true → up_to space r ≡ 0 → up_to space (f ++ r) ≡ length f
unfolding up_to no_space
up_to_field [] r e h = h
up_to_field (x ∷ f) r e h =
    rw (not-true (eqb x space) (and_left (not (eqb x space)) (no_space f) e), up_to_field f r (and_right (not (eqb x space)) (no_space f) e) h)

pub field_clean : (f : List ℕ) → is_field f ≡ true → (no_space f ≡ true) × (0 < length f)
unfolding is_field no_space
field_clean [] e = true_false e refl
field_clean (x ∷ f) e = (e, omega arith)

rest_body : (fs : List (List ℕ)) (t : Bool) → all_fields fs ≡ true → rest (body_of fs t) ≡ Fields fs t
unfolding body_of all_fields
rest_body [] true e = rest_space space
rest_body [] false e = rest_none
rest_body (f ∷ fs) t e =
    let c = field_clean f (and_left (is_field f) (all_fields fs) e) in
    let b = body_of fs t in
    let u : up_to space (f ++ b) ≡ length f = up_to_field f b c.0 (body_space fs t) in
    let r = rest_body fs t (and_right (is_field f) (all_fields fs) e) in
    rest_more space (f ++ b) (rw u c.1) ∙ rw (u, take-append_seam, drop-append_seam, r)

-- the text of fields is split into them
pub fields_body : (fs : List (List ℕ)) (t : Bool) → all_fields fs ≡ true → fields_of (body_of fs t) ≡ Fields fs t
unfolding body_of
fields_body fs t e = fields_rest (body_of fs t) (begins fs t) ∙ rest_body fs t e
  where
    begins : (fs : List (List ℕ)) (t : Bool) → get_or (body_of fs t) 0 space ≡ space
    begins [] true = refl
    begins [] false = refl
    begins (f ∷ fs) t = refl

-- at most one splitting
pub unique : (fs gs : List (List ℕ)) (t u : Bool) → all_fields fs ≡ true → all_fields gs ≡ true → body_of fs t ≡ body_of gs u → (fs ≡ gs) × (t ≡ u)
unique fs gs t u e f h =
    let d : Fields fs t ≡ Fields gs u = sym (fields_body fs t e) ∙ ap fields_of h ∙ fields_body gs u f in
    ((cc), (cc))

-- and where there is none, the body is the text of no fields
pub wrong_none : (s : List ℕ) (fs : List (List ℕ)) (t : Bool) → fields_of s ≡ Wrong → all_fields fs ≡ true → body_of fs t ≡ s → ⊥
wrong_none s fs t e f h =
    let d : Wrong ≡ Fields fs t = sym e ∙ ap fields_of (sym h) ∙ fields_body fs t f in
    let z : ◌≡◌ {A = ℕ} 0 1 = cc in
    omega arith

-- ---- what `count` tells

pub count_known : (body : List ℕ) {n : ℕ} {t : Bool} → count_of body ≡ Some (n, t) → (fields_of body ≡ Fields (fields_in (fields_of body)) t) × (n ≡ length (fields_in (fields_of body)))
unfolding count_of counts
count_known body {n} {t} e = go (fields_of body) e
  where
    go : (p : Split) → counts p ≡ Some (n, t) → (p ≡ Fields (fields_in p) t) × (n ≡ length (fields_in p))
    go Wrong d = ((cc), (cc))
    go (Fields fs u) d = (ap (Fields fs) (some_pair d).1, sym (some_pair d).0)

pub count_wrong : (body : List ℕ) → count_of body ≡ None → fields_of body ≡ Wrong
unfolding count_of counts
count_wrong body e = go (fields_of body) e
  where
    go : (p : Split) → counts p ≡ None → p ≡ Wrong
    go Wrong d = refl
    go (Fields fs u) d = cc

-- ---- visible bytes

-- no byte from 33 to 126 is a space
visible_clean : (f : List ℕ) → all (is_of (code "v")) f ≡ true → no_space f ≡ true
unfolding all is_of no_space
visible_clean [] e = refl
visible_clean (x ∷ f) e =
    let v = and_left (leb 33 x && leb x 126) (all (is_of (code "v")) f) e in
    let l = leb-true 33 x (and_left (leb 33 x) (leb x 126) v) in
    let n : x ≡ space → ⊥ = λ q. omega arith in
    rw (ne_eqb x space n) (visible_clean f (and_right (leb 33 x && leb x 126) (all (is_of (code "v")) f) e))

-- so one or more of them are a field
pub visible_field : (f : List ℕ) → all (is_of (code "v")) f ≡ true → 0 < length f → is_field f ≡ true
unfolding is_field no_space
visible_field [] e h = absurd (omega arith)
visible_field (x ∷ f) e h = visible_clean (x ∷ f) e
