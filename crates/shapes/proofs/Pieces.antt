-- The pieces of a text: one after the other, up to each b. Assumes nothing.
use mathlib.Core.Path.{◌≡◌, refl, sym, ap, ◌∙◌}
use mathlib.Core.Bool.{Bool, true, false, not, ◌||◌}
use mathlib.Core.List.{List, [], ◌∷◌, ◌++◌, append-nil}
use Prim.Native.Nat.{ℕ, suc}
use native.Mathlib.Omega.{arith}
use lib.Dec.{eqb, leb-zero, leb-suc-suc}
use lib.ListN.{length, take, drop}
use borrow.Author.Tests.{eq-eqb, eqb-true, not-true}
use Rattle.text.proofs.Logic.{and_left, and_right}
use Rattle.shapes.specs.Cut.{up_to, has}
use Rattle.shapes.specs.Pieces.{grow, pieces, each_after, none_has}

-- bytes before the first piece
abbrev pub prefixed : List ℕ → List (List ℕ) → List (List ℕ)
prefixed p [] = p ∷ []
prefixed p (q ∷ qs) = (p ++ q) ∷ qs

module _ (b : ℕ) where
  -- the pieces after the first, of what is left from a b on
  abbrev pub pieces_after : List ℕ → List (List ℕ)
  pieces_after [] = []
  pieces_after (x ∷ s) = pieces b s

  -- the first piece goes up to the first b
  pub pieces_turn : (s : List ℕ) → pieces b s ≡ take (up_to b s) s ∷ pieces_after (drop (up_to b s) s)
  unfolding pieces up_to
  pieces_turn [] = refl
  pieces_turn (x ∷ s) = go (eqb x b) refl (pieces_turn s)
    where
      go : (t : Bool) → eqb x b ≡ t → pieces b s ≡ take (up_to b s) s ∷ pieces_after (drop (up_to b s) s)
          → pieces b (x ∷ s) ≡ take (up_to b (x ∷ s)) (x ∷ s) ∷ pieces_after (drop (up_to b (x ∷ s)) (x ∷ s))
      go true q r = rw q
      go false q r = rw (q, r)

  -- the pieces, each after a b, are the text after a b
  pub pieces_text : (s : List ℕ) → each_after b (pieces b s) ≡ b ∷ s
  unfolding pieces each_after
  pieces_text [] = refl
  pieces_text (x ∷ s) = go (eqb x b) refl (pieces_text s)
    where
      grown : (ps : List (List ℕ)) → each_after b ps ≡ b ∷ s → each_after b (grow x ps) ≡ b ∷ x ∷ s
      grown [] e = cc
      grown (p ∷ ps) e = let z : p ++ each_after b ps ≡ s = cc in rw z

      go : (t : Bool) → eqb x b ≡ t → each_after b (pieces b s) ≡ b ∷ s → each_after b (pieces b (x ∷ s)) ≡ b ∷ x ∷ s
      go true q r = rw (q, r, eqb-true x b q)
      go false q r = rw q (grown (pieces b s) r)

  -- a text has a b if it begins with one, or what follows has one
  pub has_more : (x : ℕ) (p : List ℕ) → has b (x ∷ p) ≡ (eqb x b || has b p)
  unfolding has up_to
  has_more x p = go (eqb x b) refl
    where
      go : (t : Bool) → eqb x b ≡ t → has b (x ∷ p) ≡ (t || has b p)
      go true q = rw q (leb-suc-suc 0 (length p) ∙ leb-zero (length p))
      go false q = rw q (leb-suc-suc (suc (up_to b p)) (length p))

  -- no piece has a b
  pub pieces_none : (s : List ℕ) → none_has b (pieces b s) ≡ true
  unfolding pieces none_has has up_to
  pieces_none [] = refl
  pieces_none (x ∷ s) = go (eqb x b) refl (pieces_none s)
    where
      grown : (ps : List (List ℕ)) → eqb x b ≡ false → none_has b ps ≡ true → none_has b (grow x ps) ≡ true
      grown [] q e = rw (has_more x [], q)
      grown (p ∷ ps) q e =
          rw (has_more x p, q, not-true (has b p) (and_left (not (has b p)) (none_has b ps) e), and_right (not (has b p)) (none_has b ps) e)

      go : (t : Bool) → eqb x b ≡ t → none_has b (pieces b s) ≡ true → none_has b (pieces b (x ∷ s)) ≡ true
      go true q r = rw (q, r)
      go false q r = rw q (grown (pieces b s) q r)

  -- a text with no b before another goes before its first piece
  pub pieces_free : (p s : List ℕ) → up_to b p ≡ length p → pieces b (p ++ s) ≡ prefixed p (pieces b s)
  unfolding pieces up_to
  pieces_free [] s e = rw (pieces_turn s)
  pieces_free (x ∷ p) s e = go (eqb x b) refl (pieces_free p s)
    where
      grown : (ps : List (List ℕ)) → grow x (prefixed p ps) ≡ prefixed (x ∷ p) ps
      grown [] = refl
      grown (q ∷ qs) = refl

      go : (t : Bool) → eqb x b ≡ t → (up_to b p ≡ length p → pieces b (p ++ s) ≡ prefixed p (pieces b s)) → pieces b (x ∷ (p ++ s)) ≡ prefixed (x ∷ p) (pieces b s)
      go true q r = let z : 0 ≡ suc (length p) = rw q at e in absurd (omega arith)
      go false q r = let z : suc (up_to b p) ≡ suc (length p) = rw q at e in rw (q, r (omega arith)) (grown (pieces b s))

  -- before a b it is a piece
  pub pieces_cut : (p s : List ℕ) → up_to b p ≡ length p → pieces b (p ++ b ∷ s) ≡ p ∷ pieces b s
  unfolding pieces
  pieces_cut p s e = pieces_free p (b ∷ s) e ∙ rw (eq-eqb b b refl, append-nil p)

  -- and alone the only one
  pub pieces_one : (p : List ℕ) → up_to b p ≡ length p → pieces b p ≡ p ∷ []
  unfolding pieces
  pieces_one p e = ap (pieces b) (sym (append-nil p)) ∙ pieces_free p [] e ∙ rw (append-nil p)
