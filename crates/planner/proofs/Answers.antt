-- THE ANSWERS: a line is refused exactly if it is not read, with the number and the place of its case in document 01's
-- table of answers, and of no other. Assumes nothing.
use Rattle.std.specs.Prelude.{Err, Ok, Result}
use mathlib.Core.Path.{◌≡◌, refl, sym, ap, ◌∙◌, subst}
use mathlib.Core.List.{List}
use Prim.Native.Nat.{ℕ}
use native.Mathlib.Omega.{arith}
use Rattle.rules.specs.declared.Rule.TheVariants.{New}
use Rattle.messages.specs.declared.Message.{Message}
use Rattle.line.specs.Cases.{Case}
use Rattle.line.specs.Read.{read_of, refusal_number, refusal_place, line_number, line_place}
use Rattle.line.specs.declared.Refusal.{Refusal}
use Rattle.line.proofs.Cases.{answer_case, answer_only}
use Rattle.planner.specs.Asked.{asked_from, asked_of, asked_number, asked_place}
use Rattle.planner.specs.declared.asks.Asked.{Asked}

-- what is asked beside the line's own answer r: r's refusal, or else r is a message
abbrev pub By : Result Message Refusal → Result Asked Refusal → Type 0
By r (Err x) = Err x ≡ r
By r (Ok a) = (m : Message) × (r ≡ Ok m)

by_line : (r : Result Message Refusal) → By r (asked_from r)
by_line (Ok m) = (m, refl)
by_line (Err x) = refl

module _ (s : List ℕ) where
  pub asks_read : (a : Result Asked Refusal) → asked_of s ≡ a → By (read_of s) a
  unfolding asked_of
  asks_read a e = subst (By (read_of s)) e (by_line (read_of s))

  -- a refusal has the number and the place of the line's own answer
  pub asks_number : (x : Refusal) → asked_of s ≡ Err x → (refusal_number x ≡ line_number (read_of s)) × (refusal_place x ≡ line_place (read_of s))
  asks_number x e = let p = asks_read (Err x) e in (ap line_number p, ap line_place p)

  -- THE NUMBER AND THE PLACE of what is asked are the line's own
  pub asked_number_lem : (asked_number (asked_of s) ≡ line_number (read_of s)) × (asked_place (asked_of s) ≡ line_place (read_of s))
  asked_number_lem = go (asked_of s) (asks_read (asked_of s) refl)
    where
      go : (a : Result Asked Refusal) → By (read_of s) a → (asked_number a ≡ line_number (read_of s)) × (asked_place a ≡ line_place (read_of s))
      go (Err x) p = (ap line_number p, ap line_place p)
      go (Ok a) (m, e) = (rw e, rw e)

  -- what is refused is not read
  pub refused_unread : (x : Refusal) → asked_of s ≡ Err x → (m : Message) → read_of s ≡ Ok m → ⊥
  refused_unread x e m q = let d : Err x ≡ Ok m = asks_read (Err x) e ∙ q in let z : ◌≡◌ {A = ℕ} 0 1 = cc in omega arith

  -- and what is not read is refused
  pub unread_refused : ((m : Message) → read_of s ≡ Ok m → ⊥) → (x : Refusal) × (asked_of s ≡ Err x)
  unread_refused none = go (asked_of s) (asks_read (asked_of s) refl)
    where
      go : (a : Result Asked Refusal) → By (read_of s) a → (x : Refusal) × (a ≡ Err x)
      go (Err x) p = (x, refl)
      go (Ok a) (m, e) = absurd (none m e)

  -- THE CASE of a refusal: the line is in the case of its number and place
  pub refused_case : (x : Refusal) → asked_of s ≡ Err x → Case New s (refusal_number x) (refusal_place x)
  refused_case x e = subst (λ (r : Result Message Refusal). Case New s (line_number r) (line_place r)) (sym (asks_read (Err x) e)) (answer_case New s)

  -- and in no other
  pub refused_only : (x : Refusal) → asked_of s ≡ Err x → (n i : ℕ) → Case New s n i → (refusal_number x ≡ n) × (refusal_place x ≡ i)
  refused_only x e n i c =
      let p = asks_number x e in
      let q = answer_only New s n i c in
      (p.0 ∙ q.0, p.1 ∙ q.1)
