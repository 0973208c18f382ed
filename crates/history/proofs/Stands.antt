-- A value that follows a history turn by turn is the one that stands in it. Assumes nothing.
use Prim.Native.Nat.{ℕ, suc, ◌≤◌}
use native.Mathlib.Omega.{arith}
use mathlib.Core.Logic.{◌↔◌}
use mathlib.Core.Path.{◌≡◌, sym, ◌∙◌, subst}
use mathlib.Core.Option.{Option, none, some}
use Rattle.history.specs.Events.{Event, History, start, ◌then◌}
use Rattle.history.specs.Demand.{◌⊑◌, whole, more, Stands}

-- ---- what came since, by the last event

-- h goes on from p, and nothing came since that ends it
pub data Since (Ends : History → Event → Type 0) (p : History) : History → Type 0 where
  now : Since Ends p p
  on : {h : History} {x : Event} → Since Ends p h → (Ends h x → ⊥) → Since Ends p (h then x)

abbrev size : History → ℕ
size start = 0
size (h then x) = suc (size h)

size_le : {g h : History} → g ⊑ h → size g ≤ size h
size_le whole = omega arith
size_le (more m) = let l = size_le m in omega arith

module _ {Ends : History → Event → Type 0} {p : History} where
  pub to_since : {h : History} → p ⊑ h → ((g : History) (x : Event) → p ⊑ g → (g then x) ⊑ h → Ends g x → ⊥) → Since Ends p h
  to_since whole f = now
  to_since (more {h = h} {x = x} m) f = on (to_since m (λ g y a b. f g y a (more b))) (f h x m whole)

  pub came_since : {h : History} → Since Ends p h → p ⊑ h
  came_since now = whole
  came_since (on s n) = more (came_since s)

  pub none_since : {h : History} → Since Ends p h → (g : History) (x : Event) → p ⊑ g → (g then x) ⊑ h → Ends g x → ⊥
  none_since now g x a b = let l = size_le a in let m = size_le b in absurd (omega arith)
  none_since (on s n) g x a whole = n
  none_since (on s n) g x a (more b) = none_since s g x a b

-- ---- the law

module _ {A : Type 0} (Kind : A → History → Event → Type 0) (Ends : History → Event → Type 0) (val : History → Option A) where
  -- how one event turns the value: it is written, it is ended, or it stays
  pub data Turn (h : History) (e : Event) : Type 0 where
    hit : (a : A) → Kind a h e → val (h then e) ≡ some a → Turn h e
    stop : ((a : A) → Kind a h e → ⊥) → Ends h e → val (h then e) ≡ none → Turn h e
    pass : ((a : A) → Kind a h e → ⊥) → (Ends h e → ⊥) → val (h then e) ≡ val h → Turn h e

  pub record Follows : Type 0 where
    pub first : val start ≡ none
    pub turn : (h : History) (e : Event) → Turn h e
    pub same : (h : History) (e : Event) (a b : A) → Kind a h e → Kind b h e → a ≡ b
    -- a new write that ends nothing says the same
    pub again : (h : History) (e : Event) (a b : A) → Kind b h e → (Ends h e → ⊥) → b ≡ a

  module _ (f : Follows) where
    shown : (h : History) (a : A) → val h ≡ some a → Stands (Kind a) Ends h
    shown start a e = let z : ◌≡◌ {A = ℕ} 0 1 = cc f.first in absurd (omega arith)
    shown (h then x) a e = go (f.turn h x) (shown h a)
      where
        go : Turn h x → (val h ≡ some a → Stands (Kind a) Ends h) → Stands (Kind a) Ends (h then x)
        go (hit b k q) ih =
            let s : b ≡ a = cc in
            record { before = h; event = x; came = whole; kind = subst (λ (c : A). Kind c h x) s k; since = none_since now }
        go (stop m n q) ih = let z : ◌≡◌ {A = ℕ} 0 1 = cc in absurd (omega arith)
        go (pass m n q) ih =
            let s = ih (sym q ∙ e) in
            record {
              before = s.before;
              event = s.event;
              came = more s.came;
              kind = s.kind;
              since = none_since (on (to_since s.came s.since) n);
            }

    kept : (a : A) (g : History) (e : Event) → Kind a g e → {h : History} → Since Ends (g then e) h → val h ≡ some a
    kept a g e k now = go (f.turn g e)
      where
        go : Turn g e → val (g then e) ≡ some a
        go (hit b k' q) = let s : b ≡ a = f.same g e b a k' k in cc
        go (stop m n q) = absurd (m a k)
        go (pass m n q) = absurd (m a k)
    kept a g e k (on {h = h} {x = x} s n) = go (f.turn h x) (kept a g e k s)
      where
        go : Turn h x → val h ≡ some a → val (h then x) ≡ some a
        go (hit b k' q) ih = let s : b ≡ a = f.again h x a b k' n in cc
        go (stop m i q) ih = absurd (n i)
        go (pass m i q) ih = q ∙ ih

    pub stands : (h : History) (a : A) → (val h ≡ some a) ↔ Stands (Kind a) Ends h
    stands h a = (shown h a, λ s. kept a s.before s.event s.kind (to_since s.came s.since))
