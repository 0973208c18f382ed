-- The other way round: the texts of values by a list of kinds, and which values some body gives. r is the route, which stands
-- beside the values. Assumes nothing.
use Rattle.std.specs.Prelude.{ℕ, Bool, true, false, cond, ◌&&◌, List, [], ◌∷◌, eqb}
use Rattle.table.specs.Field.{ROUTE, plain, trace_of, marks_of, follows, is_value, shown}
use Rattle.table.specs.declared.kinds.Value.{Value}

-- the text of each value
unfoldable pub texts_from : List ℕ → ℕ → List ℕ → List Value → List (List ℕ)
texts_from [] p r vs = []
texts_from (k ∷ ks) p r [] = []
texts_from (k ∷ ks) p r (v ∷ vs) = shown k p r v ∷ texts_from ks (trace_of k (shown k p r v)) r vs

-- as many values as kinds, each one that a text of its kind gives, and each may follow those before it
unfoldable pub allowed_from : List ℕ → ℕ → ℕ → List ℕ → List Value → Bool
allowed_from [] p m r [] = true
allowed_from [] p m r (v ∷ vs) = false
allowed_from (k ∷ ks) p m r [] = false
allowed_from (k ∷ ks) p m r (v ∷ vs) =
    is_value k p r v && follows k p m (shown k p r v) && allowed_from ks (trace_of k (shown k p r v)) (marks_of k m (shown k p r v)) r vs

-- the marks that are set in the end
unfoldable pub marks_from : List ℕ → ℕ → ℕ → List ℕ → List Value → ℕ
marks_from [] p m r vs = m
marks_from (k ∷ ks) p m r [] = m
marks_from (k ∷ ks) p m r (v ∷ vs) = marks_from ks (trace_of k (shown k p r v)) (marks_of k m (shown k p r v)) r vs

-- a route is among the values
unfoldable pub routed : List ℕ → ℕ → List ℕ → List Value → Bool
routed [] p r vs = false
routed (k ∷ ks) p r [] = false
routed (k ∷ ks) p r (v ∷ vs) = cond (eqb (plain k p) ROUTE) true (routed ks (trace_of k (shown k p r v)) r vs)
