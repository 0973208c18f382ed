-- THE THEOREM of where a route stands: its bytes are those of the body from its place on, and they end inside the body. Assumes nothing.
use mathlib.Core.Path.{◌≡◌, refl, ap, ◌∙◌, subst}
use mathlib.Core.Bool.{Bool, true, false}
use mathlib.Core.List.{List, [], ◌∷◌, ◌++◌, append_assoc}
use Prim.Native.Nat.{ℕ, ◌+◌, ◌≤◌}
use native.Mathlib.Omega.{arith}
use lib.Dec.{eqb}
use lib.ListN.{length, length-append}
use lib.Seq.{take_at, drop_at}
use Rattle.shapes.specs.Picture.{part}
use Rattle.rules.specs.declared.Rule.{Rule}
use Rattle.fields.specs.declared.heads.MessageType.{MessageType}
use Rattle.table.specs.Spacing.{space, body_of, Split, Fields, Wrong, fields_of}
use Rattle.table.specs.Field.{ROUTE, plain, trace_of}
use Rattle.table.specs.Read.{route_in, route_of, route_from, route_at}
use Rattle.table.specs.Table.{table_by, route_by, route_at_by}
use Rattle.table.proofs.SpacingLaws.{fields_text_lem}
use Rattle.table.proofs.WalkWays.{route_no_fields, start_no_fields}

-- the bytes r stand in the text s from index i on
pub record StandsAt (i : ℕ) (r s : List ℕ) : Type 0 where
  pub bytes : part i (length r) s ≡ r
  pub inside : i + length r ≤ length s

nothing : (s : List ℕ) → StandsAt 0 [] s
nothing s = record { bytes = refl; inside = omega arith }

-- a field after a space, with what stands before and after it
after_space : (pre f post : List ℕ) → StandsAt (length pre + 1) f (pre ++ space ∷ (f ++ post))
after_space pre f post =
    let l : length (pre ++ space ∷ []) ≡ length pre + 1 = length-append pre (space ∷ []) in
    let n = length-append pre (space ∷ (f ++ post)) in
    let m = length-append f post in
    record {
      bytes = rw (← (append_assoc pre (space ∷ []) (f ++ post)), drop_at (pre ++ space ∷ []) (f ++ post) (length pre + 1) l) (take_at f post (length f) refl);
      inside = omega arith;
    }

-- of the fields fs that stand after pre
route_stands : (ks : List ℕ) (p : ℕ) (fs : List (List ℕ)) (t : Bool) (pre : List ℕ) → StandsAt (route_from (length pre) ks p fs) (route_in ks p fs) (pre ++ body_of fs t)
unfolding route_in route_from body_of
route_stands [] p fs t pre = nothing _
route_stands (k ∷ ks) p [] t pre = nothing _
route_stands (k ∷ ks) p (f ∷ fs) t pre = go (eqb (plain k p) ROUTE) refl (route_stands ks (trace_of k f) fs t ((pre ++ space ∷ []) ++ f))
  where
    go : (b : Bool) → eqb (plain k p) ROUTE ≡ b
        → StandsAt (route_from (length ((pre ++ space ∷ []) ++ f)) ks (trace_of k f) fs) (route_in ks (trace_of k f) fs) (((pre ++ space ∷ []) ++ f) ++ body_of fs t)
        → StandsAt (route_from (length pre) (k ∷ ks) p (f ∷ fs)) (route_in (k ∷ ks) p (f ∷ fs)) (pre ++ body_of (f ∷ fs) t)
    go true q ih = rw q (after_space pre f (body_of fs t))
    go false q ih =
        let x = pre ++ space ∷ [] in
        let l : length (x ++ f) ≡ length pre + 1 + length f = length-append x f ∙ ap (λ n. n + length f) (length-append pre (space ∷ [])) in
        let s : (x ++ f) ++ body_of fs t ≡ pre ++ body_of (f ∷ fs) t = append_assoc x f (body_of fs t) ∙ append_assoc pre (space ∷ []) (f ++ body_of fs t) in
        rw q (rw (l, s) at ih)

pub route_part : (ks body : List ℕ) → StandsAt (route_at ks body) (route_of ks body) body
unfolding route_at route_of
route_part ks body = go (fields_of body) refl
  where
    go : (x : Split) → fields_of body ≡ x → StandsAt (route_at ks body) (route_of ks body) body
    go Wrong q = rw (q, start_no_fields 0 ks 0, route_no_fields ks 0) (nothing body)
    go (Fields fs t) q = rw q (subst (StandsAt (route_from 0 ks 0 fs) (route_in ks 0 fs)) (fields_text_lem body fs t q).0 (route_stands ks 0 fs t []))

pub route_part_by : (ρ : Rule) (t : MessageType) (s : List ℕ) → StandsAt (route_at_by ρ t s) (route_by ρ t s) s
unfolding route_at_by route_by
route_part_by ρ t s = route_part (table_by ρ t) s
