-- Writing a line part by part: the rest of a buffer lent on, fields one after the other, and a body. Assumes nothing.
use mathlib.Core.Path.{◌≡◌, refl, sym, ap, ◌∙◌}
use mathlib.Core.Bool.{Bool, true, false}
use mathlib.Core.List.{List, [], ◌∷◌, ◌++◌, append_assoc}
use Prim.Native.Nat.{ℕ, ◌+◌, ◌-◌, ◌≤◌, ◌<◌}
use native.Mathlib.Omega.{arith}
use lib.ListN.{length, take, drop, set, length-set, length-drop, length-append}
use borrow.Rule.Slice.PartMut.{put_mid}
use Rattle.text.specs.Text.{spliced, written_bytes}
use Rattle.text.proofs.Splice.{set-spliced, spliced_next, next_store, length-spliced, lend_on}
use Rattle.shapes.proofs.Laws.{rest_all}
use Rattle.rules.specs.declared.Rule.{Rule}
use Rattle.table.specs.Spacing.{space, body_of}
use Rattle.table.specs.Field.{trace_of, shown}
use Rattle.table.specs.declared.kinds.Value.{Value}
use Rattle.fields.specs.declared.heads.MessageType.{MessageType}
use Rattle.table.specs.Show.{texts_from}
use Rattle.table.specs.Table.{is_count}
use Rattle.table.proofs.Tables.{table_few}
use Rattle.messages.specs.Body.{type_in, field_count, values_in}
use Rattle.messages.specs.Allowed.{is_whole, kinds_in, body_text, is_fielded, is_body}
use Rattle.messages.specs.declared.Body.{Body}
use Rattle.writer.specs.Size.{fields_text}
use Rattle.text.proofs.Wrote.{wrote}
use Rattle.writer.proofs.LineSizes.{Has, has_kinds, has_values, has_length, fielded_count, fielded_allowed}
use Rattle.writer.specs.Asks.{PutAsks, BodyAsks}

-- ---- bytes

-- a byte stored, and bytes after it
pub stored_next : (l us : List ℕ) (i b : ℕ) → i < length l → spliced (set l i b) (i + 1) us ≡ spliced l i (b ∷ us)
stored_next l us i b h = rw (set-spliced l i b h) (spliced_next l (b ∷ []) us i (omega arith))

-- ---- fields

pub fields_none : (p : ℕ) (r : List ℕ) (vs : List Value) → body_of (texts_from [] p r vs) false ≡ []
unfolding body_of texts_from
fields_none p r vs = refl

module _ (k : ℕ) (ks : List ℕ) (p : ℕ) (r : List ℕ) (v : Value) (vs : List Value) where
  -- what is left after the first field
  abbrev pub fields_after : List ℕ
  fields_after = body_of (texts_from ks (trace_of k (shown k p r v)) r vs) false

  pub fields_next : body_of (texts_from (k ∷ ks) p r (v ∷ vs)) false ≡ space ∷ (shown k p r v ++ fields_after)
  unfolding body_of texts_from
  fields_next = refl

  pub fields_length : length (body_of (texts_from (k ∷ ks) p r (v ∷ vs)) false) ≡ 1 + length (shown k p r v) + length fields_after
  fields_length = omega (arith, ap length fields_next, length-append (shown k p r v) fields_after)

-- a space stored and a field after it, and what is left written after both, is what is left before
pub fields_turn : (out f us : List ℕ) (at : ℕ) → at + 1 + length f ≤ length out
    → spliced (spliced (set out at space) (at + 1) f) (at + 1 + length f) us ≡ spliced out at (space ∷ (f ++ us))
fields_turn out f us at h =
    let k : at + 1 + length f ≤ length (set out at space) = simp length-set (omega arith) in
    spliced_next (set out at space) f us (at + 1) k ∙ stored_next out (f ++ us) at space (omega arith)

-- ---- a body

body_space : (fs : List (List ℕ)) → body_of fs true ≡ body_of fs false ++ space ∷ []
unfolding body_of
body_space [] = refl
body_space (f ∷ fs) = rw (body_space fs) (ap (λ (l : List ℕ). space ∷ l) (sym (append_assoc f (body_of fs false) (space ∷ []))))

module _ (ρ : Rule) (b : Body) (r : List ℕ) (t : Bool) (out : List ℕ) (a : BodyAsks ρ b r t out) where
  pub whole_wrote : is_whole b ≡ true → {o : List ℕ} → o ≡ written_bytes true r out 0 → o ≡ spliced out 0 (body_text ρ b r t)
  unfolding body_text
  whole_wrote e w =
      let h : length r ≤ length out = rw e at a.room in
      rw e (wrote r out 0 refl (omega arith) w)

  module _ (parted : is_whole b ≡ false) where
    fielded : is_fielded ρ b r ≡ true
    unfolding is_body
    fielded = rw parted at a.good

    pub right_count : is_count (type_in b) (field_count b) ≡ true
    right_count = fielded_count ρ b r fielded

  module _ (parted : is_whole b ≡ false) {k : MessageType} {n : ℕ} {ks : List ℕ} {vs : List Value} (has : Has ρ b k n ks vs) where
    kinds_are : take n ks ≡ kinds_in ρ b
    unfolding kinds_in
    kinds_are = has_kinds has ∙ rw (has.type, has.count)

    -- what is written of it, but for a space at its end
    abbrev pub unspaced : List ℕ
    unspaced = fields_text (take n ks) r (take (length (take n ks)) vs)

    text_is : body_of (texts_from (kinds_in ρ b) 0 r (values_in b)) false ≡ unspaced
    unfolding fields_text
    text_is = rw (has_values has, kinds_are)

    plain_is : t ≡ false → body_text ρ b r t ≡ unspaced
    unfolding body_text
    plain_is h = rw (parted, h) text_is

    spaced_is : t ≡ true → body_text ρ b r t ≡ unspaced ++ space ∷ []
    unfolding body_text
    spaced_is h = rw (parted, h) (body_space (texts_from (kinds_in ρ b) 0 r (values_in b)) ∙ ap (λ (l : List ℕ). l ++ space ∷ []) text_is)

    fits : length unspaced ≤ length out
    fits = go t refl
      where
        go : (x : Bool) → t ≡ x → length unspaced ≤ length out
        go true h = omega (arith, a.room, ap length (spaced_is h), length-append unspaced (space ∷ []))
        go false h = omega (arith, a.room, ap length (plain_is h))

    pub all_asks : PutAsks (take n ks) r (take (length (take n ks)) vs) out
    all_asks = record { few = rw (has_length has) (table_few k n has.right); good = rw (has_values has, kinds_are) (fielded_allowed ρ b r (fielded parted)); room = fits }

    pub plain_wrote : t ≡ false → {o : List ℕ} → o ≡ spliced out 0 unspaced → o ≡ spliced out 0 (body_text ρ b r t)
    plain_wrote h w = w ∙ ap (spliced out 0) (sym (plain_is h))

    -- the space after the fields
    module _ (h : t ≡ true) {end : ℕ} {o : List ℕ} (ends : end ≡ length unspaced) (w : o ≡ spliced out 0 unspaced) where
      more : end < length out
      more = omega (arith, ends, a.room, ap length (spaced_is h), length-append unspaced (space ∷ []))

      pub space_inside : end < length o
      space_inside = omega (arith, more, ends, ap length w, length-spliced out unspaced 0 (omega (arith, fits)))

      pub spaced_wrote : set o end space ≡ spliced out 0 (body_text ρ b r t)
      spaced_wrote =
          let z : end ≡ 0 + length unspaced = omega (arith, ends) in
          let i : 0 + length unspaced < length out = omega (arith, more, ends) in
          rw (w, z) (next_store out unspaced 0 space i) ∙ ap (spliced out 0) (sym (spaced_is h))

-- ---- the parts of a line

-- what is lent on of o, from m
abbrev pub rest_from : ℕ → List ℕ → List ℕ
rest_from m o = take (length o - m) (drop m o)

-- o, and ys in the place of what was lent on
abbrev pub given : ℕ → List ℕ → List ℕ → List ℕ
given m o ys = put_mid m (length o - m) o ys

-- vs stand at the start of l, n bytes of them, and o is what stands then
pub record Stand (l vs : List ℕ) (n : ℕ) (o : List ℕ) : Type 0 where
  pub size : length vs ≡ n
  pub fits : n ≤ length l
  pub bytes : o ≡ spliced l 0 vs

module _ {l vs : List ℕ} {n : ℕ} {o : List ℕ} (s : Stand l vs n o) where
  -- the buffer is as long as it was
  pub same_room : length o ≡ length l
  same_room = ap length s.bytes ∙ length-spliced l vs 0 (omega (arith, s.size, s.fits))

  -- us are written at the start of the rest after them
  module _ (us : List ℕ) {k : ℕ} (size : length us ≡ k) (fits : n + k ≤ length l) where
    pub rest_long : length us ≤ length (rest_from n o)
    rest_long = rw (rest_all o n) (omega (arith, same_room, length-drop n o))

    pub part_next : {ys : List ℕ} → ys ≡ spliced (rest_from n o) 0 us → Stand l (vs ++ us) (n + k) (given n o ys)
    part_next w =
        let z : n ≡ 0 + length vs = omega (arith, s.size) in
        record {
          size = rw length-append (omega (arith, s.size));
          fits = fits;
          bytes = lend_on o us n w ∙ rw (s.bytes, z) (spliced_next l vs us 0 (omega (arith, s.size, s.fits)));
        }

    pub written_next : {ok : Bool} {ys : List ℕ} → ok ≡ true → ys ≡ written_bytes ok us (rest_from n o) 0 → Stand l (vs ++ us) (n + k) (given n o ys)
    written_next e w = part_next (wrote us (rest_from n o) 0 e (omega (arith, rest_long)) w)

-- the first of them
pub written_first : (l us : List ℕ) {k : ℕ} {ok : Bool} {o : List ℕ} → length us ≡ k → k ≤ length l → ok ≡ true → o ≡ written_bytes ok us l 0 → Stand l us k o
written_first l us h f e w = record { size = h; fits = f; bytes = wrote us l 0 e (omega arith) w }
