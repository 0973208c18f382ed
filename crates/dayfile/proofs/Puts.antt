-- What the loops of `put_number` and `put_index` keep: the bytes of what is left of a number, and the offsets that are written. Assumes nothing.
use mathlib.Core.Path.{◌≡◌, sym, ap, ◌∙◌}
use mathlib.Core.List.{List, [], ◌∷◌, ◌++◌, append-nil, append_assoc}
use Prim.Native.Nat.{ℕ, suc, ◌+◌, ◌*◌, ◌-◌, ◌/◌, ◌%◌, ◌^◌, ◌≤◌, ◌<◌}
use native.Mathlib.Nat.{pow-succ'}
use native.Mathlib.Numerals.{add-one}
use native.Mathlib.Omega.{arith}
use lib.ListN.{length, take, get_or, set, length-set, length-append}
use lib.Seq.{length-take-le, take-suc}
use Rattle.text.specs.Place.{places}
use Rattle.text.specs.Text.{spliced}
use Rattle.text.proofs.Places.{length-places, places_last}
use Rattle.text.proofs.Splice.{spliced_next, spliced_none, spliced_last}
use Rattle.dayfile.specs.DayFile.{trailer_size, trailer_of, index_of}
use Rattle.dayfile.specs.declared.Trailer.{Trailer}
use Rattle.dayfile.specs.declared.Place.{Place}
use Rattle.dayfile.proofs.Bytes.{length_index, index_append}

-- us after vs, in two steps
pub then_put : (l vs us : List ℕ) (i j : ℕ) → j ≡ i + length vs → j ≤ length l → {l' l'' : List ℕ} → l' ≡ spliced l i vs → l'' ≡ spliced l' j us → l'' ≡ spliced l i (vs ++ us)
then_put l vs us i j e h p q = q ∙ rw (p, e) (spliced_next l vs us i (omega arith))

-- ---- `put_number`: the k bytes of what is left, written from place `at`, make what all bytes of n make

pub record Number (n wide at : ℕ) (out₀ out : List ℕ) (r k : ℕ) : Type 0 where
  pub some : k ≤ wide
  pub small : r < 256 ^ k
  pub room : at + wide ≤ length out₀
  pub same : length out ≡ length out₀
  pub rest : spliced out at (places 256 k r) ≡ spliced out₀ at (places 256 wide n)

module _ {n wide at : ℕ} {out₀ out : List ℕ} {r k : ℕ} (v : Number n wide at out₀ out r k) where
  pub number_put : k ≤ 0 → out ≡ spliced out₀ at (places 256 wide n)
  unfolding places
  number_put h =
      let z : k ≡ 0 = omega arith in
      let e : spliced out at (places 256 0 r) ≡ spliced out₀ at (places 256 wide n) = rw z at v.rest in
      sym (spliced_none out at) ∙ e

  pub number_next : 0 < k → Number n wide at out₀ (set out (at + (k - 1)) (r % 256)) (r / 256) (k - 1)
  number_next more =
      let z : k ≡ suc (k - 1) = omega arith in
      let small : r < 256 ^ suc (k - 1) = rw z at v.small in
      let rest : spliced out at (places 256 (suc (k - 1)) r) ≡ spliced out₀ at (places 256 wide n) = rw z at v.rest in
      record {
        some = omega (arith, v.some);
        small = omega (arith, pow-succ' 256 (k - 1));
        room = v.room;
        same = length-set out (at + (k - 1)) (r % 256) ∙ v.same;
        rest =
            spliced_last out (places 256 (k - 1) (r / 256)) at (k - 1) (r % 256) (length-places 256 (k - 1) (r / 256)) (omega (arith, v.room, v.same, v.some))
            ∙ rw (← (places_last 256 255 (omega arith) (k - 1) r small)) rest;
      }

-- ---- `put_index`: the first k offsets are written, and then the next

pub index_next : (os : List ℕ) (at : ℕ) (out₀ out : List ℕ) (k : ℕ) {out' : List ℕ} → at + 4 * length os ≤ length out₀ → k < length os
    → out ≡ spliced out₀ at (index_of (take k os)) → out' ≡ spliced out (at + 4 * k) (places 256 4 (get_or os k 0)) → out' ≡ spliced out₀ at (index_of (take (k + 1) os))
unfolding index_of
index_next os at out₀ out k room more put e =
    let b = places 256 4 (get_or os k 0) in
    let l : at + 4 * k ≡ at + length (index_of (take k os)) = omega (arith, length_index (take k os), length-take-le k os) in
    let one : index_of (take (k + 1) os) ≡ index_of (take k os) ++ b =
    rw (add-one, take-suc os k 0 more) (index_append (take k os) (get_or os k 0 ∷ []) ∙ ap (λ (s : List ℕ). index_of (take k os) ++ s) (append-nil b))
    in
    rw one (then_put out₀ (index_of (take k os)) b at (at + 4 * k) l (omega arith) put e)

-- ---- `put_trailer`: its three numbers, one after the other

module _ (t : Trailer) (p : Place) (out : List ℕ) (from : ℕ) (room : from + trailer_size t ≤ length out) {a b c : List ℕ} where
  pub trailer_put : a ≡ spliced out from (places 256 4 p.at) → b ≡ spliced a (from + 4) (places 256 t.wide p.count)
      → c ≡ spliced b (from + 4 + t.wide) (places 256 2 t.version) → c ≡ spliced out from (trailer_of t p.at p.count)
  unfolding trailer_of trailer_size
  trailer_put e f g =
      let x = places 256 4 p.at in
      let y = places 256 t.wide p.count in
      let l = length-places 256 4 p.at in
      let m = length-places 256 t.wide p.count in
      let two = then_put out x y from (from + 4) (omega arith) (omega arith) e f in
      rw (← (append_assoc x y (places 256 2 t.version))) (then_put out (x ++ y) (places 256 2 t.version) from (from + 4 + t.wide) (omega (arith, length-append x y)) (omega arith) two g)
