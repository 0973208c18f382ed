-- Bytes put in the place of others, and a file in which windows were put: it is swept as far, and shows them. So some file shows any windows. Assumes nothing.
use Rattle.std.specs.Prelude.{Ok}
use mathlib.Core.Path.{◌≡◌, sym, ap, ◌∙◌}
use mathlib.Core.List.{List, ◌++◌, append_assoc}
use Prim.Native.Nat.{ℕ, ◌+◌, ◌*◌, ◌-◌, ◌≤◌}
use native.Mathlib.Nat.{zero-add}
use native.Mathlib.Omega.{arith}
use lib.ListN.{length, take, drop, length-append}
use lib.Seq.{length-take-le, take_at, drop_at, drop-drop, take-append_seam}
use Rattle.text.specs.Text.{spliced}
use Rattle.text.proofs.Splice.{length-spliced}
use Rattle.shapes.proofs.Laws.{part_part}
use Rattle.dayfile.specs.DayFile.{trailer_size}
use Rattle.dayfile.specs.Opening.{offsets_in, open_by, index_part, tail_of}
use Rattle.dayfile.specs.Windows.{Swept, Shows}
use Rattle.dayfile.specs.declared.Trailer.{Trailer}
use Rattle.dayfile.specs.declared.Contents.{Contents}
use Rattle.dayfile.specs.declared.walking.Sweep.{Sweep}
use Rattle.dayfile.proofs.Windows.{file_size, first_offsets}

-- ---- bytes in the place of others

part_front : (m j n : ℕ) (l : List ℕ) → j + n ≤ m → take n (drop j (take m l)) ≡ take n (drop j l)
part_front m j n l h = part_part 0 m j n l h ∙ rw zero-add

module _ (l vs : List ℕ) (i : ℕ) (fits : i + length vs ≤ length l) where
  front_size : length (take i l) ≡ i
  front_size = length-take-le i l (omega arith)

  same_front : take i (spliced l i vs) ≡ take i l
  unfolding spliced
  same_front = ap (take i) (append_assoc (take i l) vs (drop (i + length vs) l)) ∙ take_at (take i l) (vs ++ drop (i + length vs) l) i front_size

  -- what stands before, and after, is as it was
  pub part_before : (j n : ℕ) → j + n ≤ i → take n (drop j (spliced l i vs)) ≡ take n (drop j l)
  part_before j n h = sym (part_front i j n (spliced l i vs) h) ∙ ap (λ (x : List ℕ). take n (drop j x)) same_front ∙ part_front i j n l h

  pub part_after : (j : ℕ) → i + length vs ≤ j → drop j (spliced l i vs) ≡ drop j l
  unfolding spliced
  part_after j h =
      let k = i + length vs in
      let e : k + (j - k) ≡ j = omega arith in
      let back : drop k (take i l ++ vs ++ drop k l) ≡ drop k l = drop_at (take i l ++ vs) (drop k l) k (length-append (take i l) vs ∙ rw front_size) in
      ap (λ (n : ℕ). drop n (take i l ++ vs ++ drop k l)) (sym e) ∙ sym (drop-drop (j - k) k (take i l ++ vs ++ drop k l)) ∙ ap (drop (j - k)) back ∙ drop-drop (j - k) k l ∙ rw e

  -- and they stand there
  pub put_shows : Shows (spliced l i vs) i vs
  unfolding spliced
  put_shows =
      let y = drop (i + length vs) l in
      rw (append_assoc (take i l) vs y, drop_at (take i l) (vs ++ y) i front_size) (take-append_seam vs y)

-- ---- windows put in a file that was swept so far

module _ {t : Trailer} {file : List ℕ} {c : Contents} {w : Sweep} (v : Swept t file c w) (s index : List ℕ)
    (before : w.at + length s ≤ c.start) (there : 4 * w.lines + length index ≤ 4 * c.lines) where
  abbrev place : ℕ
  place = c.start + 4 * w.lines

  abbrev halfway : List ℕ
  halfway = spliced file w.at s

  abbrev pub patched : List ℕ
  patched = spliced halfway place index

  sum : c.start + 4 * c.lines + trailer_size t ≡ length file
  sum = file_size t file c v.told

  first_fits : w.at + length s ≤ length file
  first_fits = omega (arith, sum)

  half_size : length halfway ≡ length file
  half_size = length-spliced file s w.at first_fits

  then_fits : place + length index ≤ length halfway
  then_fits = omega (arith, sum, half_size)

  pub patched_size : length patched ≡ length file
  patched_size = length-spliced halfway index place then_fits ∙ half_size

  same_after : (j : ℕ) → c.start + 4 * c.lines ≤ j → drop j patched ≡ drop j file
  same_after j h = part_after halfway index place then_fits j (omega arith) ∙ part_after file s w.at first_fits j (omega arith)

  same_told : open_by t (length patched) (tail_of t patched) ≡ Ok c
  same_told = rw (patched_size, same_after (length file - trailer_size t) (omega (arith, sum))) v.told

  same_text : take w.at patched ≡ take w.at file
  same_text = part_before halfway index place then_fits 0 w.at (omega (arith, v.inside)) ∙ part_before file s w.at first_fits 0 w.at (omega arith)

  same_offsets : take w.lines (offsets_in (index_part c patched)) ≡ take w.lines (offsets_in (index_part c file))
  same_offsets =
      let n = 4 * w.lines in
      let same : take n (drop c.start patched) ≡ take n (drop c.start file) =
      part_before halfway index place then_fits c.start n (omega arith) ∙ ap (take n) (part_after file s w.at first_fits c.start before) in
      first_offsets t patched c same_told w.lines v.fewer ∙ ap offsets_in same ∙ sym (first_offsets t file c v.told w.lines v.fewer)

  pub patched_swept : Swept t patched c w
  patched_swept = record {
    told = same_told;
    run = v.run;
    inside = v.inside;
    text = same_text ∙ v.text;
    each = v.each;
    many = v.many;
    fewer = v.fewer;
    starts = same_offsets ∙ v.starts;
  }

  pub patched_lines : Shows patched w.at s
  patched_lines = part_before halfway index place then_fits w.at (length s) (omega arith) ∙ put_shows file s w.at first_fits

  pub patched_index : Shows patched place index
  patched_index = put_shows halfway index place then_fits
