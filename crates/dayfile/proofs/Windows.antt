-- A file judged by windows: what the next windows say of any file that shows them, and where a sweep begins and ends. Assumes nothing.
use Rattle.std.specs.Prelude.{Err, Ok}
use mathlib.Core.Path.{◌≡◌, refl, sym, ap, ◌∙◌}
use mathlib.Core.Bool.{Bool, true, false, cond}
use mathlib.Core.List.{List, [], ◌∷◌, ◌++◌}
use mathlib.Core.Logic.{◌⊎◌, inl, inr, ⊎_elim}
use Prim.Native.Nat.{ℕ, zero, suc, ◌+◌, ◌*◌, ◌-◌, ◌≤◌}
use native.Mathlib.Nat.{zero-add, add-zero}
use native.Mathlib.Omega.{arith}
use lib.Dec.{eqb}
use lib.ListN.{length, take, drop, get_or, length-append, length-drop, take-append-drop}
use lib.Seq.{length-take-le, take-add, take_at, drop_at, take-take, take-append-add, get_or-take}
use borrow.Author.Tests.{eqb-true, eqb-false}
use Rattle.shapes.proofs.Laws.{part_part}
use Rattle.rules.specs.Frame.{line_feed}
use Rattle.cutter.specs.Feed.{feed_of}
use Rattle.dayfile.specs.DayFile.{trailer_size, lines_text, starts_from, each_may_keep}
use Rattle.dayfile.specs.Opening.{offsets_in, open_by, agree, lines_part, index_part, tail_of, open_of}
use Rattle.dayfile.specs.Walk.{line_size, Stops, Walks}
use Rattle.dayfile.specs.Windows.{Swept, Shows, Wide, Sweeps}
use Rattle.dayfile.specs.declared.Trailer.{Trailer}
use Rattle.dayfile.specs.declared.Contents.{Contents}
use Rattle.dayfile.specs.declared.walking.Walked.{Walked}
use Rattle.dayfile.specs.declared.walking.Sweep.{Sweep}
use Rattle.dayfile.proofs.Bytes.{length-offsets, offsets_append}
use Rattle.dayfile.proofs.Files.{lines_append, starts_append, each_append, kept_line}
use Rattle.dayfile.proofs.Walks.{sized, size_of, walked_agree, fewer_lines, fewer_bytes}
use Rattle.dayfile.proofs.Opening.{day_size}
use Rattle.dayfile.specs.declared.NotOpened.TheVariants.{WrongLines}

-- ---- whole numbers of an index, before and after a place

module _ (x : List ℕ) (m : ℕ) (there : 4 * m ≤ length x) where
  front : length (take (4 * m) x) ≡ 4 * m
  front = length-take-le (4 * m) x there

  parted : offsets_in x ≡ offsets_in (take (4 * m) x) ++ offsets_in (drop (4 * m) x)
  parted = ap offsets_in (sym (take-append-drop (4 * m) x)) ∙ offsets_append (take (4 * m) x) (drop (4 * m) x) m front

  front_many : length (offsets_in (take (4 * m) x)) ≡ m
  front_many = omega (arith, length-offsets (take (4 * m) x), front)

  pub offsets_take : take m (offsets_in x) ≡ offsets_in (take (4 * m) x)
  offsets_take = ap (take m) parted ∙ take_at (offsets_in (take (4 * m) x)) (offsets_in (drop (4 * m) x)) m front_many

  pub offsets_drop : drop m (offsets_in x) ≡ offsets_in (drop (4 * m) x)
  offsets_drop = ap (drop m) parted ∙ drop_at (offsets_in (take (4 * m) x)) (offsets_in (drop (4 * m) x)) m front_many

-- ---- what the last bytes tell measures the file

module _ (t : Trailer) (file : List ℕ) (c : Contents) (told : open_by t (length file) (tail_of t file) ≡ Ok c) where
  pub file_size : c.start + 4 * c.lines + trailer_size t ≡ length file
  file_size = day_size t (length file) (tail_of t file) c (sym told)

  lines_size : length (lines_part c file) ≡ c.start
  lines_size = length-take-le c.start file (omega (arith, file_size))

  index_size : length (index_part c file) ≡ 4 * c.lines
  index_size = length-take-le (4 * c.lines) (drop c.start file) (omega (arith, file_size, length-drop c.start file))

  offsets_size : length (offsets_in (index_part c file)) ≡ c.lines
  offsets_size = omega (arith, length-offsets (index_part c file), index_size)

  -- the first so many offsets stand in the first bytes of the index
  pub first_offsets : (m : ℕ) → m ≤ c.lines → take m (offsets_in (index_part c file)) ≡ offsets_in (take (4 * m) (drop c.start file))
  first_offsets m h =
      offsets_take (index_part c file) m (omega (arith, index_size)) ∙ ap offsets_in (take-take (4 * m) (4 * c.lines) (drop c.start file) (omega arith))

-- ---- a file that was swept so far

module _ {t : Trailer} {file : List ℕ} {c : Contents} {w : Sweep} (v : Swept t file c w) where
  line_bytes : length (lines_part c file) ≡ c.start
  line_bytes = lines_size t file c v.told

  how_many_lem : length (offsets_in (index_part c file)) ≡ c.lines
  how_many_lem = offsets_size t file c v.told

  pub swept_size : length (lines_text v.run) ≡ w.at
  swept_size = ap length (sym v.text) ∙ length-take-le w.at file (omega (arith, file_size t file c v.told, v.inside))

  swept_text : take w.at (lines_part c file) ≡ lines_text v.run
  swept_text = take-take w.at c.start file v.inside ∙ v.text

  pub swept_opens : open_of t file ≡ cond (agree (lines_part c file) (offsets_in (index_part c file))) (Ok c) (Err WrongLines)
  unfolding open_of
  swept_opens = rw v.told

  -- so far it is a walk over all its lines, which stops there for what the next bytes are
  swept_walks : Stops w.at (drop w.at (lines_part c file)) (drop w.lines (offsets_in (index_part c file)))
      → Walks 0 (lines_part c file) (offsets_in (index_part c file)) (record { lines = w.lines; used = w.at })
  swept_walks stops = record {
    run = v.run;
    inside = omega (arith, line_bytes, v.inside);
    text = swept_text;
    each = v.each;
    many = v.many;
    fewer = omega (arith, how_many_lem, v.fewer);
    starts = v.starts;
    stops = rw zero-add stops;
  }

  -- AT THE LAST OFFSET it opens exactly if the lines end at the index
  pub swept_all : w.lines ≡ c.lines → open_of t file ≡ cond (eqb w.at c.start) (Ok c) (Err WrongLines)
  swept_all e = swept_opens ∙ go (eqb w.at c.start) refl
    where
      s : List ℕ
      s = lines_part c file

      os : List ℕ
      os = offsets_in (index_part c file)

      walks : Walks 0 s os (record { lines = w.lines; used = w.at })
      walks = swept_walks (inl (omega (arith, length-drop w.lines os, how_many_lem)))

      go : (b : Bool) → eqb w.at c.start ≡ b → cond (agree s os) (Ok c) (Err WrongLines) ≡ cond (eqb w.at c.start) (Ok c) (Err WrongLines)
      go true q = rw (q, walked_agree walks (e ∙ sym how_many_lem) (eqb-true w.at c.start q ∙ sym line_bytes))
      go false q = rw (q, fewer_bytes walks (λ z. eqb-false w.at c.start q (z ∙ line_bytes)))

-- WHERE A SWEEP BEGINS
pub swept_first : (t : Trailer) (file : List ℕ) (c : Contents) → open_by t (length file) (tail_of t file) ≡ Ok c → Swept t file c (record { at = 0; lines = 0 })
unfolding feed_of each_may_keep starts_from
swept_first t file c e = record { told = e; run = []; inside = omega arith; text = refl; each = refl; many = refl; fewer = omega arith; starts = refl }

-- ---- THE NEXT WINDOWS

-- a line that begins some bytes begins any window of them that is whole, or has room for any line
no_line_past : (n : ℕ) (x : List ℕ) → (n ≡ length x) ⊎ (2049 ≤ n) → line_size (take n x) ≡ 0 → line_size x ≡ 0
no_line_past n x enough e = go (line_size x) refl
  where
    go : (m : ℕ) → m ≡ line_size x → line_size x ≡ 0
    go zero q = sym q
    go (suc m) q =
        let l = sized x (suc m) q (λ z. omega arith) in
        let far : length x ≡ length l.line + suc (length l.rest) = ap length l.whole ∙ length-append l.line (line_feed ∷ l.rest) in
        let fits : length l.line + 1 ≤ n = ⊎_elim (λ z. omega (arith, far)) (λ z. omega (arith, (kept_line l.line l.kept).0)) enough in
        let k = n - length l.line - 1 in
        let split : n ≡ length l.line + suc k = omega arith in
        let cut : take n x ≡ l.line ++ line_feed ∷ take k l.rest = ap (take n) l.whole ∙ ap (λ (i : ℕ). take i (l.line ++ line_feed ∷ l.rest)) split ∙ take-append-add l.line (line_feed ∷ l.rest) (suc k) in
        absurd (omega (arith, e, ap line_size cut, size_of l.line (take k l.rest) l.kept))

module _ (c : Contents) (w : Sweep) (s index : List ℕ) (wide : Wide c w s index) (r : Walked) (k : Walks w.at s (offsets_in index) r) where
  abbrev w' : Sweep
  w' = record { at = w.at + r.used; lines = w.lines + r.lines }

  in_window : length (offsets_in index) ≡ wide.offsets
  in_window = omega (arith, length-offsets index, wide.whole)

  -- any file that shows them
  module _ (t : Trailer) (file : List ℕ) (v : Swept t file c w) (shown : Shows file w.at s) (beside : Shows file (c.start + 4 * w.lines) index) where
    abbrev os : List ℕ
    os = offsets_in (index_part c file)

    -- the window of the index has the next offsets
    next_offsets : take wide.offsets (drop w.lines os) ≡ offsets_in index
    next_offsets =
        let n = wide.offsets in
        let m = w.lines in
        let x = index_part c file in
        let e : take (4 * n) (drop (4 * m) x) ≡ index = part_part c.start (4 * c.lines) (4 * m) (4 * n) file (omega (arith, wide.there)) ∙ ap (λ (i : ℕ). take i (drop (c.start + 4 * m) file)) (sym wide.whole) ∙ beside in
        rw (offsets_drop x m (omega (arith, index_size t file c v.told, wide.there)), offsets_take (drop (4 * m) x) n (omega (arith, index_size t file c v.told, wide.there, length-drop (4 * m) x)), e)

    -- and the one of the lines, the next lines
    next_lines : take (length s) (drop w.at (lines_part c file)) ≡ s
    next_lines = part_part 0 c.start w.at (length s) file wide.before ∙ rw zero-add shown

    walked_text : take r.used (drop w.at file) ≡ lines_text k.run
    walked_text = sym (take-take r.used (length s) (drop w.at file) k.inside) ∙ ap (take r.used) shown ∙ k.text

    walked_starts : take r.lines (drop w.lines os) ≡ starts_from w.at k.run
    walked_starts =
        sym (take-take r.lines wide.offsets (drop w.lines os) (omega (arith, k.fewer, in_window))) ∙ ap (take r.lines) next_offsets ∙ k.starts

    further : Swept t file c w'
    further = record {
      told = v.told;
      run = v.run ++ k.run;
      inside = omega (arith, k.inside, wide.before);
      text = take-add w.at r.used file ∙ rw (v.text, lines_append, walked_text);
      each = rw (each_append, v.each, k.each);
      many = rw length-append (omega (arith, v.many, k.many));
      fewer = omega (arith, k.fewer, in_window, wide.there);
      starts = take-add w.lines r.lines os ∙ rw (v.starts, walked_starts, starts_append, swept_size v, zero-add);
    }

    -- where it found no line: there is none, or it begins elsewhere
    module _ (none : r.lines ≡ 0) where
      nothing_used : r.used ≡ 0
      unfolding feed_of
      nothing_used = go k.run k.many k.text
        where
          go : (run : List (List ℕ)) → r.lines ≡ length run → take r.used s ≡ lines_text run → r.used ≡ 0
          go [] m e = sym (length-take-le r.used s k.inside) ∙ ap length e
          go (l ∷ ls) m e = absurd (omega arith)

      -- no line begins in the file where none begins in the window
      no_line : line_size s ≡ 0 → line_size (drop w.at (lines_part c file)) ≡ 0
      no_line e =
          let x = drop w.at (lines_part c file) in
          let long : length x ≡ c.start - w.at = length-drop w.at (lines_part c file) ∙ ap (λ (n : ℕ). n - w.at) (line_bytes v) in
          no_line_past (length s) x (⊎_elim (λ q. inl (omega (arith, v.inside))) inr wide.enough) (ap line_size next_lines ∙ e)

      first_offset : get_or (drop w.lines os) 0 0 ≡ get_or (offsets_in index) 0 0
      first_offset = sym (get_or-take wide.offsets (drop w.lines os) 0 0 wide.some) ∙ ap (λ (x : List ℕ). get_or x 0 0) next_offsets

      -- so a walk over the whole file stops there too
      stops : Stops w.at (drop w.at (lines_part c file)) (drop w.lines os)
      stops =
          let here : Stops w.at s (offsets_in index) = rw (none, nothing_used, add-zero) at k.stops in
          ⊎_elim (λ z. absurd (omega (arith, in_window, wide.some))) (⊎_elim (λ q. inr (inl (λ e. q (sym first_offset ∙ e)))) (λ e. inr (inr (no_line e)))) here

      refused : open_of t file ≡ Err WrongLines
      refused = swept_opens v ∙ rw (fewer_lines (swept_walks v stops) (λ e. omega (arith, how_many_lem v, wide.there, wide.some)))

  pub sweeps : Sweeps c w s index w'
  sweeps = record {
    from = omega arith;
    to = omega (arith, k.inside);
    more = omega arith;
    most = omega (arith, k.fewer, in_window, wide.there);
    run = k.run;
    lines = let e : w.at + r.used - w.at ≡ r.used = omega arith in rw e k.text;
    each = k.each;
    judged = λ t file v shown beside. (further t file v shown beside, λ e. refused t file v shown beside (omega arith));
  }
