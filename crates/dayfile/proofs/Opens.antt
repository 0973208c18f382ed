-- WHAT OPENS: a file opens exactly if it is the file of a run of lines that may be kept, and its lines are these. Over any trailer. Assumes nothing.
use Rattle.std.specs.Prelude.{Err, Ok, Result}
use mathlib.Core.Path.{◌≡◌, refl, sym, ap, ◌∙◌}
use mathlib.Core.Bool.{Bool, true, false}
use mathlib.Core.List.{List, [], ◌∷◌, ◌++◌, append_assoc}
use Prim.Native.Nat.{ℕ, suc, ◌+◌, ◌*◌, ◌-◌, ◌≤◌, ◌<◌}
use native.Mathlib.Omega.{arith}
use lib.Dec.{eqb, ltb}
use lib.ListN.{length, take, drop, get_or, length-append, length-drop, take-append-drop}
use lib.Seq.{take-append_seam, drop-append_seam, take_at, drop_at, drop-drop, take-append-add, drop-append-add, length-take-le}
use borrow.Author.Tests.{ltb-true, ltb-false, eqb-true, eqb-false, lt-ltb, le-ltb, eq-eqb, ne_eqb}
use Rattle.text.specs.Place.{value, places}
use Rattle.text.proofs.Logic.{not_holds, true_false}
use Rattle.text.proofs.Places.{length-places}
use Rattle.dayfile.specs.DayFile.{Sound, trailer_size, trailer_of, lines_text, starts_from, index_of, file_of, is_run, too_far, is_bytes}
use Rattle.dayfile.specs.Opening.{start_by, count_by, version_by, offsets_in, open_by, agree, tail_of, open_of, open_number, lines_by, lines_in}
use Rattle.dayfile.specs.Cases.{IsVersioned, IsMeasured, IsLined, OpenCase, Short, Version, Length, Lines}
use Rattle.dayfile.specs.declared.Trailer.{Trailer}
use Rattle.dayfile.specs.declared.Contents.{Contents}
use Rattle.dayfile.proofs.Bytes.{value_front, bytes_take, bytes_drop, number_of, number_below, length_index, offsets_index, index_offsets, length-offsets, index_at}
use Rattle.dayfile.proofs.Files.{length-starts, starts_in, lines_at, start_at, from_line, length-file, texts_lines, run_parts, parts_run, agree_lines, lines_agree, lines_run, start_trailer, count_trailer, version_trailer, trailer_tail}
use Rattle.dayfile.specs.declared.NotOpened.TheVariants.{TooShort, UnknownVersion, WrongLength, WrongLines}
use Rattle.dayfile.specs.declared.NotOpened.{NotOpened}

-- ---- each number exactly in its case

module _ (t : Trailer) (file : List ℕ) where
  abbrev tail : List ℕ
  tail = tail_of t file

  -- "start plus index plus trailer"; the bytes before the index; the numbers in it
  abbrev sum : ℕ
  sum = start_by tail + 4 * count_by t tail + trailer_size t

  abbrev front : List ℕ
  front = take (start_by tail) file

  abbrev offsets : List ℕ
  offsets = offsets_in (take (4 * count_by t tail) (drop (start_by tail) file))

  -- what is told of a file that opens
  abbrev pub contents : Contents
  contents = record { lines = count_by t tail; start = start_by tail }

  short_is : length file < trailer_size t → open_of t file ≡ Err TooShort
  unfolding open_of open_by
  short_is h = rw (lt-ltb (length file) (trailer_size t) h)

  version_is : trailer_size t ≤ length file → (version_by t tail ≡ t.version → ⊥) → open_of t file ≡ Err UnknownVersion
  unfolding open_of open_by
  version_is h n = rw (le-ltb (length file) (trailer_size t) h, ne_eqb (version_by t tail) t.version n)

  length_is : IsVersioned t file → (IsMeasured t file → ⊥) → open_of t file ≡ Err WrongLength
  unfolding open_of open_by
  length_is v n =
      rw (le-ltb (length file) (trailer_size t) v.0, eq-eqb (version_by t tail) t.version v.1, ne_eqb sum (length file) n)

  -- past 22, it is 23 that decides
  module _ (v : IsVersioned t file) (m : IsMeasured t file) where
    pub lines_is : (IsLined t file → ⊥) → open_of t file ≡ Err WrongLines
    unfolding open_of open_by
    lines_is n =
        rw (le-ltb (length file) (trailer_size t) v.0, eq-eqb (version_by t tail) t.version v.1, eq-eqb sum (length file) m)
        (rw (not_holds (agree front offsets) (λ q. n (agree_lines front offsets q))))

    pub day_is : IsLined t file → open_of t file ≡ Ok contents
    unfolding open_of open_by
    day_is l =
        rw (le-ltb (length file) (trailer_size t) v.0, eq-eqb (version_by t tail) t.version v.1, eq-eqb sum (length file) m)
        (rw (lines_agree front offsets l))

  pub open_case : OpenCase t file (open_number (open_of t file))
  unfolding open_number
  open_case = go (ltb (length file) (trailer_size t)) refl (eqb (version_by t tail) t.version) refl (eqb sum (length file)) refl (agree front offsets) refl
    where
      go : (a : Bool) → ltb (length file) (trailer_size t) ≡ a → (b : Bool) → eqb (version_by t tail) t.version ≡ b
          → (c : Bool) → eqb sum (length file) ≡ c → (d : Bool) → agree front offsets ≡ d → OpenCase t file (open_number (open_of t file))
      go true p b q c r d e = let h = ltb-true (length file) (trailer_size t) p in rw (short_is h) (Short h)
      go false p false q c r d e =
          let h = ltb-false (length file) (trailer_size t) p in
          let n = eqb-false (version_by t tail) t.version q in
          rw (version_is h n) (Version h n)
      go false p true q false r d e =
          let v : IsVersioned t file = (ltb-false (length file) (trailer_size t) p, eqb-true (version_by t tail) t.version q) in
          let n = eqb-false sum (length file) r in
          rw (length_is v n) (Length v n)
      go false p true q true r false e =
          let v : IsVersioned t file = (ltb-false (length file) (trailer_size t) p, eqb-true (version_by t tail) t.version q) in
          let m = eqb-true sum (length file) r in
          let n : IsLined t file → ⊥ = λ l. true_false (lines_agree front offsets l) e in
          rw (lines_is v m n) (Lines v m n)
      go false p true q true r true e =
          let v : IsVersioned t file = (ltb-false (length file) (trailer_size t) p, eqb-true (version_by t tail) t.version q) in
          let m = eqb-true sum (length file) r in
          let l = agree_lines front offsets e in
          rw (day_is v m l) (OpenCase.Day v m l)

  pub case_open : {n : ℕ} → OpenCase t file n → n ≡ open_number (open_of t file)
  unfolding open_number
  case_open (Short h) = rw (short_is h)
  case_open (Version h n) = rw (version_is h n)
  case_open (Length v n) = rw (length_is v n)
  case_open (Lines v m n) = rw (lines_is v m n)
  case_open (OpenCase.Day v m l) = rw (day_is v m l)

  -- what a file that opens has
  pub record IsDay : Type 0 where
    pub versioned : IsVersioned t file
    pub measured : IsMeasured t file
    pub lined : IsLined t file

  pub is_day : (c : Contents) → open_of t file ≡ Ok c → IsDay
  unfolding open_number
  is_day c e = go open_case (rw e)
    where
      go : {n : ℕ} → OpenCase t file n → n ≡ 0 → IsDay
      go (Short h) z = absurd (omega arith)
      go (Version h n) z = absurd (omega arith)
      go (Length v n) z = absurd (omega arith)
      go (Lines v m n) z = absurd (omega arith)
      go (OpenCase.Day v m l) z = record { versioned = v; measured = m; lined = l }

  pub is_told : (c : Contents) → open_of t file ≡ Ok c → c ≡ contents
  is_told c e =
      let d = is_day c e in
      let z : Ok contents ≡ Ok c = sym (day_is d.versioned d.measured d.lined) ∙ e in
      cc

-- ---- THE FILE OF A RUN OPENS, and its lines are these

module _ (t : Trailer) (sound : Sound t) (ls : List (List ℕ)) (run : is_run t ls ≡ true) where
  abbrev text : List ℕ
  text = lines_text ls

  abbrev index : List ℕ
  index = index_of (starts_from 0 ls)

  abbrev trailer : List ℕ
  trailer = trailer_of t (length text) (length ls)

  abbrev file : List ℕ
  file = file_of t ls

  file_parts : file ≡ (text ++ index) ++ trailer
  unfolding file_of
  file_parts = sym (append_assoc text index trailer)

  front_length : length (text ++ index) ≡ length text + 4 * length ls
  front_length = simp (length-append, length_index, length-starts)

  file_tail : tail_of t file ≡ trailer
  file_tail =
      let n = length file - trailer_size t in
      ap (drop n) file_parts ∙ drop_at (text ++ index) trailer n (omega (arith, front_length, length-file t ls))

  file_text : take (length text) file ≡ text
  unfolding file_of
  file_text = take-append_seam text (index ++ trailer)

  file_index : take (4 * length ls) (drop (length text) file) ≡ index
  unfolding file_of
  file_index = rw (drop-append_seam text (index ++ trailer)) (take_at index trailer (4 * length ls) (simp (length_index, length-starts)))

  start_is : start_by (tail_of t file) ≡ length text
  start_is = rw file_tail (start_trailer t sound (length text) (length ls) (run_parts t ls run).2)

  count_is : count_by t (tail_of t file) ≡ length ls
  count_is = rw file_tail (count_trailer t sound (length text) (length ls) (run_parts t ls run).1)

  file_lined : IsLined t file
  file_lined =
      rw (start_is, count_is, file_text, file_index)
      record { run = ls; text = refl; each = (run_parts t ls run).0; starts = offsets_index (starts_from 0 ls) (starts_in 0 4294967295 ls (omega (arith, (run_parts t ls run).2))) }

  pub opens_file : open_of t file ≡ Ok (record { lines = length ls; start = length text })
  opens_file =
      let v : IsVersioned t file = (omega (arith, length-file t ls), rw file_tail (version_trailer t sound (length text) (length ls))) in
      let m : IsMeasured t file = rw (start_is, count_is) (sym (length-file t ls)) in
      day_is t file v m file_lined ∙ rw (start_is, count_is)

  pub lines_file : lines_in t file ≡ ls
  unfolding lines_by
  lines_file = rw (opens_file, file_text) (texts_lines ls (run_parts t ls run).0).0

-- ---- A FILE THAT OPENS IS THE FILE OF ITS LINES, and these may be kept

module _ (t : Trailer) (sound : Sound t) (file : List ℕ) (bytes : is_bytes file ≡ true) (d : IsDay t file) where
  abbrev ls : List (List ℕ)
  ls = d.lined.run

  abbrev start : ℕ
  start = start_by (tail_of t file)

  abbrev count : ℕ
  count = count_by t (tail_of t file)

  abbrev before : List ℕ
  before = take (4 * count) (drop start file)

  pub day_lines : lines_in t file ≡ ls
  unfolding lines_by
  day_lines = rw (day_is t file d.versioned d.measured d.lined) (lines_run d.lined)

  text_length : length (lines_text ls) ≡ start
  text_length = ap length (sym d.lined.text) ∙ length-take-le start file (omega (arith, d.measured))

  before_length : length before ≡ 4 * count
  before_length = length-take-le (4 * count) (drop start file) (omega (arith, length-drop start file, d.measured))

  before_index : before ≡ index_of (starts_from 0 ls)
  before_index = sym (index_offsets before count (bytes_take (4 * count) (drop start file) (bytes_drop start file bytes)) before_length) ∙ ap index_of d.lined.starts

  how_many_lem : length ls ≡ count
  how_many_lem = omega (arith, length-starts 0 ls, ap length d.lined.starts, length-offsets before, before_length)

  rest_trailer : drop (start + 4 * count) file ≡ trailer_of t (length (lines_text ls)) (length ls)
  rest_trailer =
      let from = length file - trailer_size t in
      let e : start + 4 * count ≡ from = omega (arith, d.measured) in
      rw (text_length, how_many_lem, e) (sym (trailer_tail t sound (drop from file) (length-drop from file ∙ omega (arith, d.measured)) (bytes_drop from file bytes) d.versioned.1))

  pub day_file : file ≡ file_of t ls
  unfolding file_of
  day_file =
      rw (← rest_trailer, ← before_index, ← d.lined.text, ← (drop-drop (4 * count) start file), take-append-drop (4 * count) (drop start file))
      (sym (take-append-drop start file))

  pub day_run : is_run t ls ≡ true
  day_run =
      let tail = tail_of t file in
      let b = bytes_drop (length file - trailer_size t) file bytes in
      let few : length ls ≤ t.most = omega (arith, how_many_lem, number_below t.wide (drop 4 tail) (bytes_drop 4 tail b), sound.2) in
      let near : length (lines_text ls) < too_far = omega (arith, text_length, number_below 4 tail b) in
      parts_run t ls d.lined.each few near

-- so what opens has one run of lines, and that has one file
pub record IsFile (t : Trailer) (file : List ℕ) (c : Contents) : Type 0 where
  pub run : is_run t (lines_in t file) ≡ true
  pub whole : file ≡ file_of t (lines_in t file)
  pub lines : c.lines ≡ length (lines_in t file)
  pub start : c.start ≡ length (lines_text (lines_in t file))

module _ (t : Trailer) (sound : Sound t) where
  pub opened_file : (file : List ℕ) → is_bytes file ≡ true → (c : Contents) → open_of t file ≡ Ok c → IsFile t file c
  opened_file file b c e =
      let d = is_day t file c e in
      let ls = lines_in t file in
      let l : ls ≡ d.lined.run = day_lines t sound file b d in
      let run : is_run t ls ≡ true = rw l (day_run t sound file b d) in
      let whole : file ≡ file_of t ls = day_file t sound file b d ∙ ap (file_of t) (sym l) in
      let o : Ok c ≡ Ok (record { lines = length ls; start = length (lines_text ls) }) = sym e ∙ ap (open_of t) whole ∙ opens_file t sound ls run in
      let z : c ≡ record { lines = length ls; start = length (lines_text ls) } = cc in
      record { run = run; whole = whole; lines = ap (λ (x : Contents). x.lines) z; start = ap (λ (x : Contents). x.start) z }

  -- TWO DIFFERENT FILES NEVER GIVE THE SAME LINES
  pub same_file : (file other : List ℕ) → is_bytes file ≡ true → is_bytes other ≡ true → (c d : Contents) → open_of t file ≡ Ok c → open_of t other ≡ Ok d
      → lines_in t file ≡ lines_in t other → file ≡ other
  same_file file other b b' c d e e' same = (opened_file file b c e).whole ∙ ap (file_of t) same ∙ sym (opened_file other b' d e').whole

  -- TWO RUNS OF LINES NEVER HAVE THE SAME FILE
  pub one_run : (ls ms : List (List ℕ)) → is_run t ls ≡ true → is_run t ms ≡ true → file_of t ls ≡ file_of t ms → ls ≡ ms
  one_run ls ms r r' same = sym (lines_file t sound ls r) ∙ ap (lines_in t) same ∙ lines_file t sound ms r'

-- what does not open has no lines
pub no_lines : (o : Result Contents NotOpened) (file : List ℕ) → (open_number o ≡ 0 → ⊥) → lines_by o file ≡ []
unfolding open_number lines_by
no_lines (Ok c) _ n = absurd (n refl)
no_lines (Err TooShort) _ n = refl
no_lines (Err UnknownVersion) _ n = refl
no_lines (Err WrongLength) _ n = refl
no_lines (Err WrongLines) _ n = refl

-- ---- at its offset a line stands, and its offset stands in the index

module _ (t : Trailer) (ls : List (List ℕ)) (k : ℕ) (there : k < length ls) where
  abbrev line : List ℕ
  line = get_or ls k []

  abbrev offset : ℕ
  offset = get_or (starts_from 0 ls) k 0

  pub line_there : take (length line + 1) (drop offset (file_of t ls)) ≡ line ++ 10 ∷ []
  unfolding file_of
  line_there =
      let rest = index_of (starts_from 0 ls) ++ trailer_of t (length (lines_text ls)) (length ls) in
      rw (from_line ls k rest there) (take-append-add line (10 ∷ (lines_text (drop (suc k) ls) ++ rest)) 1)

  pub offset_there : is_run t ls ≡ true → value 256 4 (drop (length (lines_text ls) + 4 * k) (file_of t ls)) ≡ offset
  unfolding file_of
  offset_there run =
      let os = starts_from 0 ls in
      let trailer = trailer_of t (length (lines_text ls)) (length ls) in
      rw (drop-append-add (lines_text ls) (index_of os ++ trailer) (4 * k), index_at os k trailer (omega (arith, length-starts 0 ls)))
      (value_front 256 4 (places 256 4 offset) (index_of (drop (suc k) os) ++ trailer) (length-places 256 4 offset)
      ∙ number_of 4 offset (omega (arith, start_at 0 ls k there, (run_parts t ls run).2, ap length (lines_at ls k there), length-append (lines_text (take k ls)) (line ++ 10 ∷ lines_text (drop (suc k) ls)))))
