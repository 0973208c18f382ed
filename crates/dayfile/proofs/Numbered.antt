-- The line with a number: found by its offset in the index of a file that opened, or none, an empty part at the start. Assumes nothing.
use Rattle.std.specs.Prelude.{Err, Ok}
use mathlib.Core.Path.{◌≡◌, refl, sym, ap, ◌∙◌}
use mathlib.Core.Bool.{true}
use mathlib.Core.List.{List, [], ◌∷◌, ◌++◌, append_assoc}
use Prim.Native.Nat.{ℕ, zero, suc, ◌+◌, ◌-◌, ◌*◌, ◌≤◌, ◌<◌}
use native.Mathlib.Omega.{arith}
use lib.ListN.{length, take, drop, get_or, length-append, length-drop, take-append-drop, get_or-eq_default}
use lib.Seq.{length-take-le, take_at}
use borrow.Author.Tests.{ne_eqb}
use Rattle.text.specs.Place.{value}
use Rattle.text.proofs.Logic.{and_left, and_right}
use Rattle.shapes.specs.Picture.{starts_at}
use Rattle.shapes.proofs.Laws.{part_part, at_front}
use Rattle.rules.specs.Frame.{line_feed}
use Rattle.dayfile.specs.DayFile.{trailer_size, lines_text, starts_from, may_keep, each_may_keep}
use Rattle.dayfile.specs.Opening.{offsets_in, open_of, lines_by, lines_in, numbered, place_of}
use Rattle.dayfile.specs.Walk.{line_size}
use Rattle.dayfile.specs.Cases.{AreLines}
use Rattle.dayfile.specs.declared.Trailer.{Trailer}
use Rattle.dayfile.specs.declared.Contents.{Contents}
use Rattle.dayfile.proofs.Bytes.{value_take, length-offsets}
use Rattle.dayfile.proofs.Files.{length-starts, start_at, lines_at, from_line, lines_run}
use Rattle.dayfile.proofs.Opens.{is_day, is_told}
use Rattle.dayfile.proofs.Walks.{number_at, size_of}
use Rattle.dayfile.proofs.Opening.{front_long, front_number}
use Rattle.dayfile.specs.declared.NotOpened.TheVariants.{TooShort, UnknownVersion, WrongLength, WrongLines}
use Rattle.dayfile.specs.declared.NotOpened.{NotOpened}

-- each of lines that may be kept
each_at : (ls : List (List ℕ)) (k : ℕ) → k < length ls → each_may_keep ls ≡ true → may_keep (get_or ls k []) ≡ true
unfolding each_may_keep
each_at [] k h e = absurd (omega arith)
each_at (l ∷ ls) zero h e = and_left (may_keep l) (each_may_keep ls) e
each_at (l ∷ ls) (suc k) h e = each_at ls k (omega arith) (and_right (may_keep l) (each_may_keep ls) e)

-- ---- a file that opened

pub record IsOpen (t : Trailer) (file : List ℕ) (day : Contents) : Type 0 where
  pub told : open_of t file ≡ Ok day

module _ {t : Trailer} {file : List ℕ} {day : Contents} (o : IsOpen t file day) where
  abbrev index : List ℕ
  index = take (4 * day.lines) (drop day.start file)

  size : day.start + 4 * day.lines + trailer_size t ≡ length file
  size = rw (is_told t file day o.told) (is_day t file day o.told).measured

  pub lined : AreLines (take day.start file) (offsets_in index)
  lined = rw (is_told t file day o.told) (is_day t file day o.told).lined

  index_long : length index ≡ 4 * day.lines
  index_long = length-take-le (4 * day.lines) (drop day.start file) (rw length-drop (omega (arith, size)))

  how_many_lem : length lined.run ≡ day.lines
  how_many_lem = omega (arith, length-starts 0 lined.run, ap length lined.starts, length-offsets index, index_long)

  text_long : length (lines_text lined.run) ≡ day.start
  text_long = ap length (sym lined.text) ∙ length-take-le day.start file (omega (arith, size))

  all_lines : lines_in t file ≡ lined.run
  unfolding lines_by
  all_lines = rw o.told (lines_run lined)

-- ---- where there is no line with a number: an empty part at the start

-- the answer, of a text that lies at p
abbrev pub AtFront : ℕ × ℕ → List (List ℕ) → ℕ → Type 0
AtFront p ls n = ([] ≡ numbered ls n) × (p ≡ starts_at p (place_of ls n))

past : (p : ℕ × ℕ) (ls : List (List ℕ)) (n : ℕ) → length ls < n → AtFront p ls n
unfolding numbered place_of
past p ls n h =
    let k : length ls ≤ n - 1 = omega arith in
    let j : length (starts_from 0 ls) ≤ n - 1 = omega (arith, length-starts 0 ls) in
    (rw (ne_eqb n 0 (λ z. omega arith), get_or-eq_default ls [] k), at_front p (sym (get_or-eq_default (starts_from 0 ls) 0 j)))

first_start : (ls : List (List ℕ)) → get_or (starts_from 0 ls) 0 0 ≡ 0
unfolding starts_from
first_start [] = refl
first_start (l ∷ ls) = refl

pub number_0 : {p : ℕ × ℕ} (ls : List (List ℕ)) (n : ℕ) → n ≡ 0 → AtFront p ls n
unfolding numbered place_of
number_0 {p = p} ls n e = rw e (refl, at_front p (sym (first_start ls)))

pub past_last : {p : ℕ × ℕ} {t : Trailer} {file : List ℕ} {day : Contents} (o : IsOpen t file day) (n : ℕ) → day.lines < n → AtFront p (lines_in t file) n
past_last {p = p} o n h = rw (all_lines o) (past p (lined o).run n (omega (arith, how_many_lem o)))

no_lines : (p : ℕ × ℕ) (n : ℕ) → AtFront p [] n
no_lines p zero = number_0 [] 0 refl
no_lines p (suc n) = past p [] (suc n) (omega arith)

none_of : (e : NotOpened) (file : List ℕ) → lines_by (Err e) file ≡ []
unfolding lines_by
none_of TooShort file = refl
none_of UnknownVersion file = refl
none_of WrongLength file = refl
none_of WrongLines file = refl

pub not_opened : {p : ℕ × ℕ} {e : NotOpened} (t : Trailer) (file : List ℕ) (n : ℕ) → Err e ≡ open_of t file → AtFront p (lines_in t file) n
not_opened {p = p} {e = e} t file n is = rw (← is, none_of e file) (no_lines p n)

-- ---- the number of a line that there is

pub record Has (t : Trailer) (file : List ℕ) (day : Contents) (number : ℕ) : Type 0 where
  pub opened : IsOpen t file day
  pub some : 0 < number
  pub there : number ≤ day.lines

module _ {t : Trailer} {file : List ℕ} {day : Contents} {number : ℕ} (v : Has t file day number) where
  abbrev ls : List (List ℕ)
  ls = (lined v.opened).run

  abbrev line : List ℕ
  line = get_or ls (number - 1) []

  abbrev from : ℕ
  from = get_or (starts_from 0 ls) (number - 1) 0

  -- the text of the lines after it
  abbrev after : List ℕ
  after = lines_text (drop (suc (number - 1)) ls)

  has_line : number - 1 < length ls
  has_line = omega (arith, how_many_lem v.opened)

  -- its offset in the index
  pub offset_inside : day.start + 4 * (number - 1) + 4 ≤ length file
  offset_inside = omega (arith, size v.opened)

  abbrev at : ℕ
  at = day.start + 4 * (number - 1)

  abbrev four : List ℕ
  four = take (at + 4 - at) (drop at file)

  pub offset_few : length four ≤ 4
  offset_few = omega (arith, front_long (at + 4 - at) 4 (drop at file) (omega arith) (rw length-drop (omega (arith, offset_inside))))

  -- the place that it says, and the line there
  module _ (n : ℕ) (read : n ≡ value 256 (length four) four) where
    is_from : n ≡ from
    is_from =
        read
        ∙ front_number (at + 4 - at) 4 (drop at file) (omega arith) (rw length-drop (omega (arith, offset_inside)))
        ∙ sym (value_take 256 4 (drop at file))
        ∙ ap (value 256 4) (sym (part_part day.start (4 * day.lines) (4 * (number - 1)) 4 file (omega arith)))
        ∙ sym (number_at (index v.opened) (number - 1) (omega (arith, index_long v.opened)))
        ∙ ap (λ (os : List ℕ). get_or os (number - 1) 0) (lined v.opened).starts

    bytes_there : drop n file ≡ (line ++ line_feed ∷ after) ++ drop day.start file
    bytes_there =
        let e : file ≡ lines_text ls ++ drop day.start file = sym (take-append-drop day.start file) ∙ ap (λ (x : List ℕ). x ++ drop day.start file) (lined v.opened).text in
        ap (drop n) e ∙ rw (is_from, append_assoc) (from_line ls (number - 1) (drop day.start file) has_line)

    lines_left : n + length (line ++ line_feed ∷ after) ≡ day.start
    lines_left =
        omega (arith, is_from, start_at 0 ls (number - 1) has_line, text_long v.opened, ap length (lines_at ls (number - 1) has_line), length-append (lines_text (take (number - 1) ls)) (line ++ line_feed ∷ after))

    pub before_index : n ≤ day.start
    before_index = omega (arith, lines_left)

    pub place_told : n ≡ place_of (lines_in t file) number
    unfolding place_of
    place_told = is_from ∙ rw (all_lines v.opened)

    module _ (m : ℕ) (sized : m ≡ line_size (take (day.start - n) (drop n file))) where
      is_size : m ≡ length line + 1
      is_size =
          let e : take (day.start - n) (drop n file) ≡ line ++ line_feed ∷ after =
          ap (take (day.start - n)) bytes_there ∙ take_at (line ++ line_feed ∷ after) (drop day.start file) (day.start - n) (omega (arith, lines_left)) in
          sized ∙ ap line_size e ∙ size_of line after (each_at ls (number - 1) has_line (lined v.opened).each)

      pub line_inside : (1 ≤ m) × (n + m ≤ day.start)
      line_inside = (omega (arith, is_size), omega (arith, is_size, lines_left, length-append line (line_feed ∷ after)))

      pub line_told : take (n + m - 1 - n) (drop n file) ≡ numbered (lines_in t file) number
      unfolding numbered
      line_told =
          let e : drop n file ≡ line ++ (line_feed ∷ after ++ drop day.start file) = bytes_there ∙ append_assoc line (line_feed ∷ after) (drop day.start file) in
          ap (take (n + m - 1 - n)) e
          ∙ take_at line (line_feed ∷ after ++ drop day.start file) (n + m - 1 - n) (omega (arith, is_size))
          ∙ rw (ne_eqb number 0 (λ z. omega arith), all_lines v.opened)
