-- THE THEOREMS OF THE DAY FILE, about the promises (`Post`) of `open`, `line`, `keep_line` and `end_file` as they stand in the source. The numbers in the
-- statements are document 02's. Assumes nothing.
use Rattle.std.specs.Prelude.{Ok}
use mathlib.Core.Path.{◌≡◌, refl, sym, ap, ◌∙◌}
use mathlib.Core.Bool.{true, false}
use mathlib.Core.List.{List, [], ◌∷◌, ◌++◌}
use mathlib.Core.Logic.{◌⊎◌, inl, inr, ◌↔◌}
use Prim.Native.Nat.{ℕ, zero, suc, ◌+◌, ◌*◌, ◌-◌, ◌≤◌, ◌<◌}
use native.Mathlib.Omega.{arith}
use lib.ListN.{length, take, drop, get_or}
use lib.Seq.{take-append_seam, ext_get_or}
use Rattle.shapes.specs.Cut.{has}
use Rattle.shapes.specs.Picture.{starts_at}
use Rattle.dayfile.specs.DayFile.{version1, trailer_size, trailer_of, lines_text, starts_from, index_of, file_of, is_run, is_bytes}
use Rattle.dayfile.specs.Opening.{open_of, open_number, lines_in, numbered}
use Rattle.dayfile.specs.Keeping.{kept_number, ended_number}
use Rattle.dayfile.specs.Cases.{OpenCase, KeepCase, EndCase}
use Rattle.dayfile.specs.Run.{Keeps, Ends, Run}
use Rattle.dayfile.specs.declared.Contents.{Contents}
use Rattle.dayfile.specs.declared.Place.{Place}
use Rattle.dayfile.proofs.«open».Reads as opening
use Rattle.dayfile.proofs.line.Reads as line
use Rattle.dayfile.proofs.keep_line.Reads as keep-line
use Rattle.dayfile.proofs.ending.end_file.Reads as end-file
use Rattle.dayfile.proofs.Bytes.{four_at, two_at, four_at_lem}
use Rattle.dayfile.proofs.Files.{kept_line, line_kept, each_at, each_all, numbered_at, numbered_none, length-file, run_parts, parts_run, sound_1, start_bytes, count_bytes, version_bytes}
use Rattle.dayfile.proofs.Opens.{open_case, case_open, contents, is_day, is_told, opens_file, lines_file, opened_file, same_file, one_run, no_lines, line_there, offset_there}
use Rattle.dayfile.proofs.KeptCases.{keep_case, case_keep, end_case, case_end, refused_keeps, refused_ends}
use Rattle.dayfile.proofs.KeptLines.{are_kept, kept_file, kept_size, never_13, never_24}

-- ---- the runs of `specs/Run` are made of these promises

pub keep_promise : (κs : _) (a : _) (r : _) (s : _) → keep-line.Post κs a r s
    → Keeps 65535 a.0.now a.1.0.now a.1.1.0.now a.1.1.1.0 r s.1.0.now s.1.1.0.now
keep_promise κs a r s p = (p.0, p.1.0, p.1.1)

pub end_promise : (κs : _) (a : _) (r : _) (s : _) → end-file.Post κs a r s → Ends version1 a.0.now a.1.0.now a.1.1.0 r s.0.now
end_promise κs a r s p = p

-- ---- WHICH RUNS OF LINES MAY BE KEPT: "of at most 2,048 bytes without a line feed ..; at most 65,535 of them, and the index starts below 4,294,967,296"

pub which_runs : (ls : List (List ℕ)) → is_run version1 ls ≡ true
    ↔ (((k : ℕ) → k < length ls → (length (get_or ls k []) ≤ 2048) × (has 10 (get_or ls k []) ≡ false)) × (length ls ≤ 65535) × (length (lines_text ls) < 4294967296))
which_runs ls = (
  λ run. let p = run_parts version1 ls run in (λ k h. kept_line (get_or ls k []) (each_at ls p.0 k h), p.1, p.2),
  λ q. parts_run version1 ls (each_all ls (λ k h. line_kept (get_or ls k []) (q.0 k h).0 (q.0 k h).1)) q.1 q.2,
)

-- ---- A FILE OPENS EXACTLY IF IT IS THE FILE OF A RUN OF LINES THAT MAY BE KEPT

pub opens_only_files : (κs : _) (a : _) (r : _) (s : _) → opening.Post κs a r s → is_bytes a.0.now ≡ true → (c : Contents) → r ≡ Ok c
    → (ls : List (List ℕ)) × (is_run version1 ls ≡ true) × (a.0.now ≡ file_of version1 ls) × (c.lines ≡ length ls) × (c.start ≡ length (lines_text ls))
opens_only_files κs a r s p b c e =
    let f = opened_file version1 sound_1 a.0.now b c (sym p ∙ e) in
    (lines_in version1 a.0.now, f.run, f.whole, f.lines, f.start)

pub opens_each_file : (κs : _) (a : _) (r : _) (s : _) → opening.Post κs a r s → (ls : List (List ℕ)) → is_run version1 ls ≡ true → a.0.now ≡ file_of version1 ls
    → r ≡ Ok (record { lines = length ls; start = length (lines_text ls) })
opens_each_file κs a r s p ls run e = p ∙ rw e (opens_file version1 sound_1 ls run)

-- ---- AND THEN THE LINES HANDED BACK, ONE BY ONE, ARE THESE: the line with the number k + 1 is the k-th, and lies in the file after those before it

pub hands_back : (κs : _) (a : _) (r : _) (s : _) → line.Post κs a r s → (ls : List (List ℕ)) → is_run version1 ls ≡ true → a.0.now ≡ file_of version1 ls
    → (k : ℕ) → k < length ls → a.1.0 ≡ k + 1 → (r.now ≡ get_or ls k []) × (r.ref_ptr ≡ starts_at a.0.ref_ptr (length (lines_text (take k ls))))
hands_back κs a r s p ls run e k h n =
    let l : lines_in version1 a.0.now ≡ ls = rw e (lines_file version1 sound_1 ls run) in
    let m = numbered_at ls k a.1.0 h n in
    (p.0 ∙ rw l m.0, p.1 ∙ rw (l, m.1))

-- of a number that no line has, an empty part at the start
pub hands_nothing : (κs : _) (a : _) (r : _) (s : _) → line.Post κs a r s → (ls : List (List ℕ)) → is_run version1 ls ≡ true → a.0.now ≡ file_of version1 ls
    → (a.1.0 ≡ 0) ⊎ (length ls < a.1.0) → (r.now ≡ []) × (r.ref_ptr ≡ starts_at a.0.ref_ptr 0)
hands_nothing κs a r s p ls run e n =
    let l : lines_in version1 a.0.now ≡ ls = rw e (lines_file version1 sound_1 ls run) in
    let m = numbered_none ls a.1.0 n in
    (p.0 ∙ rw l m.0, p.1 ∙ rw (l, m.1))

none_has : (n : ℕ) → (n ≡ 0) ⊎ (0 < n)
none_has zero = inl refl
none_has (suc n) = inr (omega arith)

-- and so of bytes that are no day file, whatever the number
pub hands_nothing_of_no_file : (κs : _) (a : _) (r : _) (s : _) → opening.Post κs a r s → (open_number r ≡ 0 → ⊥)
    → (κs' : _) (b : _) (q : _) (u : _) → line.Post κs' b q u → b.0.now ≡ a.0.now → (q.now ≡ []) × (q.ref_ptr ≡ starts_at b.0.ref_ptr 0)
hands_nothing_of_no_file κs a r s p n κs' b q u w e =
    let l : lines_in version1 b.0.now ≡ [] = rw e (no_lines (open_of version1 a.0.now) a.0.now (rw (← p) n)) in
    let m = numbered_none [] b.1.0 (none_has b.1.0) in
    (w.0 ∙ rw l m.0, w.1 ∙ rw (l, m.1))

-- ---- TWO DIFFERENT FILES NEVER GIVE THE SAME LINES, AND TWO RUNS OF LINES NEVER HAVE THE SAME FILE

-- two files that open, with as many lines, of which `line` hands back the same for every number
pub two_files : (κs : _) (a : _) (r : _) (s : _) → opening.Post κs a r s → is_bytes a.0.now ≡ true → (c : Contents) → r ≡ Ok c
    → (κs' : _) (b : _) (r' : _) (s' : _) → opening.Post κs' b r' s' → is_bytes b.0.now ≡ true → (d : Contents) → r' ≡ Ok d
    → c.lines ≡ d.lines → ((n : ℕ) → 0 < n → n ≤ c.lines → numbered (lines_in version1 a.0.now) n ≡ numbered (lines_in version1 b.0.now) n)
    → a.0.now ≡ b.0.now
two_files κs a r s p x c e κs' b r' s' q y d e' many each =
    let f = opened_file version1 sound_1 a.0.now x c (sym p ∙ e) in
    let g = opened_file version1 sound_1 b.0.now y d (sym q ∙ e') in
    let ls = lines_in version1 a.0.now in
    let ms = lines_in version1 b.0.now in
    let size : length ls ≡ length ms = omega (arith, f.lines, g.lines) in
    let same : ls ≡ ms =
    ext_get_or [] ls ms size (λ k h. sym (numbered_at ls k (k + 1) h refl).0 ∙ each (k + 1) (omega arith) (omega (arith, f.lines)) ∙ (numbered_at ms k (k + 1) (omega arith) refl).0) in
    same_file version1 sound_1 a.0.now b.0.now x y c d (sym p ∙ e) (sym q ∙ e') same

pub two_runs : (ls ms : List (List ℕ)) → is_run version1 ls ≡ true → is_run version1 ms ≡ true → file_of version1 ls ≡ file_of version1 ms → ls ≡ ms
two_runs = one_run version1 sound_1

-- ---- READING WHAT WAS WRITTEN GIVES THE LINES: any calls of `keep_line`, taken or refused, from an empty buffer and an empty run on, and then an end

module _ {out offsets : List ℕ} {p : Place} {ls : List (List ℕ)} (run : Run 65535 out offsets p ls) where
  -- never answers 13 or 24
  pub ends_well : (κs : _) (a : _) (r : _) (s : _) → end-file.Post κs a r s → a.0.now ≡ out → a.1.0.now ≡ offsets → a.1.1.0 ≡ p
      → (ended_number r ≡ 13 → ⊥) × (ended_number r ≡ 24 → ⊥)
  ends_well κs a r s w x y z =
      let e : Ends version1 out offsets p r s.0.now = rw (← x, ← y, ← z) w in
      (never_13 version1 run r s.0.now e, never_24 version1 run r s.0.now e)

  -- and where it is taken, the bytes it tells of are the file of the lines that were taken
  module _ (κs : _) (a : _) (r : _) (s : _) (w : end-file.Post κs a r s) (x : a.0.now ≡ out) (y : a.1.0.now ≡ offsets) (z : a.1.1.0 ≡ p) (n : ℕ) (e : r ≡ Ok n) where
    ends : Ends version1 out offsets p (Ok n) s.0.now
    ends = rw (← x, ← y, ← z, ← e) w

    pub writes_the_file : (take n s.0.now ≡ file_of version1 ls) × (n ≡ length (file_of version1 ls)) × (is_run version1 ls ≡ true)
    writes_the_file = (kept_file version1 run sound_1 n s.0.now ends, kept_size version1 run sound_1 n s.0.now ends, (are_kept version1 run).run)

    pub opens_again : (κs' : _) (b : _) (q : _) (u : _) → opening.Post κs' b q u → b.0.now ≡ take n s.0.now
        → q ≡ Ok (record { lines = length ls; start = length (lines_text ls) })
    opens_again κs' b q u o t = opens_each_file κs' b q u o ls writes_the_file.2 (t ∙ writes_the_file.0)

    pub reads_again : (κs' : _) (b : _) (q : _) (u : _) → line.Post κs' b q u → b.0.now ≡ take n s.0.now → (k : ℕ) → k < length ls → b.1.0 ≡ k + 1
        → q.now ≡ get_or ls k []
    reads_again κs' b q u o t k h m = (hands_back κs' b q u o ls writes_the_file.2 (t ∙ writes_the_file.0) k h m).0

-- ---- EACH NUMBER EXACTLY IN ITS CASE

pub open_in_case : (κs : _) (a : _) (r : _) (s : _) → opening.Post κs a r s → OpenCase (record { wide = 2; version = 1; most = 65535 }) a.0.now (open_number r)
open_in_case κs a r s p = rw p (open_case version1 a.0.now)

pub open_by_case : (κs : _) (a : _) (r : _) (s : _) → opening.Post κs a r s → (n : ℕ) → OpenCase (record { wide = 2; version = 1; most = 65535 }) a.0.now n → n ≡ open_number r
open_by_case κs a r s p n c = case_open version1 a.0.now c ∙ ap open_number (sym p)

pub keep_in_case : (κs : _) (a : _) (r : _) (s : _) → keep-line.Post κs a r s
    → KeepCase 65535 0 a.0.now a.1.0.now a.1.1.0.now a.1.1.1.0 (kept_number r)
keep_in_case κs a r s p = rw p.0 (keep_case 65535 0 a.0.now a.1.0.now a.1.1.0.now a.1.1.1.0)

pub keep_by_case : (κs : _) (a : _) (r : _) (s : _) → keep-line.Post κs a r s
    → (n : ℕ) → KeepCase 65535 0 a.0.now a.1.0.now a.1.1.0.now a.1.1.1.0 n → n ≡ kept_number r
keep_by_case κs a r s p n c = case_keep 65535 0 a.0.now a.1.0.now a.1.1.0.now a.1.1.1.0 c ∙ ap kept_number (sym p.0)

pub end_in_case : (κs : _) (a : _) (r : _) (s : _) → end-file.Post κs a r s
    → EndCase (record { wide = 2; version = 1; most = 65535 }) a.0.now a.1.0.now a.1.1.0 (ended_number r)
end_in_case κs a r s p = rw p.0 (end_case version1 a.0.now a.1.0.now a.1.1.0)

pub end_by_case : (κs : _) (a : _) (r : _) (s : _) → end-file.Post κs a r s
    → (n : ℕ) → EndCase (record { wide = 2; version = 1; most = 65535 }) a.0.now a.1.0.now a.1.1.0 n → n ≡ ended_number r
end_by_case κs a r s p n c = case_end version1 a.0.now a.1.0.now a.1.1.0 c ∙ ap ended_number (sym p.0)

-- ---- IN BYTES: "start of index (4), number of lines (2), version 1 (2), all high byte first", and "four-byte offsets of the lines' first bytes"

pub opened_in_bytes : (κs : _) (a : _) (r : _) (s : _) → opening.Post κs a r s → (c : Contents) → r ≡ Ok c
    → (8 ≤ length a.0.now) × (two_at a.0.now (length a.0.now - 2) ≡ 1) × (c.start ≡ four_at a.0.now (length a.0.now - 8))
    × (c.lines ≡ two_at a.0.now (length a.0.now - 4)) × (c.start + 4 * c.lines + 8 ≡ length a.0.now)
unfolding trailer_size
opened_in_bytes κs a r s p c e =
    let file = a.0.now in
    let d = is_day version1 file c (sym p ∙ e) in
    let told = is_told version1 file c (sym p ∙ e) in
    let long : 8 ≤ length file = d.versioned.0 in
    rw told (long, sym (version_bytes file long) ∙ d.versioned.1, start_bytes file, count_bytes file long, d.measured)

-- the file of a run: at each offset in its index stands the line, with its line feed
pub file_in_bytes : (ls : List (List ℕ)) → is_run version1 ls ≡ true → (file : List ℕ) → file ≡ file_of version1 ls
    → (four_at file (length file - 8) ≡ length (lines_text ls)) × (two_at file (length file - 4) ≡ length ls) × (two_at file (length file - 2) ≡ 1)
    × (length file ≡ length (lines_text ls) + 4 * length ls + 8) × (take (length (lines_text ls)) file ≡ lines_text ls)
    × ((k : ℕ) → k < length ls → take (length (get_or ls k []) + 1) (drop (four_at file (length (lines_text ls) + 4 * k)) file) ≡ get_or ls k [] ++ 10 ∷ [])
unfolding trailer_size file_of
file_in_bytes ls run file e =
    let c : Contents = record { lines = length ls; start = length (lines_text ls) } in
    let o : open_of version1 file ≡ Ok c = rw e (opens_file version1 sound_1 ls run) in
    let d = is_day version1 file c o in
    let told : c ≡ contents version1 file = is_told version1 file c o in
    let size : length file ≡ length (lines_text ls) + 4 * length ls + 8 = rw e (length-file version1 ls) in
    let long : 8 ≤ length file = omega arith in (
      sym (ap (λ (x : Contents). x.start) told ∙ start_bytes file),
      sym (ap (λ (x : Contents). x.lines) told ∙ count_bytes file long),
      sym (version_bytes file long) ∙ d.versioned.1,
      size,
      rw e (take-append_seam (lines_text ls) (index_of (starts_from 0 ls) ++ trailer_of version1 (length (lines_text ls)) (length ls))),
      λ k h. rw (← (four_at_lem file (length (lines_text ls) + 4 * k)), e, offset_there version1 ls k h run) (line_there version1 ls k h),
    )

-- ---- A REFUSED CALL WRITES NOTHING, in the buffer and in the run

pub keep_refused : (κs : _) (a : _) (r : _) (s : _) → keep-line.Post κs a r s → (kept_number r ≡ 0 → ⊥)
    → (s.1.0.now ≡ a.1.0.now) × (s.1.1.0.now ≡ a.1.1.0.now)
keep_refused κs a r s p n =
    let k = refused_keeps r 0 a.0.now a.1.0.now a.1.1.0.now a.1.1.1.0 n in
    (p.1.0 ∙ k.0, p.1.1 ∙ k.1)

pub end_refused : (κs : _) (a : _) (r : _) (s : _) → end-file.Post κs a r s → (ended_number r ≡ 0 → ⊥) → s.0.now ≡ a.0.now
end_refused κs a r s p n = p.1 ∙ refused_ends r version1 a.0.now a.1.0.now a.1.1.0 n
