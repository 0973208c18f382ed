-- The laws of a pass over a day file's windows: where it begins, what one window of each brings, when it ends, and what it says then. Assumes nothing.
use Rattle.std.specs.Prelude.{Err, Ok}
use mathlib.Core.Path.{◌≡◌, refl, sym, ◌∙◌}
use mathlib.Core.Bool.{Bool, true, false, cond, ◌&&◌, not}
use mathlib.Core.List.{List, ◌++◌}
use mathlib.Core.Logic.{◌⊎◌, inl, inr, ⊎_elim}
use Prim.Native.Nat.{ℕ, ◌+◌, ◌*◌, ◌-◌, ◌^◌, ◌≤◌, ◌<◌, min}
use native.Mathlib.Numerals.{lt_of_le_of_ne}
use native.Mathlib.Omega.{arith}
use lib.Dec.{eqb, leb, ltb}
use lib.ListN.{length, take, drop}
use lib.Seq.{length-take-le, length_front}
use borrow.Author.Tests.{eqb-true, eqb-false, eq-eqb, ne_eqb, ltb-true, ltb-false, leb-true, leb-false, not-true}
use Rattle.text.proofs.Logic.{and_left, and_right, true_false}
use Rattle.dayfile.specs.DayFile.{version1}
use Rattle.dayfile.specs.Opening.{open_of}
use Rattle.dayfile.specs.Windows.{Swept, Wide, Sweeps}
use Rattle.dayfile.specs.declared.Contents.{Contents}
use Rattle.dayfile.specs.declared.walking.Sweep.{Sweep}
use Rattle.dayfile.proofs.Files.{each_append}
use Rattle.dayfile.proofs.Windows.{file_size, swept_first, swept_size, swept_all}
use Rattle.dayfile.proofs.Patches.{patched, patched_size, patched_swept, patched_lines, patched_index}
use Rattle.keeper.specs.Work.{PutAway}
use Rattle.keeper.specs.Lists.{LinesPiece, AfterLines, Puts, Judged, Told, Passing, unread_of, Judges, Turns, goes_on, Passed, verdict_of}
use Rattle.keeper.specs.declared.shelf.Shelf.{Shelf}
use Rattle.keeper.specs.declared.pass.Pass.{Pass}
use Rattle.dayfile.specs.declared.NotOpened.TheVariants.{WrongLines}

-- ---- what a pass says

module _ (c : Contents) (p : Pass) where
  pub too_few : (p.sweep.lines ≡ c.lines → ⊥) → Err WrongLines ≡ verdict_of c p
  unfolding verdict_of
  too_few n = rw (ne_eqb p.sweep.lines c.lines n)

  module _ (e : p.sweep.lines ≡ c.lines) where
    pub last_told : verdict_of c p ≡ cond (eqb p.sweep.at c.start) (Ok c) (Err WrongLines)
    unfolding verdict_of
    last_told = rw (eq-eqb p.sweep.lines c.lines e)

    pub other_end : (p.sweep.at ≡ c.start → ⊥) → Err WrongLines ≡ verdict_of c p
    other_end n = sym (last_told ∙ rw (ne_eqb p.sweep.at c.start n))

    pub same_end : p.sweep.at ≡ c.start → Ok c ≡ verdict_of c p
    same_end q = sym (last_told ∙ rw (eq-eqb p.sweep.at c.start q))

  -- it says so only at the last offset, where the lines end at the index
  pub day_end : verdict_of c p ≡ Ok c → (p.sweep.lines ≡ c.lines) × (p.sweep.at ≡ c.start)
  unfolding verdict_of
  day_end e = go (eqb p.sweep.lines c.lines) refl (eqb p.sweep.at c.start) refl
    where
      go : (a : Bool) → eqb p.sweep.lines c.lines ≡ a → (b : Bool) → eqb p.sweep.at c.start ≡ b → (p.sweep.lines ≡ c.lines) × (p.sweep.at ≡ c.start)
      go true q true r = (eqb-true p.sweep.lines c.lines q, eqb-true p.sweep.at c.start r)
      go true q false r = let z : (Err WrongLines) ≡ Ok c = rw (q, r) at e in ((cc), (cc))
      go false q b r = let z : (Err WrongLines) ≡ Ok c = rw q at e in ((cc), (cc))

-- ---- whether it goes on

module _ (c : Contents) (before : ℕ) (p : Pass) where
  pub not_read : p.read ≡ false → false ≡ goes_on c before p
  unfolding goes_on
  not_read e = rw e

  module _ (read : p.read ≡ true) where
    pub not_live : p.shelf.live ≡ false → false ≡ goes_on c before p
    unfolding goes_on
    not_live e = rw (read, e)

    module _ (live : p.shelf.live ≡ true) where
      pub no_further : p.sweep.lines ≡ before → false ≡ goes_on c before p
      unfolding goes_on
      no_further e = rw (read, live, eq-eqb p.sweep.lines before e)

      pub further : (p.sweep.lines ≡ before → ⊥) → ltb p.sweep.lines c.lines ≡ goes_on c before p
      unfolding goes_on
      further n = rw (read, live, ne_eqb p.sweep.lines before n)

module _ (c : Contents) (before : ℕ) (p : Pass) where
  pub record GoesOn : Type 0 where
    pub read : p.read ≡ true
    pub live : p.shelf.live ≡ true
    pub further : p.sweep.lines ≡ before → ⊥
    pub short : p.sweep.lines < c.lines

  pub goes_on_lem : goes_on c before p ≡ true → GoesOn
  unfolding goes_on
  goes_on_lem e =
      let a = p.read in
      let b = p.shelf.live in
      let d = not (eqb p.sweep.lines before) in
      let f = ltb p.sweep.lines c.lines in
      let r = and_right a (b && (d && f)) e in
      let s = and_right b (d && f) r in
      record {
        read = and_left a (b && (d && f)) e;
        live = and_left b (d && f) r;
        further = eqb-false p.sweep.lines before (not-true (eqb p.sweep.lines before) (and_left d f s));
        short = ltb-true p.sweep.lines c.lines (and_right d f s);
      }

  pub goes_no_further : goes_on c before p ≡ false → p.read ≡ true → p.shelf.live ≡ true → (p.sweep.lines ≡ before) ⊎ (c.lines ≤ p.sweep.lines)
  unfolding goes_on
  goes_no_further e r l = go (eqb p.sweep.lines before) refl
    where
      go : (b : Bool) → eqb p.sweep.lines before ≡ b → (p.sweep.lines ≡ before) ⊎ (c.lines ≤ p.sweep.lines)
      go true q = inl (eqb-true p.sweep.lines before q)
      go false q = inr (ltb-false p.sweep.lines c.lines (rw (r, l, q) at e))

-- ---- what is put away

pub no_put : (writes : Bool) (s : Shelf) (size : ℕ) → writes ≡ false → Puts writes s size s
no_put writes s size e = record { still = λ q. refl; away = λ q. true_false q e }

pub one_put : (writes : Bool) (s : Shelf) (size : ℕ) (s' : Shelf) → writes ≡ true → PutAway s size s' → Puts writes s size s'
one_put writes s size s' e a = record { still = λ q. true_false e q; away = λ q. a }

-- ---- where a pass begins

pub pass_first : {size : ℕ} {c : Contents} (writes : Bool) (s : Shelf) → Told size (Ok c) → (s.total ≡ 0) × (s.live ≡ true)
    → Passing size c writes (record { sweep = record { at = 0; lines = 0 }; shelf = s; read = true })
pass_first {c = c} writes s t e = record {
  file = t.file;
  sized = t.sized;
  swept = swept_first version1 t.file c (sym t.tells);
  silent = λ q. e;
  put = λ q l. e.0;
}

-- ---- ONE WINDOW OF EACH

module _ {size : ℕ} {c : Contents} {writes : Bool} {p : Pass} (v : Passing size c writes p) where
  -- the file has all of the index
  pub pass_size : c.start + 4 * c.lines ≤ size
  pass_size = omega (arith, v.sized, file_size version1 v.file c v.swept.told)

  -- windows that could not be read
  pub turn_unread : (lines index : List ℕ) {p' : Pass} → p' ≡ unread_of p → Turns size c writes p lines index p'
  turn_unread lines index e = rw e record {
    windows = λ e. true_false e refl;
    passing = record { file = v.file; sized = v.sized; swept = v.swept; silent = v.silent; put = v.put };
    more = omega arith;
    stuck = λ e q. true_false e refl;
  }

  -- what was put away before is whole lines
  pub after_lines : p.shelf.live ≡ true → writes ≡ true → AfterLines p.shelf.total
  after_lines live e = record { done = v.swept.run; place = v.put e live ∙ sym (swept_size v.swept); each = v.swept.each }

  -- the windows x and y, in buffers that were l and j
  module _ (l j x y : List ℕ) (n m : ℕ) (least : n ≡ min (c.start - p.sweep.at) (length l)) (most : m ≡ min (4 * (c.lines - p.sweep.lines)) (length j))
      (same : length x ≡ length (take n l)) (alike : length y ≡ length (take m j)) where
    abbrev lines : List ℕ
    lines = x ++ drop n l

    abbrev index : List ℕ
    index = y ++ drop m j

    abbrev s : List ℕ
    s = take n lines

    abbrev i : List ℕ
    i = take m index

    all_lines : length lines ≡ length l
    all_lines = length_front l x n same

    all_index : length index ≡ length j
    all_index = length_front j y m alike

    s_size : length s ≡ n
    s_size = length-take-le n lines (omega (arith, all_lines))

    i_size : length i ≡ m
    i_size = length-take-le m index (omega (arith, all_index))

    -- they are as long as what was lent
    pub s_same : length (take n l) ≡ length s
    s_same = length-take-le n l (omega arith) ∙ sym s_size

    pub i_same : length (take m j) ≡ length i
    i_same = length-take-le m j (omega arith) ∙ sym i_size

    before : p.sweep.at + length s ≤ c.start
    before = omega (arith, s_size, v.swept.inside)

    there : 4 * p.sweep.lines + length i ≤ 4 * c.lines
    there = omega (arith, i_size, v.swept.fewer)

    pub windows_wide : size < 2 ^ 63 → p.sweep.lines < c.lines → length l ≡ 65536 → length j ≡ 8192 → Wide c p.sweep s i
    windows_wide near short wide deep = record {
      near = omega (arith, pass_size);
      before = before;
      enough = go (leb (c.start - p.sweep.at) 65536) refl;
      offsets = min (c.lines - p.sweep.lines) 2048;
      whole = omega (arith, i_size);
      some = omega arith;
      there = omega arith;
    }
      where
        go : (b : Bool) → leb (c.start - p.sweep.at) 65536 ≡ b → (p.sweep.at + length s ≡ c.start) ⊎ (2049 ≤ length s)
        go true q = inl (omega (arith, s_size, v.swept.inside, leb-true (c.start - p.sweep.at) 65536 q))
        go false q = inr (omega (arith, s_size, leb-false (c.start - p.sweep.at) 65536 q))

    -- the file that these windows show, as far as they go
    abbrev shown : List ℕ
    shown = patched v.swept s i before there

    sized : length shown ≡ size
    sized = patched_size v.swept s i before there ∙ v.sized

    pub turn_read : p.shelf.live ≡ true → (p' : Pass) → Judges c writes p s i p' → Turns size c writes p lines index p'
    turn_read live p' k =
        let w = p'.sweep in
        let g : Swept version1 shown c w × (w.lines ≡ p.sweep.lines → open_of version1 shown ≡ Err WrongLines) =
        k.sweeps.judged version1 shown (patched_swept v.swept s i before there) (patched_lines v.swept s i before there) (patched_index v.swept s i before there) in
        record {
          windows = λ e. rw (all_lines, all_index, ← least, ← most) k.sweeps;
          passing = record {
            file = shown;
            sized = sized;
            swept = g.0;
            silent = λ e. rw (k.puts.still e) (v.silent e);
            put = λ e l. k.puts.away e l ∙ rw (v.put e live) (omega (arith, k.sweeps.from));
          };
          more = k.sweeps.more;
          stuck = λ e q. record { file = shown; sized = sized; answer = sym (g.1 q) };
        }

-- two windows, and what is put away of them
module _ (c : Contents) (p : Pass) (s i : List ℕ) (w : Sweep) (k : Sweeps c p.sweep s i w) where
  pub used_inside : w.at - p.sweep.at ≤ length s
  used_inside = omega (arith, k.to)

  pub next_piece : AfterLines p.shelf.total → LinesPiece p.shelf.total (take (w.at - p.sweep.at) s)
  next_piece a = record {
    done = a.done;
    next = k.run;
    place = a.place;
    lines = k.lines;
    each = each_append a.done k.run ∙ rw (a.each, k.each);
  }

  pub judges : (writes : Bool) (s' : Shelf) → Puts writes p.shelf (length (take (w.at - p.sweep.at) s)) s' → Judges c writes p s i (record { sweep = w; shelf = s'; read = true })
  judges writes s' a =
      let e : length (take (w.at - p.sweep.at) s) ≡ w.at - p.sweep.at = length-take-le (w.at - p.sweep.at) s used_inside in
      record { sweeps = k; puts = rw e at a; read = refl }

-- ---- window after window, until one brings no line more

-- before each turn
pub record Going (size : ℕ) (c : Contents) (writes : Bool) (p : Pass) : Type 0 where
  pub passing : Passing size c writes p
  pub to_go : (p.shelf.live ≡ true) × (p.sweep.lines < c.lines)

module _ {size : ℕ} {c : Contents} {writes : Bool} where
  module _ (s : Shelf) (t : Told size (Ok c)) (e : (s.total ≡ 0) × (s.live ≡ true)) where
    pub going_first : 0 < c.lines → Going size c writes (record { sweep = record { at = 0; lines = 0 }; shelf = s; read = true })
    going_first h = record { passing = pass_first writes s t e; to_go = (e.1, h) }

    -- a file of no lines takes no turn
    pub pass_none : c.lines ≡ 0 → Passed size c writes (record { sweep = record { at = 0; lines = 0 }; shelf = s; read = true })
    pass_none z = record { passing = pass_first writes s t e; ended = λ r l. inl (sym z) }

  module _ (p : Pass) {lines index : List ℕ} (p' : Pass) (t : Turns size c writes p lines index p') where
    module _ (on : goes_on c p.sweep.lines p' ≡ true) where
      pub going_on : Going size c writes p'
      going_on = let g = goes_on_lem c p.sweep.lines p' on in record { passing = t.passing; to_go = (g.live, g.short) }

      pub less_to_go : c.lines - p'.sweep.lines < c.lines - p.sweep.lines
      less_to_go =
          let g = goes_on_lem c p.sweep.lines p' on in
          let n : p.sweep.lines < p'.sweep.lines = lt_of_le_of_ne t.more (λ e. g.further (sym e)) in
          omega (arith, g.short)

    pub pass_ended : goes_on c p.sweep.lines p' ≡ false → Passed size c writes p'
    pass_ended off = record {
      passing = t.passing;
      ended = λ r l. ⊎_elim (λ q. inr (t.stuck r q)) (λ q. inl (omega (arith, t.passing.swept.fewer))) (goes_no_further c p.sweep.lines p' off r l);
    }

-- ---- the answer

pub pass_judged : {size : ℕ} {c : Contents} (p : Pass) → Passed size c false p → p.read ≡ true → Judged size (verdict_of c p)
pass_judged {size = size} {c = c} p v r = go (eqb p.sweep.lines c.lines) refl
  where
    go : (b : Bool) → eqb p.sweep.lines c.lines ≡ b → Judged size (verdict_of c p)
    go true q =
        let e = eqb-true p.sweep.lines c.lines q in
        record { file = v.passing.file; sized = v.passing.sized; answer = last_told c p e ∙ sym (swept_all v.passing.swept e) }
    go false q =
        let n = eqb-false p.sweep.lines c.lines q in
        let j = ⊎_elim (λ e. absurd (n e)) (λ x. x) (v.ended r (v.passing.silent refl).1) in
        record { file = j.file; sized = j.sized; answer = sym (too_few c p n) ∙ j.answer }
