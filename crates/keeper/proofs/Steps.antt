-- One call of `cut`, and the line that it told of kept, if it did: what the bytes that it used add to any feed. Assumes nothing.
use Rattle.std.specs.Prelude.{Err, Ok}
use mathlib.Core.Path.{◌≡◌, refl, sym, ap, ◌∙◌, subst}
use mathlib.Core.Bool.{Bool, true, false, not}
use mathlib.Core.List.{List, [], ◌∷◌, ◌++◌}
use Prim.Native.Nat.{ℕ, ◌+◌, ◌-◌, ◌≤◌, ◌<◌}
use native.Mathlib.Omega.{arith}
use lib.Dec.{leb}
use lib.ListN.{length, take, drop, length-append, length-drop}
use lib.Seq.{drop-append-le}
use borrow.Author.Tests.{leb-false}
use Rattle.text.specs.Text.{spliced}
use Rattle.text.proofs.Logic.{true_false, not_holds}
use Rattle.text.proofs.Splice.{length-spliced}
use Rattle.shapes.specs.Pieces.{pieces}
use Rattle.rules.specs.Frame.{line_feed}
use Rattle.cutter.specs.Feed.{Line, Whole, TooLong, lines_of}
use Rattle.cutter.specs.State.{Bytes, state_in, is_allowed}
use Rattle.cutter.specs.Calls.{cut_of, held_cut, line_in}
use Rattle.cutter.specs.Cases.{told_by, CutIs}
use Rattle.cutter.specs.Told.{state_after}
use Rattle.cutter.specs.declared.Begun.{Begun}
use Rattle.cutter.specs.declared.AfterCut.{AfterCut}
use Rattle.cutter.proofs.Feeds.{start_lines, feed_then}
use Rattle.cutter.proofs.Runs.{cut_still, cut_used}
use Rattle.dayfile.specs.DayFile.{version1, lines_text, starts_from, may_keep, is_run}
use Rattle.dayfile.specs.Keeping.{fed, is_full, kept_of, out_after, run_after}
use Rattle.dayfile.specs.declared.Place.{Place}
use Rattle.dayfile.proofs.Files.{kept_line}
use Rattle.dayfile.proofs.KeptCases.{fed_length, full_is, is_full_lem, many_is, taken_is}
use Rattle.dayfile.proofs.KeptLines.{take-written, text_more, starts_more}
use Rattle.checks.proofs.Steps.{Used, used_by}
use Rattle.keeper.specs.Keep.{kept_after, is_past, looked_at, kept_in, Keeping, held_bytes, counted_line, Left, told_left, TakesUp, Roomy, Steps}
use Rattle.keeper.specs.declared.keep.Keep.{Keep}
use Rattle.keeper.proofs.Kept.{goes_on, kept_run, fits_not_full}
use Rattle.keeper.proofs.Told.{ToldIs, None, Over, One, held_size, told_is}
use Rattle.dayfile.specs.declared.NotKept.TheVariants.{TooMany}

-- ---- what more bytes of a feed tell

pub record After (feed s held' : List ℕ) (begun' : Begun) (ts : List Line) : Type 0 where
  pub kept : kept_in (feed ++ s) ≡ kept_after (kept_in feed) ts
  pub past : is_past [] (lines_of (feed ++ s)) ≡ is_past (kept_in feed) ts
  pub looked : looked_at [] (lines_of (feed ++ s)) ≡ looked_at [] (lines_of feed) + looked_at (kept_in feed) ts
  pub state : state_in held' begun' ≡ state_after (Bytes []) (pieces line_feed (feed ++ s))

after : (feed s held : List ℕ) (begun : Begun) (held' : List ℕ) (begun' : Begun) (ts : List Line)
    → state_in held begun ≡ state_after (Bytes []) (pieces line_feed feed) → is_past [] (lines_of feed) ≡ false → Used (state_in held begun) s ts (state_in held' begun') → After feed s held' begun' ts
after feed s held begun held' begun' ts e p u =
    let f = feed_then (Bytes []) feed s in
    let l : lines_of (feed ++ s) ≡ lines_of feed ++ ts = sym (start_lines (feed ++ s)) ∙ f.0 ∙ rw (start_lines feed, ← e, ← u.lines) in
    let g = goes_on [] (lines_of feed) ts p in
    record { kept = rw l g.kept_then; past = rw l g.past_then; looked = rw l g.looked_then; state = u.state ∙ rw e (sym f.1) }

-- ---- what is answered of a line that may be kept, where there is room

module _ (base : ℕ) (l out offsets : List ℕ) (p : Place) (may : may_keep l ≡ true) where
  kept_full : is_full 65535 p l ≡ true → kept_of 65535 base l out offsets p ≡ Err TooMany
  kept_full f = many_is 65535 base l out offsets p (kept_line l may) (is_full_lem 65535 base l out offsets p f)

  module _ (room : p.at - base + length (fed l) ≤ length out) (run : length offsets ≡ 65535) (free : is_full 65535 p l ≡ false) where
    few : p.count < length offsets
    unfolding is_full
    few = omega (arith, run, leb-false 65535 p.count (not_holds (leb 65535 p.count) (λ q. true_false (rw q) free)))

    kept_fits : kept_of 65535 base l out offsets p ≡ Ok (record { at = p.at + length (fed l); count = p.count + 1 })
    kept_fits = taken_is 65535 base l out offsets p (kept_line l may) (λ m. true_false (full_is 65535 base l out offsets p m) free) (omega (arith, fed_length l, room), few)

-- ---- THE STEP

-- what was kept, with the state that a call left
abbrev pub moved : Keep → Begun → Keep
moved k begun' = record { begun = begun'; lines = k.lines; place = k.place; full = false }

abbrev StepsTo : ℕ → List ℕ → List ℕ → List ℕ → List ℕ → Keep → List ℕ → ℕ → Bool → Left → Type 0
StepsTo base held rest out offsets k held' used long x = Steps base held rest out offsets k held' x.out x.offsets (record { keep = x.keep; used = used; long = long })

module _ (base : ℕ) (held rest out offsets : List ℕ) (k : Keep) (r : Roomy base held rest out offsets k) (held' : List ℕ) (begun' : Begun) (used : ℕ)
    (still : is_allowed held' begun' ≡ true) (some : 0 < used) (within : used ≤ length rest) where
  abbrev s : List ℕ
  s = take used rest

  -- what is left in the part
  roomy_after : (out' offsets' : List ℕ) (k' : Keep) → k'.full ≡ false → k'.begun ≡ begun' → k'.lines ≤ k.lines + 1 → base ≤ k'.place.at
      → k'.place.at - base + held_bytes begun' ≤ k.place.at - base + held_bytes k.begun + used → length out' ≡ length out → length offsets' ≡ length offsets
      → Roomy base held' (drop used rest) out' offsets' k'
  roomy_after out' offsets' k' f e n b h o i =
      record {
        going = f;
        allowed = rw e still;
        few = omega (arith, length-drop used rest, r.few);
        before = b;
        bytes = rw e (omega (arith, length-drop used rest, r.bytes));
        run = i ∙ r.run;
      }

  -- nothing more is kept: no line ended, it was overlong, or it does not fit
  module _ (ts : List Line) (n : ℕ) (full : Bool) where
    abbrev same : Keep
    same = record { begun = begun'; lines = n; place = k.place; full = full }

    keeping_same : (feed : List ℕ) → Keeping base feed held out offsets k → After feed s held' begun' ts → kept_after (kept_in feed) ts ≡ kept_in feed
        → n ≡ k.lines + looked_at (kept_in feed) ts → full ≡ is_past (kept_in feed) ts → Keeping base (feed ++ s) held' out offsets same
    keeping_same feed c a e l f =
        let z : kept_in (feed ++ s) ≡ kept_in feed = a.kept ∙ e in
        record {
          cutter = λ q. (still, a.state);
          lines = omega (arith, l, c.lines, a.looked);
          full = f ∙ sym a.past;
          count = rw z c.count;
          at = rw z c.at;
          starts = rw z c.starts;
          before = c.before;
          text = rw z c.text;
        }

  -- a line more is kept
  module _ (l : List ℕ) (may : may_keep l ≡ true) (short : length l + 1 ≤ held_bytes k.begun + used) (none : held_bytes begun' ≡ 0) where
    room : k.place.at - base + length (fed l) ≤ length out
    room = omega (arith, fed_length l, r.bytes)

    abbrev out_after_lem : List ℕ
    out_after_lem = spliced out (k.place.at - base) (fed l)

    abbrev offsets_after : List ℕ
    offsets_after = spliced offsets k.place.count (k.place.at ∷ [])

    abbrev longer : Keep
    longer = record { begun = begun'; lines = k.lines + 1; place = record { at = k.place.at + length (fed l); count = k.place.count + 1 }; full = false }

    fit_is : (feed : List ℕ) → Keeping base feed held out offsets k → is_run version1 (kept_in feed ++ l ∷ []) ≡ not (is_full 65535 k.place l)
    fit_is feed c = fits_not_full (kept_in feed) l (kept_run feed) may k.place c.count c.at

    keeping_longer : is_full 65535 k.place l ≡ false → (feed : List ℕ) → Keeping base feed held out offsets k → After feed s held' begun' (Whole l ∷ [])
        → Keeping base (feed ++ s) held' out_after_lem offsets_after longer
    unfolding kept_after is_past looked_at starts_from
    keeping_longer free feed c a =
        let kept = kept_in feed in
        let q : is_run version1 (kept ++ l ∷ []) ≡ true = fit_is feed c ∙ rw free in
        let z : kept_in (feed ++ s) ≡ kept ++ l ∷ [] = a.kept ∙ rw q in
        let far : k.place.at ≡ length (lines_text kept) = c.at in
        let t : lines_text (kept_in (feed ++ s)) ≡ lines_text kept ++ fed l = rw z (text_more kept l) in
        let i : k.place.at + length (fed l) - base ≡ k.place.at - base + length (fed l) = omega (arith, c.before) in
        let looked : looked_at [] (lines_of (feed ++ s)) ≡ looked_at [] (lines_of feed) + 1 = a.looked ∙ rw q in
        record {
          cutter = λ _. (still, a.state);
          lines = omega (arith, c.lines, looked);
          full = sym (a.past ∙ rw q);
          count = rw z (omega (arith, length-append kept (l ∷ []), c.count));
          at = omega (arith, ap length t, length-append (lines_text kept) (fed l), far);
          starts =
              rw z (take-written offsets (k.place.at ∷ []) k.place.count (k.place.count + 1) refl (omega (arith, few base l out offsets k.place may room r.run free))
              ∙ rw (c.starts, far) (sym (starts_more kept l)));
          before = omega (arith, c.before);
          text =
              rw t (take-written out (fed l) (k.place.at - base) (k.place.at + length (fed l) - base) i (omega (arith, i, room))
              ∙ rw c.text (sym (drop-append-le base (lines_text kept) (fed l) (omega (arith, c.before, far)))));
        }

  abbrev Tells : List Line → Type 0
  Tells ts = (feed : List ℕ) → Keeping base feed held out offsets k → After feed s held' begun' ts

  -- the file is full before a line, or it has the line
  steps_line : (l : List ℕ) → may_keep l ≡ true → length l + 1 ≤ held_bytes k.begun + used → held_bytes begun' ≡ 0 → Tells (Whole l ∷ []) → (long : Bool)
      → StepsTo base held rest out offsets k held' used long (told_left base (Whole l ∷ []) out offsets (moved k begun'))
  unfolding told_left counted_line out_after run_after kept_after is_past looked_at
  steps_line l may short none a long = go (is_full 65535 k.place l) refl
    where
      go : (b : Bool) → is_full 65535 k.place l ≡ b → StepsTo base held rest out offsets k held' used long (told_left base (Whole l ∷ []) out offsets (moved k begun'))
      go true q =
          rw (kept_full base l out offsets k.place may q) (record {
            some = some;
            within = within;
            before = r.before;
            inside = omega (arith, r.bytes);
            goes = λ feed c.
                let e : is_run version1 (kept_in feed ++ l ∷ []) ≡ false = fit_is l may short none feed c ∙ rw q in
                keeping_same (Whole l ∷ []) (k.lines + 1) true feed c (a feed c) (rw e) (rw e) (rw e);
            still = λ f. true_false refl f;
          })
      go false q =
          let h = room l may short none in
          rw (kept_fits base l out offsets k.place may h r.run q) (record {
            some = some;
            within = within;
            before = omega (arith, r.before);
            inside = omega (arith, r.before, h, length-spliced out (fed l) (k.place.at - base) h);
            goes = λ feed c. keeping_longer l may short none q feed c (a feed c);
            still = λ f.
                roomy_after (out_after_lem l may short none) (offsets_after l may short none) (longer l may short none) refl refl (omega arith) (omega (arith, r.before))
                (omega (arith, fed_length l, r.before)) (length-spliced out (fed l) (k.place.at - base) h)
                (length-spliced offsets (k.place.at ∷ []) k.place.count (omega (arith, few base l out offsets k.place may h r.run q)));
          })

  steps_told : (ts : List Line) → ToldIs (held_bytes k.begun) (held_bytes begun') used ts → Tells ts → (long : Bool)
      → StepsTo base held rest out offsets k held' used long (told_left base ts out offsets (moved k begun'))
  unfolding told_left kept_after is_past looked_at
  steps_told ts (None h) a long =
      record {
        some = some;
        within = within;
        before = r.before;
        inside = omega (arith, r.bytes);
        goes = λ feed c. keeping_same [] k.lines false feed c (a feed c) refl (omega arith) refl;
        still = λ f. roomy_after out offsets (moved k begun') refl refl (omega arith) r.before (omega arith) refl refl;
      }
  steps_told ts (Over h) a long =
      record {
        some = some;
        within = within;
        before = r.before;
        inside = omega (arith, r.bytes);
        goes = λ feed c. keeping_same (TooLong ∷ []) (k.lines + 1) false feed c (a feed c) refl refl refl;
        still = λ f. roomy_after out offsets (same (TooLong ∷ []) (k.lines + 1) false) refl refl (omega arith) r.before (omega (arith, h)) refl refl;
      }
  steps_told ts (One l may short none) a long = steps_line l may short none a long

-- the line that was told of, and what was made of it
module _ (base : ℕ) (held rest out offsets : List ℕ) (k : Keep) (r : Roomy base held rest out offsets k) (done : AfterCut) (held' : List ℕ)
    (d : (done ≡ cut_of held k.begun rest) × ((held' ≡ held_cut held k.begun rest) × CutIs held k.begun rest done held')) where
  the_still : is_allowed held' done.begun ≡ true
  the_still = rw (d.0, d.1.0) (cut_still held k.begun rest r.allowed)

  tells : (l : List ℕ) → l ≡ line_in done.answer held' rest → (feed : List ℕ) → Keeping base feed held out offsets k
      → After feed (take done.used rest) held' done.begun (told_by done.answer l)
  tells l e feed c = rw e (after feed (take done.used rest) held k.begun held' done.begun _ (c.cutter r.going).1 (sym c.full ∙ r.going) (used_by d.1.1 r.allowed))

  told : (l : List ℕ) → l ≡ line_in done.answer held' rest → ToldIs (held_bytes k.begun) (held_bytes done.begun) done.used (told_by done.answer l)
  told l e = rw (e, held_size held k.begun r.allowed, held_size held' done.begun the_still) (told_is d.1.1 r.allowed)

  pub step_done : (h : 0 < length rest) (l : List ℕ) → l ≡ line_in done.answer held' rest
      → (out' offsets' : List ℕ) (k' : Keep) → TakesUp base (told_by done.answer l) out offsets (moved k done.begun) out' offsets' k'
      → (long : Bool) → Steps base held rest out offsets k held' out' offsets' (record { keep = k'; used = done.used; long = long })
  step_done h l e out' offsets' k' w long =
      let u : (0 < done.used) × (done.used ≤ length rest) = rw d.0 (cut_used held k.begun rest r.allowed h) in
      subst (StepsTo base held rest out offsets k held' done.used long) (sym w)
      (steps_told base held rest out offsets k r held' done.begun done.used the_still u.0 u.1 (told_by done.answer l) (told l e) (tells l e) long)
