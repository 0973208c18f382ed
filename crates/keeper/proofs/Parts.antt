-- A part of a feed, step by step; and after a line that does not fit, whatever comes. Assumes nothing.
use mathlib.Core.Path.{◌≡◌, refl, sym, ap, ◌∙◌, subst}
use mathlib.Core.Bool.{true, false}
use mathlib.Core.List.{List, [], ◌++◌, append-nil, append_assoc}
use Prim.Native.Nat.{ℕ, ◌+◌, ◌-◌, ◌≤◌, ◌<◌}
use native.Mathlib.Omega.{arith}
use lib.ListN.{length, take, drop, length-drop, take-append-drop}
use lib.Seq.{take_all, take-add, drop-drop}
use Rattle.text.proofs.Logic.{true_false}
use Rattle.shapes.specs.Pieces.{pieces}
use Rattle.shapes.proofs.Laws.{rest_all}
use Rattle.rules.specs.Frame.{line_feed}
use Rattle.cutter.specs.Feed.{lines_of}
use Rattle.cutter.specs.State.{Bytes}
use Rattle.cutter.specs.Told.{told, state_after}
use Rattle.cutter.proofs.Feeds.{start_lines, feed_then}
use Rattle.keeper.specs.Keep.{kept_in, Keeping, GoesOn, Roomy, Steps}
use Rattle.keeper.specs.declared.keep.Keep.{Keep}
use Rattle.keeper.specs.declared.keep.Turn.{Turn}
use Rattle.keeper.proofs.Kept.{stops}

-- ---- the lines of a feed and more

pub more_lines : (feed s : List ℕ) → lines_of (feed ++ s) ≡ lines_of feed ++ told (state_after (Bytes []) (pieces line_feed feed)) (pieces line_feed s)
more_lines feed s = sym (start_lines (feed ++ s)) ∙ (feed_then (Bytes []) feed s).0 ∙ rw (start_lines feed)

-- where a line did not fit, nothing that comes changes what is kept
pub past_more : {base : ℕ} {feed held out offsets : List ℕ} {k : Keep} → Keeping base feed held out offsets k → k.full ≡ true → (s : List ℕ)
    → Keeping base (feed ++ s) held out offsets k
past_more {feed = feed} c f s =
    let t = stops [] (lines_of feed) (told (state_after (Bytes []) (pieces line_feed feed)) (pieces line_feed s)) (sym c.full ∙ f) in
    let l = more_lines feed s in
    let z : kept_in (feed ++ s) ≡ kept_in feed = rw l t.kept_same in
    record {
      cutter = λ q. true_false f q;
      lines = c.lines ∙ sym (rw l t.looked_same);
      full = f ∙ sym (rw l t.past_same);
      count = rw z c.count;
      at = rw z c.at;
      starts = rw z c.starts;
      before = c.before;
      text = rw z c.text;
    }

-- ---- what a part has brought so far

pub record Partly (base : ℕ) (held₀ out₀ offsets₀ : List ℕ) (k₀ : Keep) (part held out offsets : List ℕ) (k : Keep) (used : ℕ) : Type 0 where
  pub inside : used ≤ length part
  pub roomy : Roomy base held (drop used part) out offsets k
  pub goes : GoesOn base held₀ out₀ offsets₀ k₀ (take used part) held out offsets k
  pub same_held : length held ≡ length held₀
  pub same_out : length out ≡ length out₀
  pub same_run : length offsets ≡ length offsets₀

pub begins : (base : ℕ) (held out offsets : List ℕ) (k : Keep) (part : List ℕ) → Roomy base held part out offsets k → Partly base held out offsets k part held out offsets k 0
begins base held out offsets k part r = record { inside = omega arith; roomy = r; goes = λ feed c. rw (append-nil feed) c; same_held = refl; same_out = refl; same_run = refl }

module _ {base : ℕ} {held₀ out₀ offsets₀ : List ℕ} {k₀ : Keep} {part held out offsets : List ℕ} {k : Keep} {used : ℕ}
    (v : Partly base held₀ out₀ offsets₀ k₀ part held out offsets k used) where
  abbrev rest : List ℕ
  rest = take (length part - used) (drop used part)

  pub rest_roomy : used < length part → Roomy base held rest out offsets k × (0 < length rest)
  rest_roomy h = rw (rest_all part used) (v.roomy, omega (arith, length-drop used part))

  -- all of it
  pub whole : length part ≤ used
      → GoesOn base held₀ out₀ offsets₀ k₀ part held out offsets k × ((base ≤ k.place.at) × (k.place.at - base ≤ length out))
  whole h =
      (subst (λ (s : List ℕ). GoesOn base held₀ out₀ offsets₀ k₀ s held out offsets k) (take_all used part h) v.goes, (v.roomy.before, omega (arith, v.roomy.bytes)))

  module _ {held' out' offsets' : List ℕ} {r : Turn} (t : Steps base held rest out offsets k held' out' offsets' r) where
    pub within : used + r.used ≤ length part
    within = let z : r.used ≤ length (drop used part) = rw (rest_all part used) at t.within in omega (arith, v.inside, length-drop used part)

    further : GoesOn base held₀ out₀ offsets₀ k₀ (take (used + r.used) part) held' out' offsets' r.keep
    further feed c =
        let z : (feed ++ take used part) ++ take r.used rest ≡ feed ++ take (used + r.used) part =
        rw (rest_all part used) (append_assoc feed (take used part) (take r.used (drop used part)) ∙ ap (λ (s : List ℕ). feed ++ s) (sym (take-add used r.used part)))
        in
        rw (← z) (t.goes (feed ++ take used part) (v.goes feed c))

    pub again : r.keep.full ≡ false → length held' ≡ length held → length out' ≡ length out → length offsets' ≡ length offsets
        → Partly base held₀ out₀ offsets₀ k₀ part held' out' offsets' r.keep (used + r.used)
    again f a b d =
        let z : drop r.used rest ≡ drop (used + r.used) part = rw (rest_all part used) (drop-drop r.used used part) in
        record {
          inside = within;
          roomy = rw (← z) (t.still f);
          goes = further;
          same_held = a ∙ v.same_held;
          same_out = b ∙ v.same_out;
          same_run = d ∙ v.same_run;
        }

    -- a line did not fit: the part is looked at no further
    pub cut_short : r.keep.full ≡ true
        → GoesOn base held₀ out₀ offsets₀ k₀ part held' out' offsets' r.keep × ((base ≤ r.keep.place.at) × (r.keep.place.at - base ≤ length out'))
    cut_short f = (
      λ feed c.
          let n = used + r.used in
          let z : (feed ++ take n part) ++ drop n part ≡ feed ++ part = append_assoc feed (take n part) (drop n part) ∙ ap (λ (s : List ℕ). feed ++ s) (take-append-drop n part) in
          rw (← z) (past_more (further feed c) f (drop n part)),
      (t.before, t.inside),
    )
