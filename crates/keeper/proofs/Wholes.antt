-- Which lines of a feed are kept: its whole lines in order, as many of the first as may be kept together. Assumes nothing.
use mathlib.Core.Path.{◌≡◌, refl, sym, ap, ◌∙◌}
use mathlib.Core.Bool.{Bool, true, false, not, ◌&&◌}
use mathlib.Core.List.{List, [], ◌∷◌, ◌++◌, map, append-nil, append_assoc}
use Prim.Native.Nat.{ℕ, zero, suc, ◌≤◌, ◌<◌}
use native.Mathlib.Omega.{arith}
use lib.ListN.{length, get_or, length-append}
use borrow.Author.Tests.{not-true, le-leb}
use Rattle.text.proofs.Logic.{true_false, and_left, and_right}
use Rattle.shapes.specs.Cut.{has}
use Rattle.shapes.specs.Pieces.{none_has}
use Rattle.rules.specs.Frame.{line_feed, longest_line}
use Rattle.cutter.specs.Feed.{Line, Whole, TooLong, texts_of, rest_of, line_of}
use Rattle.cutter.proofs.Feeds.{feed_text, feed_none}
use Rattle.dayfile.specs.DayFile.{version1, lines_text, may_keep, each_may_keep, is_run}
use Rattle.dayfile.proofs.Files.{feed_rest, lines_append, each_append, run_parts, parts_run, kept_line, line_kept, each_all}
use Rattle.keeper.specs.Keep.{kept_after, is_past, looked_at}

-- the first lines of a run are a run
run_front : (ls ms : List (List ℕ)) → is_run version1 (ls ++ ms) ≡ true → is_run version1 ls ≡ true
run_front ls ms e =
    let p = run_parts version1 (ls ++ ms) e in
    parts_run version1 ls (and_left (each_may_keep ls) (each_may_keep ms) (sym (each_append ls ms) ∙ p.0)) (omega (arith, p.1, length-append ls ms))
    (omega (arith, p.2, ap length (lines_append ls ms), length-append (lines_text ls) (lines_text ms)))

-- ---- the whole lines among lines

unfoldable pub wholes : List Line → List (List ℕ)
wholes [] = []
wholes (TooLong ∷ ls) = wholes ls
wholes (Whole l ∷ ls) = l ∷ wholes ls

-- THOSE KEPT ARE THE FIRST OF THEM: all, or as many as may be kept together, and the next is one too many
pub record First (kept : List (List ℕ)) (ls : List Line) : Type 0 where
  pub rest : List (List ℕ)
  pub first : kept ++ wholes ls ≡ kept_after kept ls ++ rest
  pub all : is_past kept ls ≡ false → rest ≡ []
  pub next : is_past kept ls ≡ true → (l : List ℕ) × ((ms : List (List ℕ)) × ((rest ≡ l ∷ ms) × (is_run version1 (kept_after kept ls ++ l ∷ []) ≡ false)))

pub the_first : (kept : List (List ℕ)) (ls : List Line) → First kept ls
unfolding wholes kept_after is_past
the_first kept [] = record { rest = []; first = refl; all = λ e. refl; next = λ e. true_false e refl }
the_first kept (TooLong ∷ ls) = let f = the_first kept ls in record { rest = f.rest; first = f.first; all = f.all; next = f.next }
the_first kept (Whole l ∷ ls) = go (is_run version1 (kept ++ l ∷ [])) refl (the_first (kept ++ l ∷ []) ls)
  where
    go : (b : Bool) → is_run version1 (kept ++ l ∷ []) ≡ b → First (kept ++ l ∷ []) ls → First kept (Whole l ∷ ls)
    go true q f =
        record { rest = f.rest; first = rw q (sym (append_assoc kept (l ∷ []) (wholes ls)) ∙ f.first); all = λ e. f.all (rw q at e); next = λ e. rw q (f.next (rw q at e)) }
    go false q f = record { rest = l ∷ wholes ls; first = rw q; all = λ e. true_false refl (rw q at e); next = λ e. (l, (wholes ls, (refl, rw (q, q)))) }

-- ---- a feed all of whose lines may be kept together

pub record KeptAll (kept ls : List (List ℕ)) : Type 0 where
  pub kept_all : kept_after kept (map line_of ls) ≡ kept ++ ls
  pub past_none : is_past kept (map line_of ls) ≡ false
  pub looked_all : looked_at kept (map line_of ls) ≡ length ls

last_may : (kept : List (List ℕ)) (l : List ℕ) → is_run version1 (kept ++ l ∷ []) ≡ true → may_keep l ≡ true
unfolding each_may_keep
last_may kept l q = and_left (may_keep l) true (and_right (each_may_keep kept) (may_keep l && true) (sym (each_append kept (l ∷ [])) ∙ (run_parts version1 (kept ++ l ∷ []) q).0))

whole_line : (l : List ℕ) → may_keep l ≡ true → line_of l ≡ Whole l
unfolding line_of
whole_line l e = rw (le-leb (length l) longest_line (kept_line l e).0)

pub keeps_all : (kept ls : List (List ℕ)) → is_run version1 (kept ++ ls) ≡ true → KeptAll kept ls
unfolding kept_after is_past looked_at
keeps_all kept [] e = record { kept_all = sym (append-nil kept); past_none = refl; looked_all = refl }
keeps_all kept (l ∷ ls) e =
    let z : (kept ++ l ∷ []) ++ ls ≡ kept ++ l ∷ ls = append_assoc kept (l ∷ []) ls in
    let y : is_run version1 ((kept ++ l ∷ []) ++ ls) ≡ true = rw z e in
    let q : is_run version1 (kept ++ l ∷ []) ≡ true = run_front (kept ++ l ∷ []) ls y in
    let w : line_of l ≡ Whole l = whole_line l (last_may kept l q) in
    let r = keeps_all (kept ++ l ∷ []) ls y in
    record { kept_all = rw (w, q) (r.kept_all ∙ z); past_none = rw (w, q) r.past_none; looked_all = rw (w, q) (ap suc r.looked_all) }

-- ---- the lines of a feed that are short enough may be kept, each by itself

none_at : (ls : List (List ℕ)) → none_has line_feed ls ≡ true → (k : ℕ) → k < length ls → has line_feed (get_or ls k []) ≡ false
unfolding none_has
none_at [] e k h = absurd (omega arith)
none_at (l ∷ ls) e zero h = not-true (has line_feed l) (and_left (not (has line_feed l)) (none_has line_feed ls) e)
none_at (l ∷ ls) e (suc k) h = none_at ls (and_right (not (has line_feed l)) (none_has line_feed ls) e) k (omega arith)

-- "of at most 2,048 bytes", "at most 65,535 of them", "the index starts below 4,294,967,296"
pub texts_run : (feed : List ℕ) → ((k : ℕ) → k < length (texts_of feed) → length (get_or (texts_of feed) k []) ≤ 2048) → length (texts_of feed) ≤ 65535 → length feed < 4294967296
    → is_run version1 (texts_of feed) ≡ true
texts_run feed short few near =
    let ls = texts_of feed in
    let all : lines_text ls ++ rest_of feed ≡ feed = sym (feed_rest ls (rest_of feed)) ∙ feed_text feed in
    parts_run version1 ls (each_all ls (λ k h. line_kept (get_or ls k []) (short k h) (none_at ls (feed_none feed).0 k h))) few (omega (arith, ap length all, length-append (lines_text ls) (rest_of feed)))
