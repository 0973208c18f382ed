-- EACH LINE OF A FEED HAS ONE LINE OF TEXT, under either rule: where all are asked for, the i-th line of what is said is what is said of the i-th line of the
-- feed, with its number from 1, and there are no others. Where only the refused are asked for, no refused line is left out, and no line that reads stays.
-- Assumes nothing.
use Rattle.std.specs.Prelude.{Err}
use mathlib.Core.Path.{◌≡◌, refl, sym, ap, ◌∙◌}
use mathlib.Core.Bool.{Bool, true, false, cond, ◌&&◌}
use mathlib.Core.List.{List, [], ◌∷◌, ◌++◌, map, append_assoc}
use Prim.Native.Nat.{ℕ, zero, suc, ◌+◌, ◌≤◌, ◌<◌}
use native.Mathlib.Nat.{le_of_suc-le-suc}
use native.Mathlib.Omega.{arith}
use borrow.Author.Tests.{ne_eqb, leb-false}
use lib.Dec.{eqb, leb}
use lib.ListN.{length, get_or, length-append}
use Rattle.text.specs.Code.{byte_of}
use Rattle.text.specs.Decimal.{width_of, decimal}
use Rattle.text.specs.Number.{padded}
use Rattle.text.specs.Place.{places, digits}
use Rattle.text.specs.Text.{text_of}
use Rattle.shapes.specs.Cut.{up_to, has}
use Rattle.shapes.specs.Pieces.{none_has}
use Rattle.shapes.proofs.Joins.{up_to_past, whole_has}
use Rattle.rules.specs.Frame.{line_feed, longest_line}
use Rattle.rules.specs.declared.Rule.{Rule}
use Rattle.rules.specs.declared.Rule.TheVariants.{New, Old}
use Rattle.fields.specs.Head.{head_length}
use Rattle.cutter.specs.Feed.{Line, Whole, TooLong, feed_of, texts_of, rest_of, line_of, lines_of}
use Rattle.cutter.proofs.Feeds.{feed_only}
use Rattle.line.specs.Cases.{Case}
use Rattle.line.specs.Messages.{AnswerOf, number_of, place_of, read_as}
use Rattle.line.specs.Read.{read_by, number_by}
use Rattle.line.specs.declared.Refusal.TheVariants.{Long}
use Rattle.line.proofs.Calls.{ReadCall, read_told, read_case}
use Rattle.line.proofs.Cases.{case_only}
use Rattle.line.proofs.Theorems.{answer_reading, told_as}
use Rattle.line.proofs.Ways.{line_long}
use Rattle.printer.specs.RowText.{space, hyphen, line_text}
use Rattle.printer.specs.Parts.{part_text}
use Rattle.checks.specs.Check.{every_line, refused_lines, saying, type_said, key_said, read_said, check_of, is_taken, said_of}
use Rattle.checks.specs.Feed.{checks_from, checks_of}
use Rattle.checks.specs.Part.{verdict_of, verdict_text}
use Rattle.checks.specs.declared.Asked.{Asked}
use Rattle.checks.specs.declared.Verdict.{Verdict}
use Rattle.checks.proofs.Lines.{verdict_text_lem}

-- ---- no line feed stands inside a line of text

abbrev Free : List ℕ → Type 0
Free s = up_to line_feed s ≡ length s

free_append : (x y : List ℕ) → Free x → Free y → Free (x ++ y)
free_append x y e f = omega (arith, up_to_past line_feed x y e, f, length-append x y)

free_space : (y : List ℕ) → Free y → Free (space ∷ y)
unfolding up_to
free_space y e = ap suc e

byte_some : (d : ℕ) → eqb (byte_of d) line_feed ≡ false
unfolding byte_of
byte_some d = go (leb d 10) (leb d 36)
  where
    go : (a b : Bool) → eqb (cond a (d + 47) (cond b (d + 54) 47)) line_feed ≡ false
    go true b = ne_eqb (d + 47) line_feed (λ z. omega arith)
    go false true = ne_eqb (d + 54) line_feed (λ z. omega arith)
    go false false = refl

map_free : (f : ℕ → ℕ) (ds : List ℕ) → Free (map (λ d. byte_of (f d)) ds)
unfolding up_to
map_free f [] = refl
map_free f (d ∷ ds) = rw (byte_some (f d)) (ap suc (map_free f ds))

decimal_free : (n : ℕ) → Free (decimal n)
unfolding decimal padded
decimal_free n = map_free suc (places 10 (width_of n) n)

part_free : (w : ℕ) → Free (part_text w)
unfolding part_text text_of up_to
part_free w = go (eqb w 0)
  where
    go : (b : Bool) → Free (cond b hyphen (text_of w))
    go true = refl
    go false = map_free (λ d. d) (digits 38 12 w)

-- ---- so it is one line

module _ (n : ℕ) (v : Verdict) where
  abbrev words : List ℕ
  words = decimal n ++ space ∷ (decimal v.answer ++ space ∷ (decimal v.place ++ space ∷ (part_text v.kind ++ space ∷ part_text v.key)))

  words_free : Free words
  words_free =
      free_append (decimal n) _ (decimal_free n)
      (free_space _ (free_append (decimal v.answer) _ (decimal_free v.answer)
      (free_space _ (free_append (decimal v.place) _ (decimal_free v.place)
      (free_space _ (free_append (part_text v.kind) _ (part_free v.kind) (free_space _ (part_free v.key))))))))

  words_line : verdict_text n v ≡ words ++ line_feed ∷ []
  unfolding verdict_text line_text
  words_line = simp append_assoc

-- ---- the lines of text of lines, from number n on

module _ (ρ : Rule) where
  abbrev all_words : ℕ → List Line → List (List ℕ)
  all_words n [] = []
  all_words n (l ∷ ls) = words n (verdict_of ρ l) ∷ all_words (suc n) ls

  line_is : (n : ℕ) (l : Line) → words n (verdict_of ρ l) ++ line_feed ∷ [] ≡ check_of ρ n l
  line_is n l = sym (words_line n (verdict_of ρ l)) ∙ verdict_text_lem ρ n l

  all_said : (n : ℕ) (l : Line) → said_of (every_line ρ) n l ≡ check_of ρ n l
  unfolding said_of
  all_said n l = refl

  each : (n : ℕ) (ls : List Line) → feed_of (all_words n ls) [] ≡ checks_from (every_line ρ) n ls
  unfolding feed_of checks_from
  each n [] = refl
  each n (l ∷ ls) =
      let w = words n (verdict_of ρ l) in
      let rest = feed_of (all_words (suc n) ls) [] in
      sym (append_assoc w (line_feed ∷ []) rest) ∙ rw (line_is n l, each (suc n) ls, all_said n l)

  none : (n : ℕ) (ls : List Line) → none_has line_feed (all_words n ls) ≡ true
  unfolding none_has
  none n [] = refl
  none n (l ∷ ls) = rw (whole_has line_feed (words n (verdict_of ρ l)) (words_free n (verdict_of ρ l)), none (suc n) ls)

  count : (n : ℕ) (ls : List Line) → length (all_words n ls) ≡ length ls
  count n [] = refl
  count n (l ∷ ls) = ap suc (count (suc n) ls)

  at : (n : ℕ) (ls : List Line) (i : ℕ) → i < length ls → get_or (all_words n ls) i [] ++ line_feed ∷ [] ≡ check_of ρ (n + i) (get_or ls i TooLong)
  at n [] i h = absurd (omega arith)
  at n (l ∷ ls) zero h = let z : n + 0 ≡ n = omega arith in rw z (line_is n l)
  at n (l ∷ ls) (suc i) h = let z : n + suc i ≡ suc n + i = omega arith in rw z (at (suc n) ls i (le_of_suc-le-suc h))

no_feed_in_none : has line_feed [] ≡ false
unfolding has up_to
no_feed_in_none = refl

-- THE THEOREM
pub record EachLine (ρ : Rule) (feed : List ℕ) : Type 0 where
  -- as many lines of text as the feed has lines, and no byte after the last
  pub count : length (texts_of (checks_of (every_line ρ) feed)) ≡ length (lines_of feed)
  pub ended : rest_of (checks_of (every_line ρ) feed) ≡ []
  -- "its number from 1"
  pub nth : (i : ℕ) → i < length (lines_of feed) → get_or (texts_of (checks_of (every_line ρ) feed)) i [] ++ line_feed ∷ [] ≡ check_of ρ (suc i) (get_or (lines_of feed) i TooLong)

pub each_line : (ρ : Rule) (feed : List ℕ) → EachLine ρ feed
unfolding checks_of
each_line ρ feed =
    let ls = lines_of feed in
    let o = feed_only (all_words ρ 1 ls) [] (none ρ 1 ls) no_feed_in_none in
    let t : texts_of (checks_from (every_line ρ) 1 ls) ≡ all_words ρ 1 ls = ap texts_of (sym (each ρ 1 ls)) ∙ o.0 in
    record {
      count = ap length t ∙ count ρ 1 ls;
      ended = ap rest_of (sym (each ρ 1 ls)) ∙ o.1;
      nth = λ i h. rw t (at ρ 1 ls i h ∙ let z : 1 + i ≡ suc i = omega arith in rw z);
    }

-- ---- where only the refused lines are asked for

pub refused_stays : (asked : Asked) (n : ℕ) (l : Line) → is_taken asked.rule l ≡ false → said_of asked n l ≡ check_of asked.rule n l
unfolding said_of
refused_stays asked n l e = rw e (go asked.refused)
  where
    go : (b : Bool) → cond (b && false) [] (check_of asked.rule n l) ≡ check_of asked.rule n l
    go true = refl
    go false = refl

pub taken_left_out : (ρ : Rule) (n : ℕ) (l : Line) → is_taken ρ l ≡ true → said_of (refused_lines ρ) n l ≡ []
unfolding said_of
taken_left_out ρ n l e = rw e

-- ---- THE ANSWER IS THAT OF `line::read`, and under the old rule that of `line::read_old`: with its number and place, and the case of document 01's table that
-- they are of

pub answer_read : {ρ : Rule} {line : List ℕ} {r : AnswerOf ρ} → ReadCall ρ line r → (n : ℕ)
    → (check_of ρ n (Whole line) ≡ saying n (number_of ρ r) (place_of ρ r) (type_said (read_as ρ r)) (key_said (read_as ρ r))) × Case ρ line (number_of ρ r) (place_of ρ r)
unfolding check_of
answer_read {ρ} {line} {r} c n =
    let e : read_by ρ line ≡ read_as ρ r = sym (ap (read_as ρ) (read_told c) ∙ answer_reading ρ line) in
    let t = told_as ρ r in
    (rw (e, t.0, t.1), read_case c)

-- ---- AND SO OF EVERY LINE, ALSO AN OVERLONG ONE: what is said is the number and the place of its case in document 01's table

module _ (ρ : Rule) (s : List ℕ) where
  long_read : leb (length s) longest_line ≡ false → read_by ρ s ≡ Err Long
  long_read q = let h = leb-false (length s) longest_line q in sym (line_long ρ s (go ρ h) h)
    where
      go : (ρ : Rule) → longest_line < length s → head_length ρ ≤ length s
      go New h = omega arith
      go Old h = omega arith

  line_said : (n : ℕ) → check_of ρ n (line_of s) ≡ read_said n (read_by ρ s)
  unfolding line_of check_of
  line_said n = go (leb (length s) longest_line) refl
    where
      go : (b : Bool) → leb (length s) longest_line ≡ b → check_of ρ n (cond (leb (length s) longest_line) (Whole s) TooLong) ≡ read_said n (read_by ρ s)
      go true q = rw q
      go false q = rw (q, long_read q)

  line_taken : is_taken ρ (line_of s) ≡ eqb (number_by (read_by ρ s)) 0
  unfolding line_of is_taken
  line_taken = go (leb (length s) longest_line) refl
    where
      go : (b : Bool) → leb (length s) longest_line ≡ b → is_taken ρ (cond (leb (length s) longest_line) (Whole s) TooLong) ≡ eqb (number_by (read_by ρ s)) 0
      go true q = rw q
      go false q = rw (q, long_read q)

  pub case_said : (a p : ℕ) → Case ρ s a p → (n : ℕ) → check_of ρ n (line_of s) ≡ saying n a p (type_said (read_by ρ s)) (key_said (read_by ρ s))
  case_said a p c n = let e = case_only ρ s a p c in line_said n ∙ rw (e.0, e.1)

  -- it counts as read exactly if that case is 0
  pub case_taken : (a p : ℕ) → Case ρ s a p → is_taken ρ (line_of s) ≡ eqb a 0
  case_taken a p c = line_taken ∙ rw (case_only ρ s a p c).0
