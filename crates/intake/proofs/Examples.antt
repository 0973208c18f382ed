-- Wrong answers, ruled out by the promises. Assumes nothing.
use mathlib.Core.Path.{◌≡◌, refl, sym, ap, ◌∙◌}
use mathlib.Core.Bool.{true, false}
use mathlib.Core.Logic.{inl, ⊎_elim}
use mathlib.Core.List.{List, [], ◌∷◌, ◌++◌}
use Prim.Native.Nat.{ℕ}
use native.Mathlib.Omega.{arith}
use lib.ListN.{length, take, drop}
use lib.IntN.{pos}
use Rattle.text.specs.Bytes.{bytes}
use Rattle.text.proofs.Logic.{not_holds, true_false}
use Rattle.text.specs.Decimal.{width_by, decimal}
use Rattle.text.specs.Number.{padded}
use Rattle.text.specs.Place.{places}
use Rattle.text.specs.Text.{spliced}
use Rattle.text.specs.Code.{byte_of}
use Rattle.shapes.specs.Pieces.{pieces}
use Rattle.cutter.specs.Feed.{all_but_last, last, texts_of, rest_of, lines_of}
use Rattle.shapes.specs.Cut.{up_to, has}
use Rattle.cutter.specs.State.{is_allowed}
use Rattle.cutter.specs.Calls.{at_start, end_of, end_number}
use Rattle.cutter.specs.declared.Begun.TheVariants.{Held}
use Rattle.rules.specs.declared.Rule.TheVariants.{New, Old}
use Rattle.printer.specs.RowText.{line_text, rows_text}
use Rattle.printer.specs.Text.{board_text, counts_text}
use Rattle.feeding.specs.Tally.{rows_by, taken_by, line_feeds}
use Rattle.reports.specs.Report.{most_lines, report_of}
use Rattle.reports.proofs.Joins.{read_empty}
use Rattle.std.specs.Prelude.{IsOk, IsUtf8, Some, None}
use Rattle.intake.specs.Ends.{source_fd, target_fd}
use Rattle.intake.specs.declared.ends.Source.TheVariants as source
use Rattle.intake.specs.declared.ends.Target.TheVariants as target
use Rattle.intake.specs.Day.{is_torn}
use Rattle.intake.specs.Options.{AsksOld, AsksRefused, AsksNothing}
use Rattle.intake.proofs.Options.{asks_one}
use Rattle.intake.proofs.input.Input.is_barren.Reads as is-barren
use Rattle.intake.proofs.input.Input.is_live.Reads as is_live
use Rattle.intake.proofs.input.Input.next.Reads as next
use Rattle.intake.proofs.ends.Target.write.Reads as write
use Rattle.intake.proofs.files.path_of.Reads as path-of
use Rattle.intake.proofs.input.Input.start.Reads as start
use Rattle.intake.proofs.input.Input.total.Reads as total
use Rattle.intake.proofs.is_torn.Reads as is-torn
use Rattle.intake.proofs.report.Reads as report
use Rattle.intake.proofs.words.is_help.Reads as is-help
use Rattle.intake.proofs.words.is_option.Reads as is-option
use Rattle.intake.proofs.words.option.Reads as option

no_bytes : (s : List ℕ) → length s ≡ 0 → s ≡ []
no_bytes [] e = refl
no_bytes (x ∷ s) e = absurd (omega arith)

-- where no byte came, the board is empty, no line is counted, and no line is torn
nothing : (κs : _) (a : _) (r : _) (s : _) (p : report.Post κs a r s) → r.day.input.total ≡ 0 → p.1.0.feed ≡ []
nothing κs a r s p none = no_bytes p.1.0.feed (p.1.0.handed ∙ none)

pub seven_lines_of_nothing : (κs : _) (a : _) (r : _) (s : _) → report.Post κs a r s → r.day.input.total ≡ 0
    → take r.size s.1.1.0.now ≡ bytes "FLIGHTS 0" ++ 10 ∷ (bytes "LINES 0 TAKEN 0" ++ 10 ∷ [])
unfolding report_of lines_of texts_of all_but_last pieces rows_by taken_by line_feeds board_text counts_text rows_text line_text decimal width_by padded places byte_of
seven_lines_of_nothing κs a r s p none = p.1.0.report ∙ rw (nothing κs a r s p none, read_empty most_lines)

pub junk_after_the_report : (κs : _) (a : _) (r : _) (s : _) → report.Post κs a r s → r.day.input.total ≡ 0 → drop 26 s.1.1.0.now ≡ drop 26 a.1.1.0.now
unfolding spliced
junk_after_the_report κs a r s p none = ap (drop 26) (p.1.1 ∙ ap (spliced a.1.1.0.now 0) (seven_lines_of_nothing κs a r s p none))

pub nothing_is_torn : (κs : _) (a : _) (r : _) (s : _) → report.Post κs a r s → r.day.input.total ≡ 0 → r.torn ≡ false
unfolding rest_of last pieces
nothing_is_torn κs a r s p none = p.1.0.torn ∙ rw (nothing κs a r s p none, read_empty most_lines)

pub short_help_refused : (κs : _) (a : _) (r : _) (s : _) → is-help.Post κs a r s → a.0.now ≡ bytes "-h" → r ≡ true
short_help_refused κs a r s p e = p.1 (inl e)

pub a_file_is_help : (κs : _) (a : _) (r : _) (s : _) → is-help.Post κs a r s → a.0.now ≡ bytes "help" → r ≡ false
a_file_is_help κs a r s p e =
    not_holds r
    (λ q. ⊎_elim
    (λ w. let z : ◌≡◌ {A = ℕ} 4 2 = ap length (sym e ∙ w) in omega arith)
    (λ w. let z : ◌≡◌ {A = ℕ} 4 6 = ap length (sym e ∙ w) in omega arith)
    (p.0 q))

pub empty_is_an_option : (κs : _) (a : _) (r : _) (s : _) → is-option.Post κs a r s → a.0.now ≡ [] → r ≡ false
empty_is_an_option κs a r s p e = p ∙ rw e

pub hyphen_inside_is_an_option : (κs : _) (a : _) (r : _) (s : _) → is-option.Post κs a r s → a.0.now ≡ bytes "a-h" → r ≡ false
hyphen_inside_is_an_option κs a r s p e = p ∙ rw e

-- --old asks for the old feed, after --refused too, and no other word does
pub old_reads_the_feed : (κs : _) (a : _) (r : _) (s : _) → option.Post κs a r s → a.0 ≡ record { rule = New; refused = true } → a.1.0.now ≡ bytes "--old" → r ≡ Some (record { rule = Old; refused = true })
old_reads_the_feed κs a r s p e f = asks_one a.0 a.1.0.now p (rw (e, f) (AsksOld refl refl))

pub refused_reads_the_old_feed : (κs : _) (a : _) (r : _) (s : _) → option.Post κs a r s → a.0 ≡ record { rule = New; refused = false } → a.1.0.now ≡ bytes "--refused" → r ≡ Some (record { rule = New; refused = true })
refused_reads_the_old_feed κs a r s p e f = asks_one a.0 a.1.0.now p (rw (e, f) (AsksRefused refl refl))

pub old_twice : (κs : _) (a : _) (r : _) (s : _) → option.Post κs a r s → a.0 ≡ record { rule = Old; refused = false } → a.1.0.now ≡ bytes "--old" → r ≡ None
old_twice κs a r s p e f = asks_one a.0 a.1.0.now p (rw (e, f) (AsksNothing (λ _. refl) (λ z. absurd (omega (arith, ap length z)))))

-- a read that is live brought something, and no more than its block holds
pub live_and_nothing_came : (κs : _) (a : _) (r : _) (s : _) → next.Post κs a r s → r.live ≡ true → r.total ≡ a.0.total → ⊥
live_and_nothing_came κs a r s p l e = omega (arith, (p.0.some l).0, e)

pub more_than_the_block : (κs : _) (a : _) (r : _) (s : _) → next.Post κs a r s → length s.1.1.0.now ≡ 4 → a.0.total ≡ 10 → r.total ≡ 15 → ⊥
more_than_the_block κs a r s p h e f = omega (arith, p.0.most, h, e, f)

-- one that failed brought nothing more, and the descriptor stays
pub failed_and_live : (κs : _) (a : _) (r : _) (s : _) → next.Post κs a r s → r.failed ≡ true → r.live ≡ true → ⊥
failed_and_live κs a r s p f l = true_false l (p.0.ends f)

pub failed_with_bytes : (κs : _) (a : _) (r : _) (s : _) → next.Post κs a r s → r.failed ≡ true → r.total ≡ a.0.total
failed_with_bytes κs a r s p f = p.0.none (p.0.ends f)

pub reads_another_descriptor : (κs : _) (a : _) (r : _) (s : _) → next.Post κs a r s → a.0.fd ≡ pos 3 → r.fd ≡ pos 3
reads_another_descriptor κs a r s p e = p.0.same ∙ e

-- what comes, comes from the descriptor that the input names: nothing from a file that has another; standard input is 0
pub reads_from_another_file : (κs : _) (a : _) (r : _) (s : _) → next.Post κs a r s → a.0.fd ≡ pos 3 → source_fd a.1.1.1.0.now ≡ pos 4 → r.live ≡ true → ⊥
reads_from_another_file κs a r s p e f l = let z : pos 4 ≡ pos 3 = sym f ∙ p.1 l ∙ e in cc

pub standard_input_by_another_number : (κs : _) (a : _) (r : _) (s : _) (x : _) → next.Post κs a r s → a.1.1.1.0.now ≡ source.Standard x → r.live ≡ true → a.0.fd ≡ pos 0
standard_input_by_another_number κs a r s x p f l = sym (p.1 l) ∙ ap source_fd f

-- a path is the name that was given, which is text
pub another_path : (κs : _) (a : _) (s : _) (path : _) → path-of.Post κs a (Some path) s → a.0.now ≡ bytes "feed" → path.now ≡ bytes "feed"
another_path κs a s path p e = p.0 ∙ e

pub path_of_a_name_that_is_no_text : (κs : _) (a : _) (s : _) (path : _) → path-of.Post κs a (Some path) s → (IsUtf8 a.0.now → ⊥) → ⊥
path_of_a_name_that_is_no_text κs a s path p n = n p.1

-- what is written goes to the descriptor that was named: standard output is 1
pub writes_to_another_file : (κs : _) (a : _) (r : _) (s : _) → write.Post κs a r s → target_fd a.0.now ≡ pos 4 → IsOk r → a.1.0 ≡ pos 4
writes_to_another_file κs a r s p f o = sym (p o) ∙ f

pub standard_output_by_another_number : (κs : _) (a : _) (r : _) (s : _) (x : _) → write.Post κs a r s → a.0.now ≡ target.Standard x → IsOk r → a.1.0 ≡ pos 1
standard_output_by_another_number κs a r s x p f o = sym (p o) ∙ ap target_fd f

-- a block of one byte after as many bytes as a number holds is not read into
pub fails_unread : (κs : _) (a : _) (r : _) (s : _) → next.Post κs a r s → length s.1.1.0.now ≡ 1 → a.0.total ≡ 18446744073709551615 → r.failed ≡ false
fails_unread κs a r s p h e = (p.0.unread (omega (arith, h, e))).1

-- a feed begins with no byte, and may bring some
pub starts_with_a_byte : (κs : _) (a : _) (r : _) (s : _) → start.Post κs a r s → r.total ≡ 1 → ⊥
starts_with_a_byte κs a r s p e = omega (arith, p.0, e)

pub ended_at_its_start : (κs : _) (a : _) (r : _) (s : _) → start.Post κs a r s → r.live ≡ false → ⊥
ended_at_its_start κs a r s p e = true_false p.1 e

pub failed_at_its_start : (κs : _) (a : _) (r : _) (s : _) → start.Post κs a r s → r.failed ≡ true → ⊥
failed_at_its_start κs a r s p e = true_false e p.2

pub starts_another_descriptor : (κs : _) (a : _) (r : _) (s : _) → start.Post κs a r s → a.0 ≡ pos 3 → r.fd ≡ pos 3
starts_another_descriptor κs a r s p e = p.3 ∙ e

-- what is told of a feed is what it holds
pub another_total : (κs : _) (a : _) (r : _) (s : _) → total.Post κs a r s → a.0.total ≡ 7 → r ≡ 7
another_total κs a r s p e = p ∙ e

pub nothing_of_much : (κs : _) (a : _) (r : _) (s : _) → total.Post κs a r s → a.0.total ≡ 65536 → r ≡ 0 → ⊥
nothing_of_much κs a r s p e f = omega (arith, p, e, f)

pub live_when_closed : (κs : _) (a : _) (r : _) (s : _) → is_live.Post κs a r s → a.0.live ≡ false → r ≡ false
live_when_closed κs a r s p e = p ∙ e

pub closed_when_live : (κs : _) (a : _) (r : _) (s : _) → is_live.Post κs a r s → a.0.live ≡ true → r ≡ true
closed_when_live κs a r s p e = p ∙ e

-- a feed whose read failed is barren only if no byte had come, and an empty one is not
pub barren_after_bytes : (κs : _) (a : _) (r : _) (s : _) → is-barren.Post κs a r s → a.0.failed ≡ true → a.0.total ≡ 3 → r ≡ false
barren_after_bytes κs a r s p e f = p ∙ rw (e, f)

pub barren_when_empty : (κs : _) (a : _) (r : _) (s : _) → is-barren.Post κs a r s → a.0.failed ≡ false → r ≡ false
barren_when_empty κs a r s p e = p ∙ rw e

-- a feed is torn inside a line, and not at a line's start
pub torn_at_a_start : (κs : _) (a : _) (r : _) (s : _) → is-torn.Post κs a r s → length a.0.now ≡ 2048 → a.1.0 ≡ Held 0 → r ≡ false
unfolding is_torn end_of end_number is_allowed at_start has up_to
torn_at_a_start κs a r s p h b = p ∙ rw (b, h)

pub whole_inside_a_line : (κs : _) (a : _) (r : _) (s : _) (rest : List ℕ) → is-torn.Post κs a r s → a.0.now ≡ 65 ∷ rest → length rest ≡ 2047 → a.1.0 ≡ Held 1 → r ≡ true
unfolding is_torn end_of end_number is_allowed at_start has up_to
whole_inside_a_line κs a r s rest p e h b = p ∙ rw (e, b, h)
