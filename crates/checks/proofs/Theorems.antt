-- THE THEOREMS OF A CHECK, about the promises (`Post`) of `check` and `end` as they stand in the source: whatever the parts of a feed, what is said of
-- them, one after the other, and then of the unended rest, is what is said of the whole; and where in the line its type and its key stand.
-- Assumes nothing.
use Rattle.std.specs.Prelude.{Ok}
use mathlib.Core.Path.{◌≡◌, sym, ap, ◌∙◌}
use mathlib.Core.Bool.{true, false}
use mathlib.Core.List.{List, [], ◌++◌}
use Prim.Native.Nat.{ℕ, ◌+◌, ◌≤◌}
use native.Mathlib.Omega.{arith}
use lib.ListN.{length, take, drop}
use Rattle.shapes.specs.Cut.{before}
use Rattle.shapes.specs.Many.{how_many}
use Rattle.shapes.specs.Picture.{part}
use Rattle.rules.specs.Frame.{line_feed}
use Rattle.rules.specs.Kind.{KEY}
use Rattle.rules.specs.declared.Rule.{Rule}
use Rattle.rules.specs.declared.Rule.TheVariants.{New, Old}
use Rattle.fields.specs.Pair.{slash}
use Rattle.table.specs.Table.{has_fields}
use Rattle.cutter.specs.Feed.{rest_of}
use Rattle.cutter.specs.State.{Bytes}
use Rattle.cutter.proofs.Feeds.{start_lines}
use Rattle.messages.specs.Body.{type_in, key_in}
use Rattle.messages.specs.Named.{field_at}
use Rattle.messages.specs.declared.Reading.{Reading}
use Rattle.messages.proofs.Keys.{no_key}
use Rattle.line.specs.Cases.{fewest, untyped}
use Rattle.line.specs.Read.{read_by}
use Rattle.line.proofs.Placed.{reads_stand, stands_key}
use Rattle.printer.specs.RowText.{hyphen}
use Rattle.printer.proofs.RowLines.{word_part}
use Rattle.checks.specs.Check.{type_said, key_said}
use Rattle.checks.specs.Feed.{checks_of, checked_of, Checked}
use Rattle.checks.specs.Run.{Checks, Ends, Run, begin, go_on}
use Rattle.checks.specs.declared.Asked.{Asked}
use Rattle.checks.specs.declared.Sums.{Sums}
use Rattle.checks.proofs.Lines.{zero_part}
use Rattle.checks.proofs.Joins.{lines_few, feeds_told}
use Rattle.checks.proofs.Feeds.{first_checked, continues}
use Rattle.checks.proofs.Torn.{ends_feed}
use Rattle.checks.proofs.check.Reads as check
use Rattle.checks.proofs.end.Reads as end

-- ---- the runs of `specs/Run` are made of these promises

pub check_promise : (κs : _) (a : _) (r : _) (s : _) → check.Post κs a r s
    → Checks a.1.0 a.0.now a.1.1.0 a.1.1.1.0.now a.1.1.1.1.0.now s.0.now r s.1.1.1.1.0.now
check_promise κs a r s p = p.0

pub end_promise : (κs : _) (a : _) (r : _) (s : _) → end.Post κs a r s → Ends a.0.now a.1.0 a.1.1.0.now r s.1.1.0.now
end_promise κs a r s p = (p.0, p.1.0)

-- ---- WHATEVER THE PARTS

pub run_checked : {asked : Asked} {feed held : List ℕ} {s : Sums} {said : List ℕ} → Run asked feed held s said → Checked asked feed held s said
run_checked {asked} (begin held e) = first_checked asked held e
run_checked (go_on {feed} {said = said} part out p x) = continues x feed said (run_checked p)

-- what was said of the parts is what is said of the lines of the whole
pub any_parts : {asked : Asked} {feed held : List ℕ} {s : Sums} {said : List ℕ} → Run asked feed held s said → said ≡ checks_of asked feed
any_parts p = (run_checked p).text

-- and with the end, what is said of the whole feed
pub whole_feed : {asked : Asked} {feed held : List ℕ} {s : Sums} {said : List ℕ} → Run asked feed held s said → (out : List ℕ) {out' : List ℕ} {r : ℕ} → Ends held s out r out' → said ++ take r out' ≡ checked_of asked feed
unfolding checked_of
whole_feed {asked} {feed} {held} {s} {said} p out e =
    let c = run_checked p in
    rw (ends_feed held s out e.0 e.1 asked feed said c, c.text, c.lines)

-- not more lines than bytes: the counts of a feed that came can't be exceeded
pub checked_few : {asked : Asked} {feed held : List ℕ} {s : Sums} {said : List ℕ} → Checked asked feed held s said → s.lines + length (rest_of feed) ≤ length feed
checked_few {asked} {feed} c = omega (arith, c.lines, ap length (start_lines feed), lines_few (Bytes []) feed)

-- "LINES counts line feeds"
pub lines_are_feeds : {asked : Asked} {feed held : List ℕ} {s : Sums} {said : List ℕ} → Checked asked feed held s said → s.lines ≡ how_many line_feed feed
lines_are_feeds {asked} {feed} c = c.lines ∙ sym (ap length (start_lines feed)) ∙ feeds_told (Bytes []) feed

-- ---- WHERE IN THE LINE THEY STAND

-- "two letters of type", after 16 bytes; in an old line after 7
pub type_there : (ρ : Rule) (s : List ℕ) (x : Reading) → read_by ρ s ≡ Ok x → type_said (read_by ρ s) ≡ part (untyped ρ) 2 s
type_there New s x e = rw e (reads_stand New s x e).type
type_there Old s x e = rw e (reads_stand Old s x e).type

-- "The flight's key is the part before the slash", of the first field; the body begins after 18 bytes, in an old line after 9
pub key_there : (ρ : Rule) (s : List ℕ) (x : Reading) → read_by ρ s ≡ Ok x → has_fields (type_in x.body) ≡ true → key_said (read_by ρ s) ≡ before slash (field_at 1 (drop (fewest ρ) s))
key_there New s x e f = let k = stands_key New s x e f in rw e (word_part KEY (key_in x.body) k.0 ∙ k.1)
key_there Old s x e f = let k = stands_key Old s x e f in rw e (word_part KEY (key_in x.body) k.0 ∙ k.1)

-- RT, TO and HB have no fields, and no key
pub key_none : (ρ : Rule) (s : List ℕ) (x : Reading) → read_by ρ s ≡ Ok x → has_fields (type_in x.body) ≡ false → key_said (read_by ρ s) ≡ hyphen
key_none ρ s x e f = rw (e, no_key x.body f) zero_part
