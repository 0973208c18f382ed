-- A block more: what is kept after it, and that the counts stay within the limit; when there is more to read. Assumes nothing.
use mathlib.Core.Path.{◌≡◌, refl, sym, ap, subst}
use mathlib.Core.Bool.{Bool, true, false, cond}
use mathlib.Core.List.{List, [], ◌++◌}
use Prim.Native.Nat.{ℕ, ◌+◌, ◌-◌, ◌≤◌, ◌<◌, ◌^◌}
use native.Mathlib.Omega.{arith}
use lib.Dec.{ltb}
use lib.ListN.{length, take, length-append}
use lib.Seq.{length-take-le}
use Rattle.text.proofs.Logic.{and_left}
use Rattle.feeding.specs.Fed.{fed_of, board_fed, held_after}
use Rattle.feeding.specs.declared.AfterFeed.{AfterFeed}
use Rattle.board.specs.Board.{is_allowed as is_board}
use Rattle.cutter.specs.State.{is_allowed}
use Rattle.cutter.specs.Calls.{start}
use Rattle.reports.specs.Report.{most_lines}
use Rattle.reports.specs.Run.{Read, begin, go_on}
use Rattle.reports.proofs.Theorems.{read_bounds, read_stands}
use Rattle.intake.specs.Day.{ReadTo, Kept, TakesIn, came_in, Reads, is_more, AtStart}
use Rattle.intake.specs.Edge.{Came}
use Rattle.intake.specs.declared.Day.{Day}
use Rattle.intake.specs.declared.input.Input.{Input}

-- ---- what some feed has led to

module _ (board held : List ℕ) (d : Day) (k : Kept board held d) where
  pub kept_lines : d.lines ≤ most_lines
  kept_lines = (read_bounds most_lines k.1).0

  pub kept_taken : d.taken ≤ most_lines
  kept_taken = let b = read_bounds most_lines k.1 in omega (arith, b.0, b.1)

  -- reading leaves an allowed board and an allowed cutter state, so that neither is tested again
  pub kept_allowed : (is_board board ≡ true) × (is_allowed held d.begun ≡ true)
  kept_allowed = let s = read_stands most_lines k.1 in (s.board_allowed, s.state_allowed)

-- ---- a call of `feed_allowed` with what the limit still allows

module _ (board held : List ℕ) (d : Day) (block : List ℕ) (r : AfterFeed) (board' held' : List ℕ)
    (f : (r ≡ fed_of board held d.begun (most_lines - d.lines) block) × ((board' ≡ board_fed board held d.begun (most_lines - d.lines) block) × (held' ≡ held_after board held d.begun (most_lines - d.lines) block))) where
  pub reads_on : (feed : List ℕ) → ReadTo feed board held d → Read most_lines (feed ++ block) board' held' r.begun (d.lines + r.lines) (d.taken + r.taken)
  reads_on feed p = go_on block p (record { result = f.0; words = f.1.0; buffer = f.1.1 })

  pub lines_within : Kept board held d → d.lines + r.lines ≤ most_lines
  lines_within k = (read_bounds most_lines (reads_on k.0 k.1)).0

  pub taken_within : Kept board held d → d.taken + r.taken ≤ most_lines
  taken_within k = let b = read_bounds most_lines (reads_on k.0 k.1) in omega (arith, b.0, b.1)

-- ---- what is kept stays so

pub kept_first : (board held : List ℕ) → AtStart board held → Read most_lines [] board held start 0 0
kept_first board held a = subst (λ (l : List ℕ). Read most_lines [] l held start 0 0) (sym a.0) (begin (length board) held a.1 a.2)

-- as many bytes as came
pub came_size : (d : Day) (block : List ℕ) (d' : Day) → Came d.input (length block) d'.input → length (came_in d block d') ≡ d'.input.total - d.input.total
came_size d block d' c = length-take-le (d'.input.total - d.input.total) block (omega (arith, c.least, c.most))

-- what came, i, was taken in: the two totals as `read_block` asked for them
pub reads_block : (board held : List ℕ) (d : Day) (block board' held' : List ℕ) (d' : Day) {i : Input} → Came d.input (length block) i → {m n : ℕ} → m ≡ i.total → n ≡ d.input.total
    → (d'.input ≡ i) × TakesIn board held d (take (m - n) block) board' held' d' → Reads board held d block board' held' d'
reads_block board held d block board' held' d' {i} c {m} {n} e f t =
    let y : d'.input.total ≡ i.total = ap (λ (j : Input). j.total) t.0 in
    let z : m - n ≡ d'.input.total - d.input.total = omega (arith, e, f, y) in
    record { came = rw t.0 c; taken_in = rw z at t.1 }

pub kept_more : (board held : List ℕ) (d : Day) (block board' held' : List ℕ) (d' : Day) → Reads board held d block board' held' d' → Kept board held d → Kept board' held' d'
kept_more board held d block board' held' d' r k =
    (k.0 ++ came_in d block d', r.taken_in k.0 k.1, omega (arith, length-append k.0 (came_in d block d'), came_size d block d' r.came, k.2, r.came.least))

-- ---- whether there is more

module _ (d : Day) where
  pub more_ended : d.input.live ≡ false → false ≡ is_more d
  unfolding is_more
  more_ended e = rw e

  pub more_live : d.input.live ≡ true → ltb d.lines most_lines ≡ is_more d
  unfolding is_more
  more_live e = rw e

  pub more_first : d.input.live ≡ true → d.lines ≡ 0 → true ≡ is_more d
  unfolding is_more
  more_first e f = rw (e, f)

  pub more_is : is_more d ≡ true → d.input.live ≡ true
  unfolding is_more
  more_is e = and_left d.input.live (ltb d.lines most_lines) e

-- ---- with each read there is less to come: fewer bytes, or none at all

abbrev pub to_come : Day → ℕ
to_come d = 2 ^ 64 - d.input.total + cond d.input.live 1 0

pub less_to_come : (d d' : Day) (size : ℕ) → Came d.input size d'.input → d.input.live ≡ true → to_come d' < to_come d
less_to_come d d' size c e = go d'.input.live refl
  where
    go : (b : Bool) → d'.input.live ≡ b → to_come d' < to_come d
    go true q = let s = c.some q in rw (e, q) (omega (arith, s.0, s.1))
    go false q = rw (e, q, c.none q) (omega arith)
