-- The work of a check, block after block: what is kept stays so, what is handed over next is exactly what is said of what came, and when there is more.
-- Assumes nothing.
use mathlib.Core.Path.{◌≡◌, refl, sym, ap, ◌∙◌}
use mathlib.Core.Bool.{Bool, true, false, cond, ◌&&◌}
use mathlib.Core.List.{List, [], ◌++◌}
use Prim.Native.Nat.{ℕ, suc, ◌+◌, ◌*◌, ◌-◌, ◌≤◌, ◌<◌, ◌^◌}
use native.Mathlib.Omega.{arith}
use lib.ListN.{length, take, length-append}
use lib.Seq.{length-take-le}
use Rattle.text.proofs.Logic.{and_left, and_right, true_false}
use Rattle.rules.specs.Frame.{longest_line}
use Rattle.cutter.specs.Feed.{lines_of, rest_of}
use Rattle.checks.specs.Check.{torn_of}
use Rattle.checks.specs.Feed.{checks_of, checked_of, Checked}
use Rattle.checks.specs.Part.{longest_saying, Ready, Continues, EndReady, EndsFeed}
use Rattle.checks.specs.Run.{at_first}
use Rattle.checks.specs.declared.Asked.{Asked}
use Rattle.checks.specs.declared.Sums.{Sums}
use Rattle.checks.proofs.Joins.{reads_few}
use Rattle.checks.proofs.Feeds.{first_checked}
use Rattle.checks.proofs.Torn.{inside_rest}
use Rattle.checks.proofs.Theorems.{checked_few}
use Rattle.intake.specs.Edge.{Came}
use Rattle.intake.specs.Desk.{Next, More, Last, Handed, is_on, Kept, Whole, Done}
use Rattle.intake.specs.declared.input.Input.{Input}
use Rattle.intake.specs.declared.output.Output.{Output}
use Rattle.intake.specs.declared.checking.Work.{Work}

-- ---- whether there is more

module _ (w : Work) where
  pub on_ended : w.input.live ≡ false → false ≡ is_on w
  unfolding is_on
  on_ended e = rw e

  pub on_live : w.input.live ≡ true → {b : Bool} → b ≡ w.output.live → b ≡ is_on w
  unfolding is_on
  on_live e f = rw e f

  pub on_first : w.input.live ≡ true → w.output.live ≡ true → true ≡ is_on w
  unfolding is_on
  on_first e f = rw (e, f)

  pub on_is : is_on w ≡ true → (w.input.live ≡ true) × (w.output.live ≡ true)
  unfolding is_on
  on_is e = (and_left w.input.live w.output.live e, and_right w.input.live w.output.live e)

  -- where what was said was taken, no more comes
  pub off_is : is_on w ≡ false → w.output.live ≡ true → w.input.live ≡ false
  unfolding is_on
  off_is e f = go w.input.live (rw f at e)
    where
      go : (b : Bool) → (b && true) ≡ false → b ≡ false
      go true q = q
      go false q = q

-- ---- the start

pub first_kept : (asked : Asked) (held : List ℕ) → length held ≡ longest_line → (i : Input) → i.total ≡ 0 → (o : Output) → o.total ≡ 0
    → Kept asked held (record { input = i; sums = at_first; output = o })
unfolding checks_of
first_kept asked held h i e o f =
    let c = first_checked asked held h in
    ([], record { checked = record { allowed = c.allowed; state = c.state; lines = c.lines; read = c.read; text = refl }; came = sym e; handed = λ q. f ∙ ap length c.text })

-- ---- a block

module _ (asked : Asked) (held : List ℕ) (w : Work) (k : Kept asked held w) where
  abbrev feed : List ℕ
  feed = k.0

  abbrev has : Checked asked feed held w.sums (checks_of asked feed)
  has = k.1.checked

  -- fewer lines than bytes, so that the counts have room
  few : w.sums.lines + length (rest_of feed) ≤ w.input.total
  few = omega (arith, checked_few has, k.1.came)

  pub fewer : w.sums.read ≤ w.sums.lines
  fewer = omega (arith, has.lines, has.read, reads_few asked.rule (lines_of feed))

  -- what came is a part that can be checked
  pub block_ready : (part : List ℕ) (room : ℕ) → w.input.total + length part < 2 ^ 64 → longest_saying * length part ≤ room → Ready held w.sums part room
  block_ready part room h r = record { allowed = has.allowed; few = omega (arith, few); less = fewer; roomy = r }

  module _ (on : is_on w ≡ true) (part held' : List ℕ) (s' : Sums) (text : List ℕ) (x : Continues asked held w.sums part held' s' text) where
    next : Checked asked (feed ++ part) held' s' (checks_of asked feed ++ text)
    next = x feed (checks_of asked feed) has

    pub block_next : (n : ℕ) → n ≡ w.input.total + length part → Next asked n w.output.total text
    block_next n e = More feed part (omega (arith, e, length-append feed part, k.1.came)) (k.1.handed (on_is w on).1) (sym next.text)

    pub block_kept : (i : Input) → i.total ≡ w.input.total + length part → (o : Output) → Handed w.output (length text) o → Kept asked held' (record { input = i; sums = s'; output = o })
    block_kept i e o h = (
      feed ++ part,
      record {
        checked = record { allowed = next.allowed; state = next.state; lines = next.lines; read = next.read; text = refl };
        came = omega (arith, e, length-append feed part, k.1.came);
        handed = λ q. omega (arith, h q, k.1.handed (on_is w on).1, ap length next.text, length-append (checks_of asked feed) text);
      },
    )

-- as many bytes as came stand at the start of the block
module _ (i : Input) (block : List ℕ) (j : Input) (c : Came i (length block) j) {m n : ℕ} (e : m ≡ j.total) (f : n ≡ i.total) where
  pub came_inside : m - n ≤ length block
  came_inside = omega (arith, e, f, c.least, c.most)

  pub came_size : length (take (m - n) block) ≡ m - n
  came_size = length-take-le (m - n) block came_inside

  pub came_total : j.total ≡ i.total + length (take (m - n) block)
  came_total = omega (arith, came_size, e, f, c.least)

-- ---- with each read there is less to come: fewer bytes, or none at all

abbrev pub still_to_come : Input → ℕ
still_to_come i = 2 ^ 64 - i.total + cond i.live 1 0

pub less_still : (i j : Input) (size : ℕ) → Came i size j → i.live ≡ true → still_to_come j < still_to_come i
less_still i j size c e = go j.live refl
  where
    go : (b : Bool) → j.live ≡ b → still_to_come j < still_to_come i
    go true q = let s = c.some q in rw (e, q) (omega (arith, s.0, s.1))
    go false q = rw (e, q, c.none q) (omega arith)

-- ---- the end

module _ (asked : Asked) (held : List ℕ) (w : Work) (h : Whole asked held w) where
  abbrev all : List ℕ
  all = h.0.0

  abbrev said : Checked asked all held w.sums (checks_of asked all)
  said = h.0.1.checked

  pub end_ready : (room : ℕ) → w.input.total < 2 ^ 64 → longest_saying ≤ room → EndReady held w.sums room
  end_ready room t r =
      record {
        allowed = said.allowed;
        few = λ q. omega (arith, few asked held w h.0, inside_rest said q, t);
        roomy = r;
      }

  -- nothing more is taken
  pub done_closed : w.output.live ≡ false → Done asked w
  done_closed q =
      record { feed = all; came = h.0.1.came; lines = said.lines; read = said.read; fewer = fewer asked held w h.0; handed = λ p. true_false p q }

  module _ (live : w.output.live ≡ true) (text : List ℕ) (x : EndsFeed held w.sums text) where
    whole : checked_of asked all ≡ checks_of asked all ++ text
    unfolding checked_of
    whole =
        let t : text ≡ torn_of (suc (length (lines_of all))) (rest_of all) = x asked all (checks_of asked all) said ∙ ap (λ (n : ℕ). torn_of (suc n) (rest_of all)) said.lines in
        ap (λ (l : List ℕ). checks_of asked all ++ l) (sym t)

    pub end_next : Next asked w.input.total w.output.total text
    end_next = Last all h.0.1.came (h.0.1.handed live) whole

    pub end_done : (o : Output) → Handed w.output (length text) o → Done asked (record { input = w.input; sums = w.sums; output = o })
    end_done o k =
        record {
          feed = all;
          came = h.0.1.came;
          lines = said.lines;
          read = said.read;
          fewer = fewer asked held w h.0;
          handed = λ q. (off_is w h.1 live, omega (arith, k q, h.0.1.handed live, ap length whole, length-append (checks_of asked all) text));
        }
