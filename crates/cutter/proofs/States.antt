-- What stands in the lent buffer after bytes more, or after a line feed, is what the document says of the state. Assumes nothing.
use mathlib.Core.Path.{◌≡◌, refl, ap, ◌∙◌}
use mathlib.Core.Bool.{Bool, true, false, ◌&&◌, not}
use mathlib.Core.List.{List, [], ◌++◌, append-nil, append_assoc}
use Prim.Native.Nat.{ℕ, ◌+◌, ◌≤◌, ◌<◌}
use native.Mathlib.Omega.{arith}
use lib.Dec.{eqb, leb}
use lib.ListN.{length, take, drop, length-append}
use lib.Seq.{length-take-le, take_at}
use borrow.Author.Tests.{eq-eqb, eqb-true, leb-true, leb-false, le-leb, lt-leb, not-true}
use Rattle.text.specs.Text.{has_room, spliced}
use Rattle.text.proofs.Logic.{and_left, and_right}
use Rattle.text.proofs.Splice.{length-spliced}
use Rattle.shapes.specs.Cut.{up_to, has}
use Rattle.shapes.proofs.Joins.{up_to_past, whole_has, no_cut}
use Rattle.rules.specs.Frame.{line_feed, longest_line}
use Rattle.cutter.specs.State.{State, Bytes, Mark, state_in, is_allowed, more, more_in, held_more}
use Rattle.cutter.specs.declared.Begun.{Begun}
use Rattle.cutter.specs.declared.Begun.TheVariants.{Held, Overlong}

-- ---- what is known of an allowed state

pub allowed_size : (held : List ℕ) (begun : Begun) → is_allowed held begun ≡ true → length held ≡ longest_line
unfolding is_allowed
allowed_size held (Held n) a = eqb-true (length held) longest_line (and_left (eqb (length held) longest_line) _ a)
allowed_size held Overlong a = eqb-true (length held) longest_line (and_left (eqb (length held) longest_line) _ a)

-- the begun line: n bytes of the buffer, none of them a line feed
pub record Begins (held : List ℕ) (n : ℕ) : Type 0 where
  pub size : length held ≡ longest_line
  pub fits : n ≤ length held
  pub count : length (take n held) ≡ n
  pub clean : up_to line_feed (take n held) ≡ length (take n held)

pub begins : (held : List ℕ) (n : ℕ) → is_allowed held (Held n) ≡ true → Begins held n
unfolding is_allowed
begins held n a =
    let s : length held ≡ longest_line = allowed_size held (Held n) a in
    let b = and_right (eqb (length held) longest_line) (leb n longest_line && not (has line_feed (take n held))) a in
    let l : n ≤ length held = omega (arith, s, leb-true n longest_line (and_left (leb n longest_line) (not (has line_feed (take n held))) b)) in
    record {
      size = s;
      fits = l;
      count = length-take-le n held l;
      clean = no_cut line_feed (take n held) (not-true (has line_feed (take n held)) (and_right (leb n longest_line) (not (has line_feed (take n held))) b));
    }

pub begun_allowed : (held : List ℕ) (n : ℕ) → Begins held n → is_allowed held (Held n) ≡ true
unfolding is_allowed
begun_allowed held n b =
    rw (eq-eqb (length held) longest_line b.size, le-leb n longest_line (omega (arith, b.fits, b.size)), whole_has line_feed (take n held) b.clean)

pub mark_allowed : (held : List ℕ) → length held ≡ longest_line → is_allowed held Overlong ≡ true
unfolding is_allowed
mark_allowed held s = rw (eq-eqb (length held) longest_line s)

pub start_allowed : (held : List ℕ) → length held ≡ longest_line → is_allowed held (Held 0) ≡ true
unfolding is_allowed has up_to
start_allowed held s = rw (eq-eqb (length held) longest_line s)

-- ---- bytes more

-- what the state is after them, in the buffer and in the document
pub record Grown (held : List ℕ) (begun : Begun) (s held' : List ℕ) (begun' : Begun) : Type 0 where
  pub state : state_in held' begun' ≡ more (state_in held begun) s
  pub size : length held' ≡ length held
  -- where they have no line feed
  pub still : up_to line_feed s ≡ length s → is_allowed held' begun' ≡ true

module _ (held : List ℕ) (n : ℕ) (b : Begins held n) (s : List ℕ) where
  long : length (take n held ++ s) ≡ n + length s
  long = omega (arith, length-append (take n held) s, b.count)

  grown_room : n + length s ≤ length held → Grown held (Held n) s (spliced held n s) (Held (n + length s))
  unfolding state_in more spliced
  grown_room h =
      let t : take (n + length s) (take n held ++ s ++ drop (n + length s) held) ≡ take n held ++ s = take_at (take n held ++ s) (drop (n + length s) held) (n + length s) long in
      let z : length (spliced held n s) ≡ length held = length-spliced held s n h in
      record {
        state = rw (t, long, le-leb (n + length s) longest_line (omega (arith, h, b.size)));
        size = z;
        still = λ e. begun_allowed (spliced held n s) (n + length s) (record {
          size = z ∙ b.size;
          fits = omega (arith, z, h);
          count = rw (t, long);
          clean = rw t (up_to_past line_feed (take n held) s b.clean ∙ rw (long, b.count, e));
        });
      }

  grown_full : length held < n + length s → Grown held (Held n) s held Overlong
  unfolding state_in more
  grown_full h = record { state = rw (long, lt-leb (n + length s) longest_line (omega (arith, h, b.size))); size = refl; still = λ e. mark_allowed held b.size }

pub grown : (held : List ℕ) (begun : Begun) (s : List ℕ) → is_allowed held begun ≡ true → Grown held begun s (held_more held begun s) (more_in held begun s)
unfolding held_more more_in has_room more state_in
grown held Overlong s a = record { state = refl; size = refl; still = λ e. a }
grown held (Held n) s a = go (leb (n + length s) (length held)) refl (begins held n a)
  where
    go : (t : Bool) → leb (n + length s) (length held) ≡ t → Begins held n → Grown held (Held n) s (held_more held (Held n) s) (more_in held (Held n) s)
    go true q b = rw q (grown_room held n b s (leb-true (n + length s) (length held) q))
    go false q b = rw q (grown_full held n b s (leb-false (n + length s) (length held) q))

-- bytes after bytes are both at once
pub more_more : (h : State) (s t : List ℕ) → more (more h s) t ≡ more h (s ++ t)
unfolding more
more_more Mark s t = refl
more_more (Bytes h) s t = go (leb (length (h ++ s)) longest_line) refl
  where
    go : (b : Bool) → leb (length (h ++ s)) longest_line ≡ b → more (more (Bytes h) s) t ≡ more (Bytes h) (s ++ t)
    go true q = rw (q, append_assoc h s t)
    go false q =
        let k : longest_line < length (h ++ (s ++ t)) = omega (arith, leb-false (length (h ++ s)) longest_line q, length-append (h ++ s) t, ap length (append_assoc h s t)) in
        rw (q, lt-leb (length (h ++ (s ++ t))) longest_line k)

-- no bytes change nothing
pub more_none : (held : List ℕ) (begun : Begun) → is_allowed held begun ≡ true → more (state_in held begun) [] ≡ state_in held begun
unfolding more state_in
more_none held Overlong a = refl
more_none held (Held n) a =
    let b = begins held n a in
    rw (append-nil (take n held), b.count, le-leb n longest_line (omega (arith, b.fits, b.size)))
