-- AN AF'S AMENDMENTS, once: "a number 02, 03, 05, 06, 07, 08, 09 or 10, and its content (ident, aircraft, filed speed, fix, time, level,
-- level, route)"; "a set of eight marks, one per number". Whatever is said of a number, a mark or a content is found in this list. Assumes nothing.
use Rattle.std.specs.Prelude.{ℕ, suc, ◌^◌, Bool, true, false, cond, ◌&&◌, ◌||◌, List, [], ◌∷◌, eqb}
use Prim.Native.String.{String}
use Rattle.text.specs.Bytes.{bytes}
use Rattle.rules.specs.Kind.{FILED_SPEED, FIX, TIME, LEVEL}
use Rattle.table.specs.FieldKind.{IDENT, AIRCRAFT, ROUTE}

-- a number, and the kind of its content
pub record Amends : Type 0 where
  pub number : List ℕ
  pub content : ℕ

abbrev amends : String → ℕ → Amends
amends n k = record { number = bytes n; content = k }

-- what is none of them
abbrev pub no_amends : Amends
no_amends = record { number = []; content = 0 }

-- the eight, in the document's order
abbrev pub the_eight : List Amends
the_eight =
    amends "02" IDENT
    ∷ amends "03" AIRCRAFT
    ∷ amends "05" FILED_SPEED
    ∷ amends "06" FIX
    ∷ amends "07" TIME
    ∷ amends "08" LEVEL
    ∷ amends "09" LEVEL
    ∷ amends "10" ROUTE
    ∷ []

-- ---- a mark is a bit of its own: that of the number in the place i, the first being 0, is 2 ^ i

-- the same bytes
abbrev pub same : List ℕ → List ℕ → Bool
same [] [] = true
same [] (y ∷ t) = false
same (x ∷ s) [] = false
same (x ∷ s) (y ∷ t) = eqb x y && same s t

-- the mark of the number s among those from the place i on; 0 for what is none of them
abbrev pub mark_from : ℕ → List Amends → List ℕ → ℕ
mark_from i [] s = 0
mark_from i (a ∷ l) s = cond (same s a.number) (2 ^ i) (mark_from (suc i) l s)

-- that one of them whose mark is m
abbrev pub marked_from : ℕ → List Amends → ℕ → Amends
marked_from i [] m = no_amends
marked_from i (a ∷ l) m = cond (eqb m (2 ^ i)) a (marked_from (suc i) l m)

-- m is the mark of one of them
abbrev pub is_mark_from : ℕ → List Amends → ℕ → Bool
is_mark_from i [] m = false
is_mark_from i (a ∷ l) m = eqb m (2 ^ i) || is_mark_from (suc i) l m

-- the mark of a number; 0 for what is none of the eight
unfoldable pub mark_of : List ℕ → ℕ
mark_of s = mark_from 0 the_eight s

unfoldable pub is_mark : ℕ → Bool
is_mark m = is_mark_from 0 the_eight m

-- the number of a mark
unfoldable pub mark_text : ℕ → List ℕ
mark_text m = (marked_from 0 the_eight m).number

-- the kind of its content
unfoldable pub content_of : ℕ → ℕ
content_of m = (marked_from 0 the_eight m).content

-- the mark of a number that is written out, as in `mark_for "10"`
abbrev pub mark_for : String → ℕ
mark_for n = mark_from 0 the_eight (bytes n)
