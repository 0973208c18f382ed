-- The kinds of document 01's table that are no single text, a letter each; the others are those of rules/specs/Kind. And what the old feed has in
-- place of a kind. Assumes nothing.
use Prim.Native.Char.{code}
use Rattle.std.specs.Prelude.{ℕ, cond, eqb}
use Rattle.rules.specs.Kind.{CLOCK, ARRIVAL}
use Rattle.rules.specs.declared.Rule.{Rule}
use Rattle.rules.specs.declared.Rule.TheVariants.{New, Old}

abbrev pub IDENT : ℕ
IDENT = code "I"

abbrev pub TZ_IDENT : ℕ
TZ_IDENT = code "J"

abbrev pub AIRCRAFT : ℕ
AIRCRAFT = code "Z"

abbrev pub ROUTE : ℕ
ROUTE = code "R"

-- the time of FZ and UZ, which the E rule ties to the fix before it
abbrev pub PLAN_TIME : ℕ
PLAN_TIME = code "H"

-- an amendment's number, and its content, which is what the number before it asks for
abbrev pub AMENDMENT : ℕ
AMENDMENT = code "B"

abbrev pub CONTENT : ℕ
CONTENT = code "W"

-- ---- of the old feed, in small letters

-- an aircraft without a last letter
abbrev pub OLD_AIRCRAFT : ℕ
OLD_AIRCRAFT = code "z"

-- an amendment's content there
abbrev pub OLD_CONTENT : ℕ
OLD_CONTENT = code "w"

-- the kind that the rule has for k: "An aircraft field with a last letter, or an AZ clock with a prefix, has no reading there" (document 02, l)
abbrev pub kind_by : Rule → ℕ → ℕ
kind_by New k = k
kind_by Old k = cond (eqb k AIRCRAFT) OLD_AIRCRAFT (cond (eqb k ARRIVAL) CLOCK (cond (eqb k CONTENT) OLD_CONTENT k))
