-- `messages::typed::read_fields` meets its contract. Assumes nothing.
use mathlib.Core.Path.{sym}
use Rattle.text.proofs.Logic.{so, not_so}
use Rattle.table.specs.Read.{padded}
use Rattle.messages.proofs.ReadWays.{by_table, kept_whole}
use Rattle.messages.proofs.typed.read_fields.Goals as goal

pub returns-then-not-has_fields : goal.returns-then-not-has_fields
unfolding padded
returns-then-not-has_fields c = sym (kept_whole _ _ _ (not_so c.has_fields.ensures c.if-not-has_fields.true-raw))

pub returns : goal.returns
returns c =
    rw (c.read.ensures.answer_value, c.read.ensures.values_value) (sym (by_table _ _ _ (so c.has_fields.ensures c.if-not-has_fields.false-raw)))
