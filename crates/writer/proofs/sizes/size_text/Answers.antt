-- `writer::sizes::size_text` meets its contract. Assumes nothing.
use Rattle.text.proofs.Logic.{so, not_so}
use Rattle.writer.proofs.FieldSizes.{text_not, text_good}
use Rattle.writer.proofs.sizes.size_text.Goals as goal

pub returns-then-not-follows : goal.returns-then-not-follows
returns-then-not-follows c = text_not _ _ _ _ (not_so c.follows.ensures c.if-not-follows.true-raw)

pub returns : goal.returns
returns c =
    text_good _ _ _ _ (so c.follows.ensures c.if-not-follows.false-raw) c.trace-next.ensures c.marks_after-after.ensures
