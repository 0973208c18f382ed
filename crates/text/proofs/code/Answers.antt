-- `text::code` meets its contract: each way out is a case of the definition. Assumes nothing.
use Rattle.text.proofs.Codes.{code_slash, code_low, code_digit, code_between, code_letter, code_high}
use Rattle.text.proofs.code.Goals as goal

pub returns-then-b-eq47 : goal.returns-then-b-eq47
returns-then-b-eq47 c = rw (code_slash _ c.if-b-eq47.true)

pub returns-then-b-lt48 : goal.returns-then-b-lt48
returns-then-b-lt48 c = rw (code_low _ c.if-b-lt48.true c.if-b-eq47.false)

pub returns-then-b-le57 : goal.returns-then-b-le57
returns-then-b-le57 c = rw (code_digit _ c.if-b-lt48.false c.if-b-le57.true)

pub returns-then-b-lt65 : goal.returns-then-b-lt65
returns-then-b-lt65 c = rw (code_between _ c.if-b-le57.false c.if-b-lt65.true)

pub returns-then-b-le90 : goal.returns-then-b-le90
returns-then-b-le90 c = rw (code_letter _ c.if-b-lt65.false c.if-b-le90.true)

pub returns : goal.returns
returns c = rw (code_high _ c.if-b-le90.false)
