-- `fields::words::read` meets its contract: a text that has a form is a short text. Assumes nothing.
use Rattle.std.specs.Prelude.{Some}
use mathlib.Core.Path.{sym, ap, ◌∙◌}
use Rattle.rules.proofs.Held.{form_held}
use Rattle.fields.proofs.WordLaws.{read_form, read_none}
use Rattle.fields.proofs.words.read.Goals as goal

pub pack_known-requires : goal.pack_known-requires
pack_known-requires c = (form_held _ _ (sym c.is_form.ensures ∙ c.if-is_form.true)).text

pub returns-then-is_form : goal.returns-then-is_form
returns-then-is_form c = ap Some c.pack_known.ensures ∙ read_form _ _ (sym c.is_form.ensures ∙ c.if-is_form.true)

pub returns-else-is_form : goal.returns-else-is_form
returns-else-is_form c = read_none _ _ (sym c.is_form.ensures ∙ c.if-is_form.false)
