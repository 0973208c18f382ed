-- `messages::Amended::amendment` meets its contract. Assumes nothing.
use mathlib.Core.Path.{◌∙◌}
use Rattle.messages.proofs.Amended.amendment.Goals as goal

pub returns-in-Ident : goal.returns-in-Ident
returns-in-Ident c = c.held.ensures ∙ rw c.in-Ident.is

pub returns-in-Aircraft : goal.returns-in-Aircraft
returns-in-Aircraft c = c.held-in-Aircraft.ensures ∙ rw c.in-Aircraft.is

pub returns-in-Speed : goal.returns-in-Speed
returns-in-Speed c = c.held-in-Speed.ensures ∙ rw c.in-Speed.is

pub returns-in-Fix : goal.returns-in-Fix
returns-in-Fix c = c.held-in-Fix.ensures ∙ rw c.in-Fix.is

pub returns-in-Time : goal.returns-in-Time
returns-in-Time c = c.held-in-Time.ensures ∙ rw c.in-Time.is

pub returns-in-Assigned : goal.returns-in-Assigned
returns-in-Assigned c = c.held-in-Assigned.ensures ∙ rw c.in-Assigned.is

pub returns-in-Requested : goal.returns-in-Requested
returns-in-Requested c = c.held-in-Requested.ensures ∙ rw c.in-Requested.is

pub returns-in-Route : goal.returns-in-Route
returns-in-Route c = c.held-in-Route.ensures ∙ rw c.in-Route.is

pub returns-in-Nothing : goal.returns-in-Nothing
returns-in-Nothing c = c.held-in-Nothing.ensures ∙ rw c.in-Nothing.is
