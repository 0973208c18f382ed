-- `table::kinds::content` meets its contract: each arm is a case of the definition. Assumes nothing.
use mathlib.Core.Path.{sym}
use Rattle.table.specs.Amends.{content_of}
use Rattle.table.proofs.Eight.{not_mark, no_mark}
use Rattle.table.proofs.kinds.content.Goals as goal

pub returns-in-1 : goal.returns-in-1
unfolding content_of
returns-in-1 c = rw c.in-1.is

pub returns-in-2 : goal.returns-in-2
unfolding content_of
returns-in-2 c = rw c.in-2.is

pub returns-in-4 : goal.returns-in-4
unfolding content_of
returns-in-4 c = rw c.in-4.is

pub returns-in-8 : goal.returns-in-8
unfolding content_of
returns-in-8 c = rw c.in-8.is

pub returns-in-16 : goal.returns-in-16
unfolding content_of
returns-in-16 c = rw c.in-16.is

pub returns-in-32 : goal.returns-in-32
unfolding content_of
returns-in-32 c = rw c.in-32.is

pub returns-in-64 : goal.returns-in-64
unfolding content_of
returns-in-64 c = rw c.in-64.is

pub returns-in-128 : goal.returns-in-128
unfolding content_of
returns-in-128 c = rw c.in-128.is

pub returns-in_default : goal.returns-in_default
unfolding content_of
returns-in_default c = let n = c.in_default.in_default-own.rest in
    sym (no_mark _ (not_mark _ n.0.0.0.0.0.0.0.1 n.0.0.0.0.0.0.1 n.0.0.0.0.0.1 n.0.0.0.0.1 n.0.0.0.1 n.0.0.1 n.0.1 n.1)).1
