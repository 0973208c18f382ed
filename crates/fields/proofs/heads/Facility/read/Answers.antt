-- `fields::heads::Facility::read` meets its contract. Assumes nothing.
use native.Mathlib.Omega.{arith}
use Rattle.text.proofs.Logic.{so, not_so}
use Rattle.text.proofs.Places.{value_four}
use Rattle.fields.specs.Facility.{facility_of}
use Rattle.fields.proofs.FacilityLaws.{facility_length}
use Rattle.fields.proofs.heads.Facility.read.Goals as goal

pub returns-then-not-is_facility : goal.returns-then-not-is_facility
unfolding facility_of
returns-then-not-is_facility c = rw (not_so c.is_facility.ensures c.if-not-is_facility.true-raw)

pub bounds-s-0 : goal.bounds-s-0
unfolding facility_of
bounds-s-0 c = omega (arith, facility_length _ (so c.is_facility.ensures c.if-not-is_facility.false-raw))

pub bounds-s-1 : goal.bounds-s-1
unfolding facility_of
bounds-s-1 c = omega (arith, facility_length _ (so c.is_facility.ensures c.if-not-is_facility.false-raw))

pub bounds-s-2 : goal.bounds-s-2
unfolding facility_of
bounds-s-2 c = omega (arith, facility_length _ (so c.is_facility.ensures c.if-not-is_facility.false-raw))

pub bounds-s-3 : goal.bounds-s-3
unfolding facility_of
bounds-s-3 c = omega (arith, facility_length _ (so c.is_facility.ensures c.if-not-is_facility.false-raw))

pub returns : goal.returns
unfolding facility_of
returns c = let e = so c.is_facility.ensures c.if-not-is_facility.false-raw in
    rw (e, value_four, c.joined.ensures)
