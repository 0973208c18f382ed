-- `meanings::minutes_of` meets its contract. Assumes nothing.
use native.Mathlib.Omega.{arith}
use lib.Dec.{eqb}
use lib.ListN.{get_or}
use Rattle.text.proofs.Logic.{so, not_so}
use Rattle.meanings.specs.Meaning.{minutes_of}
use Rattle.meanings.proofs.Laws.{Placed, placed, read_back}
use Rattle.meanings.proofs.minutes_of.Goals as goal

pub returns-then-not-is_position : goal.returns-then-not-is_position
unfolding minutes_of
returns-then-not-is_position c = rw (not_so c.is_position.ensures c.if-not-is_position.true-raw)

pub slice_bounds-decimal-end : goal.slice_bounds-decimal-end
unfolding minutes_of
slice_bounds-decimal-end c =
    let place : Placed c.args.s.now = placed _ (so c.is_position.ensures c.if-not-is_position.false-raw) in
    omega (arith, place.size)

pub in_minutes-latitude-requires : goal.in_minutes-latitude-requires
unfolding minutes_of
in_minutes-latitude-requires c =
    let place : Placed c.args.s.now = placed _ (so c.is_position.ensures c.if-not-is_position.false-raw) in
    omega (arith, c.decimal.ensures, place.latitude)

pub slice_bounds-decimal-end-2 : goal.slice_bounds-decimal-end-2
unfolding minutes_of
slice_bounds-decimal-end-2 c =
    let place : Placed c.args.s.now = placed _ (so c.is_position.ensures c.if-not-is_position.false-raw) in
    omega (arith, place.size)

pub in_minutes-longitude-requires : goal.in_minutes-longitude-requires
unfolding minutes_of
in_minutes-longitude-requires c =
    let place : Placed c.args.s.now = placed _ (so c.is_position.ensures c.if-not-is_position.false-raw) in
    omega (arith, c.decimal-2.ensures, place.longitude)

pub bounds-s-4 : goal.bounds-s-4
unfolding minutes_of
bounds-s-4 c =
    let place : Placed c.args.s.now = placed _ (so c.is_position.ensures c.if-not-is_position.false-raw) in
    omega (arith, place.size)

pub bounds-s-11 : goal.bounds-s-11
unfolding minutes_of
bounds-s-11 c =
    let place : Placed c.args.s.now = placed _ (so c.is_position.ensures c.if-not-is_position.false-raw) in
    omega (arith, place.size)

pub returns : goal.returns
unfolding minutes_of
returns c =
    let y = c.in_minutes-latitude.ensures in
    let x = c.in_minutes-longitude.ensures in
    let s = c.args.s.now in
    rw (read_back _ (eqb (get_or s 4 0) 78) c.in_minutes-latitude.result c.signed-y.ensures y.upper_bound, read_back _ (eqb (get_or s 11 0) 69) c.in_minutes-longitude.result c.signed-x.ensures x.upper_bound, (so c.is_position.ensures c.if-not-is_position.false-raw), y.value, x.value, c.decimal.ensures, c.decimal-2.ensures)
