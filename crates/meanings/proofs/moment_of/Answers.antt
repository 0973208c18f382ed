-- `meanings::moment_of` meets its contract. Assumes nothing.
use Prim.Native.Nat.{◌≤◌}
use native.Mathlib.Omega.{arith}
use Rattle.text.proofs.Logic.{so, not_so}
use Rattle.meanings.specs.Meaning.{moment_of}
use Rattle.meanings.proofs.Laws.{Stamped, stamped}
use Rattle.meanings.proofs.moment_of.Goals as goal

pub returns-then-not-is_stamp : goal.returns-then-not-is_stamp
unfolding moment_of
returns-then-not-is_stamp c = rw (not_so c.is_stamp.ensures c.if-not-is_stamp.true-raw)

pub slice_bounds-decimal-end : goal.slice_bounds-decimal-end
unfolding moment_of
slice_bounds-decimal-end c =
    let stamp : Stamped c.args.s.now = stamped _ (so c.is_stamp.ensures c.if-not-is_stamp.false-raw) in
    omega (arith, stamp.size)

pub slice_bounds-decimal-end-2 : goal.slice_bounds-decimal-end-2
unfolding moment_of
slice_bounds-decimal-end-2 c =
    let stamp : Stamped c.args.s.now = stamped _ (so c.is_stamp.ensures c.if-not-is_stamp.false-raw) in
    omega (arith, stamp.size)

pub slice_bounds-decimal-end-3 : goal.slice_bounds-decimal-end-3
unfolding moment_of
slice_bounds-decimal-end-3 c =
    let stamp : Stamped c.args.s.now = stamped _ (so c.is_stamp.ensures c.if-not-is_stamp.false-raw) in
    omega (arith, stamp.size)

pub slice_bounds-decimal-end-4 : goal.slice_bounds-decimal-end-4
unfolding moment_of
slice_bounds-decimal-end-4 c =
    let stamp : Stamped c.args.s.now = stamped _ (so c.is_stamp.ensures c.if-not-is_stamp.false-raw) in
    omega (arith, stamp.size)

pub overflow_mul-seconds : goal.overflow_mul-seconds
unfolding moment_of
overflow_mul-seconds c =
    let stamp : Stamped c.args.s.now = stamped _ (so c.is_stamp.ensures c.if-not-is_stamp.false-raw) in
    let in_day : (c.decimal-hour.result ≤ 23) × (c.decimal-minute.result ≤ 59) × (c.decimal-second.result ≤ 59) = (omega (arith, c.decimal-hour.ensures, stamp.hour), omega (arith, c.decimal-minute.ensures, stamp.minute), omega (arith, c.decimal-second.ensures, stamp.second)) in
    omega (arith, in_day.0)

pub overflow_mul-seconds-2 : goal.overflow_mul-seconds-2
unfolding moment_of
overflow_mul-seconds-2 c =
    let stamp : Stamped c.args.s.now = stamped _ (so c.is_stamp.ensures c.if-not-is_stamp.false-raw) in
    let in_day : (c.decimal-hour.result ≤ 23) × (c.decimal-minute.result ≤ 59) × (c.decimal-second.result ≤ 59) = (omega (arith, c.decimal-hour.ensures, stamp.hour), omega (arith, c.decimal-minute.ensures, stamp.minute), omega (arith, c.decimal-second.ensures, stamp.second)) in
    omega (arith, in_day.1)

pub overflow_add-seconds : goal.overflow_add-seconds
unfolding moment_of
overflow_add-seconds c =
    let stamp : Stamped c.args.s.now = stamped _ (so c.is_stamp.ensures c.if-not-is_stamp.false-raw) in
    let in_day : (c.decimal-hour.result ≤ 23) × (c.decimal-minute.result ≤ 59) × (c.decimal-second.result ≤ 59) = (omega (arith, c.decimal-hour.ensures, stamp.hour), omega (arith, c.decimal-minute.ensures, stamp.minute), omega (arith, c.decimal-second.ensures, stamp.second)) in
    omega (arith, in_day.0, in_day.1)

pub overflow_add-seconds-2 : goal.overflow_add-seconds-2
unfolding moment_of
overflow_add-seconds-2 c =
    let stamp : Stamped c.args.s.now = stamped _ (so c.is_stamp.ensures c.if-not-is_stamp.false-raw) in
    let in_day : (c.decimal-hour.result ≤ 23) × (c.decimal-minute.result ≤ 59) × (c.decimal-second.result ≤ 59) = (omega (arith, c.decimal-hour.ensures, stamp.hour), omega (arith, c.decimal-minute.ensures, stamp.minute), omega (arith, c.decimal-second.ensures, stamp.second)) in
    omega (arith, in_day.0, in_day.1, in_day.2)

pub returns : goal.returns
unfolding moment_of
returns c =
    rw ((so c.is_stamp.ensures c.if-not-is_stamp.false-raw), c.decimal-day.ensures, c.decimal-hour.ensures, c.decimal-minute.ensures, c.decimal-second.ensures)
