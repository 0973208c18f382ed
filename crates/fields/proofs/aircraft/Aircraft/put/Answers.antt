-- `fields::aircraft::Aircraft::put` meets its contract. Assumes nothing.
use mathlib.Core.Path.{sym, ◌∙◌}
use Rattle.text.proofs.Logic.{so, not_so}
use Rattle.text.proofs.Laws.{no_text}
use Rattle.fields.proofs.AircraftLaws.{aircraft_writes, aircraft_word_lem}
use Rattle.fields.proofs.aircraft.Aircraft.put.Goals as goal

pub returns-then-not-holds : goal.returns-then-not-holds
returns-then-not-holds c =
    let both = no_text _ _ _ (not_so c.holds.ensures c.if-not-holds.true-raw) in
    record { value = both.0; out_after = both.1 }

pub returns-in_err-whole : goal.returns-in_err-whole
returns-in_err-whole c = absurd (aircraft_word_lem _ (so c.holds.ensures c.if-not-holds.false-raw) (sym c.word.ensures ∙ c.in_err-whole.ensures.ok_part))

pub returns : goal.returns
returns c =
    let w = aircraft_writes _ (so c.holds.ensures c.if-not-holds.false-raw) (sym c.word.ensures ∙ c.in_ok-whole.ensures.ok_part) in rw (← w.0, ← w.1) (record { value = c.put.ensures.value; out_after = c.put.ensures.out_after })
