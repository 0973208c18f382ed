-- `fields::heads::Facility::put` meets its contract: `put_bytes` writes its four bytes. Assumes nothing.
use Rattle.text.proofs.Logic.{so, not_so}
use Rattle.text.proofs.Laws.{no_text}
use Rattle.fields.proofs.FacilityLaws.{facility_small}
use Rattle.fields.proofs.heads.Facility.put.Goals as goal

pub returns-then-not-holds : goal.returns-then-not-holds
returns-then-not-holds c =
    let both = no_text _ _ _ (not_so c.holds.ensures c.if-not-holds.true-raw) in
    record { value = both.0; out_after = both.1 }

pub bytes-bytes-requires : goal.bytes-bytes-requires
bytes-bytes-requires c = facility_small _ (so c.holds.ensures c.if-not-holds.false-raw)

pub returns : goal.returns
returns c = rw (so c.holds.ensures c.if-not-holds.false-raw, ← c.bytes-bytes.ensures) (record { value = c.put_bytes.ensures.value; out_after = c.put_bytes.ensures.out_after })
