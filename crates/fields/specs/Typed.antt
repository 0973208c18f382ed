-- What a field's own reader makes of the word that was read. Assumes nothing.
use Rattle.std.specs.Prelude.{Option, ℕ}
use Rattle.fields.specs.Word.{as_field}
use Rattle.fields.specs.declared.flight.Key.{Key}
use Rattle.fields.specs.declared.frame.Sequence.{Sequence}
use Rattle.fields.specs.declared.frame.Stamp.{Stamp}
use Rattle.fields.specs.declared.plan.Time.{Time}

abbrev pub as_sequence : Option ℕ → Option Sequence
as_sequence = as_field (λ t. record { 0 = t })

abbrev pub as_stamp : Option ℕ → Option Stamp
as_stamp = as_field (λ t. record { 0 = t })

abbrev pub as_key : Option ℕ → Option Key
as_key = as_field (λ t. record { 0 = t })

abbrev pub as_time : Option ℕ → Option Time
as_time = as_field (λ t. record { 0 = t })
