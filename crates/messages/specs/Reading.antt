-- A message of either feed, and what is read of its line (`Reading`): the parts of its head as numbers. A message of the old feed has no sequence number,
-- and its reading 0 there. Assumes nothing.
use Rattle.messages.specs.declared.Message.{Message}
use Rattle.messages.specs.declared.OldMessage.{OldMessage}
use Rattle.messages.specs.declared.Reading.{Reading}

abbrev pub reading_of : Message → Reading
reading_of m = record { sequence = m.sequence.0; stamp = m.stamp.0; facility = m.facility.0; body = m.body; trailing = m.trailing }

abbrev pub message_of : Reading → Message
message_of x =
    record { sequence = record { 0 = x.sequence }; stamp = record { 0 = x.stamp }; facility = record { 0 = x.facility }; body = x.body; trailing = x.trailing }

abbrev pub old_reading_of : OldMessage → Reading
old_reading_of m = record { sequence = 0; stamp = m.stamp.0; facility = m.center.0; body = m.body; trailing = m.trailing }

abbrev pub old_message_of : Reading → OldMessage
old_message_of x = record { stamp = record { 0 = x.stamp }; center = record { 0 = x.facility }; body = x.body; trailing = x.trailing }
