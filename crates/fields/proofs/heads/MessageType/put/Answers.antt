-- `fields::heads::MessageType::put` meets its contract: `put_bytes` writes its two letters. Assumes nothing.
use Rattle.fields.proofs.TypeLaws.{type_letters}
use Rattle.fields.proofs.heads.MessageType.put.Goals as goal

pub returns : goal.returns
returns c = rw (← (type_letters _ c.letters.ensures), ← c.to_be_bytes-letters.ensures) (record { value = c.put_bytes.ensures.value; out_after = c.put_bytes.ensures.out_after })
