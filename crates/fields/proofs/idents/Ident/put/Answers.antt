-- `fields::idents::Ident::put` meets its contract: an ident has at most 11 bytes. Assumes nothing.
use Rattle.fields.proofs.IdentLaws.{ident_writes}
use Rattle.fields.proofs.idents.Ident.put.Goals as goal

pub returns : goal.returns
returns c = rw (← (ident_writes _ _)) (record { value = c.put_pair.ensures.value; out_after = c.put_pair.ensures.out_after })
