-- `ending::put_trailer` meets its contract. Assumes nothing.
use mathlib.Core.Path.{ap}
use native.Mathlib.Omega.{arith}
use Rattle.dayfile.specs.DayFile.{trailer_size}
use Rattle.dayfile.specs.declared.Trailer.{Trailer}
use Rattle.dayfile.proofs.Keeps.{not_over}
use Rattle.dayfile.proofs.Puts.{trailer_put}
use Rattle.dayfile.proofs.ending.put_trailer.Goals as goal

pub put_number-requires : goal.put_number-requires
unfolding trailer_size
put_number-requires c = record { n_bound = (not_over _ _ c.requires.place_value).1; wide_in_bounds = omega arith }

pub put_number-requires-2 : goal.put_number-requires-2
unfolding trailer_size
put_number-requires-2 c =
    record {
      n_bound = omega (arith, c.trailer.invariant.2, (not_over _ _ c.requires.place_value).0, ap (λ (t : Trailer). t.most) c.trailer.view_is);
      wide_in_bounds = omega (arith, c.put_number.auto.out, c.requires.trailer_in_bounds, ap (λ (t : Trailer). t.wide) c.trailer.view_is);
    }

pub put_number-requires-3 : goal.put_number-requires-3
unfolding trailer_size
put_number-requires-3 c =
    record {
      n_bound = c.trailer.invariant.1;
      wide_in_bounds = omega (arith, c.put_number-2.auto.out, c.put_number.auto.out, c.requires.trailer_in_bounds, ap (λ (t : Trailer). t.wide) c.trailer.view_is);
    }

pub returns : goal.returns
returns c =
    rw (← c.trailer.view_is)
    (trailer_put _ _ _ _ (omega (arith, c.requires.trailer_in_bounds, ap trailer_size c.trailer.view_is)) c.put_number.ensures c.put_number-2.ensures c.put_number-3.ensures)
