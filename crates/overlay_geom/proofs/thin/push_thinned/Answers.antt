-- The part that is left of the points is thinned and in range, and is added.
use Rattle.std.proofs.Common.{slice_range, subst, rules}
use Rattle.overlay_geom.specs.Points.{plain_point, plain_points, InRange}
use Rattle.overlay_geom.specs.Thinned.{IsThinned}
use Rattle.overlay_geom.proofs.Mapped.{All-mapped_range}
use Rattle.overlay_geom.proofs.thin.push_thinned.Goals as goal

pub returns-clause-ok : goal.returns-clause-ok
returns-clause-ok g c =
    let whole = g.I.IntNumber.whole in
    let bent = c.write_bent.new.bent.items in
    let part = slice_range bent c.bent_part-from.result.0 c.bent_part-from.result.1 in
    record {
      points = part;
      longer = search rules;
      thinned = c.in_ok-write_bent.ensures.narrowed.thins (plain_points whole part)
          (subst (λ ps. IsThinned (plain_points whole ps) (plain_points whole (slice_range ps
          c.bent_part-from.result.0 c.bent_part-from.result.1))) c.deref.ensures.value
          c.bent_part-from.ensures.thinned);
      in_range = All-mapped_range (InRange g.I.IntNumber.limit) (plain_point whole) bent c.bent_part-from.result.0
          c.bent_part-from.result.1 c.in_ok-write_bent.ensures.in_range;
    }
