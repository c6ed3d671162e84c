-- A part of a list in range is in range.
use Rattle.std.proofs.Common.{◌≡◌, slice_range, sym, subst, rules, arith}
use Rattle.std.proofs.lemmas.Grind.{common_steps}
use Rattle.overlay_geom.specs.Points.{plain_point, plain_points, InRange, AllInRange}
use Rattle.overlay_geom.proofs.Mapped.{All-mapped_range}
use Rattle.overlay_geom.proofs.thin.thinned.Goals as goal

pub returns-clause-in_range : goal.returns-clause-in_range
returns-clause-in_range g c =
    let whole = g.I.IntNumber.whole in
    let limit = g.I.IntNumber.limit in
    let from = c.bent_part-from.result.0 in
    let to = c.bent_part-from.result.1 in
    let left : c.truncate.new.self.items ≡ slice_range c.write_bent.new.bent.items from to = search rules in
    subst (λ xs. AllInRange limit (plain_points whole xs)) (sym left)
    (All-mapped_range (InRange limit) (plain_point whole) c.write_bent.new.bent.items from to
    c.in_ok-write_bent.ensures.in_range)

pub returns-clause-ok : goal.returns-clause-ok
returns-clause-ok g c = grind (arith, common_steps)
