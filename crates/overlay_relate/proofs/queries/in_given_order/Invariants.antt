-- The answers so far stand at the places of their points.
use Rattle.std.proofs.Common.{◌≡◌, length, take, get_or}
use Rattle.std.specs.List.{All}
use Rattle.overlay_relate.specs.Queries.{plain_queries, points_asked, IsAnswered}
use Rattle.overlay_relate.specs.declared.location.PointLocation.TheVariants.{Outside}
use Rattle.overlay_relate.proofs.queries.in_given_order.Given as goal

abbrev pub invariant-loop-i : goal.invariant-loop-i
invariant-loop-i g l =
    let qs = plain_queries g.I.IntNumber.whole l.queries in
    (length l.ordered.items ≡ length l.points)
    × All (λ q. IsAnswered (points_asked qs) l.answers q.item (get_or l.ordered.items q.place Outside)) (take l.i qs)
