-- The ends so far sum up to the sum times the number of the last point, and no end left is at a smaller point.
use Rattle.std.proofs.Common.{◌≡◌, false, drop}
use Rattle.std.specs.List.{All}
use Rattle.overlay_geom.specs.Plane.{point_lt}
use Rattle.overlay_geom.specs.Points.{plain_point}
use Rattle.overlay_graph.specs.Ends.{plain_ends}
use Rattle.overlay_graph.proofs.EndSums.{SumsUpAt}
use Rattle.overlay_graph.proofs.balance.cancel_out.Given as goal

abbrev pub invariant-loop-end : goal.invariant-loop-end
invariant-loop-end g l =
    let whole = g.I.IntNumber.whole in
    let p = plain_point whole l.point in
    let ns = plain_ends whole l.ends in
    SumsUpAt (λ n. n.subj) ns l.end-index p l.sum.subj
    × SumsUpAt (λ n. n.clip) ns l.end-index p l.sum.clip
    × All (λ n. point_lt n.point p ≡ false) (drop l.end-index ns)
