-- The new edge is long.
use Rattle.std.proofs.Common.{All, map, subst, sym}
use Rattle.overlay_geom.specs.Resolved.{plain_edge, IsLongEdge}
use Rattle.overlay_relate.proofs.Pushed.{All-map_pushed}
use Rattle.overlay_located.proofs.contour_edges.push_step.Goals as goal

pub returns-in_ok-push-clause-long : goal.returns-in_ok-push-clause-long
returns-in_ok-push-clause-long g c =
    let plain = plain_edge g.I.IntNumber.whole in
    let P = IsLongEdge g.I.IntNumber.limit in
    subst (λ es. All P (map plain es)) (sym (c.in_ok-push.ensures).items)
    (All-map_pushed P plain c.args.edges.now.items c.in-Some.edge c.requires.long (c.in-Some.ensures).long)
