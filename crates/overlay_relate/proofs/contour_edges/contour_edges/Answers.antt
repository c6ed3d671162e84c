-- The contour's edges are those from its first point through all and back.
use Rattle.std.proofs.Common.{◌++◌, ◌∷◌, [], ap, ◌∙◌}
use Rattle.std.proofs.lemmas.List.Elements.{All-contains}
use Rattle.overlay_geom.specs.Points.{plain_point, plain_points, InRange}
use Rattle.overlay_geom.specs.Resolved.{plain_edges, edges_through}
use Rattle.overlay_geom.proofs.ResolvedSteps.{edges_round, first_mapped}
use Rattle.overlay_relate.proofs.contour_edges.contour_edges.Goals as goal

pub push_round-requires-clause-first : goal.push_round-requires-clause-first
push_round-requires-clause-first g c =
    All-contains (InRange g.I.IntNumber.limit) (plain_points g.I.IntNumber.whole c.args.contour.now)
    (plain_point g.I.IntNumber.whole c.in-Some.first.now)
    c.requires (first_mapped (plain_point g.I.IntNumber.whole) c.args.contour.now c.in-Some.first.now
    (c.in-Some.ensures).value)

pub returns-clause-edges : goal.returns-clause-edges
returns-clause-edges g c =
    let whole = g.I.IntNumber.whole in
    let first = plain_point whole c.in-Some.first.now in
    let all = edges_through first (plain_points whole c.args.contour.now ++ first ∷ []) in
    (c.in_ok-push_round.ensures).ok ∙ ap (λ es. plain_edges whole es ++ all) c.new-edges.ensures.items
    ∙ edges_round (plain_point whole) c.args.contour.now c.in-Some.first.now (c.in-Some.ensures).value
