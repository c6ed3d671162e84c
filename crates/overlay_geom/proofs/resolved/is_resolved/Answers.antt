-- The contour's steps are those from its first point through all and back.
use Rattle.std.proofs.Common.{◌↔◌, IsTrue, subst, arith}
use Rattle.std.proofs.lemmas.Grind.{common_steps}
use Rattle.std.proofs.lemmas.List.Elements.{All-contains}
use Rattle.overlay_geom.specs.Points.{plain_point, plain_points, InRange}
use Rattle.overlay_geom.specs.Resolved.{AreApart}
use Rattle.overlay_geom.proofs.ResolvedSteps.{edges_round, first_mapped}
use Rattle.overlay_geom.proofs.resolved.is_resolved.Goals as goal

pub is_round_resolved-requires-clause-first : goal.is_round_resolved-requires-clause-first
is_round_resolved-requires-clause-first g c =
    All-contains (InRange g.I.IntNumber.limit) (plain_points g.I.IntNumber.whole c.args.points.now)
    (plain_point g.I.IntNumber.whole c.in-Some.first.now)
    c.requires (first_mapped (plain_point g.I.IntNumber.whole) c.args.points.now c.in-Some.first.now
    (c.in-Some.ensures).value)

pub returns-in-Some : goal.returns-in-Some
returns-in-Some g c =
    subst (λ es. IsTrue c.is_round_resolved.result ↔ AreApart es)
    (edges_round (plain_point g.I.IntNumber.whole) c.args.points.now c.in-Some.first.now (c.in-Some.ensures).value)
    c.is_round_resolved.ensures

pub returns-in-None : goal.returns-in-None
returns-in-None g c = grind (arith, common_steps)
