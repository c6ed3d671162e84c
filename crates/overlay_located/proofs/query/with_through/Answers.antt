-- The edge comes to those that lead from the point, or the point is asked for alone.
use Rattle.std.proofs.Common.{◌∷◌, [], refl, ap, rules}
use Rattle.overlay_order.specs.Content.{plain_edge, plain_edges}
use Rattle.overlay_located.specs.Queries.{plain_query}
use Rattle.overlay_located.proofs.OpenQueries.{adds_alone, adds_through}
use Rattle.overlay_located.proofs.query.with_through.Goals as goal

pub returns-in-Some : goal.returns-in-Some
returns-in-Some g c =
    let whole = g.I.IntNumber.whole in
    let counts = g.C.EdgeCount.counts in
    adds_through (plain_edge whole counts c.args.e) (plain_query whole counts c.args.q) _ refl (search rules)
    (search rules) (ap (plain_edges whole counts) c.in-Some.ensures) (search rules)

pub returns-in-None : goal.returns-in-None
returns-in-None g c =
    let whole = g.I.IntNumber.whole in
    let counts = g.C.EdgeCount.counts in
    adds_alone (plain_edge whole counts c.args.e ∷ []) (plain_query whole counts c.args.q)
    (plain_query whole counts c.asked_alone.result) c.asked_alone.ensures.point c.asked_alone.ensures.alone
