-- The first edge is one of those of the query.
use Rattle.std.proofs.Common.{ap}
use Rattle.std.proofs.lemmas.Option.{IfSome_then}
use Rattle.overlay_geom.specs.Points.{plain_point}
use Rattle.overlay_order.specs.Content.{plain_edge, plain_edges}
use Rattle.overlay_order.specs.Counts.{boolean_counts}
use Rattle.overlay_located.specs.Few.{if_some}
use Rattle.overlay_located.specs.Queries.{plain_query}
use Rattle.overlay_located.proofs.OnceLocated.{lead_of_first}
use Rattle.overlay_located.proofs.QuerySums.{mapped_parts, in_first}
use Rattle.overlay_located.proofs.parity.do_lead.Goals as goal

pub returns : goal.returns
returns g c =
    let whole = g.I.IntNumber.whole in
    let plain = plain_edges whole boolean_counts in
    let few = c.args.q.through in
    let through = (plain_query whole boolean_counts c.args.q).through in
    let all = in_first (plain (if_some few.first)) (plain (if_some few.second)) (plain (if_some few.third))
    (plain (if_some few.fourth)) through
    (mapped_parts (plain_edge whole boolean_counts) (if_some few.first) (if_some few.second) (if_some few.third)
    (if_some few.fourth)) in
    IfSome_then c.first_leads.result c.first_leads.ensures (lead_of_first (plain_point whole c.args.q.point)
    (plain (if_some few.first)) through c.is_none-is_none.result all
    (λ none. ap plain (c.is_none-is_none.ensures none)))
