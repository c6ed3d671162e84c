-- The edge that leads is the first.
use Rattle.std.proofs.Common.{true, sym, subst}
use Rattle.overlay_geom.specs.Points.{plain_point}
use Rattle.overlay_order.specs.Content.{plain_edge, plain_edges}
use Rattle.overlay_order.specs.Counts.{boolean_counts}
use Rattle.overlay_located.specs.Few.{if_some}
use Rattle.overlay_located.specs.Once.{Lead}
use Rattle.overlay_located.proofs.OnceLocated.{lead_alone}
use Rattle.overlay_located.proofs.parity.first_leads.Goals as goal

pub returns-then-leads : goal.returns-then-leads
returns-then-leads g c =
    let whole = g.I.IntNumber.whole in
    subst (λ o. Lead (plain_point whole c.args.p) (plain_edges whole boolean_counts (if_some o)) true)
    (sym c.in-Some.is)
    (lead_alone (plain_point whole c.args.p) (plain_edge whole boolean_counts c.in-Some.e)
    (c.leads.ensures c.if-leads.true))
