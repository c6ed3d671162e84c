-- The height is compared at the start of one of the edges.
use Rattle.std.proofs.Common.{ap, ◌∙◌, sym}
use Rattle.std.specs.Ordering.{is_gt}
use Rattle.overlay_order.specs.Content.{plain_edge}
use Rattle.overlay_located.proofs.HeightOrder.{starts_at_a, starts_at_own}
use Rattle.overlay_located.proofs.heights.compare_at_start.Goals as goal

pub returns-then-is_lt : goal.returns-then-is_lt
returns-then-is_lt g c =
    let plain = plain_edge g.I.IntNumber.whole g.C.EdgeCount.counts in
    λ low. starts_at_a g.I.IntNumber.limit (plain c.args.e.now.edge) (plain c.args.f.now.edge) c.args.e.now.held
    c.args.f.now.held (g.I.Wide.WideIntNumber.whole c.cross_at.result) c.cross_at.ensures.value
    (ap is_gt (sym c.sign.ensures) ∙ low)

pub returns-else-is_lt : goal.returns-else-is_lt
returns-else-is_lt g c =
    let plain = plain_edge g.I.IntNumber.whole g.C.EdgeCount.counts in
    λ low. starts_at_own g.I.IntNumber.limit (plain c.args.e.now.edge) (plain c.args.f.now.edge) c.args.e.now.held
    c.args.f.now.held (g.I.Wide.WideIntNumber.whole c.cross_at-else-is_lt.result) c.cross_at-else-is_lt.ensures.value
    (ap is_gt (sym c.sign-else-is_lt.ensures) ∙ low)
