-- Both ends of the common span tell.
use Rattle.std.proofs.Common.{sym, ◌∙◌}
use Rattle.overlay_order.specs.Content.{plain_edge}
use Rattle.overlay_located.proofs.HeightOrder.{under_by_ends}
use Rattle.overlay_located.proofs.Slabs.{not_false}
use Rattle.overlay_located.proofs.heights.is_under.Goals as goal

pub returns-then-not-is_gt : goal.returns-then-not-is_gt
returns-then-not-is_gt g c =
    let plain = plain_edge g.I.IntNumber.whole g.C.EdgeCount.counts in
    λ is. under_by_ends (plain c.args.e.now.edge) (plain c.args.f.now.edge)
    (c.compare_at_start.ensures (sym c.is_gt.ensures ∙ c.if-not-is_gt.true))
    (c.compare_at_end.ensures (sym c.is_gt-then-not-is_gt.ensures ∙ not_false c.is_gt-then-not-is_gt.result is))
