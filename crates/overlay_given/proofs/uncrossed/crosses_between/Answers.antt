-- Edges whose heights do not overlap do not cross.
use Rattle.std.proofs.Common.{sym, ◌∙◌}
use Rattle.overlay_geom.specs.Edges.{ends_of}
use Rattle.overlay_order.specs.Content.{plain_edge}
use Rattle.overlay_given.proofs.HeightBlocks.{uncrossed_apart}
use Rattle.overlay_given.proofs.uncrossed.crosses_between.Goals as goal

pub returns : goal.returns
returns g c =
    let whole = g.I.IntNumber.whole in
    let plain = plain_edge whole g.C.EdgeCount.counts in
    sym (uncrossed_apart (ends_of (plain c.args.e.now)) (ends_of (plain c.args.f.now)) (whole c.args.own.low)
    (whole c.args.own.high) (whole c.args.others.low) (whole c.args.others.high) c.requires.own c.requires.others
    (sym c.overlap-meets.ensures ∙ c.if-meets.false))
