-- Where no bundle lies beside the edge, a fan may.
use Rattle.std.proofs.Common.{IfSome, subst}
use Rattle.overlay_pairs.specs.Bundles.{AreFansOf}
use Rattle.overlay_pairs.specs.Extents.{plain_extent, plain_extents}
use Rattle.overlay_pairs.proofs.beside.count_skipped.Goals as goal

pub returns-in-Some : goal.returns-in-Some
returns-in-Some g c es of =
    let whole = g.I.IntNumber.whole in
    let ss = plain_extents whole c.args.bundles.now.edges.items in
    c.count_round.ensures es ss (plain_extent whole c.args.of)
    (subst (λ o. IfSome o (AreFansOf whole g.I.IntNumber.limit es ss)) c.in-Some.is of.fans)
