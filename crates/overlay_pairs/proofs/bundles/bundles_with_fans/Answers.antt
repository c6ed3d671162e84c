-- The fans are put beside the bundles.
use Rattle.std.proofs.Common.{List, IfSome, subst}
use Rattle.overlay_order.specs.Content.{plain_edges}
use Rattle.overlay_pairs.specs.Bundles.{AreFansOf}
use Rattle.overlay_pairs.specs.Extents.{plain_extents}
use Rattle.overlay_pairs.proofs.bundles.bundles_with_fans.Goals as goal

pub returns-in-Some : goal.returns-in-Some
returns-in-Some g c = record {
  ok = let whole = g.I.IntNumber.whole in
      let limit = g.I.IntNumber.limit in
      let es = plain_edges whole g.C.EdgeCount.counts c.args.edges.now in
      let bundles = c.in_ok-bundles.ensures.ok in
      record {
        es_held = bundles.es_held;
        permutation = bundles.permutation;
        by_8 = bundles.by_8;
        by_64 = bundles.by_64;
        by_512 = bundles.by_512;
        by_4096 = bundles.by_4096;
        by_32768 = bundles.by_32768;
        fans = subst (λ (xs : List _). AreFansOf whole limit es (plain_extents whole xs) c.in-Some.fans)
            c.deref.ensures.value
            (subst (λ o. IfSome o (AreFansOf whole limit es (plain_extents whole c.deref.result.now))) c.in-Some.is
            c.in_ok-fans.ensures.ok);
      };
}
