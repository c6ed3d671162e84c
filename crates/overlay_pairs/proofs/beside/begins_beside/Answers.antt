-- The bundle of the place is held, and lies beside the edge.
use Rattle.std.proofs.Common.{◌/◌, sym, subst}
use Rattle.overlay_geom.proofs.Mapped.{read_mapped, All-mapped_at}
use Rattle.overlay_order.specs.Content.{plain_edge}
use Rattle.overlay_pairs.specs.Bundles.{Bundle, plain_bundle, IsHeldBundle, LiesBeside}
use Rattle.overlay_pairs.specs.Extents.{plain_extent}
use Rattle.overlay_pairs.proofs.beside.begins_beside.Goals as goal

pub lies_beside-requires-clause-held : goal.lies_beside-requires-clause-held
lies_beside-requires-clause-held g c = All-mapped_at (IsHeldBundle g.I.IntNumber.limit)
    (plain_bundle g.I.IntNumber.whole) c.args.bundles.now (c.args.at / c.args.size) c.index-bundles-at.result
    c.requires.within c.index-bundles-at.is c.requires.held

pub returns-then-at-size-eq0 : goal.returns-then-at-size-eq0
returns-then-at-size-eq0 g c = λ yes.
    let whole = g.I.IntNumber.whole in
    record {
      begins = c.if-at-size-eq0.true;
      beside = λ d. subst
          (λ (b : Bundle). LiesBeside b (plain_edge whole g.C.EdgeCount.counts c.args.e.now)
          (plain_extent whole c.args.of))
          (sym (read_mapped (plain_bundle whole) c.args.bundles.now (c.args.at / c.args.size)
          c.index-bundles-at.result d c.requires.within c.index-bundles-at.is)) (c.lies_beside.ensures yes);
    }
