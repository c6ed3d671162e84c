-- The fan of the place is held, and lies beside the edge.
use Rattle.std.proofs.Common.{◌/◌, sym, subst}
use Rattle.overlay_geom.proofs.Mapped.{read_mapped, All-mapped_at}
use Rattle.overlay_order.specs.Content.{plain_edge}
use Rattle.overlay_pairs.specs.Bundles.{Fan, plain_fan, IsBesideFan, IsHeldFan}
use Rattle.overlay_pairs.proofs.fans.begins_fan.Goals as goal

pub is_beside_fan-requires-clause-held : goal.is_beside_fan-requires-clause-held
is_beside_fan-requires-clause-held g c = All-mapped_at (IsHeldFan g.I.IntNumber.limit)
    (plain_fan g.I.IntNumber.whole) c.args.fans.now (c.args.at / c.args.size) c.index-fans-at.result
    c.requires.within c.index-fans-at.is c.requires.held

pub returns-then-at-size-eq0 : goal.returns-then-at-size-eq0
returns-then-at-size-eq0 g c = λ yes.
    let whole = g.I.IntNumber.whole in
    record {
      begins = c.if-at-size-eq0.true;
      beside = λ d. subst
          (λ (fan : Fan). IsBesideFan fan (plain_edge whole g.C.EdgeCount.counts c.args.e.now))
          (sym (read_mapped (plain_fan whole) c.args.fans.now (c.args.at / c.args.size)
          c.index-fans-at.result d c.requires.within c.index-fans-at.is)) (c.is_beside_fan.ensures yes);
    }
