-- The places are those of edges.
use Rattle.std.proofs.Common.{get_or, refl}
use Rattle.overlay_geom.proofs.Mapped.{All-mapped_at}
use Rattle.overlay_order.specs.Content.{plain_edge, IsHeld}
use Rattle.overlay_pairs.proofs.sample.count_met.Goals as goal

pub meet_in_ends-requires-clause-other : goal.meet_in_ends-requires-clause-other
meet_in_ends-requires-clause-other g c = All-mapped_at (IsHeld g.I.IntNumber.limit)
    (plain_edge g.I.IntNumber.whole g.C.EdgeCount.counts) c.args.edges.now
    (get_or c.args.places.now c.loop-place.place-index 0) c.index-edges-place.result
    (c.requires.within c.loop-place.place-index 0 c.loop-place-test.true) c.index-edges-place.is c.requires.held
