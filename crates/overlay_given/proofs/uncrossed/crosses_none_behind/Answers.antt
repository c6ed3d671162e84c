-- The edges that the edge may cross are near.
use Rattle.std.proofs.Common.{sym, subst}
use Rattle.overlay_order.specs.Content.{plain_edges}
use Rattle.overlay_pairs.specs.Near.{AreNear}
use Rattle.overlay_given.proofs.uncrossed.crosses_none_behind.Goals as goal

pub crosses_none-requires-clause-near : goal.crosses_none-requires-clause-near
crosses_none-requires-clause-near g c =
    subst (AreNear (plain_edges g.I.IntNumber.whole g.C.EdgeCount.counts c.args.edges.now) c.args.i)
    (sym c.deref.ensures.value) c.in_ok-find_open.ensures.ok
