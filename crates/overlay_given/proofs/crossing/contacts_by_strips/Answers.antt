-- The edges near one are found for it.
use Rattle.std.proofs.Common.{sym, subst}
use Rattle.overlay_order.specs.Content.{plain_edges}
use Rattle.overlay_pairs.specs.Near.{AreNear}
use Rattle.overlay_given.proofs.crossing.contacts_by_strips.Goals as goal

pub crosses_some-requires-clause-near : goal.crosses_some-requires-clause-near
crosses_some-requires-clause-near g c =
    subst (AreNear (plain_edges g.I.IntNumber.whole g.C.EdgeCount.counts c.args.edges.now) c.loop-i.i)
    (sym c.deref.ensures.value) c.in_ok-find_open.ensures.ok
