-- The sums so far are those over the meeting points so far, and each adds at most 2^32.
use Rattle.std.proofs.Common.{◌*◌, take}
use Rattle.overlay_order.specs.Content.{plain_edge, plain_edges}
use Rattle.overlay_exact.specs.Along.{plain_mets}
use Rattle.overlay_given.specs.Beside.{IsNear}
use Rattle.overlay_given.specs.Steps.{Rises}
use Rattle.overlay_given.proofs.steps.sum_met.Given as goal

abbrev pub invariant-loop-m : goal.invariant-loop-m
invariant-loop-m g l = record {
  sums : Rises l.at (plain_edges g.I.IntNumber.whole g.C.EdgeCount.counts l.edges)
      (plain_edge g.I.IntNumber.whole g.C.EdgeCount.counts l.edge)
      (plain_mets g.I.Wide.WideIntNumber.whole (take l.m-index l.met)) l.sum;
  near : IsNear (l.m-index * 4294967296) l.sum;
}
