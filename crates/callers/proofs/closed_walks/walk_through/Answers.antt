-- The walk begins at its start, goes on from the point reached, and leads back.
use Rattle.std.proofs.Common.{refl, pos}
use Rattle.std.proofs.lemmas.List.Elements.{All-nil}
use Rattle.overlay_extract.specs.ClosedWalks.{HasLength}
use Rattle.callers.proofs.closed_walks.walk_through.Goals as goal

pub returns-then-is_empty-clause-closed : goal.returns-then-is_empty-clause-closed
returns-then-is_empty-clause-closed g c = rw c.new-walk.ensures.items
    record { start = record { x = pos 0; y = pos 0 }; leads_back = refl }

pub returns-then-is_empty-clause-long : goal.returns-then-is_empty-clause-long
returns-then-is_empty-clause-long g c = rw c.new-walk.ensures.items (All-nil HasLength)

pub loop-i-init : goal.loop-i-init
loop-i-init g c = rw c.new-walk.ensures.items (refl, All-nil HasLength)

pub loop-i-preserved : goal.loop-i-preserved
loop-i-preserved g c = (
  c.in_ok-push_step.ensures.leads _ c.loop-i.invariant.0,
  c.in_ok-push_step.ensures.long c.loop-i.invariant.1,
)

pub returns-clause-closed : goal.returns-clause-closed
returns-clause-closed g c = record {
  start = _;
  leads_back = c.in_ok-push_step-2.ensures.leads _ c.loop-i.invariant.0;
}

pub returns-clause-long : goal.returns-clause-long
returns-clause-long g c = c.in_ok-push_step-2.ensures.long c.loop-i.invariant.1
