-- Counts and data are merged side by side.
use Rattle.overlay_order.proofs.data.CountWithDataEdgeCount.merged.Goals as goal

pub returns-clause-merges : goal.returns-clause-merges
returns-clause-merges g c = record { counts = c.merged.ensures.counts; edge_data = c.merge.ensures.merges }
