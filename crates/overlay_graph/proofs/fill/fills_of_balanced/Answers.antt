-- The scan of the sweep is empty.
use Rattle.overlay_graph.proofs.fill.fills_of_balanced.Goals as goal

pub fills_by_sweep-requires-clause-empty : goal.fills_by_sweep-requires-clause-empty
fills_by_sweep-requires-clause-empty g c = c.default-scan.ensures.empty
