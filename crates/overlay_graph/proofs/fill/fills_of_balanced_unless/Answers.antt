-- The scan of the sweep is empty.
use Rattle.overlay_graph.proofs.fill.fills_of_balanced_unless.Goals as goal

pub fills_by_sweep_unless-requires-clause-empty : goal.fills_by_sweep_unless-requires-clause-empty
fills_by_sweep_unless-requires-clause-empty g c = c.default-scan.ensures.empty
