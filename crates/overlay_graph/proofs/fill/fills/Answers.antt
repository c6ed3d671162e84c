-- The sweep is asked where the counts are balanced.
use Rattle.overlay_graph.proofs.fill.fills.Goals as goal

pub fills_of_balanced-requires-clause-balanced : goal.fills_of_balanced-requires-clause-balanced
fills_of_balanced-requires-clause-balanced g c = c.in_ok-balanced.ensures.balanced.0 c.if-balanced.true
