-- The law, proved among the lemmas.
use Rattle.overlay_relate.proofs.Located.{inside_off_edges}
use Rattle.overlay_relate.proofs.laws.inside_off_edges.Goals as goal

pub returns : goal.returns
returns g = inside_off_edges
