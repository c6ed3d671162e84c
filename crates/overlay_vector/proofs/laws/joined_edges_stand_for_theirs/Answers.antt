use Rattle.overlay_vector.proofs.JoinedRuns.{joined_stand_for_theirs}
use Rattle.overlay_vector.proofs.laws.joined_edges_stand_for_theirs.Goals as goal

pub returns : goal.returns
returns g c = joined_stand_for_theirs g.D.PartialEq.eq g.met.D.PartialEq.laws
