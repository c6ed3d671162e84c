-- The law is proved in proofs/ScaledRelations.antt.
use Rattle.overlay_scaled.proofs.ScaledRelations.{scaling_keeps_relations}
use Rattle.overlay_scaled.proofs.scaling.scaling_keeps_relations.Goals as goal

pub returns : goal.returns
returns c = scaling_keeps_relations
