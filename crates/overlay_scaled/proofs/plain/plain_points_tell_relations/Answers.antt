-- The law is proved in proofs/PlainRelations.antt.
use Rattle.overlay_scaled.proofs.PlainRelations.{plain_points_tell_relations}
use Rattle.overlay_scaled.proofs.plain.plain_points_tell_relations.Goals as goal

pub returns : goal.returns
returns c = plain_points_tell_relations
