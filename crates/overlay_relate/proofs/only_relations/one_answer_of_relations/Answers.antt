-- The law is proved in proofs/OneTruth.antt.
use Rattle.overlay_relate.proofs.OneTruth.{one_answer_of_relations}
use Rattle.overlay_relate.proofs.only_relations.one_answer_of_relations.Goals as goal

pub returns : goal.returns
returns c = one_answer_of_relations
