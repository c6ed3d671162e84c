-- The law is proved in proofs/OneTruth.antt.
use Rattle.overlay_relate.proofs.OneTruth.{one_list_of_insides}
use Rattle.overlay_relate.proofs.only_relations.one_list_of_insides.Goals as goal

pub returns : goal.returns
returns c = one_list_of_insides
