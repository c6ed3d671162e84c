-- The laws are proved in proofs/OneText.antt.
use Rattle.polyover_engine.proofs.OneText.{one_text_of_edges, one_text_of_relations}
use Rattle.polyover_engine.proofs.only_texts.one_text_of_arrangement.Goals as goal

pub returns-clause-edges : goal.returns-clause-edges
returns-clause-edges c = one_text_of_edges

pub returns-clause-relations : goal.returns-clause-relations
returns-clause-relations c = one_text_of_relations
