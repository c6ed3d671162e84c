-- Both are the list of the selected edges.
use Rattle.std.proofs.Common.{sym, ◌∙◌}
use Rattle.overlay_vector.proofs.laws.one_list_of_vectors.Goals as goal

pub returns : goal.returns
returns g c = λ fill rule xs first second a b. a ∙ sym b
