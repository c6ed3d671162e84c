-- The new builder answers of the paths that were added to it.
use Rattle.overlay_predicates.proofs.ToldPaths.{told_of_two}
use Rattle.overlay_predicates.proofs.relate_exact.AnyIntRelateExact.exact_relations.Goals as goal

pub returns : goal.returns
returns g c =
    let made = c.in_ok-predicates.ensures in
    told_of_two _ _ c.in_ok-predicates.predicates c.relations.result made.ok made.made c.relations.ensures
