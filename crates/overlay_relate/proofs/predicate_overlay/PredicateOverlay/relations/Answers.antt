-- What is found of the arranged edges tells of all relations.
use Rattle.overlay_relate.proofs.KeptFindings.{relations_as_found}
use Rattle.overlay_relate.proofs.predicate_overlay.PredicateOverlay.relations.Goals as goal

pub returns : goal.returns
returns g c =
    relations_as_found g.I.IntNumber.limit c.args.self.now c.arrange.new.self c.find.new.self c.in_ok-arrange.field-0
    c.in_ok-arrange.ensures.query c.in_ok-arrange.ensures.kept c.in_ok-found.ensures.kept c.in_ok-found.found
    c.in_ok-found.ensures.ok c.relations.result c.relations.ensures
