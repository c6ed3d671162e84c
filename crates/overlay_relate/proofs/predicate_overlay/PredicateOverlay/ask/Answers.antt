-- What is answered of the arranged edges answers the query.
use Rattle.overlay_relate.proofs.KeptFindings.{told_as_answered}
use Rattle.overlay_relate.proofs.predicate_overlay.PredicateOverlay.ask.Goals as goal

pub returns : goal.returns
returns g c =
    told_as_answered g.I.IntNumber.limit c.args.self.now c.arrange.new.self c.answer.new.self c.in_ok-arrange.field-0
    c.in_ok-arrange.ensures.query c.in_ok-arrange.ensures.kept c.in_ok-answer.ensures.kept c.args.predicate
    c.in_ok-answer.answer c.in_ok-answer.ensures.ok
