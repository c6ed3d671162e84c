-- Both shapes fill one side of some piece, or all relations are told.
use Rattle.overlay_geom.specs.Rules.{is_filled}
use Rattle.overlay_order.proofs.RuledContents.{zero_is_empty}
use Rattle.overlay_given.specs.declared.sides.SideTest.TheVariants.{CommonSide}
use Rattle.overlay_predicates.proofs.EarlyAnswers.{piece_seen, relations_told, yes, interiors_do}
use Rattle.overlay_predicates.proofs.exact_predicates.ExactPredicates.interiors_intersect.Goals as goal

pub returns-in-None : goal.returns-in-None
returns-in-None g c =
    let rule = c.args.self.now.fill_rule in
    let es = c.args.self.now.edges in
    record {
      answer = yes (interiors_do (is_filled rule) es (zero_is_empty rule)
          (piece_seen CommonSide (is_filled rule) es c.in_ok-told.told c.in-None.is c.in_ok-told.ensures.answer));
      err = tt;
    }

pub returns-in-Some : goal.returns-in-Some
returns-in-Some g c =
    let rule = c.args.self.now.fill_rule in
    let es = c.args.self.now.edges in
    record {
      answer = (relations_told CommonSide (is_filled rule) es c.in_ok-told.told c.in-Some.relations c.in-Some.is
          c.in_ok-told.ensures.answer).interiors_intersect;
      err = tt;
    }
