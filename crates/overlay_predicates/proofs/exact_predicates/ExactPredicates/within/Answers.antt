-- The subject pokes out beside some piece, or all relations are told.
use Rattle.overlay_geom.specs.Rules.{is_filled}
use Rattle.overlay_order.proofs.RuledContents.{zero_is_empty}
use Rattle.overlay_given.specs.declared.sides.SideTest.TheVariants.{SubjectOutside}
use Rattle.overlay_predicates.proofs.EarlyAnswers.{piece_seen, relations_told, no, not_within}
use Rattle.overlay_predicates.proofs.exact_predicates.ExactPredicates.within.Goals as goal

pub returns-in-None : goal.returns-in-None
returns-in-None g c =
    let rule = c.args.self.now.fill_rule in
    let es = c.args.self.now.edges in
    record {
      answer = no (not_within (is_filled rule) es (zero_is_empty rule)
          (piece_seen SubjectOutside (is_filled rule) es c.in_ok-told.told c.in-None.is c.in_ok-told.ensures.answer));
      err = tt;
    }

pub returns-in-Some : goal.returns-in-Some
returns-in-Some g c =
    let rule = c.args.self.now.fill_rule in
    let es = c.args.self.now.edges in
    record {
      answer = (relations_told SubjectOutside (is_filled rule) es c.in_ok-told.told c.in-Some.relations c.in-Some.is
          c.in_ok-told.ensures.answer).within;
      err = tt;
    }
