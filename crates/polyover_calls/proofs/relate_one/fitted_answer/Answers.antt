-- The answer told at 32 bits is that of the contours.
use Rattle.std.proofs.Common.{sym, subst}
use Rattle.polyover_calls.specs.Narrowed.{AreNarrowed}
use Rattle.polyover_calls.proofs.FittedQueries.{match_back}
use Rattle.polyover_calls.proofs.FittedRelation.{relation_refused, relation_widened}
use Rattle.polyover_calls.proofs.relate_one.fitted_answer.Goals as goal

pub returns-in-Some : goal.returns-in-Some
returns-in-Some g c =
    let whole = g.I.IntNumber.whole in
    let limit = g.I.IntNumber.limit in
    let first = subst (AreNarrowed whole limit c.args.subject.now.coordinates.now) (sym c.deref.ensures.value)
    c.in-Some.ensures.first in
    let second = subst (AreNarrowed whole limit c.args.clip.now.coordinates.now) (sym c.deref-in-Some.ensures.value)
    c.in-Some.ensures.second in
    match_back
    (relation_widened whole limit c.args.relation c.args.fill c.args.solver _ _ _ _ first second)
    (relation_refused whole limit c.args.relation c.args.fill c.args.solver _ _ _ _ first second)
    c.one_answer.result c.one_answer.ensures
