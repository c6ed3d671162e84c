-- The relations told at 32 bits are those of the contours.
use Rattle.std.proofs.Common.{sym, subst}
use Rattle.polyover_calls.specs.Narrowed.{AreNarrowed}
use Rattle.polyover_calls.proofs.FittedQueries.{relating_refused, relations_widened, match_back}
use Rattle.polyover_calls.proofs.relate.fitted_bits.Goals as goal

pub returns-in-Some : goal.returns-in-Some
returns-in-Some g c =
    let whole = g.I.IntNumber.whole in
    let limit = g.I.IntNumber.limit in
    let first = subst (AreNarrowed whole limit c.args.subject.now.coordinates.now) (sym c.deref.ensures.value)
    c.in-Some.ensures.first in
    let second = subst (AreNarrowed whole limit c.args.clip.now.coordinates.now) (sym c.deref-in-Some.ensures.value)
    c.in-Some.ensures.second in
    match_back (relations_widened whole limit c.args.fill _ _ _ _ first second c.args.solver)
    (relating_refused whole limit c.args.fill _ _ _ _ first second c.args.solver) c.relation_bits.result
    c.relation_bits.ensures
