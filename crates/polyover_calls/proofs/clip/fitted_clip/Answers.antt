-- The parts at 32 bits, taken back.
use Rattle.std.proofs.Common.{rules, sym, subst}
use Rattle.polyover_calls.specs.Narrowed.{AreNarrowed}
use Rattle.polyover_calls.proofs.FittedQueries.{clip_refused, clips_widened, clips_not_widened}
use Rattle.polyover_calls.proofs.clip.fitted_clip.Goals as goal

pub returns-in_err-answer : goal.returns-in_err-answer
returns-in_err-answer g c =
    let whole = g.I.IntNumber.whole in
    let limit = g.I.IntNumber.limit in
    let first = subst (AreNarrowed whole limit c.args.shape.now.coordinates.now) (sym c.deref.ensures.value)
    c.in-Some.ensures.first in
    let second = subst (AreNarrowed whole limit c.args.lines.now.coordinates.now) (sym c.deref-in-Some.ensures.value)
    c.in-Some.ensures.second in
    let refused = clip_refused whole limit c.args.fill _ _ _ _ first second c.args.options c.in_err-answer.field-0.0
    c.in_err-answer.ensures in
    search rules

pub returns-in_err-answer-2 : goal.returns-in_err-answer-2
returns-in_err-answer-2 g c =
    let whole = g.I.IntNumber.whole in
    let limit = g.I.IntNumber.limit in
    let first = subst (AreNarrowed whole limit c.args.shape.now.coordinates.now) (sym c.deref.ensures.value)
    c.in-Some.ensures.first in
    let second = subst (AreNarrowed whole limit c.args.lines.now.coordinates.now) (sym c.deref-in-Some.ensures.value)
    c.in-Some.ensures.second in
    let refused = clips_not_widened whole limit c.args.fill _ _ _ _ first second c.args.options _
    c.in_err-answer-2.field-0.0 (search rules) c.in_ok-answer.ensures in
    search rules

pub returns-in-Some : goal.returns-in-Some
returns-in-Some g c =
    let whole = g.I.IntNumber.whole in
    let limit = g.I.IntNumber.limit in
    let first = subst (AreNarrowed whole limit c.args.shape.now.coordinates.now) (sym c.deref.ensures.value)
    c.in-Some.ensures.first in
    let second = subst (AreNarrowed whole limit c.args.lines.now.coordinates.now) (sym c.deref-in-Some.ensures.value)
    c.in-Some.ensures.second in
    clips_widened whole limit c.args.fill _ _ _ _ first second c.args.options _ _
    c.in_ok-answer-2.ensures.coordinates c.in_ok-answer-2.ensures.ends c.in_ok-answer.ensures
