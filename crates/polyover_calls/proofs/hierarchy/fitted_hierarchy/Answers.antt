-- The shapes and links at 32 bits, taken back.
use Rattle.std.proofs.Common.{rules, sym, subst}
use Rattle.polyover_calls.specs.Narrowed.{AreNarrowed}
use Rattle.polyover_calls.proofs.FittedOverlays.{overlay_refused, hierarchy_widened, hierarchy_not_widened}
use Rattle.polyover_calls.proofs.hierarchy.fitted_hierarchy.Goals as goal

pub returns-in_err-answer : goal.returns-in_err-answer
returns-in_err-answer g c =
    let whole = g.I.IntNumber.whole in
    let limit = g.I.IntNumber.limit in
    let q = c.args.asked.now in
    let first = subst (AreNarrowed whole limit q.subject.coordinates.now) (sym c.deref.ensures.value)
    c.in-Some.ensures.first in
    let second = subst (AreNarrowed whole limit q.clip.coordinates.now) (sym c.deref-in-Some.ensures.value)
    c.in-Some.ensures.second in
    let refused = overlay_refused whole limit q.rule q.fill q.options _ _ _ _ first second _
    c.without_minimum.ensures c.in_err-answer.field-0.0 c.in_err-answer.ensures in
    search rules

pub returns-in_err-answer-2 : goal.returns-in_err-answer-2
returns-in_err-answer-2 g c =
    let whole = g.I.IntNumber.whole in
    let limit = g.I.IntNumber.limit in
    let q = c.args.asked.now in
    let first = subst (AreNarrowed whole limit q.subject.coordinates.now) (sym c.deref.ensures.value)
    c.in-Some.ensures.first in
    let second = subst (AreNarrowed whole limit q.clip.coordinates.now) (sym c.deref-in-Some.ensures.value)
    c.in-Some.ensures.second in
    let refused = hierarchy_not_widened whole limit q.rule q.fill q.options _ _ _ _ first second _
    c.without_minimum.ensures g.I.Wide.WideIntNumber.width g.I.WideUInt.UIntNumber.natural
    (c.keep_all.ensures.0 c.if-keep_all.true) _ c.in_err-answer-2.field-0.0 (search rules) c.in_ok-answer.ensures in
    search rules

pub returns-in-Some : goal.returns-in-Some
returns-in-Some g c =
    let whole = g.I.IntNumber.whole in
    let limit = g.I.IntNumber.limit in
    let q = c.args.asked.now in
    let first = subst (AreNarrowed whole limit q.subject.coordinates.now) (sym c.deref.ensures.value)
    c.in-Some.ensures.first in
    let second = subst (AreNarrowed whole limit q.clip.coordinates.now) (sym c.deref-in-Some.ensures.value)
    c.in-Some.ensures.second in
    hierarchy_widened whole limit q.rule q.fill q.options _ _ _ _ first second _
    c.without_minimum.ensures g.I.Wide.WideIntNumber.width g.I.WideUInt.UIntNumber.natural
    (c.keep_all.ensures.0 c.if-keep_all.true) _ _ c.in_ok-answer-2.ensures.coordinates
    c.in_ok-answer-2.ensures.contour_ends c.in_ok-answer-2.ensures.shape_ends c.in_ok-answer-2.ensures.links
    c.in_ok-answer.ensures
