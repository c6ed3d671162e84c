-- The edges at 32 bits, taken back.
use Rattle.std.proofs.Common.{rules, sym, subst}
use Rattle.polyover_calls.specs.Narrowed.{AreNarrowed}
use Rattle.polyover_calls.proofs.FittedQueries.{listing_refused, edges_widened, edges_not_widened}
use Rattle.polyover_calls.proofs.edges.fitted_edges.Goals as goal

pub returns-in_err-listed : goal.returns-in_err-listed
returns-in_err-listed g c =
    let whole = g.I.IntNumber.whole in
    let limit = g.I.IntNumber.limit in
    let first = subst (AreNarrowed whole limit c.args.subject.now.coordinates.now) (sym c.deref.ensures.value)
    c.in-Some.ensures.first in
    let second = subst (AreNarrowed whole limit c.args.clip.now.coordinates.now) (sym c.deref-in-Some.ensures.value)
    c.in-Some.ensures.second in
    let refused = listing_refused whole limit c.args.fill _ _ _ _ first second c.args.solver c.in_err-listed.field-0.0
    c.in_err-listed.ensures in
    search rules

pub returns-in_err-listed-2 : goal.returns-in_err-listed-2
returns-in_err-listed-2 g c =
    let whole = g.I.IntNumber.whole in
    let limit = g.I.IntNumber.limit in
    let first = subst (AreNarrowed whole limit c.args.subject.now.coordinates.now) (sym c.deref.ensures.value)
    c.in-Some.ensures.first in
    let second = subst (AreNarrowed whole limit c.args.clip.now.coordinates.now) (sym c.deref-in-Some.ensures.value)
    c.in-Some.ensures.second in
    let refused = edges_not_widened whole limit c.args.fill _ _ _ _ first second c.args.solver _
    c.in_err-listed-2.field-0.0 (search rules) c.in_ok-listed.ensures in
    search rules

pub returns-in-Some : goal.returns-in-Some
returns-in-Some g c =
    let whole = g.I.IntNumber.whole in
    let limit = g.I.IntNumber.limit in
    let first = subst (AreNarrowed whole limit c.args.subject.now.coordinates.now) (sym c.deref.ensures.value)
    c.in-Some.ensures.first in
    let second = subst (AreNarrowed whole limit c.args.clip.now.coordinates.now) (sym c.deref-in-Some.ensures.value)
    c.in-Some.ensures.second in
    edges_widened whole limit c.args.fill _ _ _ _ first second c.args.solver _ _
    c.in_ok-listed-2.ensures.coordinates c.in_ok-listed-2.ensures.fills c.in_ok-listed.ensures
