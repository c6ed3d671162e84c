-- The contours are written from the arranged edges; a refusal is remembered; and they wind as asked of the edges
-- before, far from these.
use Rattle.std.proofs.Common.{refl, is_err, ap, ◌∙◌}
use Rattle.std.proofs.lemmas.Result.{IfOk-at_ok, err_from_is_err_and}
use Rattle.std.specs.Prelude.{Ok, Err}
use Rattle.overlay_geom.specs.declared.error.OverlayError.TheVariants.{Memory}
use Rattle.std.specs.List.{flat_map}
use Rattle.overlay_geom.specs.Flat.{paths_in}
use Rattle.overlay_geom.specs.Plane.{steps_of}
use Rattle.overlay_plane.specs.Carried.{edges_in}
use Rattle.overlay_builder.specs.Held.{plain_held}
use Rattle.overlay_extract.specs.Results.{asked}
use Rattle.i_overlay.proofs.GivenRegions.{given_round}
use Rattle.i_overlay.proofs.Queries.{extracted}
use Rattle.i_overlay.proofs.overlay.Overlay.overlay_into.Goals as goal

pub returns-clause-answers : goal.returns-clause-answers
returns-clause-answers g c =
    let core = plain_held c.set_failed.new.self in
    let e = c.extract_into-written.ensures in
    extracted g.I.IntNumber.limit c.self.view_is (plain_held c.arrange.new.self) c.in_ok-arrange.field-0
    c.in_ok-arrange.ensures.query core.edges core.failed (Ok c.in_ok-written.field-0)
    (ap (λ h. h.failed) c.set_failed.ensures ∙ c.is_err.ensures.value ∙ ap is_err c.in_ok-written.was) tt
    c.self-2.view_is e.kept (ap (λ h. edges_in h.edges) c.set_failed.ensures) (rw c.in_ok-written.was at e.buffer)

pub returns-in_err-written-clause-answers : goal.returns-in_err-written-clause-answers
returns-in_err-written-clause-answers g c =
    let core = plain_held c.set_failed.new.self in
    let e = c.extract_into-written.ensures in
    let p = err_from_is_err_and c.from_residual-in_err-written.result c.from_residual-in_err-written.ensures.1 in
    rw (p.1, p.2) (extracted g.I.IntNumber.limit c.self.view_is (plain_held c.arrange.new.self)
    c.in_ok-arrange.field-0 c.in_ok-arrange.ensures.query core.edges core.failed (Err Memory)
    (ap (λ h. h.failed) c.set_failed.ensures ∙ c.is_err.ensures.value ∙ ap is_err c.in_err-written.was) refl
    c.self-2.view_is e.kept (ap (λ h. edges_in h.edges) c.set_failed.ensures) tt)

pub returns-clause-given : goal.returns-clause-given
returns-clause-given g c =
    let e = c.extract_into-written.ensures in
    let output = c.extract_into-written.new.output in
    given_round g.I.IntNumber.limit c.self.view_is (plain_held c.arrange.new.self) c.in_ok-arrange.field-0
    c.in_ok-arrange.ensures.query
    (λ b. asked g.I.Wide.WideIntNumber.width g.I.WideUInt.UIntNumber.natural c.args.fill_rule c.args.overlay_rule
    b.options)
    (λ v. flat_map steps_of (paths_in g.I.IntNumber.whole output.points.items output.ranges.items))
    (edges_in c.set_failed.new.self.edges)
    (ap (λ h. edges_in h.edges) c.set_failed.ensures ∙ ap (λ b. b.edges) c.self-2.view_is ∙ ap (λ b. b.edges) e.kept)
    (Ok c.in_ok-written.field-0) (IfOk-at_ok _ c.in_ok-written.was e.result).winds
