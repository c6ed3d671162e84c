-- Over no edges there is no shape; a refusal is remembered; and the shapes wind as asked of the edges before, far from
-- these.
use Rattle.std.proofs.Common.{◌≡◌, [], sym, refl, is_err, ap, ◌∙◌}
use Rattle.std.proofs.lemmas.Result.{IfOk-at_ok, err_from_is_err_and}
use Rattle.std.specs.Prelude.{Ok, Err}
use Rattle.overlay_geom.specs.declared.error.OverlayError.TheVariants.{Memory}
use Rattle.overlay_geom.specs.Paths.{paths_of_shape, plain_shapes}
use Rattle.overlay_plane.specs.Carried.{edges_in}
use Rattle.overlay_plane.specs.ShapeWindings.{steps_of_shapes}
use Rattle.overlay_builder.specs.Held.{plain_held}
use Rattle.overlay_extract.specs.Results.{asked}
use Rattle.overlay_extract.proofs.NoShapes.{no_shapes_held}
use Rattle.i_overlay.proofs.GivenRegions.{given_round}
use Rattle.i_overlay.proofs.Queries.{extracted}
use Rattle.i_overlay.proofs.overlay.Overlay.overlay.Goals as goal

pub returns-clause-empty : goal.returns-clause-empty
returns-clause-empty g c = λ none.
    let e = c.extract-shapes.ensures in
    let same : edges_in c.arrange.new.self.edges ≡ [] =
    sym (ap (λ b. b.edges) e.kept) ∙ sym (ap (λ b. b.edges) c.self-2.view_is)
    ∙ sym (ap (λ h. edges_in h.edges) c.set_failed.ensures) ∙ none in
    IfOk-at_ok (λ v. v.items ≡ []) c.in_ok-shapes.was
    (no_shapes_held c.extract-shapes.result (λ v. v.items) (λ s. paths_of_shape g.I.IntNumber.whole s.items)
    (asked g.I.Wide.WideIntNumber.width g.I.WideUInt.UIntNumber.natural c.args.fill_rule c.args.overlay_rule
    c.self.inside.options)
    (edges_in c.arrange.new.self.edges) e.result same)

pub returns-clause-answers : goal.returns-clause-answers
returns-clause-answers g c =
    let core = plain_held c.set_failed.new.self in
    let e = c.extract-shapes.ensures in
    extracted g.I.IntNumber.limit c.self.view_is (plain_held c.arrange.new.self) c.in_ok-arrange.field-0
    c.in_ok-arrange.ensures.query core.edges core.failed (Ok c.in_ok-shapes.field-0)
    (ap (λ h. h.failed) c.set_failed.ensures ∙ c.is_err.ensures.value ∙ ap is_err c.in_ok-shapes.was) tt
    c.self-2.view_is e.kept (ap (λ h. edges_in h.edges) c.set_failed.ensures) (rw c.in_ok-shapes.was at e.buffer)

pub returns-in_err-shapes-clause-answers : goal.returns-in_err-shapes-clause-answers
returns-in_err-shapes-clause-answers g c =
    let core = plain_held c.set_failed.new.self in
    let e = c.extract-shapes.ensures in
    let p = err_from_is_err_and c.from_residual-in_err-shapes.result c.from_residual-in_err-shapes.ensures.1 in
    rw (p.1, p.2) (extracted g.I.IntNumber.limit c.self.view_is (plain_held c.arrange.new.self)
    c.in_ok-arrange.field-0 c.in_ok-arrange.ensures.query core.edges core.failed (Err Memory)
    (ap (λ h. h.failed) c.set_failed.ensures ∙ c.is_err.ensures.value ∙ ap is_err c.in_err-shapes.was) refl
    c.self-2.view_is e.kept (ap (λ h. edges_in h.edges) c.set_failed.ensures) tt)

pub returns-clause-given : goal.returns-clause-given
returns-clause-given g c =
    let e = c.extract-shapes.ensures in
    given_round g.I.IntNumber.limit c.self.view_is (plain_held c.arrange.new.self) c.in_ok-arrange.field-0
    c.in_ok-arrange.ensures.query
    (λ b. asked g.I.Wide.WideIntNumber.width g.I.WideUInt.UIntNumber.natural c.args.fill_rule c.args.overlay_rule
    b.options)
    (λ v. steps_of_shapes (plain_shapes g.I.IntNumber.whole v.items)) (edges_in c.set_failed.new.self.edges)
    (ap (λ h. edges_in h.edges) c.set_failed.ensures ∙ ap (λ b. b.edges) c.self-2.view_is ∙ ap (λ b. b.edges) e.kept)
    (Ok c.in_ok-shapes.field-0) (IfOk-at_ok _ c.in_ok-shapes.was e.result).winds
