-- The edges are arranged, and then listed.
use Rattle.std.proofs.Common.{is_err, refl, ap, ◌∙◌}
use Rattle.std.proofs.lemmas.Result.{err_from_is_err_and}
use Rattle.std.specs.Prelude.{Ok, Err}
use Rattle.overlay_geom.specs.declared.error.OverlayError.TheVariants.{Memory}
use Rattle.overlay_plane.specs.Carried.{edges_in}
use Rattle.overlay_builder.specs.Held.{plain_held}
use Rattle.i_overlay.proofs.Queries.{answered}
use Rattle.i_overlay.proofs.overlay.Overlay.build_separate_vectors.Goals as goal

pub returns-clause-answers : goal.returns-clause-answers
returns-clause-answers g c =
    let core = plain_held c.set_failed.new.self in
    answered g.I.IntNumber.limit c.self.view_is (plain_held c.arrange.new.self) c.in_ok-arrange.field-0
    c.in_ok-arrange.ensures.query core.edges core.failed (Ok c.in_ok-listed.field-0)
    (ap (λ h. h.failed) c.set_failed.ensures ∙ c.is_err.ensures.value ∙ ap is_err c.in_ok-listed.was) tt
    (ap (λ h. edges_in h.edges) c.set_failed.ensures)

pub returns-in_err-listed-clause-answers : goal.returns-in_err-listed-clause-answers
returns-in_err-listed-clause-answers g c =
    let core = plain_held c.set_failed.new.self in
    let p = err_from_is_err_and c.from_residual-in_err-listed.result c.from_residual-in_err-listed.ensures.1 in
    rw (p.1, p.2) (answered g.I.IntNumber.limit c.self.view_is (plain_held c.arrange.new.self)
    c.in_ok-arrange.field-0 c.in_ok-arrange.ensures.query core.edges core.failed (Err Memory)
    (ap (λ h. h.failed) c.set_failed.ensures ∙ c.is_err.ensures.value ∙ ap is_err c.in_err-listed.was) refl
    (ap (λ h. edges_in h.edges) c.set_failed.ensures))
