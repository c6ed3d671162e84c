-- The core remembers whether the paths were refused.
use Rattle.std.proofs.Common.{ap, ◌∙◌}
use Rattle.overlay_geom.specs.declared.options.ShapeType.TheVariants.{Subject}
use Rattle.overlay_builder.specs.GivenPaths.{paths_for}
use Rattle.overlay_builder.specs.Held.{plain_held}
use Rattle.overlay_plane.specs.Carried.{edges_in}
use Rattle.i_overlay.proofs.AddedAlone.{answers_alone}
use Rattle.i_overlay.proofs.simplifying.arranged_alone.arrange_alone.Goals as goal

pub returns : goal.returns
returns g c =
    let e = c.add_and_arrange-arranged.ensures in
    answers_alone g.I.IntNumber.limit c.args.solver c.args.keeps_points
    (paths_for Subject (g.R0.IntShapeResource.paths c.args.resource.now))
    (plain_held c.add_and_arrange-arranged.new.core) (plain_held c.set_failed.new.self)
    c.add_and_arrange-arranged.result
    e.arranged e.content e.err (ap (λ h. edges_in h.edges) c.set_failed.ensures)
    (ap (λ h. h.failed) c.set_failed.ensures ∙ c.is_err.ensures.value)
