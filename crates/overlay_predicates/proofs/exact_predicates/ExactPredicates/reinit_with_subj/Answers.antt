-- The paths are added to the cleared builder.
use Rattle.std.proofs.Common.{subst}
use Rattle.overlay_geom.specs.declared.options.ShapeType.TheVariants.{Subject}
use Rattle.overlay_predicates.specs.ExactBuilder.{ExactBuilderAdds}
use Rattle.overlay_builder.specs.GivenPaths.{paths_for}
use Rattle.overlay_predicates.proofs.exact_predicates.ExactPredicates.reinit_with_subj.Goals as goal

pub returns : goal.returns
returns g c =
    subst (λ b. ExactBuilderAdds (paths_for Subject (g.R0.IntShapeResource.paths c.args.subj.now)) b
    c.add_source.new.self c.add_source.result)
    c.clear.ensures c.add_source.ensures
