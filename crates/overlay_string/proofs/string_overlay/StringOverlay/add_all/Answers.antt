-- The paths are added by the core, in their role, and keep the counts balanced.
use Rattle.std.proofs.Common.{sym, subst, ◌∙◌}
use Rattle.overlay_builder.specs.Held.{plain_held}
use Rattle.overlay_builder.proofs.Balanced.{adding_balanced_paths}
use Rattle.overlay_string.specs.StringBuilder.{StringBuilderAdds}
use Rattle.overlay_string.specs.StringPaths.{paths_in}
use Rattle.overlay_string.proofs.AddedInRoles.{paths_added}
use Rattle.overlay_string.proofs.AddedPaths.{seen_with, only_edges_new}
use Rattle.overlay_string.proofs.BalancedPaths.{paths_keep_balance}
use Rattle.overlay_string.proofs.string_overlay.StringOverlay.add_all.Goals as goal

pub invariant_of-self : goal.invariant_of-self
invariant_of-self g c = λ ready.
    let paths = g.R0.IntShapeResource.paths c.args.resource.now in
    let role = c.args.role in
    adding_balanced_paths (paths_in role paths) (paths_keep_balance role paths) (plain_held c.self.inside.core)
    (plain_held c.add_paths.new.self) c.add_paths.result
    (paths_added role c.kind_in.result c.passing_in.result c.kind_in.ensures c.passing_in.ensures paths
    c.self.inside.core c.add_paths.new.self c.add_paths.result c.add_paths.ensures)
    (c.self.invariant (sym c.add_paths.ensures.kept ∙ ready))

pub returns : goal.returns
returns g c =
    let paths = g.R0.IntShapeResource.paths c.args.resource.now in
    let role = c.args.role in
    let options = c.self.inside.options in
    subst (λ b. StringBuilderAdds (paths_in role paths) b (seen_with options c.add_paths.new.self) c.add_paths.result)
    c.self.view_is
    (record {
      added = paths_added role c.kind_in.result c.passing_in.result c.kind_in.ensures c.passing_in.ensures paths
          c.self.inside.core c.add_paths.new.self c.add_paths.result c.add_paths.ensures;
      kept = only_edges_new options c.self.inside.core c.add_paths.new.self c.add_paths.ensures.kept;
    })
