-- The paths are those of the pieces that are kept, all of which are open at first.
use Rattle.std.proofs.Common.{◌∙◌, subst}
use Rattle.std.specs.Prelude.{IfOk}
use Rattle.overlay_geom.specs.Flat.{paths_in}
use Rattle.overlay_string.specs.ClipPaths.{ArePathsOf}
use Rattle.overlay_string.proofs.string_overlay.clip.clipped.Goals as goal

pub returns-clause-paths : goal.returns-clause-paths
returns-clause-paths g c =
    subst (λ ps. IfOk c.joined_paths.result
    (λ b. ArePathsOf ps (paths_in g.I.IntNumber.whole b.points.items b.ranges.items)))
    (c.in_ok-pieces.ensures.ok ∙ c.in_ok-kept.ensures.ok) c.joined_paths.ensures.paths
