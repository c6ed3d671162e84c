-- The new builder answers of the paths that were added to it.
use Rattle.std.proofs.Common.{ap, map, subst}
use Rattle.overlay_order.specs.Vectors.{plain_vector}
use Rattle.overlay_builder.specs.GivenPaths.{added_paths, subject_and_clip}
use Rattle.overlay_builder.specs.PathLists.{HoldsPaths}
use Rattle.overlay_geom.specs.Flat.{paths_in}
use Rattle.i_overlay.specs.Builder.{held_by}
use Rattle.i_overlay.proofs.OneShots.{edges_of_paths, query_refused}
use Rattle.polyover_calls.proofs.edges.arranged_edges.Goals as goal

pub returns-clause-edges : goal.returns-clause-edges
returns-clause-edges g c =
    let whole = g.I.IntNumber.whole in
    let paths = subject_and_clip (paths_in whole c.args.subject.now.points.items c.args.subject.now.ranges.items)
    (paths_in whole c.args.clip.now.points.items c.args.clip.now.ranges.items) in
    let query = c.build_separate_vectors in
    let made = c.in_ok-overlay.ensures in
    edges_of_paths c.args.solver (ap (λ m. m.solver) made.made) query.result (λ v. map (plain_vector whole) v.items)
    c.args.fill paths c.in_ok-overlay.overlay.edges query.new.self.edges
    (subst (λ keep. HoldsPaths (added_paths keep paths) c.in_ok-overlay.overlay.edges)
    c.default-options.ensures.input_kept made.ok)
    query.ensures.answers.query.arranged query.ensures.listed

pub returns-clause-err : goal.returns-clause-err
returns-clause-err g c =
    let whole = g.I.IntNumber.whole in
    let paths = subject_and_clip (paths_in whole c.args.subject.now.points.items c.args.subject.now.ranges.items)
    (paths_in whole c.args.clip.now.points.items c.args.clip.now.ranges.items) in
    let query = c.build_separate_vectors in
    let made = c.in_ok-overlay.ensures in
    query_refused c.args.solver (ap (λ m. m.solver) made.made) g.I.IntNumber.limit paths
    (held_by c.in_ok-overlay.overlay) (held_by query.new.self) query.result
    (subst (λ keep. HoldsPaths (added_paths keep paths) c.in_ok-overlay.overlay.edges)
    c.default-options.ensures.input_kept made.ok)
    (ap (λ m. m.failed) made.made) query.ensures.answers.query
