-- What is added is arranged, with balanced counts; or adding or arranging it is refused.
use Rattle.std.proofs.lemmas.Result.{err_from_is_err_and}
use Rattle.overlay_builder.specs.GivenPaths.{subject_and_clip}
use Rattle.overlay_builder.specs.Held.{plain_held}
use Rattle.overlay_geom.specs.Flat.{paths_in}
use Rattle.overlay_plane.specs.Carried.{edges_in}
use Rattle.i_overlay.proofs.AddedAlone.{query_refused}
use Rattle.i_overlay.proofs.FarPaths.{arranged_alone}
use Rattle.polyover_views.proofs.Added.{paths_held, paths_refused, is_arrangement, is_balanced}
use Rattle.polyover_views.proofs.arranged.arranged_core.Goals as goal

pub returns-in_err-add_both-clause-err : goal.returns-in_err-add_both-clause-err
returns-in_err-add_both-clause-err g c =
    let whole = g.I.IntNumber.whole in
    let paths = subject_and_clip (paths_in whole c.args.subject.now.points.items c.args.subject.now.ranges.items)
    (paths_in whole c.args.clip.now.points.items c.args.clip.now.ranges.items) in
    let p = err_from_is_err_and c.from_residual-in_err-add_both.result c.from_residual-in_err-add_both.ensures.1 in
    rw (p.1, p.2) (paths_refused c.args.keep paths (plain_held c.add_both.new.core) c.args.solver
    c.in_err-add_both.field-0.0 c.in_err-add_both.ensures)

pub returns-in_err-arrange-clause-err : goal.returns-in_err-arrange-clause-err
returns-in_err-arrange-clause-err g c =
    let whole = g.I.IntNumber.whole in
    let paths = subject_and_clip (paths_in whole c.args.subject.now.points.items c.args.subject.now.ranges.items)
    (paths_in whole c.args.clip.now.points.items c.args.clip.now.ranges.items) in
    let p = err_from_is_err_and c.from_residual-in_err-arrange.result c.from_residual-in_err-arrange.ensures.1 in
    rw (p.1, p.2) (query_refused c.args.keep c.args.solver paths g.I.IntNumber.limit (plain_held c.add_both.new.core)
    (plain_held c.arrange.new.self) c.in_err-arrange.field-0.0
    (paths_held c.args.keep paths (plain_held c.add_both.new.core) c.in_ok-add_both.field-0 c.in_ok-add_both.ensures)
    c.in_ok-add_both.ensures.kept c.in_err-arrange.ensures.query)

pub returns-clause-paths : goal.returns-clause-paths
returns-clause-paths g c =
    let whole = g.I.IntNumber.whole in
    let paths = subject_and_clip (paths_in whole c.args.subject.now.points.items c.args.subject.now.ranges.items)
    (paths_in whole c.args.clip.now.points.items c.args.clip.now.ranges.items) in
    arranged_alone c.args.keep c.args.solver paths (edges_in c.add_both.new.core.edges)
    (edges_in c.arrange.new.self.edges)
    (paths_held c.args.keep paths (plain_held c.add_both.new.core) c.in_ok-add_both.field-0 c.in_ok-add_both.ensures)
    c.in_ok-arrange.ensures.query.arranged

pub returns-clause-arranged : goal.returns-clause-arranged
returns-clause-arranged g c =
    let whole = g.I.IntNumber.whole in
    let paths = subject_and_clip (paths_in whole c.args.subject.now.points.items c.args.subject.now.ranges.items)
    (paths_in whole c.args.clip.now.points.items c.args.clip.now.ranges.items) in
    is_arrangement c.args.keep g.I.IntNumber.limit c.args.solver paths (edges_in c.add_both.new.core.edges)
    (edges_in c.arrange.new.self.edges)
    (paths_held c.args.keep paths (plain_held c.add_both.new.core) c.in_ok-add_both.field-0 c.in_ok-add_both.ensures)
    c.in_ok-arrange.ensures.query.arranged c.in_ok-arrange.ensures.query.content

pub returns-clause-balanced : goal.returns-clause-balanced
returns-clause-balanced g c =
    let whole = g.I.IntNumber.whole in
    let paths = subject_and_clip (paths_in whole c.args.subject.now.points.items c.args.subject.now.ranges.items)
    (paths_in whole c.args.clip.now.points.items c.args.clip.now.ranges.items) in
    is_balanced c.args.keep g.I.IntNumber.limit c.args.solver paths (edges_in c.add_both.new.core.edges)
    (edges_in c.arrange.new.self.edges)
    (paths_held c.args.keep paths (plain_held c.add_both.new.core) c.in_ok-add_both.field-0 c.in_ok-add_both.ensures)
    c.in_ok-arrange.ensures.query.arranged
