-- The path is added by the core, in its role, and keeps the counts balanced; or nothing is changed.
use Rattle.std.proofs.Common.{Ok, Err, sym, subst, ◌∙◌}
use Rattle.std.proofs.lemmas.Result.{err_from_is_err_and}
use Rattle.overlay_geom.specs.Points.{plain_points}
use Rattle.overlay_plane.specs.Carried.{edges_in}
use Rattle.overlay_string.specs.StringBuilder.{StringBuilderAddsOne}
use Rattle.overlay_string.specs.StringPaths.{path_in}
use Rattle.overlay_string.proofs.AddedInRoles.{path_added, asked_path_added, asked_path_refused}
use Rattle.overlay_string.proofs.AddedPaths.{seen_with, only_edges_new}
use Rattle.overlay_string.proofs.BalancedPaths.{role_keeps_balance}
use Rattle.overlay_string.proofs.string_overlay.StringOverlay.add_one.Goals as goal

pub returns-in_err-add_path : goal.returns-in_err-add_path
returns-in_err-add_path g c =
    let points = plain_points g.I.IntNumber.whole c.args.points.now in
    let role = c.args.role in
    let options = c.self.inside.options in
    let old = c.self.inside.core in
    let new = c.add_path.new.self in
    let added = c.in_err-add_path.ensures.added in
    let p = err_from_is_err_and c.from_residual.result c.from_residual.ensures.1 in
    rw (p.1, p.2)
    (subst (λ b. StringBuilderAddsOne {V = Unit {0}} (path_in role points) b (seen_with options new)
    (Err c.in_err-add_path.field-0.0)) c.self.view_is (record {
      added = asked_path_refused role c.kind_in.result c.passing_in.result c.kind_in.ensures c.passing_in.ensures points
          old new c.in_err-add_path.field-0.0 added;
      kept = only_edges_new options old new added.kept;
    }))

pub invariant_of-self-2 : goal.invariant_of-self-2
invariant_of-self-2 g c = λ ready.
    let points = plain_points g.I.IntNumber.whole c.args.points.now in
    let role = c.args.role in
    let added = c.in_ok-add_path.ensures.added in
    role_keeps_balance role points (edges_in c.self.inside.core.edges) (edges_in c.add_path.new.self.edges)
    (path_added role c.kind_in.result c.passing_in.result c.kind_in.ensures c.passing_in.ensures points
    c.self.inside.core.edges c.add_path.new.self.edges added.ok)
    (c.self.invariant (sym added.kept ∙ ready))

pub returns : goal.returns
returns g c =
    let points = plain_points g.I.IntNumber.whole c.args.points.now in
    let role = c.args.role in
    let options = c.self.inside.options in
    let old = c.self.inside.core in
    let new = c.add_path.new.self in
    let added = c.in_ok-add_path.ensures.added in
    subst (λ b. StringBuilderAddsOne {V = Unit {0}} (path_in role points) b (seen_with options new) (Ok tt))
    c.self.view_is (record {
      added = asked_path_added role c.kind_in.result c.passing_in.result c.kind_in.ensures c.passing_in.ensures points
          old new c.in_ok-add_path.field-0 tt added;
      kept = only_edges_new options old new added.kept;
    })
