-- The contour is all that is held, and then arranged; the tests tell whether it is simple.
use Rattle.std.proofs.Common.{◌≡◌, ◌≤◌, not, ◌&&◌, [], ◌∷◌, length, Err, sym, ap, subst, ◌∙◌}
use Rattle.std.proofs.lemmas.Bool.{false≢true}
use Rattle.std.proofs.lemmas.List.{length-map}
use Rattle.std.proofs.lemmas.Result.{err_from_is_err_and}
use Rattle.overlay_geom.specs.Points.{plain_point, plain_points}
use Rattle.overlay_geom.specs.declared.options.ShapeType.TheVariants.{Subject}
use Rattle.overlay_builder.specs.GivenPaths.{paths_for}
use Rattle.overlay_builder.specs.Held.{plain_held}
use Rattle.overlay_plane.specs.Carried.{edges_in}
use Rattle.i_overlay.specs.Outcome.{IsOutcome}
use Rattle.i_overlay.proofs.AddedAlone.{held_alone, one_refused, path_added, path_too_heavy, query_refused}
use Rattle.i_overlay.proofs.FarPaths.{arranged_alone}
use Rattle.i_overlay.proofs.TestedContours.{has_outcome, simple_where_whole, two_or_more, whole_where_simple}
use Rattle.i_overlay.proofs.simplifying.simple.add_and_test.Goals.{then-not-leaves_out, else-not-leaves_out}
use Rattle.i_overlay.proofs.simplifying.simple.add_and_test.Goals.{else-is_whole-via-else-is_whole}
use Rattle.i_overlay.proofs.simplifying.simple.add_and_test.Goals.{else-is_whole-via-then-is_whole+in_ok-visits_each_once+else-branch}
use Rattle.i_overlay.proofs.simplifying.simple.add_and_test.Goals as goal

pub returns-in_err-leaves_out-clause-err : goal.returns-in_err-leaves_out-clause-err
returns-in_err-leaves_out-clause-err g c =
    let e = c.in_err-leaves_out.ensures.added in
    let p = err_from_is_err_and c.from_residual.result c.from_residual.ensures.1 in
    rw (p.1, p.2) (one_refused c.args.asked.keeps_points c.args.asked.solver
    (plain_points g.I.IntNumber.whole c.args.contour.now) c.in_err-leaves_out.field-0.0
    (λ is. false≢true (sym (ap (λ h. h.failed) c.requires.nothing) ∙ e.failed.0 (ap Err is)))
    (λ is. e.no_query (ap Err is))
    (λ is. path_too_heavy c.args.asked.keeps_points c.contour_kind-kind.result c.contour_kind-kind.ensures
    c.passing_without_data-passing.result c.passing_without_data-passing.ensures c.args.core.now c.requires.nothing
    (plain_points g.I.IntNumber.whole c.args.contour.now) (e.too_many (ap Err is))))

pub returns-in_err-is_cut-clause-err : goal.returns-in_err-is_cut-clause-err
returns-in_err-is_cut-clause-err g c =
    let ps = plain_points g.I.IntNumber.whole c.args.contour.now in
    let p = err_from_is_err_and c.from_residual-in_err-is_cut.result c.from_residual-in_err-is_cut.ensures.1 in
    rw (p.1, p.2) (query_refused c.args.asked.keeps_points c.args.asked.solver (paths_for Subject (ps ∷ []))
    g.I.IntNumber.limit (plain_held c.add_path.new.self) (plain_held c.arrange.new.self) c.in_err-is_cut.field-0.0
    (held_alone c.args.asked.keeps_points ps (edges_in c.add_path.new.self.edges)
    (path_added c.args.asked.keeps_points c.contour_kind-kind.result c.contour_kind-kind.ensures
    c.passing_without_data-passing.result c.passing_without_data-passing.ensures c.args.core.now c.requires.nothing ps
    c.add_path.new.self c.in_ok-leaves_out.ensures.added.ok) c.in_ok-leaves_out.ensures.added.light)
    (c.in_ok-leaves_out.ensures.added.kept ∙ ap (λ h. h.failed) c.requires.nothing)
    c.in_err-is_cut.ensures.query)

pub direction_of-direction-requires-clause-once : goal.direction_of-direction-requires-clause-once
direction_of-direction-requires-clause-once g c = (c.in_ok-visits_each_once.ensures.ok.0 c.if-branch.true).1

pub direction_of-direction-requires-clause-some : goal.direction_of-direction-requires-clause-some
direction_of-direction-requires-clause-some g c =
    let ps = plain_points g.I.IntNumber.whole c.args.contour.now in
    let size : length ps ≡ length c.args.contour.now = length-map c.args.contour.now
    (plain_point g.I.IntNumber.whole) in
    let whole : c.if-not-leaves_out.is_whole ≡ (not c.in_ok-leaves_out.leaves_out && not c.in_ok-is_cut.is_cut) =
    elim c.if-not-leaves_out.branch [
      | then-not-leaves_out w ↦ w.is_whole-is ∙ sym (ap (λ t. not t && not c.in_ok-is_cut.is_cut)
          w.if-not-leaves_out.true)
      | else-not-leaves_out w ↦ w.is_whole-is ∙ ap not w.if-not-leaves_out.false ∙ sym
          (ap (λ t. not t && not c.in_ok-is_cut.is_cut)
          w.if-not-leaves_out.false)
    ] in
    subst (λ n. 2 ≤ n) size (two_or_more c.args.asked.keeps_points ps (edges_in c.arrange.new.self.edges)
    (simple_where_whole c.args.asked.solver c.args.asked.keeps_points c.contour_kind-kind.result
    c.contour_kind-kind.ensures ps (edges_in c.add_path.new.self.edges) (edges_in c.arrange.new.self.edges)
    (path_added c.args.asked.keeps_points c.contour_kind-kind.result c.contour_kind-kind.ensures
    c.passing_without_data-passing.result c.passing_without_data-passing.ensures c.args.core.now c.requires.nothing ps
    c.add_path.new.self c.in_ok-leaves_out.ensures.added.ok)
    c.in_ok-leaves_out.leaves_out c.in_ok-is_cut.is_cut c.in_ok-leaves_out.ensures.left_out
    c.in_ok-is_cut.ensures.cut (sym whole ∙ c.if-is_whole.true)
    (c.in_ok-visits_each_once.ensures.ok.0 c.if-branch.true).0
    (c.in_ok-visits_each_once.ensures.ok.0 c.if-branch.true).1))

pub returns-then-branch-clause-arranged : goal.returns-then-branch-clause-arranged
returns-then-branch-clause-arranged g c =
    let ps = plain_points g.I.IntNumber.whole c.args.contour.now in
    arranged_alone c.args.asked.keeps_points c.args.asked.solver (paths_for Subject (ps ∷ []))
    (edges_in c.add_path.new.self.edges) (edges_in c.arrange.new.self.edges)
    (held_alone c.args.asked.keeps_points ps (edges_in c.add_path.new.self.edges)
    (path_added c.args.asked.keeps_points c.contour_kind-kind.result c.contour_kind-kind.ensures
    c.passing_without_data-passing.result c.passing_without_data-passing.ensures c.args.core.now
    c.requires.nothing ps c.add_path.new.self c.in_ok-leaves_out.ensures.added.ok)
    c.in_ok-leaves_out.ensures.added.light)
    c.in_ok-is_cut.ensures.query.arranged

pub returns-then-branch-clause-outcome : goal.returns-then-branch-clause-outcome
returns-then-branch-clause-outcome g c =
    let ps = plain_points g.I.IntNumber.whole c.args.contour.now in
    let whole : c.if-not-leaves_out.is_whole ≡ (not c.in_ok-leaves_out.leaves_out && not c.in_ok-is_cut.is_cut) =
    elim c.if-not-leaves_out.branch [
      | then-not-leaves_out w ↦ w.is_whole-is ∙ sym (ap (λ t. not t && not c.in_ok-is_cut.is_cut)
          w.if-not-leaves_out.true)
      | else-not-leaves_out w ↦ w.is_whole-is ∙ ap not w.if-not-leaves_out.false ∙ sym
          (ap (λ t. not t && not c.in_ok-is_cut.is_cut)
          w.if-not-leaves_out.false)
    ] in
    subst (IsOutcome c.args.asked.keeps_points c.args.asked.fill_rule c.args.asked.output_direction ps
    (edges_in c.arrange.new.self.edges)) (sym c.outcome_of.ensures)
    (has_outcome c.args.asked.keeps_points c.args.asked.fill_rule c.args.asked.output_direction
    c.direction_of-direction.result ps (edges_in c.arrange.new.self.edges)
    (simple_where_whole c.args.asked.solver c.args.asked.keeps_points c.contour_kind-kind.result
    c.contour_kind-kind.ensures ps (edges_in c.add_path.new.self.edges) (edges_in c.arrange.new.self.edges)
    (path_added c.args.asked.keeps_points c.contour_kind-kind.result c.contour_kind-kind.ensures
    c.passing_without_data-passing.result c.passing_without_data-passing.ensures c.args.core.now c.requires.nothing ps
    c.add_path.new.self c.in_ok-leaves_out.ensures.added.ok)
    c.in_ok-leaves_out.leaves_out c.in_ok-is_cut.is_cut c.in_ok-leaves_out.ensures.left_out
    c.in_ok-is_cut.ensures.cut (sym whole ∙ c.if-is_whole.true)
    (c.in_ok-visits_each_once.ensures.ok.0 c.if-branch.true).0
    (c.in_ok-visits_each_once.ensures.ok.0 c.if-branch.true).1) c.direction_of-direction.ensures)

pub returns-clause-arranged : goal.returns-clause-arranged
returns-clause-arranged g c =
    let ps = plain_points g.I.IntNumber.whole c.args.contour.now in
    arranged_alone c.args.asked.keeps_points c.args.asked.solver (paths_for Subject (ps ∷ []))
    (edges_in c.add_path.new.self.edges) (edges_in c.arrange.new.self.edges)
    (held_alone c.args.asked.keeps_points ps (edges_in c.add_path.new.self.edges)
    (path_added c.args.asked.keeps_points c.contour_kind-kind.result c.contour_kind-kind.ensures
    c.passing_without_data-passing.result c.passing_without_data-passing.ensures c.args.core.now
    c.requires.nothing ps c.add_path.new.self c.in_ok-leaves_out.ensures.added.ok)
    c.in_ok-leaves_out.ensures.added.light)
    c.in_ok-is_cut.ensures.query.arranged

pub returns-clause-outcome : goal.returns-clause-outcome
returns-clause-outcome g c = λ simple.
    let ps = plain_points g.I.IntNumber.whole c.args.contour.now in
    let whole : c.if-not-leaves_out.is_whole ≡ (not c.in_ok-leaves_out.leaves_out && not c.in_ok-is_cut.is_cut) =
    elim c.if-not-leaves_out.branch [
      | then-not-leaves_out w ↦ w.is_whole-is ∙ sym (ap (λ t. not t && not c.in_ok-is_cut.is_cut)
          w.if-not-leaves_out.true)
      | else-not-leaves_out w ↦ w.is_whole-is ∙ ap not w.if-not-leaves_out.false ∙ sym
          (ap (λ t. not t && not c.in_ok-is_cut.is_cut)
          w.if-not-leaves_out.false)
    ] in
    elim c.else-is_whole.branch [
      | else-is_whole-via-then-is_whole+in_ok-visits_each_once+else-branch w ↦ false≢true (sym w.if-branch.false
          ∙ w.in_ok-visits_each_once.ensures.ok.1 (simple.simple.some_edge, simple.simple.points_once))
      | else-is_whole-via-else-is_whole w ↦ false≢true (sym w.if-is_whole.false ∙ whole
          ∙ whole_where_simple c.args.asked.solver c.args.asked.keeps_points c.contour_kind-kind.result
          c.contour_kind-kind.ensures ps (edges_in c.add_path.new.self.edges) (edges_in c.arrange.new.self.edges)
          (path_added c.args.asked.keeps_points c.contour_kind-kind.result c.contour_kind-kind.ensures
          c.passing_without_data-passing.result c.passing_without_data-passing.ensures c.args.core.now
          c.requires.nothing ps
          c.add_path.new.self c.in_ok-leaves_out.ensures.added.ok)
          c.in_ok-leaves_out.leaves_out c.in_ok-is_cut.is_cut c.in_ok-leaves_out.ensures.left_out
          c.in_ok-is_cut.ensures.cut simple)
    ]
