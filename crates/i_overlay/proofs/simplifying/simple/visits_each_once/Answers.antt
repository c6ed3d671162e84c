-- Some edge is held, so the points alone are left to be told.
use Rattle.std.proofs.Common.{◌≢◌, [], length, ap, ◌∙◌}
use Rattle.std.proofs.lemmas.Result.{IfOk-weaker}
use Rattle.overlay_plane.specs.Carried.{edges_in}
use Rattle.i_overlay.proofs.TestedContours.{some_held}
use Rattle.i_overlay.proofs.simplifying.simple.visits_each_once.Goals as goal

pub returns : goal.returns
returns g c = record {
  ok = let some : edges_in c.args.core.now.edges ≢ [] = some_held c.args.core.now.edges
      (λ none. c.if-len-eq0.false (c.len.ensures ∙ ap length c.content.ensures.edges ∙ none)) in
      IfOk-weaker c.has_each_point_once.result _ _ (λ b told. ((λ t. (some, told.0 t)), (λ both. told.1 both.1)))
      c.has_each_point_once.ensures.ok;
}
