use Rattle.std.proofs.Common.{ap, ◌∙◌, ◌++◌}
use Rattle.polyover_engine.proofs.Subjects.{points_pushed}
use Rattle.polyover_engine.proofs.subject.push_copy.Goals as goal

pub returns : goal.returns
returns g c = record {
  ok = points_pushed (λ v. v.items) _ _ _ _ c.in_ok-push.ensures.items
      (c.in_ok-extend_from_slice.ensures.items ∙ ap (λ l. l ++ c.args.points.now) c.new-contour.ensures.items);
}
