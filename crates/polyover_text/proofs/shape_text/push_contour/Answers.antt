use lib.Utf8.{encode}
use Rattle.std.proofs.Common.{string_bytes}
use Rattle.polyover_text.proofs.Printing.{line_ended, contour_written, no_points_written}
use Rattle.polyover_text.proofs.shape_text.push_contour.Goals as goal
use Rattle.polyover_text.proofs.shape_text.push_contour.Goals.{in-Some+in_ok-push_point+else-loop-point-test}
use Rattle.polyover_text.proofs.shape_text.push_contour.Goals.{in_default}

pub returns : goal.returns
unfolding encode
returns g c =
    line_ended c.push-2.result _ (string_bytes c.match-split_first.text) _ c.push-2.ensures.bytes
    (elim c.match-split_first.branch [
      | in-Some+in_ok-push_point+else-loop-point-test w ↦ rw w.text-is
          (contour_written c.args.contour.now w.in-Some.rest.now w.in-Some.first.now
          w.loop-point.point-index (string_bytes c.args.text.now) _ _ w.in-Some.ensures.cases.0 w.loop-point-test.false
          w.in_ok-push_point.ensures
          w.loop-point.invariant)
      | in_default w ↦ rw w.text-is (no_points_written c.args.contour.now (string_bytes c.args.text.now)
          w.in_default.ensures.cases)
    ])
