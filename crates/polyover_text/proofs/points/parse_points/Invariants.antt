use Rattle.std.proofs.Common.{length}
use Rattle.polyover_text.specs.Words.{words_left}
use Rattle.polyover_text.specs.Points.{points_at}
use Rattle.polyover_text.proofs.PointLists.{HasPoints}
use Rattle.polyover_text.proofs.points.parse_points.Given as goal

abbrev pub invariant-loop-points : goal.invariant-loop-points
invariant-loop-points g l = HasPoints (words_left l.fn.words) (points_at l.points.items) (words_left l.words)

abbrev pub decreases-loop-points : goal.decreases-loop-points
decreases-loop-points g l = length (words_left l.words)
