use Rattle.polyover_text.proofs.PointLists.{point_given, no_point, words_left_over}
use Rattle.polyover_text.proofs.points.parse_point.Goals as goal

pub returns-in_default-2 : goal.returns-in_default-2
returns-in_default-2 c =
    let bad = rw c.in_default.is at c.next_point.ensures in
    no_point _ bad.1

pub returns-in-None : goal.returns-in-None
returns-in-None c =
    let first = rw c.in-Ok-Some.field-0-is at c.in-Ok-Some.ensures in
    point_given _ _ _ first c.in-None.ensures.steps.0

pub returns-in-Some : goal.returns-in-Some
returns-in-Some c =
    let first = rw c.in-Ok-Some.field-0-is at c.in-Ok-Some.ensures in
    words_left_over _ _ _ _ _ first c.in-Some.ensures.steps
