-- The searches by halves find where the run begins and ends.
use Rattle.std.proofs.Common.{◌≡◌, not, rules, ap, ◌∙◌}
use Rattle.std.specs.Ordering.{int_cmp, is_lt}
use Rattle.std.proofs.lemmas.List.Sorted.{IsPartitionPoint-from_clause}
use Rattle.overlay_geom.specs.Points.{plain_points}
use Rattle.overlay_geom.proofs.Comparisons.{is_lt-int_cmp}
use Rattle.overlay_relate.proofs.RunsOver.{is_left_of, is_up_to, left-parted, up_to-parted, run_over_span}
use Rattle.overlay_relate.proofs.runs.run_over.Goals as goal

pub returns-in-Some : goal.returns-in-Some
returns-in-Some g c =
    let whole = g.I.IntNumber.whole in
    let points = c.args.points.now in
    let low = whole c.span_of-low.result.0 in
    let high = whole c.span_of-low.result.1 in
    run_over_span whole points c.requires (plain_points whole c.args.contour.now) low high c.span_of-low.ensures _ _
    (IsPartitionPoint-from_clause (is_left_of whole low) _ _ c.partition_point-start.ensures.partitioned
    (left-parted whole points c.requires low) (λ a r f k.
    let answer : r ≡ is_lt (int_cmp (whole a.0.now.x) low) = search rules in
    (answer ∙ is_lt-int_cmp (whole a.0.now.x) low, search rules)))
    (IsPartitionPoint-from_clause (is_up_to whole high) _ _ c.partition_point-end.ensures.partitioned
    (up_to-parted whole points c.requires high) (λ a r f k.
    let answer : r ≡ not (is_lt (int_cmp high (whole a.0.now.x))) = search rules in
    (answer ∙ ap not (is_lt-int_cmp high (whole a.0.now.x)), search rules)))
    c.partition_point-start.ensures.bound c.partition_point-end.ensures.bound
