-- The search by halves finds where the edges begin that start right.
use Rattle.std.proofs.Common.{◌≡◌, not, slice_range, rules, ap, ◌∙◌}
use Rattle.std.specs.Ordering.{int_cmp, is_lt}
use Rattle.std.proofs.lemmas.List.Sorted.{IsPartitionPoint-from_clause}
use Rattle.overlay_geom.proofs.Comparisons.{is_lt-int_cmp}
use Rattle.overlay_pairs.proofs.RunEnds.{parted_between, run_ends, starts-parted, starts_up_to}
use Rattle.overlay_pairs.proofs.spans.run_end.Goals as goal

pub returns : goal.returns
returns g c =
    let whole = g.I.IntNumber.whole in
    let counts = g.C.EdgeCount.counts in
    let es = c.args.edges.now in
    let first = c.args.from in
    let to = c.place_right_of-to.result in
    let ordered = c.place_right_of-to.ensures.ordered in
    let within = c.place_right_of-to.ensures.within in
    let x = whole c.args.x in
    let parted = IsPartitionPoint-from_clause (starts_up_to whole counts x) (slice_range es first to) _
    c.partition_point.ensures.partitioned
    (parted_between es first to ordered within (starts_up_to whole counts x)
    (starts-parted whole counts g.I.IntNumber.limit es c.requires.held c.requires.ascending x)) (λ a r q k.
    let answer : r ≡ not (is_lt (int_cmp x (whole a.0.now.a.x))) = search rules in
    (answer ∙ ap not (is_lt-int_cmp x (whole a.0.now.a.x)), search rules)) in
    run_ends whole counts g.I.IntNumber.limit es c.requires.held c.requires.ascending x first to _ ordered within
    c.place_right_of-to.ensures.right c.partition_point.ensures.bound parted
