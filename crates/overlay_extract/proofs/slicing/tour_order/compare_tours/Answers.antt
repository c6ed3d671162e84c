-- Tours with steps compare by the edges by which they are found, and then by whether they leave along them.
use Rattle.std.proofs.Common.{sym, ap, ap₂, ◌∙◌, rules}
use Rattle.std.specs.Ordering.{is_lt, bool_cmp}
use Rattle.overlay_geom.specs.Points.{plain_point}
use Rattle.overlay_extract.specs.TourOrder.{edge_between, is_walked_along}
use Rattle.overlay_extract.proofs.TourRanks.{less_along, less_by_edges, some_before}
use Rattle.overlay_walk.specs.Steps.{plain_steps}
use Rattle.overlay_extract.proofs.slicing.tour_order.compare_tours.Goals as goal

pub returns-in-Equal : goal.returns-in-Equal
returns-in-Equal g c =
    let whole = g.I.IntNumber.whole in
    let s = c.args.s.now in
    let t = c.args.t.now in
    let one = c.found_at.result in
    let other = c.found_at-2.result in
    let e = edge_between (plain_point whole one.0) (plain_point whole one.1) in
    let f = edge_between (plain_point whole other.0) (plain_point whole other.1) in
    ap is_lt c.cmp-in-Equal.ensures
    ∙ ap₂ (λ l k. is_lt (bool_cmp l k)) c.is_walked_along.ensures c.is_walked_along-in-Equal.ensures
    ∙ less_along e f (is_walked_along (plain_steps whole s)) (is_walked_along (plain_steps whole t))
    c.compare_ends.result
    c.compare_ends.ensures.less c.compare_ends.ensures.tied c.in-Equal.is
    ∙ sym (some_before whole s t (search rules) (search rules) e f c.found_at.ensures c.found_at-2.ensures)

pub returns-in_default : goal.returns-in_default
returns-in_default g c =
    let whole = g.I.IntNumber.whole in
    let s = c.args.s.now in
    let t = c.args.t.now in
    let one = c.found_at.result in
    let other = c.found_at-2.result in
    let e = edge_between (plain_point whole one.0) (plain_point whole one.1) in
    let f = edge_between (plain_point whole other.0) (plain_point whole other.1) in
    less_by_edges e f (is_walked_along (plain_steps whole s)) (is_walked_along (plain_steps whole t))
    c.compare_ends.result
    c.compare_ends.ensures.less c.compare_ends.ensures.tied c.in_default.not-Equal
    ∙ sym (some_before whole s t (search rules) (search rules) e f c.found_at.ensures c.found_at-2.ensures)
