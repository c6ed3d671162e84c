-- The edges are those of the arrangement of what is read.
use Rattle.std.proofs.Common.{map, ap, ◌∙◌}
use Rattle.overlay_order.specs.Content.{plain_edges}
use Rattle.overlay_plane.specs.Carried.{edges_in}
use Rattle.polyover_calls.specs.Given.{contours_of}
use Rattle.polyover_views.specs.Held.{counts_in}
use Rattle.polyover_views.proofs.Making.{graph_made}
use Rattle.polyover_views.proofs.made.formed_edges.Goals as goal

pub returns : goal.returns
returns g c =
    let whole = g.I.IntNumber.whole in
    let core = c.in_ok-core.ensures in
    graph_made whole g.I.IntNumber.limit c.args.numbers.fill c.args.numbers.solver c.args.numbers.keep_given
    (contours_of c.args.subject.now.coordinates.now c.args.subject.now.ends.now)
    (contours_of c.args.clip.now.coordinates.now c.args.clip.now.ends.now) c.in_ok-by.by c.in_ok-keep.keep _ _
    (edges_in c.in_ok-core.core.edges) (map g.E.FormOf.meant c.in_ok-edges.edges.items)
    c.in_ok-_rule.ensures.0 c.in_ok-by.ensures.0 c.in_ok-keep.ensures.0 c.in_ok-read.ensures.first_given
    c.in_ok-read.ensures.second_given c.in_ok-by.ensures.1 c.in_ok-keep.ensures.1 c.in_ok-read.ensures.first
    c.in_ok-read.ensures.second core.paths core.arranged core.balanced
    (ap (plain_edges whole counts_in) c.in_ok-edges.ensures.formed ∙ c.edges.ensures.plain
    ∙ ap edges_in c.content.ensures.edges)
