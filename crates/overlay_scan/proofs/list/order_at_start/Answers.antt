-- A line that lies below or above the start of the edge with both ends is on that side of it.
use Rattle.std.proofs.Common.{sym, rules}
use Rattle.overlay_geom.specs.Lines.{plain_line}
use Rattle.overlay_plane.proofs.Tests.{ge_from_test}
use Rattle.overlay_scan.specs.Lists.{plain_entry}
use Rattle.overlay_scan.proofs.EdgesAside.{lower_where_below, not_lower_where_above}
use Rattle.overlay_scan.proofs.list.order_at_start.Goals as goal

pub returns-then-starts_below : goal.returns-then-starts_below
returns-then-starts_below g c =
    let whole = g.I.IntNumber.whole in
    sym (lower_where_below (plain_line whole c.args.line) (plain_entry whole c.args.e.now).edge (search rules)
    c.requires.ends (search rules) (search rules))

pub returns-else-starts_below : goal.returns-else-starts_below
returns-else-starts_below g c =
    let whole = g.I.IntNumber.whole in
    let f = plain_line whole c.args.line in
    let e = (plain_entry whole c.args.e.now).edge in
    sym (not_lower_where_above f e (search rules) c.requires.ends (search rules)
    (ge_from_test f.b.y e.a.y (search rules)))
