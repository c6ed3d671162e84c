-- The place is read off the sides of the two ends.
use Rattle.std.proofs.Common.{sym}
use Rattle.overlay_geom.specs.Resolved.{plain_edge}
use Rattle.overlay_geom.proofs.Places.{across_from_sides, along_from_sides, beside_from_sides}
use Rattle.overlay_geom.proofs.edge_pair.place_by.Goals as goal

pub returns-then-ne : goal.returns-then-ne
returns-then-ne g c =
    across_from_sides
    (plain_edge g.I.IntNumber.whole c.args.e) (plain_edge g.I.IntNumber.whole c.args.f)
    c.turn-a.result c.turn-b.result c.turn-a.ensures c.turn-b.ensures (sym c.if-ne.ensures)

pub returns-then-is_eq : goal.returns-then-is_eq
returns-then-is_eq g c =
    along_from_sides
    (plain_edge g.I.IntNumber.whole c.args.e) (plain_edge g.I.IntNumber.whole c.args.f)
    c.turn-a.result c.turn-b.result c.turn-a.ensures c.turn-b.ensures (sym c.if-ne.ensures) (sym c.if-is_eq.ensures)

pub returns-else-is_eq : goal.returns-else-is_eq
returns-else-is_eq g c =
    beside_from_sides
    (plain_edge g.I.IntNumber.whole c.args.e) (plain_edge g.I.IntNumber.whole c.args.f)
    c.turn-a.result c.turn-b.result c.turn-a.ensures c.turn-b.ensures (sym c.if-ne.ensures) (sym c.if-is_eq.ensures)
