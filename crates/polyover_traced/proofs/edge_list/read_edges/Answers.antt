-- One edge more is read.
use Rattle.std.proofs.lemmas.List.Elements.{All-push}
use Rattle.overlay_traced.specs.Given.{IsGivenInRange}
use Rattle.polyover_traced.specs.EdgeLists.{edge_list, sided_edges}
use Rattle.polyover_traced.proofs.Reading.{one_more_read}
use Rattle.std.proofs.Common.{All, sym, subst}
use Rattle.polyover_traced.proofs.edge_list.read_edges.Goals as goal

pub loop-i-preserved : goal.loop-i-preserved
loop-i-preserved g c =
    let whole = g.I.IntNumber.whole in
    let cs = c.args.edges.now.coordinates.now in
    let sides = c.args.edges.now.sides.now in
    let in_range = IsGivenInRange whole g.I.IntNumber.limit in (
      one_more_read whole cs c.loop-i.given.items c.push.new.self.items sides c.loop-i.i c.edge_at.result
          (sided_edges whole (edge_list cs sides)) c.loop-i-test.true c.edge_at.ensures.edge
          c.in_ok-push.ensures.items c.loop-i.invariant.0,
      subst (All in_range) (sym c.in_ok-push.ensures.items)
          (All-push in_range c.loop-i.given.items c.edge_at.result c.loop-i.invariant.1 c.edge_at.ensures.in_range),
    )
