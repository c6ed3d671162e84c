-- The next edge goes above those in the tree.
use Rattle.overlay_scan.proofs.Filling.{over, meets, fresh, filled_more}
use Rattle.overlay_scan.proofs.LinesFit.{line_fits}
use Rattle.overlay_scan.proofs.tree.turning.tree_of.Goals as goal

pub insert-requires : goal.insert-requires
insert-requires g c =
    let whole = g.I.IntNumber.whole in
    let limit = g.I.IntNumber.limit in
    let x = whole c.args.x in
    let es = c.args.edges.now in
    let i = c.loop-edge.edge-index in
    let f = c.edge-item.result in
    let filled = c.loop-edge.invariant in (
      line_fits _ _ g.met.I.IntNumber.small.align_bound g.met.I.IntNumber.small.size_bound,
      (
        filled.state,
        (
          filled.moves,
          (
            over whole limit x es c.requires i f c.loop-edge-test.true c.edge-item.is,
            (
              meets whole limit x es c.requires i f c.loop-edge-test.true c.edge-item.is c.loop-edge.tree filled,
              fresh whole limit x es c.requires i f c.loop-edge-test.true c.edge-item.is c.loop-edge.tree filled,
            ),
          ),
        ),
      ),
    )

pub loop-edge-preserved : goal.loop-edge-preserved
loop-edge-preserved g c =
    let whole = g.I.IntNumber.whole in
    let limit = g.I.IntNumber.limit in
    let put = c.in_ok-insert.ensures in
    filled_more whole limit (whole c.args.x) c.args.edges.now c.requires c.loop-edge.edge-index c.edge-item.result
    c.loop-edge-test.true c.edge-item.is c.loop-edge.tree c.loop-edge.invariant c.insert.new.self put.ok put.reached
    put.state put.quick
