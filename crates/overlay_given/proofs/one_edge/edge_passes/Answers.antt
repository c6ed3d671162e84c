-- The sides found are those of the edge; behind the last edge there is none.
use Rattle.std.proofs.Common.{◌≡◌, ◌<◌, length, subst, arith}
use Rattle.std.specs.List.{list_any}
use Rattle.std.proofs.lemmas.List.{length-map}
use Rattle.overlay_geom.specs.Rules.{is_filled}
use Rattle.overlay_order.specs.Content.{plain_edge, plain_edges}
use Rattle.overlay_exact.proofs.MetByStarts.{entry_at}
use Rattle.overlay_given.specs.Sides.{sides_pass}
use Rattle.overlay_given.proofs.OneEdge.{some_on}
use Rattle.overlay_given.proofs.one_edge.edge_passes.Goals as goal

pub returns : goal.returns
returns g c =
    let plain = plain_edge g.I.IntNumber.whole g.C.EdgeCount.counts in
    let es = plain_edges g.I.IntNumber.whole g.C.EdgeCount.counts c.args.edges.now in
    let l = length-map c.args.edges.now plain in
    let inside : c.args.i < length es = (let test = c.if-i-edges.false in omega (arith, l, test)) in
    let at = entry_at es c.args.i inside in
    record {
      ok = some_on (is_filled c.args.rule) es at.0 c.in_ok-sides.sides.items (c.in_ok-sides.ensures.ok at.0 at.1)
          c.args.i at.1 c.args.test c.some_pass.result
          (subst (λ xs. c.some_pass.result ≡ list_any (sides_pass c.args.test) xs) c.deref.ensures.value
          c.some_pass.ensures);
    }
