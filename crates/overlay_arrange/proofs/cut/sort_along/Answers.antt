-- The comparison is the order along the edge, so the sort puts the points into it.
use Rattle.std.proofs.Common.{◌≡◌, rules}
use Rattle.std.specs.Ordering.{is_lt}
use Rattle.std.proofs.lemmas.Fn.{always_returns_same}
use Rattle.overlay_geom.specs.Edges.{ends_of}
use Rattle.overlay_order.specs.Content.{plain_edge}
use Rattle.overlay_arrange.proofs.AlongEdges.{held_first, held_first-order, sorted_along}
use Rattle.overlay_arrange.proofs.cut.sort_along.Goals as goal

pub returns : goal.returns
returns g c = record {
  ok = let whole = g.I.IntNumber.whole in
      let e = ends_of (plain_edge whole g.C.EdgeCount.counts c.args.e.now) in
      sorted_along whole e c.args.points.now.items c.sort_by.new.self.items c.sort_by.ensures.permutation
      (c.in_ok-sort_by.ensures.sorted (held_first whole e) (held_first-order whole e)
      (always_returns_same _ _ _ (λ a r f k.
      let answer : is_lt r ≡ held_first whole e a.0.now a.1.0.now = search rules in
      (answer, search rules))));
}
