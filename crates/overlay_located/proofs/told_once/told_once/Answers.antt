-- The upright edges, turned, are long too.
use Rattle.std.proofs.Common.{map, sym, subst}
use Rattle.std.specs.List.{All}
use Rattle.overlay_geom.specs.Resolved.{plain_edges, IsLongEdge}
use Rattle.overlay_order.specs.Counts.{boolean_counts}
use Rattle.overlay_located.specs.Once.{counted_once}
use Rattle.overlay_located.specs.Queries.{plain_query, IsTold}
use Rattle.overlay_located.proofs.OnceContents.{turned_uprights_long}
use Rattle.overlay_located.proofs.told_once.told_once.Goals as goal

pub told_of_once-requires-2 : goal.told_of_once-requires-2
told_of_once-requires-2 g c =
    let whole = g.I.IntNumber.whole in
    subst (λ us. All (IsLongEdge g.I.IntNumber.limit) (plain_edges whole us)) (sym c.deref.ensures.value)
    (subst (All (IsLongEdge g.I.IntNumber.limit)) (sym c.in_ok-upright.ensures)
    (turned_uprights_long g.I.IntNumber.limit (plain_edges whole c.args.edges.now) c.requires))

pub returns : goal.returns
returns g c =
    let whole = g.I.IntNumber.whole in
    let plain = plain_query whole boolean_counts in
    record {
      all = c.in_ok-all.ensures;
      uprights = subst (λ ws. All (λ q. IsTold (map counted_once ws) (plain q)) c.in_ok-uprights.uprights.items)
          c.in_ok-upright.ensures
          (subst (λ us. All (λ q. IsTold (map counted_once (plain_edges whole us)) (plain q))
          c.in_ok-uprights.uprights.items) c.deref.ensures.value c.in_ok-uprights.ensures);
    }
