-- The query is one of the list, for this point.
use Rattle.std.proofs.Common.{◌≡◌, ◌<◌, true, false, length, sym, subst, ◌∙◌, rules}
use Rattle.overlay_geom.specs.Points.{plain_point}
use Rattle.overlay_geom.proofs.Orders.{point_eq-same}
use Rattle.overlay_order.specs.Counts.{boolean_counts}
use Rattle.overlay_located.specs.Queries.{plain_query, sum_on, IsTold}
use Rattle.overlay_located.specs.Tells.{Tells}
use Rattle.overlay_located.proofs.parity.told_at.Goals as goal

pub returns : goal.returns
returns g c = λ es all.
    let whole = g.I.IntNumber.whole in
    let q = c.index-told-place.result in
    let asked = plain_query whole boolean_counts q in
    let lt : c.args.place < length c.args.told.now = search rules in
    let is : c.is_same.result ≡ true = search rules in
    let together : q.alone ≡ false = search rules in
    let same = point_eq-same (plain_point whole q.point) (plain_point whole c.args.p) (sym c.is_same.ensures ∙ is) in (
      same,
      subst (λ v. Tells v es asked.through (sum_on asked)) same
          (subst (λ r. IsTold es (plain_query whole boolean_counts r)) (sym c.index-told-place.is)
          (all c.args.place q lt) together),
    )
