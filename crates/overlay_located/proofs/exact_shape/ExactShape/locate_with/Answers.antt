-- What is told is so, if anything is.
use Rattle.std.proofs.Common.{All, sym, subst}
use Rattle.std.specs.Prelude.{IfOk}
use Rattle.overlay_order.specs.Counts.{boolean_counts}
use Rattle.overlay_located.specs.Queries.{plain_query, IsTold}
use Rattle.overlay_located.proofs.exact_shape.ExactShape.locate_with.Goals as goal

pub locate_by-requires : goal.locate_by-requires
locate_by-requires g c =
    let whole = g.I.IntNumber.whole in
    let es = c.args.self.now.edges in
    subst (λ qs. All (λ q. IsTold es (plain_query whole boolean_counts q)) qs) (sym c.deref.ensures.value)
    (subst (λ r. IfOk r (λ v. All (λ q. IsTold es (plain_query whole boolean_counts q)) v.items)) c.in-Ok.is c.requires)
