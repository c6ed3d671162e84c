-- The edges are content, as each weighs 1.
use Rattle.std.proofs.Common.{sym, subst, arith}
use Rattle.std.specs.List.{All}
use Rattle.std.proofs.lemmas.List.{length-map}
use Rattle.std.proofs.lemmas.Result.{IfOk-weaker}
use Rattle.overlay_geom.specs.Resolved.{plain_edge, plain_edges}
use Rattle.overlay_order.specs.Content.{IsContent}
use Rattle.overlay_order.specs.Counts.{boolean_counts}
use Rattle.overlay_located.specs.Queries.{plain_query, IsTold}
use Rattle.overlay_located.proofs.OnceContents.{counted_same, content_once}
use Rattle.overlay_located.proofs.told_once.told_of_once.Goals as goal

pub told_of-requires : goal.told_of-requires
told_of-requires g c =
    let whole = g.I.IntNumber.whole in
    let limit = g.I.IntNumber.limit in
    let es = plain_edges whole c.args.edges.now in
    let mapped = length-map c.args.edges.now (plain_edge whole) in
    let few = c.if-edges-ge-TOO_MANY.false in
    subst (IsContent limit) (sym (counted_same whole c.args.edges.now))
    (content_once limit es c.requires (omega (arith, mapped, few)))

pub returns : goal.returns
returns g c =
    let whole = g.I.IntNumber.whole in
    let plain = plain_query whole boolean_counts in
    IfOk-weaker c.told_of.result _ _ (λ v are.
    subst (λ es. All (λ q. IsTold es (plain q)) v.items) (counted_same whole c.args.edges.now) are) c.told_of.ensures
