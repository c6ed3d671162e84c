-- One point more is numbered.
use Rattle.std.proofs.Common.{◌≡◌, ℕ, ◌+◌, ◌++◌, ◌∷◌, [], length, take, sym, ap, ap₂, ◌∙◌, arith}
use Rattle.std.proofs.lemmas.List.{map-append, length-map, length-take-le}
use Rattle.overlay_geom.specs.Numbered.{numbered}
use Rattle.overlay_geom.specs.Points.{plain_point, plain_points}
use Rattle.overlay_geom.proofs.Mapped.{mapped_more, mapped_whole}
use Rattle.overlay_geom.proofs.Numbered.{numbered_more}
use Rattle.overlay_relate.specs.Queries.{plain_query, plain_queries}
use Rattle.overlay_relate.proofs.queries.queries_in_order.Goals as goal

pub loop-place-preserved : goal.loop-place-preserved
loop-place-preserved g c =
    let whole = g.I.IntNumber.whole in
    let i = c.loop-place.place in
    let p = plain_point whole c.index-points-place.result in
    let ps = plain_points whole (take i c.args.points.now) in
    let counted : 0 + length ps ≡ i = let a = length-map (take i c.args.points.now) (plain_point whole) in
    let b = length-take-le i c.args.points.now (let t = c.loop-place-test.true in omega arith) in omega arith in
    ap (plain_queries whole) c.in_ok-push.ensures.items ∙ map-append (plain_query whole) c.loop-place.queries.items
    (_ ∷ [])
    ∙ ap₂ (λ qs (k : ℕ). qs ++ record { item = p; place = k } ∷ []) c.loop-place.invariant (sym counted)
    ∙ sym (ap (numbered 0) (mapped_more (plain_point whole) c.args.points.now i c.index-points-place.result
    c.loop-place-test.true c.index-points-place.is)
    ∙ numbered_more 0 ps p)

pub returns : goal.returns
returns g c = record {
  ok = let whole = g.I.IntNumber.whole in
      c.loop-place.invariant ∙ ap (numbered 0)
      (mapped_whole (plain_point whole) c.args.points.now c.loop-place.place c.loop-place-test.false);
}
