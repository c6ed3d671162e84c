-- Each strip of the span is searched.
use Rattle.std.proofs.Common.{◌≡◌, ◌⊎◌, ⊎_elim, inl, inr, ℕ, ◌+◌, ◌-◌, ◌*◌, ◌/◌, ◌%◌, ◌<◌, ◌≤◌, ℤ, List, length, get_or}
use Rattle.std.proofs.Common.{sym, ap, ◌∙◌, subst, arith}
use Rattle.std.proofs.lemmas.List.{length-map}
use Rattle.std.proofs.Math.Nat.{add-mod_right, div-mul-le_self, mul-mod_left}
use Rattle.overlay_geom.specs.Points.{plain_point, plain_points}
use Rattle.overlay_geom.specs.declared.point.IntPoint.{IntPoint}
use Rattle.overlay_geom.proofs.PointOrder.{Decides-point_lt}
use Rattle.overlay_order.specs.Content.{plain_edge}
use Rattle.overlay_arrange.specs.PixelRuns.{AddsRun}
use Rattle.overlay_arrange.proofs.HotRanks.{amid_points}
use Rattle.overlay_arrange.proofs.StripSearches.{AreMetBefore, IsStripEnd, search_begun, search_done, strip_searched}
use Rattle.overlay_arrange.proofs.StripSearches.{strip_upwards}
use Rattle.overlay_arrange.proofs.snap.take_by_strips.Goals as goal

pub loop-line-init : goal.loop-line-init
loop-line-init g c =
    let whole = g.I.IntNumber.whole in
    let vs = plain_points whole c.args.hot.now in
    let e = plain_edge whole g.C.EdgeCount.counts c.args.e.now in
    let ps = plain_points whole c.args.strips.now in
    let width = c.args.width in
    let low = c.args.low in
    let start = low / width * width in
    let count = length-map c.args.hot.now (plain_point whole) in
    let before : start ≤ low = div-mul-le_self low width in (
      (let up_to = c.requires.left.within in omega (arith, before, up_to, count)),
      inl (mul-mod_left (low / width) width),
      subst (λ (us : List (IntPoint _)). AreMetBefore vs e ps start (plain_points whole us)) (sym c.clear.ensures.items)
          (search_begun vs e width ps c.requires.strips
          ((Decides-point_lt e.a e.b).0 c.requires.one.forward).x low start c.requires.left
          (mul-mod_left (low / width) width) before),
    )

pub push_run-requires-clause-within : goal.push_run-requires-clause-within
push_run-requires-clause-within g c =
    let whole = g.I.IntNumber.whole in
    let up_to = c.on_by-end.ensures.up_to in
    let of_points = length-map c.args.hot.now (plain_point whole) in
    let of_strips = length-map c.args.strips.now (plain_point whole) in
    let count = c.requires.strips.count in
    omega (arith, up_to, of_points, of_strips, count)

-- the place looked at begins a strip
begins : (width all at : ℕ) → IsStripEnd width all at → at < all → at % width ≡ 0
begins width all at ends less = ⊎_elim (λ begun. begun) (λ (is : at ≡ all). absurd (omega (arith, is, less))) ends

pub push_run-requires-clause-upwards : goal.push_run-requires-clause-upwards
push_run-requires-clause-upwards g c =
    let whole = g.I.IntNumber.whole in
    let vs = plain_points whole c.args.hot.now in
    let at = c.loop-line.at in
    let count = length-map c.args.hot.now (plain_point whole) in
    strip_upwards vs (plain_edge whole g.C.EdgeCount.counts c.args.e.now) c.args.width
    (plain_points whole c.args.strips.now) c.requires.strips at c.on_by-end.result
    (begins c.args.width (length vs) at c.loop-line.invariant.1
    (let less = c.goes_on.ensures.within c.loop-line-test.true in omega (arith, less, count)))
    (⊎_elim (λ (all : c.on_by-end.result ≡ length c.args.hot.now). inl (omega (arith, all, count))) (λ next. inr next)
    c.on_by-end.ensures.ends) c.on_by-end.ensures.no_further

pub loop-line-preserved : goal.loop-line-preserved
loop-line-preserved g c =
    let whole = g.I.IntNumber.whole in
    let hot = c.args.hot.now in
    let vs = plain_points whole hot in
    let e = plain_edge whole g.C.EdgeCount.counts c.args.e.now in
    let ps = plain_points whole c.args.strips.now in
    let width = c.args.width in
    let at = c.loop-line.at in
    let end = c.on_by-end.result in
    let count = length-map hot (plain_point whole) in
    let less = c.goes_on.ensures.within c.loop-line-test.true in
    let begun = begins width (length vs) at c.loop-line.invariant.1 (omega (arith, less, count)) in
    let up_to = c.on_by-end.ensures.up_to in
    let old = plain_points whole c.loop-line.points.items in
    let new = plain_points whole c.push_run.new.points.items in
    let added : ℤ → ℤ → Type 0 = λ left right. AddsRun left right e ps at end old new in
    let adds = subst (λ (a : IntPoint _). added (whole a.x) (whole c.index-hot-end.result.x)) (sym c.index-hot-at.is)
    (subst (λ (b : IntPoint _). added (whole (get_or hot at c.index-hot-at.result).x) (whole b.x))
    (sym c.index-hot-end.is) c.in_ok-push_run.ensures.ok) in
    let ends : (end ≡ length vs) ⊎ (end ≡ at + width) = ⊎_elim
    (λ (all : end ≡ length hot). inl (omega (arith, all, count))) (λ next. inr next) c.on_by-end.ensures.ends in (
      omega (arith, up_to),
      ⊎_elim (λ (all : end ≡ length vs). inr all)
          (λ (next : end ≡ at + width). inl (ap (λ n. n % width) next ∙ add-mod_right at width ∙ begun)) ends,
      strip_searched vs e width ps c.requires.strips at end begun ends (whole c.index-hot-at.result.x)
          (whole c.index-hot-end.result.x) old new adds
          (λ k v past inside at_v. amid_points whole hot c.requires.ascending at k (end - 1) c.index-hot-at.result
          c.index-hot-end.result v past (omega (arith, inside)) (omega (arith, up_to, inside)) c.index-hot-at.is
          c.index-hot-end.is at_v) c.loop-line.invariant.2,
    )

pub returns : goal.returns
returns g c = record {
  ok = let whole = g.I.IntNumber.whole in
      let e = plain_edge whole g.C.EdgeCount.counts c.args.e.now in
      search_done (plain_points whole c.args.hot.now) e c.args.width (plain_points whole c.args.strips.now)
      c.requires.strips ((Decides-point_lt e.a e.b).0 c.requires.one.forward).x
      c.loop-line.at (plain_points whole c.loop-line.points.items) (c.goes_on.ensures.right c.loop-line-test.false)
      c.loop-line.invariant.1 c.loop-line.invariant.2;
}
