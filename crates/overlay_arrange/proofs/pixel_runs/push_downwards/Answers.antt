-- One point more, before the others.
use Rattle.std.proofs.Common.{◌≡◌, ◌+◌, ◌-◌, ◌<◌, ◌++◌, ◌∷◌, [], List, length, sym, ap, ◌∙◌, subst, arith}
use Rattle.std.proofs.lemmas.List.{map-append}
use Rattle.overlay_geom.specs.Plane.{Point}
use Rattle.overlay_geom.specs.Points.{plain_point, plain_points}
use Rattle.overlay_pairs.proofs.Entries.{placed_in_mapped}
use Rattle.overlay_arrange.specs.PixelRuns.{AddsPoints}
use Rattle.overlay_arrange.proofs.HeightRuns.{no_points, one_point_before}
use Rattle.overlay_arrange.proofs.pixel_runs.push_downwards.Goals as goal

pub loop-k-init : goal.loop-k-init
loop-k-init g c = (
  (let ordered = c.requires.ordered in omega (arith, ordered)),
  omega arith,
  no_points (plain_points g.I.IntNumber.whole c.args.strips.now) c.args.to
      (plain_points g.I.IntNumber.whole c.args.points.now.items),
)

pub loop-k-preserved : goal.loop-k-preserved
loop-k-preserved g c =
    let whole = g.I.IntNumber.whole in
    let plain = plain_point whole in
    let strips = c.args.strips.now in
    let vs = plain_points whole strips in
    let old = plain_points whole c.args.points.now.items in
    let us = plain_points whole c.loop-k.points.items in
    let k = c.loop-k.k - 1 in
    let v = c.index-strips-k.result in
    let more = c.loop-k-test.true in
    let up = c.loop-k.invariant.1 in
    let within = c.requires.within in
    let next : c.loop-k.k ≡ k + 1 = omega (arith, more) in
    let inside : k < length strips = omega (arith, more, up, within) in
    let added : plain_points whole c.push.new.self.items ≡ us ++ plain v ∷ [] =
    ap (plain_points whole) c.in_ok-push.ensures.items
    ∙ map-append plain c.loop-k.points.items (v ∷ []) in (
      omega (arith, more),
      omega (arith, up),
      subst (λ (now : List Point). AddsPoints vs k c.args.to old now) (sym added)
          (one_point_before vs k c.args.to (plain v) (placed_in_mapped plain strips k v inside c.index-strips-k.is)
          (omega (arith, more, up)) old us
          (subst (λ n. AddsPoints vs n c.args.to old us) next c.loop-k.invariant.2)),
    )

pub returns : goal.returns
returns g c = record {
  ok = let whole = g.I.IntNumber.whole in
      let same : c.loop-k.k ≡ c.args.from = (let low = c.loop-k.invariant.0 in let past = c.loop-k-test.false in
      omega (arith, low, past)) in
      subst (λ n. AddsPoints (plain_points whole c.args.strips.now) n c.args.to
      (plain_points whole c.args.points.now.items) (plain_points whole c.loop-k.points.items)) same
      c.loop-k.invariant.2;
}
