-- All are added at once.
use Rattle.std.proofs.Common.{List, ◌++◌, sym, ap, ◌∙◌, slice_range, subst, arith}
use Rattle.std.proofs.lemmas.List.{length-map, map-append}
use Rattle.overlay_geom.specs.Plane.{Point}
use Rattle.overlay_geom.specs.Points.{plain_point, plain_points}
use Rattle.overlay_geom.proofs.Mapped.{mapped_range}
use Rattle.overlay_arrange.specs.PixelRuns.{AddsPoints}
use Rattle.overlay_arrange.proofs.HeightRuns.{range_added}
use Rattle.overlay_arrange.proofs.pixel_runs.push_upwards.Goals as goal

pub returns : goal.returns
returns g c = record {
  ok = let whole = g.I.IntNumber.whole in
      let strips = c.args.strips.now in
      let vs = plain_points whole strips in
      let us = plain_points whole c.args.points.now.items in
      let l = length-map strips (plain_point whole) in
      let within = c.requires.within in
      subst (λ (now : List Point). AddsPoints vs c.args.from c.args.to us now)
      (sym (ap (plain_points whole) c.in_ok-extend_from_slice.ensures.items
      ∙ map-append (plain_point whole) c.args.points.now.items (slice_range strips c.args.from c.args.to)
      ∙ ap (λ (more : List Point). us ++ more) (mapped_range (plain_point whole) strips c.args.from c.args.to)))
      (range_added vs c.args.from c.args.to us (omega (arith, l, within)));
}
