-- One contour more, and all of them.
use Rattle.std.proofs.Common.{◌≡◌, ◌≤◌, ◌++◌, ap, ◌∙◌, subst}
use Rattle.std.proofs.lemmas.List.{take_all}
use Rattle.overlay_geom.specs.Flat.{paths_in}
use Rattle.overlay_geom.specs.Paths.{paths_of_shape}
use Rattle.polyover_calls.proofs.ShapesRead.{one_contour_more}
use Rattle.polyover_calls.proofs.shape.shape_of.Goals as goal

pub loop-index-preserved : goal.loop-index-preserved
loop-index-preserved g c =
    let whole = g.I.IntNumber.whole in
    let paths = paths_in whole c.args.contours.now.points.items c.args.contours.now.ranges.items in
    let points = c.path-points.result.now in
    one_contour_more whole paths c.loop-index.index c.loop-index.shape.items c.push.new.self.items
    c.extend_from_slice.new.self points c.path-points.ensures c.loop-index.invariant
    (c.in_ok-extend_from_slice.ensures.items ∙ ap (λ xs. xs ++ points) c.new-contour.ensures.items)
    c.in_ok-push.ensures.items

pub returns : goal.returns
returns g c = record {
  shape = let whole = g.I.IntNumber.whole in
      let paths = paths_in whole c.args.contours.now.points.items c.args.contours.now.ranges.items in
      subst (λ ps. paths_of_shape whole c.loop-index.shape.items ≡ ps) (take_all c.loop-index.index paths
      (subst (λ n. n ≤ c.loop-index.index) c.path_count-index-end.ensures c.loop-index-test.false))
      c.loop-index.invariant;
}
