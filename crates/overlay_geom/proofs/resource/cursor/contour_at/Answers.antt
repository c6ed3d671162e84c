-- The contour that is reached stands behind those of the shapes before.
use Rattle.std.proofs.Common.{◌<◌, length, sym, arith}
use Rattle.std.proofs.lemmas.List.{length-map}
use Rattle.overlay_geom.specs.Paths.{paths_of_shape}
use Rattle.overlay_geom.specs.Points.{plain_points}
use Rattle.overlay_geom.proofs.JoinedLists.{slice_get-joined}
use Rattle.overlay_geom.proofs.Mapped.{read_mapped}
use Rattle.overlay_geom.proofs.resource.cursor.contour_at.Goals as goal

pub returns-then-left-len-clause-contour : goal.returns-then-left-len-clause-contour
returns-then-left-len-clause-contour g c =
    let whole = g.I.IntNumber.whole in
    let shape = c.index-shapes-place.result in
    let left = c.loop-place.left in
    let inside : left < length shape.items = omega (arith, c.if-left-len.true, c.len.ensures, shape.ok.0) in
    let found = read_mapped (λ p. plain_points whole p.items) shape.items left c.index.result.now
    (plain_points whole c.index.result.now.items) inside c.index.ensures in
    let there = slice_get-joined (λ s. paths_of_shape whole s.items) c.args.shapes.now c.loop-place.place shape
    c.loop-place-test.true c.index-shapes-place.is left
    (plain_points whole c.index.result.now.items) (rw length-map inside) (sym found) in
    rw (c.loop-place.invariant, c.deref.ensures.value) there
