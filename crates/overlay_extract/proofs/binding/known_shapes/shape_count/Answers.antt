-- One contour more, which is an outline or not.
use Rattle.std.proofs.Common.{◌≡◌, true, false, take, sym, ap, ◌∙◌, arith}
use Rattle.overlay_geom.proofs.Mapped.{mapped_more, mapped_whole}
use Rattle.overlay_plane.specs.RoledContours.{is_outline}
use Rattle.overlay_walk.specs.GroupedContours.{plain_contour, plain_contours}
use Rattle.overlay_extract.proofs.RolesRead.{outline_count, count_more}
use Rattle.overlay_extract.proofs.binding.known_shapes.shape_count.Goals as goal
use Rattle.overlay_extract.proofs.binding.known_shapes.shape_count.Goals.{then-is_outline, else-is_outline}

pub loop-i-preserved : goal.loop-i-preserved
loop-i-preserved g c =
    let plain = plain_contour g.I.IntNumber.whole in
    let cs = c.args.contours.now in
    let i = c.loop-i.i in
    let x = c.index-contours-i.result in
    let more = ap outline_count (mapped_more plain cs i x c.loop-i-test.true c.index-contours-i.is) in
    let tells : is_outline (plain x).role ≡ c.is_outline.result =
    ap (λ (y : _). is_outline (plain y).role) c.index-contours-i.is ∙ sym c.is_outline.ensures in
    let old = c.loop-i.invariant.0 in
    let few = c.loop-i.invariant.1 in
    elim c.if-is_outline.branch [
      | then-is_outline w ↦
          let new = count_more (plain_contours g.I.IntNumber.whole (take i cs)) (plain x) true
          (tells ∙ w.if-is_outline.true) in
          let is = w.count-is in
          (omega (arith, more, new, old, is), omega (arith, few, is))
      | else-is_outline w ↦
          let new = count_more (plain_contours g.I.IntNumber.whole (take i cs)) (plain x) false
          (tells ∙ w.if-is_outline.false) in
          let is = w.count-is in
          (omega (arith, more, new, old, is), omega (arith, few, is))
    ]

pub returns : goal.returns
returns g c = c.loop-i.invariant.0
    ∙ ap outline_count (mapped_whole (plain_contour g.I.IntNumber.whole) c.args.contours.now c.loop-i.i
    c.loop-i-test.false)
