-- One place more, of a hole or of an outline.
use Rattle.std.proofs.Common.{◌≡◌, ◌+◌, ◌∷◌, ◌++◌, [], take, length, None, Some, sym, ap, ◌∙◌, arith}
use Rattle.std.proofs.lemmas.List.{length-map, length-take-le}
use Rattle.overlay_geom.proofs.Mapped.{mapped_more, mapped_whole}
use Rattle.overlay_plane.specs.RoledContours.{is_outline}
use Rattle.overlay_walk.specs.GroupedContours.{plain_contour, plain_contours}
use Rattle.overlay_plane.specs.Islands.{place_if, hole_places}
use Rattle.overlay_extract.proofs.RolesRead.{places_more}
use Rattle.overlay_extract.proofs.binding.islands.hole_places.Goals as goal
use Rattle.overlay_extract.proofs.binding.islands.hole_places.Goals.{then-is_outline+in_ok-push}
use Rattle.overlay_extract.proofs.binding.islands.hole_places.Goals.{else-is_outline+in_ok-push-2}

pub loop-i-preserved : goal.loop-i-preserved
loop-i-preserved g c =
    let plain = plain_contour g.I.IntNumber.whole in
    let cs = c.args.contours.now in
    let i = c.loop-i.i in
    let x = c.index-contours-i.result in
    let so_far = plain_contours g.I.IntNumber.whole (take i cs) in
    let tells : is_outline (plain x).role ≡ c.is_outline.result =
    ap (λ (y : _). is_outline (plain y).role) c.index-contours-i.is ∙ sym c.is_outline.ensures in
    let inside = c.loop-i-test.true in
    let counted : 0 + length so_far ≡ i = (let mapped = length-map (take i cs) plain in
    let taken = length-take-le i cs (omega (arith, inside)) in omega (arith, mapped, taken)) in
    let more = ap (hole_places 0) (mapped_more plain cs i x inside c.index-contours-i.is)
    ∙ places_more 0 so_far (plain x)
    ∙ ap (λ k. hole_places 0 so_far ++ place_if (is_outline (plain x).role) k ∷ []) counted in
    elim c.if-is_outline.branch [
      | then-is_outline+in_ok-push w ↦
          ap (λ (ps : _). ps.items) w.places-is ∙ w.in_ok-push.ensures.items
          ∙ ap (λ ps. ps ++ None ∷ []) c.loop-i.invariant
          ∙ ap (λ t. hole_places 0 so_far ++ place_if t i ∷ []) (sym (tells ∙ w.if-is_outline.true))
          ∙ sym more
      | else-is_outline+in_ok-push-2 w ↦
          ap (λ (ps : _). ps.items) w.places-is ∙ w.in_ok-push-2.ensures.items
          ∙ ap (λ ps. ps ++ Some i ∷ []) c.loop-i.invariant
          ∙ ap (λ t. hole_places 0 so_far ++ place_if t i ∷ []) (sym (tells ∙ w.if-is_outline.false))
          ∙ sym more
    ]

pub returns : goal.returns
returns g c = record {
  ok = c.loop-i.invariant
      ∙ ap (hole_places 0) (mapped_whole (plain_contour g.I.IntNumber.whole) c.args.contours.now c.loop-i.i
      c.loop-i-test.false);
}
