-- An outline adds a place, and a hole none.
use Rattle.std.proofs.Common.{◌≡◌, ◌∷◌, ◌++◌, ◌<◌, [], true, false, map, take, length, sym, ap, ◌∙◌, subst, arith}
use Rattle.std.specs.List.{filter}
use Rattle.std.proofs.lemmas.List.{length-map}
use Rattle.overlay_geom.proofs.Mapped.{mapped_more, mapped_whole, read_mapped}
use Rattle.overlay_plane.specs.PlacedContours.{walks_at}
use Rattle.overlay_plane.specs.RoledContours.{Contour, is_outline}
use Rattle.overlay_walk.specs.GroupedContours.{plain_contour, plain_contours}
use Rattle.overlay_extract.specs.Places.{place_lists, AreInside}
use Rattle.overlay_extract.proofs.HolesPlaced.{walk_there}
use Rattle.overlay_extract.proofs.PlacedShapes.{outline_more, hole_more, alone_inside, alone_walks}
use Rattle.overlay_extract.proofs.binding.places.outline_places.Goals as goal
use Rattle.overlay_extract.proofs.binding.places.outline_places.Goals.{then-is_outline+in_ok-clone-2+in_ok-push_alone}
use Rattle.overlay_extract.proofs.binding.places.outline_places.Goals.{else-is_outline}

pub loop-i-preserved : goal.loop-i-preserved
loop-i-preserved g c =
    let plain = plain_contour g.I.IntNumber.whole in
    let given = c.args.contours.now in
    let cs = plain_contours g.I.IntNumber.whole given in
    let i = c.loop-i.i in
    let x = c.index-contours-i.result in
    let inside = c.loop-i-test.true in
    let long = length-map given plain in
    let in_contours : i < length cs = omega (arith, inside, long) in
    let so_far = plain_contours g.I.IntNumber.whole (take i given) in
    let more = mapped_more plain given i x inside c.index-contours-i.is in
    let tells : is_outline (plain x).role ≡ c.is_outline.result =
    ap (λ (y : _). is_outline (plain y).role) c.index-contours-i.is ∙ sym c.is_outline.ensures in
    elim c.if-is_outline.branch [
      | then-is_outline+in_ok-clone-2+in_ok-push_alone w ↦
          let new = ap (λ (ps : _). place_lists ps.items) w.places-is ∙ w.in_ok-push_alone.ensures.ok in
          let walk = walk_there cs i (plain x) in_contours
          (read_mapped plain given i x (plain x) inside c.index-contours-i.is) in (
            subst (AreInside (length cs)) (sym new)
                (alone_inside (length cs) (place_lists c.loop-i.places.items) i c.loop-i.invariant.0 in_contours),
            ap (walks_at cs) new
                ∙ alone_walks cs (place_lists c.loop-i.places.items) i (plain x).steps walk
                ∙ ap (λ ws. ws ++ ((plain x).steps ∷ []) ∷ []) c.loop-i.invariant.1
                ∙ sym (outline_more so_far (plain x) (tells ∙ w.if-is_outline.true))
                ∙ ap (λ ds. map (λ (d : Contour). d.steps ∷ []) (filter (λ (d : Contour). is_outline d.role) ds))
                (sym more),
          )
      | else-is_outline w ↦
          let same = ap (λ (ps : _). place_lists ps.items) w.places-is in (
            subst (AreInside (length cs)) (sym same) c.loop-i.invariant.0,
            ap (walks_at cs) same ∙ c.loop-i.invariant.1
                ∙ sym (hole_more so_far (plain x) (tells ∙ w.if-is_outline.false))
                ∙ ap (λ ds. map (λ (d : Contour). d.steps ∷ []) (filter (λ (d : Contour). is_outline d.role) ds))
                (sym more),
          )
    ]

pub returns-clause-inside : goal.returns-clause-inside
returns-clause-inside g c = c.loop-i.invariant.0

pub returns-clause-begun : goal.returns-clause-begun
returns-clause-begun g c = c.loop-i.invariant.1
    ∙ ap (λ ds. map (λ (d : Contour). d.steps ∷ []) (filter (λ (d : Contour). is_outline d.role) ds))
    (mapped_whole (plain_contour g.I.IntNumber.whole) c.args.contours.now c.loop-i.i c.loop-i-test.false)
