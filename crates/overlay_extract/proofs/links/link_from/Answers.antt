-- The contours that are no outlines are among all contours.
use Rattle.std.proofs.Common.{not, arith, refl}
use Rattle.std.proofs.lemmas.List.{length-map}
use Rattle.std.proofs.lemmas.List.Filters.{length-filter_both}
use Rattle.overlay_plane.specs.RoledContours.{Contour, is_outline}
use Rattle.overlay_walk.specs.GroupedContours.{plain_contour, plain_contours}
use Rattle.overlay_extract.proofs.links.link_from.Goals as goal

pub overflow_sub-holes : goal.overflow_sub-holes
overflow_sub-holes g c =
    let cs = plain_contours g.I.IntNumber.whole c.args.contours.now in
    let both = length-filter_both (λ (d : Contour). is_outline d.role) (λ (d : Contour). not (is_outline d.role))
    (λ d. refl) cs in
    let all = length-map c.args.contours.now (plain_contour g.I.IntNumber.whole) in
    let counted = c.shape_count.ensures in
    omega (arith, both, all, counted)
