-- The shape of the contour is the shape known at its place.
use Rattle.std.proofs.Common.{◌≡◌, ◌<◌, Option, Some, None, length, rules, refl, sym, ap, ◌∙◌, subst, arith}
use Rattle.std.specs.Prelude.{option_map, IfSome}
use Rattle.std.specs.List.{slice_get}
use Rattle.std.proofs.lemmas.List.{length-map}
use Rattle.std.proofs.lemmas.Option.{slice_get_read}
use Rattle.overlay_geom.proofs.Mapped.{read_mapped}
use Rattle.overlay_plane.specs.RoledContours.{stands_in}
use Rattle.overlay_walk.specs.GroupedContours.{plain_contour, plain_contours}
use Rattle.overlay_extract.specs.ChildLinks.{plain_link}
use Rattle.overlay_extract.specs.Links.{link_at}
use Rattle.overlay_extract.specs.declared.child_link.ChildLink.{ChildLink as LinkTaken}
use Rattle.overlay_extract.proofs.LinksFound.{link_there}
use Rattle.overlay_extract.proofs.links.link_at.Goals as goal

pub returns-in_err-shape : goal.returns-in_err-shape
returns-in_err-shape g c =
    let plain = plain_contour g.I.IntNumber.whole in
    let cs = plain_contours g.I.IntNumber.whole c.args.contours.now in
    let place = c.in_ok-place.place in
    let x = c.index-contours-place.result in
    let hole : c.args.hole ≡ Some place = search rules in
    let inside : place < length c.args.contours.now =
    subst (λ h. IfSome h (λ k. k < length c.args.contours.now)) hole c.requires in
    let at : slice_get cs place ≡ Some (plain x) = slice_get_read cs (length cs) place (plain x) refl
    (let long = length-map c.args.contours.now plain in omega (arith, inside, long))
    (sym (read_mapped plain c.args.contours.now place x (plain x) inside c.index-contours-place.is)) in
    let known : c.shape.result ≡ stands_in (plain x).role =
    c.shape.ensures ∙ ap (λ (y : _). stands_in (plain y).role) (sym c.index-contours-place.is) in
    let none : c.shape.result ≡ None = search rules in
    let nothing : c.from_residual-in_err-shape.result ≡ None = search rules in
    ap (λ (o : Option LinkTaken). option_map plain_link o) nothing
    ∙ link_there cs c.args.child place (plain x) at None (sym none ∙ known)
    ∙ ap (link_at cs c.args.child) (sym hole)

pub returns : goal.returns
returns g c =
    let plain = plain_contour g.I.IntNumber.whole in
    let cs = plain_contours g.I.IntNumber.whole c.args.contours.now in
    let place = c.in_ok-place.place in
    let x = c.index-contours-place.result in
    let hole : c.args.hole ≡ Some place = search rules in
    let inside : place < length c.args.contours.now =
    subst (λ h. IfSome h (λ k. k < length c.args.contours.now)) hole c.requires in
    let at : slice_get cs place ≡ Some (plain x) = slice_get_read cs (length cs) place (plain x) refl
    (let long = length-map c.args.contours.now plain in omega (arith, inside, long))
    (sym (read_mapped plain c.args.contours.now place x (plain x) inside c.index-contours-place.is)) in
    let known : c.shape.result ≡ stands_in (plain x).role =
    c.shape.ensures ∙ ap (λ (y : _). stands_in (plain y).role) (sym c.index-contours-place.is) in
    let some : c.shape.result ≡ Some c.in_ok-shape.shape = search rules in
    link_there cs c.args.child place (plain x) at (Some c.in_ok-shape.shape) (sym some ∙ known)
    ∙ ap (link_at cs c.args.child) (sym hole)
