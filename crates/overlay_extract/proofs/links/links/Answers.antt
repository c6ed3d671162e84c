-- The links found are sorted, and the laws of islands apply.
use Rattle.std.proofs.Common.{◌≡◌, ◌<◌, false, All, ℕ, Option, map, length, sym, ap, ◌∙◌, subst}
use Rattle.std.specs.Prelude.{IfSome}
use Rattle.std.specs.List.Sorted.{IsPermutation}
use Rattle.std.proofs.lemmas.List.{length-map}
use Rattle.std.proofs.lemmas.List.Sorted.{IsPermutation-map}
use Rattle.overlay_geom.proofs.Mapped.{AllPairs-map}
use Rattle.overlay_plane.specs.Islands.{ChildLink, link_lt}
use Rattle.overlay_walk.specs.GroupedContours.{plain_contour, plain_contours}
use Rattle.overlay_walk.specs.Steps.{filled_hand}
use Rattle.overlay_extract.specs.ChildLinks.{plain_link}
use Rattle.overlay_extract.specs.Links.{links_from}
use Rattle.overlay_extract.proofs.LinksFound.{holes_inside, are_links, children_once}
use Rattle.overlay_extract.proofs.links.links.Goals as goal

pub links_by-requires : goal.links_by-requires
links_by-requires g c =
    let cs = plain_contours g.I.IntNumber.whole c.args.contours.now in
    subst (All (λ (hole : Option ℕ). IfSome hole (λ k. k < length c.args.contours.now))) (sym c.deref.ensures.value)
    (subst (λ n. All (λ (hole : Option ℕ). IfSome hole (λ k. k < n)) c.in_ok-holes.holes.items)
    (length-map c.args.contours.now (plain_contour g.I.IntNumber.whole))
    (holes_inside (filled_hand c.args.direction) cs c.in_ok-holes.holes.items c.in_ok-holes.ensures.round))

pub returns-clause-links : goal.returns-clause-links
returns-clause-links g c =
    let cs = plain_contours g.I.IntNumber.whole c.args.contours.now in
    let sorted = c.sort_links.new.links.items in
    let holes = c.in_ok-holes.holes.items in
    let moved : IsPermutation (links_from cs 0 holes) (map plain_link sorted) =
    subst (λ ls. IsPermutation ls (map plain_link sorted))
    (c.in_ok-links.ensures.ok ∙ ap (links_from cs 0) c.deref.ensures.value)
    (IsPermutation-map plain_link c.in_ok-links.links.items sorted c.in_ok-sort_links.ensures.permutation) in
    are_links (filled_hand c.args.direction) cs c.requires.bindable c.requires.in_shapes holes
    c.in_ok-holes.ensures.round (map plain_link sorted) moved
    (AllPairs-map (λ (k l : ChildLink). link_lt l k ≡ false) plain_link sorted c.in_ok-sort_links.ensures.order)

pub returns-clause-children : goal.returns-clause-children
returns-clause-children g c =
    let cs = plain_contours g.I.IntNumber.whole c.args.contours.now in
    let sorted = c.sort_links.new.links.items in
    let holes = c.in_ok-holes.holes.items in
    let moved : IsPermutation (links_from cs 0 holes) (map plain_link sorted) =
    subst (λ ls. IsPermutation ls (map plain_link sorted))
    (c.in_ok-links.ensures.ok ∙ ap (links_from cs 0) c.deref.ensures.value)
    (IsPermutation-map plain_link c.in_ok-links.links.items sorted c.in_ok-sort_links.ensures.permutation) in
    children_once (filled_hand c.args.direction) cs c.requires.bindable c.requires.in_shapes holes
    c.in_ok-holes.ensures.round (map plain_link sorted) moved
    (AllPairs-map (λ (k l : ChildLink). link_lt l k ≡ false) plain_link sorted c.in_ok-sort_links.ensures.order)
