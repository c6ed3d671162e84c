-- Where a point lies in a shape of one contour more, and among one shape more.
use Rattle.std.proofs.Common.{◌≡◌, ◌↔◌, Bool, true, false, List, [], ◌∷◌, ◌++◌, All, refl, sym, ap, ap₂, ◌∙◌, subst}
use Rattle.std.specs.List.{Any, Contains}
use Rattle.std.proofs.lemmas.Bool.{both_ways, false≢true}
use Rattle.std.proofs.lemmas.Grind.{flat_map-append}
use Rattle.std.proofs.lemmas.List.{append-nil}
use Rattle.std.proofs.lemmas.List.Elements.{All-nil, All-append, All-push, All-contains, All-weaker}
use Rattle.std.proofs.lemmas.List.Elements.{Contains-append_left, Contains-append_right, Contains-push}
use Rattle.std.proofs.lemmas.List.Folds.{list_any-from_Any, list_any_none}
use Rattle.overlay_geom.specs.Plane.{Point, PlanePoint, Edge, IsOn, IsOff, steps_of}
use Rattle.overlay_geom.specs.Resolved.{edges_of}
use Rattle.overlay_plane.proofs.Entries.{any_of_entry, Contains-from_any, Contains-flat_map, all_of_entries}
use Rattle.overlay_relate.specs.Laws.{InsideOffEdges}
use Rattle.overlay_relate.specs.Locations.{differ, is_in_contour, is_in_shape, is_in_shapes, is_inside, shape_edges}
use Rattle.overlay_relate.specs.Locations.{shapes_edges, odd_below, joined_contours, joined_shapes, IsOnSome, IsLocated}
use Rattle.overlay_relate.specs.Locations.{IsLocatedIn, IsLocatedAmong}
use Rattle.overlay_relate.specs.declared.location.PointLocation.{PointLocation}
use Rattle.overlay_relate.specs.declared.location.PointLocation.TheVariants.{Inside, Boundary, Outside}
use Rattle.overlay_relate.proofs.Parities.{differ-assoc, differ-false, odd_winding}

-- ---- by edges

on_left : (es fs : List Edge) (p : PlanePoint) → IsOnSome es p → IsOnSome (es ++ fs) p
on_left es fs p on = let found = Contains-from_any (λ e. IsOn e p) es on in
    any_of_entry (λ e. IsOn e p) (es ++ fs) found.0 (Contains-append_left es fs found.0 found.1) found.2

on_right : (es fs : List Edge) (p : PlanePoint) → IsOnSome fs p → IsOnSome (es ++ fs) p
on_right es fs p on = let found = Contains-from_any (λ e. IsOn e p) fs on in
    any_of_entry (λ e. IsOn e p) (es ++ fs) found.0 (Contains-append_right es fs found.0 found.1) found.2

-- a point on one of the edges is not off them
pub on_is_not_off : (es : List Edge) (p : PlanePoint) → IsOnSome es p → ¬ (IsOff es p)
on_is_not_off es p on off = let found = Contains-from_any (λ e. IsOn e p) es on in
    All-contains (λ e. ¬ (IsOn e p)) es found.0 off found.1 found.2

-- where a point lies by the edges of two lists
located_joined : (es fs : List Edge) (s t : Bool) (p : PlanePoint) (l m : PointLocation) → IsLocated es s p l →
    IsLocated fs t p m →
    IsLocated (es ++ fs) (differ s t) p (joined_contours l m)
located_joined es fs s t p Boundary m at_l at_m = on_left es fs p at_l
located_joined es fs s t p Inside Boundary at_l at_m = on_right es fs p at_m
located_joined es fs s t p Outside Boundary at_l at_m = on_right es fs p at_m
located_joined es fs s t p Inside Inside at_l at_m =
    (All-append (λ e. ¬ (IsOn e p)) es fs at_l.0 at_m.0, ap₂ differ at_l.1 at_m.1)
located_joined es fs s t p Inside Outside at_l at_m =
    (All-append (λ e. ¬ (IsOn e p)) es fs at_l.0 at_m.0, ap₂ differ at_l.1 at_m.1)
located_joined es fs s t p Outside Inside at_l at_m =
    (All-append (λ e. ¬ (IsOn e p)) es fs at_l.0 at_m.0, ap₂ differ at_l.1 at_m.1)
located_joined es fs s t p Outside Outside at_l at_m =
    (All-append (λ e. ¬ (IsOn e p)) es fs at_l.0 at_m.0, ap₂ differ at_l.1 at_m.1)

-- ---- in a shape

-- a point is outside no contours
pub outside_none : (p : PlanePoint) → IsLocatedIn [] p Outside
outside_none p = (All-nil (λ e. ¬ (IsOn e p)), refl)

in_shapes_joined : (cs ds : List (List Point)) (p : PlanePoint) → is_in_shape (cs ++ ds) p ≡ differ (is_in_shape cs p)
    (is_in_shape ds p)
in_shapes_joined [] ds p = refl
in_shapes_joined (c ∷ cs) ds p = ap (differ (is_in_contour c p)) (in_shapes_joined cs ds p)
    ∙ differ-assoc (is_in_contour c p) (is_in_shape cs p) (is_in_shape ds p)

-- with more contours
pub more_contours : (cs ds : List (List Point)) (p : PlanePoint) (l m : PointLocation) →
    IsLocatedIn cs p l → IsLocatedIn ds p m →
    IsLocatedIn (cs ++ ds) p (joined_contours l m)
more_contours cs ds p l m at_l at_m =
    subst (λ es. IsLocated es (is_in_shape (cs ++ ds) p) p (joined_contours l m))
    (sym (flat_map-append edges_of cs ds))
    (subst (λ t. IsLocated (shape_edges cs ++ shape_edges ds) t p (joined_contours l m))
    (sym (in_shapes_joined cs ds p))
    (located_joined (shape_edges cs) (shape_edges ds) (is_in_shape cs p) (is_in_shape ds p) p l m at_l at_m))

-- a point that lies so by a contour's edges lies so in the contour
pub located_by_edges : (c : List Point) (es : List Edge) → es ≡ edges_of c → (p : PlanePoint) (l : PointLocation) →
    IsLocated es (odd_below es p) p l → IsLocatedIn (c ∷ []) p l
located_by_edges c es is p l at =
    subst (λ fs. IsLocated fs (is_in_shape (c ∷ []) p) p l) (sym (append-nil (edges_of c)))
    (subst (λ t. IsLocated (edges_of c) t p l) (sym (differ-false (is_in_contour c p) ∙ odd_winding (steps_of c) p))
    (subst (λ fs. IsLocated fs (odd_below fs p) p l) is at))

-- ---- among shapes

-- a point is outside no shapes
pub outside_no_shapes : (p : PlanePoint) → IsLocatedAmong [] p Outside
outside_no_shapes p = All-nil (λ s. IsLocatedIn s p Outside)

not_inside_on : (s : List (List Point)) (p : PlanePoint) → IsLocatedIn s p Boundary → ¬ (IsLocatedIn s p Inside)
not_inside_on s p on inside = on_is_not_off (shape_edges s) p on inside.0

not_inside_outside : (s : List (List Point)) (p : PlanePoint) → IsLocatedIn s p Outside → ¬ (IsLocatedIn s p Inside)
not_inside_outside s p outside inside = both_ways (is_in_shape s p) outside.1 inside.1

module _ (ss : List (List (List Point))) (s : List (List Point)) (p : PlanePoint) where
  earlier : (l : PointLocation) → Any (λ t. IsLocatedIn t p l) ss → Any (λ t. IsLocatedIn t p l) (ss ++ s ∷ [])
  earlier l some = let found = Contains-from_any (λ t. IsLocatedIn t p l) ss some in
      any_of_entry (λ t. IsLocatedIn t p l) (ss ++ s ∷ []) found.0 (Contains-append_left ss (s ∷ []) found.0 found.1)
      found.2

  last : (l : PointLocation) → IsLocatedIn s p l → Any (λ t. IsLocatedIn t p l) (ss ++ s ∷ [])
  last l at = any_of_entry (λ t. IsLocatedIn t p l) (ss ++ s ∷ []) s (Contains-push ss s) at

  none_inside : All (λ t. ¬ (IsLocatedIn t p Inside)) ss → ¬ (IsLocatedIn s p Inside) →
      All (λ t. ¬ (IsLocatedIn t p Inside)) (ss ++ s ∷ [])
  none_inside all not_here = All-push (λ t. ¬ (IsLocatedIn t p Inside)) ss s all not_here

  outside_none_inside : All (λ t. IsLocatedIn t p Outside) ss → All (λ t. ¬ (IsLocatedIn t p Inside)) ss
  outside_none_inside all = All-weaker (λ t. IsLocatedIn t p Outside) (λ t. ¬ (IsLocatedIn t p Inside))
      (λ t. not_inside_outside t p) ss all

  -- with one shape more
  pub one_shape_more : (l m : PointLocation) → IsLocatedAmong ss p l → IsLocatedIn s p m →
      IsLocatedAmong (ss ++ s ∷ []) p (joined_shapes l m)
  one_shape_more Inside m at_l at_m = earlier Inside at_l
  one_shape_more Boundary Inside at_l at_m = last Inside at_m
  one_shape_more Boundary Boundary at_l at_m = (earlier Boundary at_l.0, none_inside at_l.1 (not_inside_on s p at_m))
  one_shape_more Boundary Outside at_l at_m =
      (earlier Boundary at_l.0, none_inside at_l.1 (not_inside_outside s p at_m))
  one_shape_more Outside Inside at_l at_m = last Inside at_m
  one_shape_more Outside Boundary at_l at_m =
      (last Boundary at_m, none_inside (outside_none_inside at_l) (not_inside_on s p at_m))
  one_shape_more Outside Outside at_l at_m = All-push (λ t. IsLocatedIn t p Outside) ss s at_l at_m

-- where a point lies in one shape, it lies among that shape alone
pub among_one : (s : List (List Point)) (p : PlanePoint) (l : PointLocation) → IsLocatedIn s p l →
    IsLocatedAmong (s ∷ []) p l
among_one s p l at = one_shape_more [] s p Outside l (outside_no_shapes p) at

-- ---- off the edges

-- off the edges of a shape a point is inside exactly where its location says so
pub inside_off_shape : (s : List (List Point)) (p : PlanePoint) (l : PointLocation) → IsOff (shape_edges s) p →
    IsLocatedIn s p l → is_inside l ≡ is_in_shape s p
inside_off_shape s p Inside off at = sym at.1
inside_off_shape s p Boundary off at = absurd (on_is_not_off (shape_edges s) p at off)
inside_off_shape s p Outside off at = sym at.1

-- a point off the edges of all shapes is off those of each
off_each : (ss : List (List (List Point))) (p : PlanePoint) → IsOff (shapes_edges ss) p → (s : List (List Point)) →
    Contains ss s → IsOff (shape_edges s) p
off_each ss p off s at = all_of_entries (λ e. ¬ (IsOn e p)) (shape_edges s)
    (λ e c. All-contains (λ f. ¬ (IsOn f p)) (shapes_edges ss) e off (Contains-flat_map shape_edges ss s e at c))

-- and so among several
pub inside_off_shapes : (ss : List (List (List Point))) (p : PlanePoint) (l : PointLocation) →
    IsOff (shapes_edges ss) p → IsLocatedAmong ss p l → is_inside l ≡ is_in_shapes ss p
inside_off_shapes ss p Inside off at =
    let found = Contains-from_any (λ s. IsLocatedIn s p Inside) ss at in
    sym (list_any-from_Any (λ s. is_in_shape s p) ss
    (any_of_entry (λ s. is_in_shape s p ≡ true) ss found.0 found.1 found.2.1))
inside_off_shapes ss p Boundary off at =
    let found = Contains-from_any (λ s. IsLocatedIn s p Boundary) ss at.0 in
    absurd (on_is_not_off (shape_edges found.0) p found.2 (off_each ss p off found.0 found.1))
inside_off_shapes ss p Outside off at =
    sym (list_any_none (λ s. is_in_shape s p) ss
    (All-weaker (λ s. IsLocatedIn s p Outside) (λ s. is_in_shape s p ≡ false) (λ s outside. outside.1) ss at))

told : (t : Bool) (l : PointLocation) → is_inside l ≡ t → ((t ≡ true) ↔ (l ≡ Inside))
told t Inside is = (λ _. refl, λ _. sym is)
told t Boundary is = (λ inside. absurd (false≢true (is ∙ inside)), λ same. sym is ∙ ap is_inside same)
told t Outside is = (λ inside. absurd (false≢true (is ∙ inside)), λ same. sym is ∙ ap is_inside same)

-- the law of specs/Laws
pub inside_off_edges : InsideOffEdges
inside_off_edges = record {
  shape = λ s p l off at. told (is_in_shape s p) l (inside_off_shape s p l off at);
  shapes = λ ss p l off at. told (is_in_shapes ss p) l (inside_off_shapes ss p l off at);
}
