-- Over no edges there is no shape.
use Rattle.std.proofs.Common.{◌≡◌, List, [], ◌∷◌, ◌++◌, true, false, not, map, length, refl, ap, ap₂, subst, arith, ◌∙◌}
use Rattle.std.specs.List.{AllZip, filter, flat_map}
use Rattle.std.specs.Prelude.{Bool, Result, Ok, Err, IfOk}
use Rattle.overlay_geom.specs.Plane.{Point, Step}
use Rattle.overlay_geom.specs.Edges.{CountedEdge}
use Rattle.overlay_plane.specs.Binding.{is_hole}
use Rattle.overlay_plane.specs.Contours.{IsCutInto, done, next, all_steps}
use Rattle.overlay_plane.specs.RoledContours.{Contour, contours_from, group_contours_from, kept_group, hole_to_bind}
use Rattle.overlay_plane.specs.RoledContours.{IsCutBy}
use Rattle.overlay_plane.specs.ShapeWindings.{AreKeptOrThinned}
use Rattle.overlay_plane.specs.Turn.{Hand, other_hand}
use Rattle.overlay_extract.specs.Results.{Asked, filled_asked, is_kept, shapes_found, IsResult}

-- no steps are cut into no walks
no_walks : (hand_of : Step → Hand) (walks : List (List Step)) → IsCutInto hand_of [] walks → walks ≡ []
no_walks hand_of walks done = refl
no_walks hand_of walks (next start orbit others) = let inside = start.among.1 in absurd (omega arith)

-- only an empty list is mapped to an empty list
none_of_none : {X Y : Type 0} (f : X → Y) (xs : List X) → map f xs ≡ [] → xs ≡ []
none_of_none f [] same = refl
none_of_none f (x ∷ xs) same = let long = ap length same in absurd (omega arith)

-- no shapes are kept, or thinned, as none
none_shown : (keep : Bool) (shapes result : List (List (List Point))) → shapes ≡ [] →
    AreKeptOrThinned keep shapes result → result ≡ []
none_shown keep [] [] same shown = refl
none_shown keep [] (r ∷ rs) same shown = absurd shown
none_shown keep (s ∷ ss) result same shown = let long = ap length same in absurd (omega arith)

-- nor into contours, in groups or without
no_contours : (in_groups : Bool) (filled : Hand) (keeps : List Step → Bool) (contours : List Contour) →
    IsCutBy in_groups filled keeps [] contours → contours ≡ []
no_contours false filled keeps contours is = is.are ∙ ap (λ ws. contours_from filled 0 (filter keeps ws))
    (no_walks _ is.walks is.cut)
no_contours true filled keeps contours is = is.are
    ∙ ap₂ (λ gs ws. group_contours_from 0 (flat_map (kept_group keeps) gs) ++ map hole_to_bind (filter keeps ws))
    (none_zipped _ (filter (λ g. not (is_hole filled g)) is.groups) is.inside
    (ap (filter (λ g. not (is_hole filled g))) none) is.cut_inside)
    (no_walks _ is.others (subst (λ gs. IsCutInto (λ s. other_hand filled) (all_steps (filter (is_hole filled) gs))
    is.others) none is.cut_others))
  where
    none : is.groups ≡ []
    none = no_walks _ is.groups is.grouped

    none_zipped : {X Y : Type 0} (R : X → Y → Type 0) (xs : List X) (ys : List Y) → xs ≡ [] → AllZip R xs ys → ys ≡ []
    none_zipped R xs [] same each = refl
    none_zipped R [] (y ∷ ys) same each = absurd each
    none_zipped R (x ∷ xs) (y ∷ ys) same each = let long = ap length same in absurd (omega arith)

-- the result over no edges has no shape
pub no_shapes : (q : Asked) (result : List (List (List Point))) → IsResult q [] result → result ≡ []
no_shapes q result is =
    let none = no_contours q.ogc (filled_asked q) (is_kept q) is.contours is.cut in
    none_shown q.preserve_output_collinear _ result (ap (λ cs. shapes_found cs is.shapes) none) is.shown

-- nor has the list that holds it
pub no_shapes_held : {X Y E : Type 0} (r : Result X E) (items : X → List Y) (f : Y → List (List Point)) (q : Asked)
    (es : List CountedEdge)
    → IfOk r (λ v. IsResult q es (map f (items v))) → es ≡ [] → IfOk r (λ v. items v ≡ [])
no_shapes_held (Ok v) items f q es is none =
    none_of_none f (items v) (no_shapes q _ (subst (λ es. IsResult q es (map f (items v))) none is))
no_shapes_held (Err e) items f q es is none = tt
