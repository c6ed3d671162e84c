-- Where a point of the plane lies in contours and in shapes.
use Rattle.std.specs.Prelude.{◌≡◌, Bool, true, false, not, ◌==◌, ◌%◌, ℤ, nat_abs, List, [], ◌∷◌, flat_map, All, Any}
use Rattle.std.specs.List.{list_any}
use Rattle.overlay_geom.specs.Plane.{Point, PlanePoint, Edge, is_strictly_below, IsOn, IsOff, steps_of, winding}
use Rattle.overlay_geom.specs.Resolved.{edges_of}
use Rattle.overlay_relate.specs.declared.location.PointLocation.{PointLocation}
use Rattle.overlay_relate.specs.declared.location.PointLocation.TheVariants.{Inside, Boundary, Outside}

-- one of the two is true, and not the other
abbrev pub differ : Bool → Bool → Bool
differ true t = not t
differ false t = t

-- the number is odd
abbrev pub is_odd : ℤ → Bool
is_odd z = nat_abs z % 2 == 1

-- p is inside the contour: the contour winds an odd number of times round it
abbrev pub is_in_contour : List Point → PlanePoint → Bool
is_in_contour ps p = is_odd (winding (steps_of ps) p)

-- p is inside an odd number of the shape's contours
abbrev pub is_in_shape : List (List Point) → PlanePoint → Bool
is_in_shape [] p = false
is_in_shape (c ∷ cs) p = differ (is_in_contour c p) (is_in_shape cs p)

-- p is inside one of the shapes
abbrev pub is_in_shapes : List (List (List Point)) → PlanePoint → Bool
is_in_shapes shapes p = list_any (λ s. is_in_shape s p) shapes

-- the edges of all contours of a shape
abbrev pub shape_edges : List (List Point) → List Edge
shape_edges shape = flat_map edges_of shape

-- and of all shapes
abbrev pub shapes_edges : List (List (List Point)) → List Edge
shapes_edges shapes = flat_map shape_edges shapes

-- p lies on one of the edges
abbrev pub IsOnSome : List Edge → PlanePoint → Type 0
IsOnSome es p = Any (λ e. IsOn e p) es

-- where p lies by edges, and by whether it is inside: on an edge, or else inside or outside
abbrev pub IsLocated : List Edge → Bool → PlanePoint → PointLocation → Type 0
IsLocated es inside p Inside = IsOff es p × (inside ≡ true)
IsLocated es inside p Boundary = IsOnSome es p
IsLocated es inside p Outside = IsOff es p × (inside ≡ false)

-- where p lies in a shape: on an edge of one of its contours, or else inside or outside
abbrev pub IsLocatedIn : List (List Point) → PlanePoint → PointLocation → Type 0
IsLocatedIn shape p l = IsLocated (shape_edges shape) (is_in_shape shape p) p l

-- where p lies in shapes: inside one of them, else on the boundary of one, else outside
abbrev pub IsLocatedAmong : List (List (List Point)) → PlanePoint → PointLocation → Type 0
IsLocatedAmong shapes p Inside = Any (λ s. IsLocatedIn s p Inside) shapes
IsLocatedAmong shapes p Boundary = Any (λ s. IsLocatedIn s p Boundary) shapes × All
    (λ s. ¬ (IsLocatedIn s p Inside)) shapes
IsLocatedAmong shapes p Outside = All (λ s. IsLocatedIn s p Outside) shapes

-- ---- as they are computed

-- the location is `Inside`
abbrev pub is_inside : PointLocation → Bool
is_inside Inside = true
is_inside Boundary = false
is_inside Outside = false

-- an odd number of the edges are strictly below p
abbrev pub odd_below : List Edge → PlanePoint → Bool
odd_below [] p = false
odd_below (e ∷ es) p = differ (is_strictly_below e p) (odd_below es p)

-- where p lies by edges: on one of them, or else inside where an odd number of them are strictly below it
abbrev pub IsLocatedBy : List Edge → PlanePoint → PointLocation → Type 0
IsLocatedBy es p l = IsLocated es (odd_below es p) p l

-- where a point lies that lies so in two shapes joined by exclusive or
abbrev pub joined_contours : PointLocation → PointLocation → PointLocation
joined_contours Boundary m = Boundary
joined_contours Inside Inside = Outside
joined_contours Inside Boundary = Boundary
joined_contours Inside Outside = Inside
joined_contours Outside m = m

-- where a point lies that lies so among two lists of shapes
abbrev pub joined_shapes : PointLocation → PointLocation → PointLocation
joined_shapes Inside m = Inside
joined_shapes Boundary Inside = Inside
joined_shapes Boundary Boundary = Boundary
joined_shapes Boundary Outside = Boundary
joined_shapes Outside m = m
