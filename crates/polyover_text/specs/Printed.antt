-- The text of an answer: a line for each edge, lines for each shape, a line for each path, for each relation, or for
-- each point.
use Rattle.std.specs.Prelude.{ℕ, Bool, true, false, List, [], ◌∷◌, ◌++◌, codes}
use Rattle.std.specs.Fmt.{decimal, signed_decimal}
use Rattle.std.specs.List.{flat_map}
use Rattle.overlay_geom.specs.Plane.{Point}
use Rattle.overlay_order.specs.Vectors.{Vector}
use Rattle.overlay_relate.specs.declared.location.PointLocation.{PointLocation}
use Rattle.overlay_relate.specs.declared.location.PointLocation.TheVariants.{Inside, Boundary, Outside}
use Rattle.overlay_relate.specs.declared.relations.Relations.{Relations}

-- ---- edges

-- `edge ax ay bx by fill`, and LF
abbrev pub edge_line : Vector → List ℕ
edge_line v =
    codes "edge " ++ signed_decimal v.a.x ++ codes " " ++ signed_decimal v.a.y ++ codes " "
    ++ signed_decimal v.b.x ++ codes " " ++ signed_decimal v.b.y ++ codes " " ++ decimal v.fill ++ 10 ∷ []

abbrev pub edge_lines : List Vector → List ℕ
edge_lines vs = flat_map edge_line vs

-- ---- shapes

-- `x y`
abbrev pub point_text : Point → List ℕ
point_text p = signed_decimal p.x ++ codes " " ++ signed_decimal p.y

-- the points one after another, parted by single spaces, and LF
abbrev pub contour_line : List Point → List ℕ
contour_line [] = 10 ∷ []
contour_line (p ∷ ps) = point_text p ++ flat_map (λ q. codes " " ++ point_text q) ps ++ 10 ∷ []

-- a line `shape`, and a line for each contour
abbrev pub shape_lines : List (List Point) → List ℕ
shape_lines contours = codes "shape" ++ 10 ∷ flat_map contour_line contours

abbrev pub lines_of_shapes : List (List (List Point)) → List ℕ
lines_of_shapes shapes = flat_map shape_lines shapes

-- ---- paths

-- a line of points for each path
abbrev pub lines_of_paths : List (List Point) → List ℕ
lines_of_paths paths = flat_map contour_line paths

-- ---- links

-- `link p c s`, and LF
abbrev pub link_line : ℕ → ℕ → ℕ → List ℕ
link_line parent_shape parent_contour child_shape =
    codes "link " ++ decimal parent_shape ++ codes " " ++ decimal parent_contour ++ codes " " ++ decimal child_shape
    ++ 10 ∷ []

-- ---- points

-- `true` or `false`, and LF
abbrev pub truth_line : Bool → List ℕ
truth_line true = codes "true\n"
truth_line false = codes "false\n"

-- `inside`, `boundary` or `outside`, and LF
abbrev pub location_line : PointLocation → List ℕ
location_line Inside = codes "inside\n"
location_line Boundary = codes "boundary\n"
location_line Outside = codes "outside\n"

-- ---- relations

-- the name of the relation, whether it holds, and LF
abbrev pub relation_line : List ℕ → Bool → List ℕ
relation_line name holds = name ++ codes " " ++ truth_line holds

-- the seven lines, in this order
abbrev pub relation_lines : Relations → List ℕ
relation_lines r =
    relation_line (codes "intersects") r.intersects
    ++ relation_line (codes "interiors_intersect") r.interiors_intersect
    ++ relation_line (codes "touches") r.touches
    ++ relation_line (codes "point_intersects") r.point_intersects
    ++ relation_line (codes "within") r.within
    ++ relation_line (codes "disjoint") r.disjoint
    ++ relation_line (codes "covers") r.covers
