-- The result over no edges has no shape, in one list too.
use Rattle.std.proofs.Common.{◌≡◌, ℤ, List, [], ◌∷◌, map, length, refl, ap, subst, arith}
use Rattle.std.specs.Prelude.{Result, Ok, Err, IfOk}
use Rattle.overlay_extract.proofs.NoShapes.{no_shapes}
use Rattle.overlay_extract.specs.Results.{Asked, IsResult}
use Rattle.overlay_geom.specs.Edges.{CountedEdge}
use Rattle.overlay_geom.specs.Flat.{part_in, paths_in, shapes_in}
use Rattle.overlay_geom.specs.declared.flat.shapes.FlatShapesBuffer.{FlatShapesBuffer}

-- nothing is mapped to nothing alone
none_mapped : {X Y : Type 0} (f : X → Y) (xs : List X) → map f xs ≡ [] → xs ≡ []
none_mapped f [] none = refl
none_mapped f (x ∷ xs) same = let long = ap length same in absurd (omega arith)

pub no_flat_shapes : {I A E : Type 0} (whole : I → ℤ) (q : Asked) (es : List CountedEdge)
    (r : Result (FlatShapesBuffer I A) E) →
    IfOk r (λ b. IsResult q es (shapes_in whole b.points.items b.contour_ranges.items b.shape_ranges.items)) →
    es ≡ [] → IfOk r (λ b. b.shape_ranges.items ≡ [])
no_flat_shapes whole q es (Ok b) is none =
    let shapes = shapes_in whole b.points.items b.contour_ranges.items b.shape_ranges.items in
    none_mapped (λ s. paths_in whole b.points.items (part_in b.contour_ranges.items s)) b.shape_ranges.items
    (no_shapes q shapes (subst (λ edges. IsResult q edges shapes) none is))
no_flat_shapes whole q es (Err e) is none = tt
