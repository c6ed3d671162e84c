-- The walks of three outlines, the second of which touches two holes in one point: what binding asks of walks, by
-- computation.
use Rattle.std.proofs.Common.{ℤ, pos, negsuc, List, [], ◌∷◌, All, refl}
use Rattle.std.proofs.lemmas.List.Elements.{All-nil, All-cons}
use Rattle.overlay_geom.specs.Plane.{Step, edge_of}
use Rattle.overlay_geom.specs.Settled.{IsSettledBy}
use Rattle.overlay_plane.specs.Contours.{IsContour, all_steps}
use Rattle.callers.proofs.ComputedWalks.{told_contour, told_settled}

abbrev step : ℤ → ℤ → ℤ → ℤ → Step
step ax ay bx by = record { from = record { x = ax; y = ay }; to = record { x = bx; y = by } }

-- the outlines
abbrev beside : List Step
beside =
    step (negsuc 2) (pos 4) (negsuc 2) (pos 2)
    ∷ step (negsuc 2) (pos 2) (negsuc 0) (pos 2)
    ∷ step (negsuc 0) (pos 2) (negsuc 0) (pos 4)
    ∷ step (negsuc 0) (pos 4) (negsuc 2) (pos 4)
    ∷ []

abbrev round : List Step
round =
    step (pos 3) (pos 6) (pos 2) (pos 3)
    ∷ step (pos 2) (pos 3) (pos 3) (pos 0)
    ∷ step (pos 3) (pos 0) (pos 6) (pos 0)
    ∷ step (pos 6) (pos 0) (pos 6) (pos 6)
    ∷ step (pos 6) (pos 6) (pos 3) (pos 6)
    ∷ []

abbrev below : List Step
below =
    step (pos 0) (negsuc 0) (pos 0) (negsuc 1)
    ∷ step (pos 0) (negsuc 1) (pos 10) (negsuc 1)
    ∷ step (pos 10) (negsuc 1) (pos 10) (negsuc 0)
    ∷ step (pos 10) (negsuc 0) (pos 0) (negsuc 0)
    ∷ []

-- the holes
abbrev upper : List Step
upper = step (pos 2) (pos 3) (pos 4) (pos 4) ∷ step (pos 4) (pos 4) (pos 4) (pos 3) ∷ step (pos 4) (pos 3) (pos 2)
    (pos 3) ∷ []

abbrev lower : List Step
lower = step (pos 2) (pos 3) (pos 4) (pos 2) ∷ step (pos 4) (pos 2) (pos 3) (pos 1) ∷ step (pos 3) (pos 1) (pos 2)
    (pos 3) ∷ []

abbrev pub touching_holes : List (List Step)
touching_holes = beside ∷ round ∷ below ∷ upper ∷ lower ∷ []

pub touching_contours : All IsContour touching_holes
touching_contours =
    All-cons IsContour beside (round ∷ below ∷ upper ∷ lower ∷ []) (told_contour beside refl refl)
    (All-cons IsContour round (below ∷ upper ∷ lower ∷ []) (told_contour round refl refl)
    (All-cons IsContour below (upper ∷ lower ∷ []) (told_contour below refl refl)
    (All-cons IsContour upper (lower ∷ []) (told_contour upper refl refl)
    (All-cons IsContour lower [] (told_contour lower refl refl) (All-nil IsContour)))))

pub touching_settled : IsSettledBy edge_of (all_steps touching_holes)
touching_settled = told_settled (all_steps touching_holes) refl
