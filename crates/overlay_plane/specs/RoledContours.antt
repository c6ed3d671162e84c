-- The contours of a cut of selected steps, each with its role: an outline, a hole of an outline's own group, or a hole
-- whose shape is found below it. Without groups the walks are outlines and such holes. With groups each outline's group
-- is walked once more by the empty hand, so no contour visits a point twice.
use Rattle.std.specs.Prelude.{◌≡◌, ℕ, suc, ◌==◌, Bool, true, false, cond, not, List, [], ◌∷◌, ◌++◌, map, filter, Option}
use Rattle.std.specs.Prelude.{Some, None}
use Rattle.std.specs.List.{AllZip, flat_map}
use Rattle.overlay_geom.specs.Plane.{Step}
use Rattle.overlay_plane.specs.Binding.{is_hole}
use Rattle.overlay_plane.specs.Contours.{IsCutInto, all_steps, outline_or_hole_hand}
use Rattle.overlay_plane.specs.Turn.{Hand, other_hand}

-- the role of a contour: the outline of the n-th shape, counted from 0; a hole of the n-th shape's outline's own group;
-- or a hole whose shape is still to be found
pub data Role : Type 0 where
  outline : ℕ → Role
  own_hole : ℕ → Role
  free_hole : Role

-- a contour, and its role
pub record Contour : Type 0 where
  pub role : Role
  pub steps : List Step

-- the number of the contour's shape, if it is known from the start
abbrev pub stands_in : Role → Option ℕ
stands_in (outline n) = Some n
stands_in (own_hole n) = Some n
stands_in free_hole = None

-- the contour is an outline, the outline of the n-th shape, or a hole of that outline's group
abbrev pub is_outline : Role → Bool
is_outline (outline n) = true
is_outline (own_hole n) = false
is_outline free_hole = false

abbrev pub is_own_hole_of : ℕ → Role → Bool
is_own_hole_of n (outline m) = false
is_own_hole_of n (own_hole m) = m == n
is_own_hole_of n free_hole = false

-- the contour is a hole whose shape is to be found
abbrev pub is_free_hole : Role → Bool
is_free_hole (outline n) = false
is_free_hole (own_hole n) = false
is_free_hole free_hole = true

-- the walk as the outline of the n-th shape, and as a hole whose shape is to be found
abbrev pub outline_of : ℕ → List Step → Contour
outline_of n walk = record { role = outline n; steps = walk }

abbrev pub hole_to_bind : List Step → Contour
hole_to_bind walk = record { role = free_hole; steps = walk }

-- ---- without groups

-- the walks as contours, with the outlines numbered from n on
abbrev pub contours_from : Hand → ℕ → List (List Step) → List Contour
contours_from filled n [] = []
contours_from filled n (w ∷ ws) =
    cond (is_hole filled w) (hole_to_bind w ∷ contours_from filled n ws)
    (outline_of n w ∷ contours_from filled (suc n) ws)

-- the contours are those walks of a cut of the selected steps that pass the test
pub record IsCut (filled : Hand) (keeps : List Step → Bool) (selected : List Step)
    (contours : List Contour) : Type 0 where
  pub walks : List (List Step)
  -- while steps are left, the next walk is the orbit of the step along the top edge at their leftmost lowest point
  pub cut : IsCutInto (outline_or_hole_hand filled) selected walks
  pub are : contours ≡ contours_from filled 0 (filter keeps walks)

-- ---- with groups

-- the kept walks of an outline's group, its outline first: the outline with its holes that pass the test, or nothing if
-- the outline fails it
abbrev pub kept_group : (List Step → Bool) → List (List Step) → List (List (List Step))
kept_group keeps [] = []
kept_group keeps (o ∷ hs) = cond (keeps o) ((o ∷ filter keeps hs) ∷ []) []

-- a hole of the group of the n-th shape's outline
abbrev pub hole_of_group : ℕ → List Step → Contour
hole_of_group n walk = record { role = own_hole n; steps = walk }

-- the walks of the groups as contours, the outlines numbered from n on
abbrev pub group_contours_from : ℕ → List (List (List Step)) → List Contour
group_contours_from n [] = []
group_contours_from n ([] ∷ gs) = group_contours_from n gs
group_contours_from n ((o ∷ hs) ∷ gs) = outline_of n o ∷ map (hole_of_group n) hs ++ group_contours_from (suc n) gs

-- the selected steps are grouped by the filled hand. The empty hand cuts the group of each outline, its outline first,
-- and the steps of all other groups together. Contours that pass the test are kept, and a hole of an outline's group
-- only with its outline
pub record IsCutInGroups (filled : Hand) (keeps : List Step → Bool) (selected : List Step)
    (contours : List Contour) : Type 0 where
  pub groups : List (List Step)
  pub grouped : IsCutInto (λ s. filled) selected groups
  pub inside : List (List (List Step))
  pub cut_inside : AllZip (λ group walks. IsCutInto (λ s. other_hand filled) group walks)
      (filter (λ g. not (is_hole filled g)) groups) inside
  pub others : List (List Step)
  pub cut_others : IsCutInto (λ s. other_hand filled) (all_steps (filter (is_hole filled) groups)) others
  pub are : contours ≡ group_contours_from 0 (flat_map (kept_group keeps) inside) ++ map hole_to_bind
      (filter keeps others)

-- ---- by the option

-- the cut, with groups or without
abbrev pub IsCutBy : Bool → Hand → (List Step → Bool) → List Step → List Contour → Type 0
IsCutBy true filled keeps selected contours = IsCutInGroups filled keeps selected contours
IsCutBy false filled keeps selected contours = IsCut filled keeps selected contours
