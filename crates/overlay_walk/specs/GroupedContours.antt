-- Contours with roles, as whole numbers, and groups of walks.
use Rattle.std.specs.Prelude.{◌≡◌, ℕ, Bool, false, ℤ, List, [], ◌∷◌, ◌++◌, map}
use Rattle.std.specs.List.{AllZip, flat_map}
use Rattle.overlay_geom.specs.Plane.{Step}
use Rattle.overlay_plane.specs.Contours.{IsCutInto}
use Rattle.overlay_plane.specs.RoledContours.{Role, outline, own_hole, free_hole, Contour, outline_of, hole_of_group}
use Rattle.overlay_plane.specs.RoledContours.{kept_group, group_contours_from}
use Rattle.overlay_plane.specs.Turn.{Hand}
use Rattle.overlay_walk.specs.declared.contour.Role.{Role as RoleTaken}
use Rattle.overlay_walk.specs.declared.contour.Role.TheVariants.{Outline, OwnHole, FreeHole}
use Rattle.overlay_walk.specs.declared.contour.Contour.{Contour as ContourTaken}
use Rattle.overlay_walk.specs.Steps.{plain_steps}

-- the role
abbrev pub plain_role : RoleTaken → Role
plain_role (Outline n) = outline n
plain_role (OwnHole n) = own_hole n
plain_role FreeHole = free_hole

-- the contour for a contour of the program, its walk alone, and the contours of a list
abbrev pub plain_contour : {I A : Type 0} → (I → ℤ) → ContourTaken I A → Contour
plain_contour whole c = record { role = plain_role c.role; steps = plain_steps whole c.steps.items }

abbrev pub walk_of : {I A : Type 0} → (I → ℤ) → ContourTaken I A → List Step
walk_of whole c = plain_steps whole c.steps.items

abbrev pub plain_contours : {I A : Type 0} → (I → ℤ) → List (ContourTaken I A) → List Contour
plain_contours whole cs = map (plain_contour whole) cs

-- there is a first walk, and it passes the test
abbrev pub first_reaches : (List Step → Bool) → List (List Step) → Bool
first_reaches keeps [] = false
first_reaches keeps (o ∷ hs) = keeps o

-- the walks of a group as contours: the outline of the n-th shape, and holes of its group
abbrev pub contours_of_group : ℕ → List (List Step) → List Contour
contours_of_group n [] = []
contours_of_group n (o ∷ hs) = outline_of n o ∷ map (hole_of_group n) hs

-- the walks of a group are added to contours, if the first passes the test, as those of the n-th shape that pass it
pub record AddsGroup (keeps : List Step → Bool) (n : ℕ) (walks : List (List Step)) (is_kept : Bool)
    (old new : List Contour) : Type 0 where
  pub told : is_kept ≡ first_reaches keeps walks
  pub added : new ≡ old ++ group_contours_from n (kept_group keeps walks)

-- the walks of a group by the hand are added so
pub record AddsCutGroup (hand : Hand) (keeps : List Step → Bool) (n : ℕ) (group : List Step) (is_kept : Bool)
    (old new : List Contour) : Type 0 where
  pub walks : List (List Step)
  pub cut : IsCutInto (λ s. hand) group walks
  pub adds : AddsGroup keeps n walks is_kept old new

-- the contours are those of groups by the hand: outlines that pass the test, numbered from 0 on, each with the holes of
-- its group that pass it
pub record AreCutFromGroups (hand : Hand) (keeps : List Step → Bool) (groups : List (List Step))
    (contours : List Contour) : Type 0 where
  pub inside : List (List (List Step))
  pub cut_inside : AllZip (λ g ws. IsCutInto (λ s. hand) g ws) groups inside
  pub are : contours ≡ group_contours_from 0 (flat_map (kept_group keeps) inside)
