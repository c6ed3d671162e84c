-- A ray that turns round a node, and the point of a list that it meets first.
use Rattle.std.specs.Prelude.{◌≡◌, ℕ, false, Option, None, Some, List, [], ◌∷◌, ◌++◌, All}
use Rattle.overlay_geom.specs.Plane.{Point}
use Rattle.overlay_plane.specs.Turn.{Hand, is_met_before, IsMetBefore}
use Rattle.overlay_walk.specs.declared.nearest.TurnPart.{TurnPart}
use Rattle.overlay_walk.specs.declared.nearest.TurnPart.TheVariants.{FirstHalf, Ahead, SecondHalf, Again}

-- the parts of a turn, numbered
abbrev pub part_number : TurnPart → ℕ
part_number FirstHalf = 0
part_number Ahead = 1
part_number SecondHalf = 2
part_number Again = 3

-- a ray at v that turns by the hand from u meets p first of the points of a list. It meets p before each point ahead of
-- p in the list, and none of the points behind p before p
pub record IsMetFirst (hand : Hand) (v u : Point) (ps : List Point) (p : Point) : Type 0 where
  pub front : List Point
  pub back : List Point
  pub stands : ps ≡ front ++ p ∷ back
  pub before : All (IsMetBefore hand v u p) front
  pub not_after : All (λ q. is_met_before hand v u q p ≡ false) back

-- the point of the list that the ray meets first, or none where the list is empty
abbrev pub IsNearestOf : Hand → Point → Point → List Point → Option Point → Type 0
IsNearestOf hand v u ps None = ps ≡ []
IsNearestOf hand v u ps (Some p) = IsMetFirst hand v u ps p

-- the ray at the node, by the hand from the direction of the start, and the point held
pub record Nearest : Type 0 where
  pub hand : Hand
  pub node : Point
  pub start : Point
  pub nearest : Option Point

-- the ray with no point held
abbrev pub none_held : Hand → Point → Point → Nearest
none_held hand node start = record { hand = hand; node = node; start = start; nearest = None }

-- the ray has a direction, and the point held is the point of the list that it meets first
pub record HasSeen (n : Nearest) (ps : List Point) : Type 0 where
  pub apart : ¬ (n.start ≡ n.node)
  pub nearest : IsNearestOf n.hand n.node n.start ps n.nearest

-- the ray meets p before each point of the list
abbrev pub IsNearer : Nearest → List Point → Point → Type 0
IsNearer n ps p = All (IsMetBefore n.hand n.node n.start p) ps
