-- Pieces, seen on a way, as steps whose numbers are the places of the pieces, and their order by where they begin;
-- what is kept of pieces of which some are open.
use Rattle.std.specs.Prelude.{◌≡◌, ◌⊎◌, ℕ, ◌<◌, ◌≤◌, Bool, true, false, ℤ, List, [], length, map, slice_index_or}
use Rattle.std.specs.Prelude.{Option, Some, None, All, AllPairs, Contains}
use Rattle.std.specs.List.Sorted.{IsPartitionPoint}
use Rattle.overlay_geom.specs.Plane.{Point, Step, point_lt}
use Rattle.overlay_walk.specs.Steps.{plain_step, plain_steps, IsByFrom}
use Rattle.overlay_walk.specs.declared.step.Step.{Step as StepTaken}
use Rattle.overlay_string.specs.OpenPlaces.{piece_at, open_before}
use Rattle.overlay_string.specs.Pieces.{turned}
use Rattle.overlay_string.specs.declared.piece.Way.{Way}
use Rattle.overlay_string.specs.declared.piece.Way.TheVariants.{Onward, Back}

-- the step is the piece at the place that it has as its number, seen on the way
pub record IsPieceAt {I : Type 0} (whole : I → ℤ) (way : Way) (ss : List Step) (t : StepTaken I) : Type 0 where
  pub below : t.edge < length ss
  pub along : plain_step whole t ≡ turned way (piece_at ss t.edge)

-- the steps are the first n pieces, in their order
pub record AreNumbered {I : Type 0} (whole : I → ℤ) (way : Way) (ss : List Step) (n : ℕ) (ts : List (StepTaken I))
    : Type 0 where
  pub many : length ts ≡ n
  pub pieces : All (IsPieceAt whole way ss) ts
  pub numbered : (i : ℕ) (d : StepTaken I) → i < n → (slice_index_or ts i d).edge ≡ i

-- no step leaves a smaller point than a step before it, and those that leave one point have numbers that rise
pub record AreInOrder {I : Type 0} (whole : I → ℤ) (ts : List (StepTaken I)) : Type 0 where
  pub leaving : IsByFrom (plain_steps whole ts)
  pub rising : AllPairs (λ s t. (plain_step whole s).from ≡ (plain_step whole t).from → s.edge ≤ t.edge) ts

-- before the place the steps leave smaller points than v, and from it on none does
abbrev pub IsRunStart : {I : Type 0} → (I → ℤ) → Point → List (StepTaken I) → ℕ → Type 0
IsRunStart whole v ts low = IsPartitionPoint (λ t. point_lt (plain_step whole t).from v ≡ true)
    (λ t. point_lt (plain_step whole t).from v ≡ false) ts low

-- the steps are all the pieces, in that order
pub record AreByStart {I : Type 0} (whole : I → ℤ) (way : Way) (ss : List Step) (ts : List (StepTaken I))
    : Type 0 where
  pub pieces : All (IsPieceAt whole way ss) ts
  pub all : (k : ℕ) → k < length ss → Contains (map (λ t. t.edge) ts) k
  pub order : AreInOrder whole ts

-- they are that, or there are none yet
abbrev pub AreByStartIfAny : {I : Type 0} → (I → ℤ) → Way → List Step → List (StepTaken I) → Type 0
AreByStartIfAny whole way ss ts = (ts ≡ []) ⊎ AreByStart whole way ss ts

-- the number is the smallest one of those of the steps from v that are not taken
pub record IsFirstNumber {I : Type 0} (whole : I → ℤ) (ts : List (StepTaken I)) (marks : List Bool) (v : Point) (k : ℕ)
    : Type 0 where
  pub step : StepTaken I
  pub stands : Contains ts step
  pub is : step.edge ≡ k
  pub leaves : (plain_step whole step).from ≡ v
  pub open_there : slice_index_or marks k true ≡ false
  pub first : All (λ t. (plain_step whole t).from ≡ v → slice_index_or marks t.edge true ≡ false → k ≤ t.edge) ts

-- or they are all taken
abbrev pub IsFirstFrom : {I : Type 0} → (I → ℤ) → List (StepTaken I) → List Bool → Point → Option ℕ → Type 0
IsFirstFrom whole ts marks v None =
    All (λ t. (plain_step whole t).from ≡ v → slice_index_or marks t.edge true ≡ true) ts
IsFirstFrom whole ts marks v (Some k) = IsFirstNumber whole ts marks v k

-- the pieces with a mark for each, none of them open before the place that is passed, by where they begin and by where
-- they end, once that is looked up
pub record AreOpenPieces {I : Type 0} (whole : I → ℤ) (ss : List Step) (marks : List Bool) (passed : ℕ)
    (onward back : List (StepTaken I)) : Type 0 where
  pub marked : length marks ≡ length ss
  pub passing : open_before ss marks passed ≡ []
  pub leaving : AreByStartIfAny whole Onward ss onward
  pub arriving : AreByStartIfAny whole Back ss back
