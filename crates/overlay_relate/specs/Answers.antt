-- Answers to queries, one for each, in their order.
use Rattle.std.specs.Prelude.{◌≡◌, ℕ, ◌<◌, Bool, List, length, slice_index_or}
use Rattle.overlay_geom.specs.Plane.{Point, PlanePoint, Edge, in_plane, IsOff}
use Rattle.overlay_relate.specs.declared.location.PointLocation.{PointLocation}

-- there are as many answers as queries, and the answer at each place is right of the query there
pub record AnswersEach {X Y : Type 0} (R : X → Y → Type 0) (queries : List X) (answers : List Y) : Type 0 where
  pub counted : length answers ≡ length queries
  pub each : (n : ℕ) (d : X) (e : Y) → n < length queries → R (slice_index_or queries n d) (slice_index_or answers n e)

-- the answers tell where each query lies
abbrev pub AnswersWhere : (PlanePoint → PointLocation → Type 0) → List Point → List PointLocation → Type 0
AnswersWhere IsAt queries answers = AnswersEach (λ q l. IsAt (in_plane q) l) queries answers

-- the answers tell of each query that is on none of the edges whether it is inside
abbrev pub AnswersWhether : List Edge → (PlanePoint → Bool) → List Point → List Bool → Type 0
AnswersWhether es is_inside queries answers = AnswersEach (λ q t. IsOff es (in_plane q) → t ≡ is_inside (in_plane q))
    queries answers
