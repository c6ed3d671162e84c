-- Places of a list of steps: open places, the steps at places, and the order of places by the starts of edges.
use Rattle.std.specs.Prelude.{◌≡◌, ℕ, ◌<◌, ◌≤◌, Bool, true, false, not, ◌&&◌, ◌||◌, List, length, slice_index_or}
use Rattle.std.specs.Prelude.{Option, Some, None, All, AllPairs, Contains}
use Rattle.overlay_geom.specs.Plane.{Step, Edge, point_lt, point_eq, edge_of}
use Rattle.overlay_plane.specs.Nodes.{turns_left}
use Rattle.overlay_plane.specs.Turn.{Hand, is_met_before, no_step}

-- no walk has taken the step at the place
abbrev pub is_open : List Bool → ℕ → Bool
is_open marks k = not (slice_index_or marks k true)

-- the step at a place
abbrev pub step_at : List Step → ℕ → Step
step_at ss k = slice_index_or ss k no_step

-- the edge e comes before f, top first: it starts in a smaller point, or in the same point and leads to the left of f
abbrev pub comes_top_first : Edge → Edge → Bool
comes_top_first e f = point_lt e.a f.a || (point_eq e.a f.a && turns_left f e)

-- the edge of the step at place j comes so before that of the step at place k
abbrev pub is_place_top_first : List Step → ℕ → ℕ → Bool
is_place_top_first ss j k = comes_top_first (edge_of (step_at ss j)) (edge_of (step_at ss k))

-- all places below n are in the list
abbrev pub HasBelow : ℕ → List ℕ → Type 0
HasBelow n places = (k : ℕ) → k < n → Contains places k

-- they are in the list, and no other places
pub record HasPlaces (n : ℕ) (places : List ℕ) : Type 0 where
  pub within : All (λ k. k < n) places
  pub all : HasBelow n places

-- the places of the steps, sorted by the starts of their edges, top first
pub record ArePlacesTopFirst (ss : List Step) (places : List ℕ) : Type 0 where
  pub within : All (λ k. k < length ss) places
  pub all : (k : ℕ) → k < length ss → Contains places k
  pub order : AllPairs (λ j k. is_place_top_first ss k j ≡ false) places

-- none of the first n places in the list is open
pub record ArePassed (marks : List Bool) (places : List ℕ) (n : ℕ) : Type 0 where
  pub within : n ≤ length places
  pub shut : (i : ℕ) → i < n → is_open marks (slice_index_or places i 0) ≡ false

-- the place of the open step that leaves the end of s and is met first, by a ray that turns there by the hand
pub record IsNextAt (ss : List Step) (marks : List Bool) (hand : Hand) (s : Step) (m : ℕ) : Type 0 where
  pub below : m < length ss
  pub untaken : is_open marks m ≡ true
  pub leaves : (step_at ss m).from ≡ s.to
  pub first : (k : ℕ) → k < length ss → is_open marks k ≡ true → (step_at ss k).from ≡ s.to →
      is_met_before hand s.to s.from (step_at ss k).to (step_at ss m).to ≡ false

-- that place, or none where no open step leaves the end of s
abbrev pub IsNextPlace : List Step → List Bool → Hand → Step → Option ℕ → Type 0
IsNextPlace ss marks hand s None = (k : ℕ) → k < length ss → is_open marks k ≡ true → ¬ ((step_at ss k).from ≡ s.to)
IsNextPlace ss marks hand s (Some m) = IsNextAt ss marks hand s m
