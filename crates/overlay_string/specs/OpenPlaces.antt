-- Places of open pieces in a list.
use Rattle.std.specs.Prelude.{◌≡◌, ◌≢◌, ℕ, suc, ◌<◌, Bool, true, false, List, [], length, take, drop, map}
use Rattle.std.specs.Prelude.{slice_index_or}
use Rattle.std.specs.Prelude.{Option, Some, None, All}
use Rattle.overlay_geom.specs.Plane.{Point, Step}
use Rattle.overlay_plane.specs.Turn.{no_step}
use Rattle.overlay_walk.specs.Steps.{unmarked}
use Rattle.overlay_string.specs.Pieces.{turned}
use Rattle.overlay_string.specs.declared.piece.Way.{Way}

-- the piece at a place
abbrev pub piece_at : List Step → ℕ → Step
piece_at ss k = slice_index_or ss k no_step

-- the open entries before a place, and behind it
abbrev pub open_before : {X : Type 0} → List X → List Bool → ℕ → List X
open_before xs marks k = unmarked (take k xs) (take k marks)

abbrev pub open_behind : {X : Type 0} → List X → List Bool → ℕ → List X
open_behind xs marks k = unmarked (drop (suc k) xs) (drop (suc k) marks)

-- the piece at the place is open
pub record IsOpenPlace (ss : List Step) (marks : List Bool) (k : ℕ) : Type 0 where
  pub within : k < length ss
  pub open_there : slice_index_or marks k true ≡ false

-- and the first one
pub record IsFirstOpen (ss : List Step) (marks : List Bool) (k : ℕ) : Type 0 where
  pub place : IsOpenPlace ss marks k
  pub first : open_before ss marks k ≡ []

-- none is open, or this is the first one
abbrev pub IsFirstPlace : List Step → List Bool → Option ℕ → Type 0
IsFirstPlace ss marks None = unmarked ss marks ≡ []
IsFirstPlace ss marks (Some k) = IsFirstOpen ss marks k

-- none of the pieces begins at v, seen on the way
abbrev pub NoneBeginsAt : Way → Point → List Step → Type 0
NoneBeginsAt way v ss = All (λ t. t.from ≢ v) (map (turned way) ss)

-- the piece at the place is the first open one that begins at v
pub record IsFirstOpenAt (way : Way) (v : Point) (ss : List Step) (marks : List Bool) (k : ℕ) : Type 0 where
  pub place : IsOpenPlace ss marks k
  pub begins : (turned way (piece_at ss k)).from ≡ v
  pub first : NoneBeginsAt way v (open_before ss marks k)

-- no open one begins there, or this is the first one
abbrev pub IsFirstPlaceAt : Way → Point → List Step → List Bool → Option ℕ → Type 0
IsFirstPlaceAt way v ss marks None = NoneBeginsAt way v (unmarked ss marks)
IsFirstPlaceAt way v ss marks (Some k) = IsFirstOpenAt way v ss marks k
