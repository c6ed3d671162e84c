-- The filled sides of the pieces that end at the meeting points of edges.
use Rattle.std.specs.Prelude.{◌≡◌, ◌⊎◌, ◌||◌, Bool, true, ℕ, ◌+◌, ◌<◌, ◌≤◌, ℤ, List, ◌++◌, length}
use Rattle.overlay_geom.specs.Edges.{CountedEdge, ends_of}
use Rattle.overlay_geom.specs.Plane.{PlanePoint, SamePlace, in_plane}
use Rattle.overlay_plane.specs.Rounds.{IsSmaller}
use Rattle.overlay_pairs.specs.Places.{IsAt}
use Rattle.overlay_scaled.specs.Pieces.{IsPiece, IsWithinPiece}
use Rattle.overlay_exact.specs.Along.{Met}
use Rattle.overlay_exact.specs.Parts.{LiesAt}
use Rattle.overlay_given.specs.Sides.{sides_at, sides_pass}
use Rattle.overlay_given.specs.declared.sides.FilledSides.{FilledSides}
use Rattle.overlay_given.specs.declared.sides.SidesAtPlace.{SidesAtPlace}
use Rattle.overlay_given.specs.declared.sides.SideTest.{SideTest}
use Rattle.overlay_given.specs.declared.sides.SideTest.TheVariants.{SubjectBorder, ClipBorder}

-- ---- one edge

-- they are those of a piece of e that begins or ends at this place
pub record IsSidesToward (filled : ℤ → Bool) (es : List CountedEdge) (e : CountedEdge) (place : PlanePoint)
    (s : FilledSides) : Type 0 where
  pub from : PlanePoint
  pub to : PlanePoint
  pub inside : PlanePoint
  pub piece : IsPiece es e from to
  pub within : IsWithinPiece e from to inside
  pub at : SamePlace place from ⊎ SamePlace place to
  pub sides : s ≡ sides_at filled es inside

-- they are those of the pieces of e that begin or end where its meeting point m lies
pub record AreSidesAt (filled : ℤ → Bool) (es : List CountedEdge) (e : CountedEdge) (m : Met)
    (a : SidesAtPlace) : Type 0 where
  pub place : PlanePoint
  pub at : LiesAt (ends_of e) m.part place
  pub before : IsSidesToward filled es e place a.before
  pub after : IsSidesToward filled es e place a.after
  pub every : (l n p : PlanePoint) → IsPiece es e l n → IsWithinPiece e l n p →
      SamePlace place l ⊎ SamePlace place n → (sides_at filled es p ≡ a.before) ⊎ (sides_at filled es p ≡ a.after)
  -- a piece leads up to the place, unless e starts there, and one leads on, unless e ends there
  pub comes_up : IsSmaller (in_plane e.a) place → (l : PlanePoint) × IsPiece es e l place
  pub leads_on : IsSmaller place (in_plane e.b) → (n : PlanePoint) × IsPiece es e place n

-- those at the meeting points of e are added, in their order
pub record AddsPlaces (filled : ℤ → Bool) (es : List CountedEdge) (e : CountedEdge) (ms : List Met)
    (old new : List SidesAtPlace) : Type 0 where
  pub added : List SidesAtPlace
  pub after : new ≡ old ++ added
  pub count : length added ≡ length ms
  pub each : (k : ℕ) (m : Met) (a : SidesAtPlace) → IsAt ms k m → IsAt added k a → AreSidesAt filled es e m a

-- one entry is added `count` times
pub record AddsTimes (count : ℕ) (a : SidesAtPlace) (old new : List SidesAtPlace) : Type 0 where
  pub added : List SidesAtPlace
  pub after : new ≡ old ++ added
  pub times : length added ≡ count
  pub each : (k : ℕ) (b : SidesAtPlace) → IsAt added k b → b ≡ a

-- ---- all edges

-- the entries are those at the meeting points of the first n edges, which stand between the starts
pub record ArePlacesBy (filled : ℤ → Bool) (es : List CountedEdge) (n : ℕ) (starts : List ℕ) (ms : List Met)
    (places : List SidesAtPlace) : Type 0 where
  pub last : IsAt starts n (length places)
  pub each : (i s t k : ℕ) (e : CountedEdge) (m : Met) (a : SidesAtPlace) → i < n → IsAt es i e → IsAt starts i s →
      IsAt starts (i + 1) t → s ≤ k → k < t → IsAt ms k m → IsAt places k a → AreSidesAt filled es e m a

-- ---- tests

-- the sides of one of the pieces pass the test
abbrev pub place_passes : SideTest → SidesAtPlace → Bool
place_passes test a = sides_pass test a.before || sides_pass test a.after

-- this is the meeting point at place k, and these are the sides there; the edge at place i has it
pub record IsMetOn (starts : List ℕ) (ms : List Met) (places : List SidesAtPlace) (i k : ℕ) (m : Met)
    (a : SidesAtPlace) : Type 0 where
  pub start : ℕ
  pub end : ℕ
  pub start_at : IsAt starts i start
  pub end_at : IsAt starts (i + 1) end
  pub after : start ≤ k
  pub before : k < end
  pub met : IsAt ms k m
  pub sides : IsAt places k a

-- the starts, meeting points and entries fit each other
pub record AreRangesBy (starts : List ℕ) (ms : List Met) (places : List SidesAtPlace) : Type 0 where
  pub others : (i k : ℕ) (m : Met) (a : SidesAtPlace) → IsMetOn starts ms places i k m a →
      (m.other + 1) < length starts
  pub count : length places ≡ length ms
  pub within : (i t : ℕ) → IsAt starts (i + 1) t → t ≤ length ms

-- at each meeting point of the edges at places j and i, a piece of the first ends that borders the clip alone
abbrev pub AllBorderClip : List ℕ → List Met → List SidesAtPlace → ℕ → ℕ → Type 0
AllBorderClip starts ms places j i = (k : ℕ) (m : Met) (a : SidesAtPlace) → IsMetOn starts ms places j k m a →
    m.other ≡ i → place_passes ClipBorder a ≡ true

-- at some meeting point of the edge at place i, a piece of it ends that borders the subject alone; and one ends that
-- borders the clip alone, or one of the other edge does at each meeting point of the two
pub record SharesOn (starts : List ℕ) (ms : List Met) (places : List SidesAtPlace) (i : ℕ) : Type 0 where
  pub k : ℕ
  pub met : Met
  pub sides : SidesAtPlace
  pub on : IsMetOn starts ms places i k met sides
  pub subject : place_passes SubjectBorder sides ≡ true
  pub clip : (place_passes ClipBorder sides ≡ true) ⊎ AllBorderClip starts ms places met.other i

-- so it is on some edge
abbrev pub SomeShare : List ℕ → List Met → List SidesAtPlace → Type 0
SomeShare starts ms places = (i : ℕ) × SharesOn starts ms places i
