-- Numbers found below walks, each by the walk with the next edge below its anchor. Edges filled above give the shape
-- that a hole belongs to: that of the outline with that edge, or of the hole with it. Edges filled below give the hole
-- round an island; they are the edges filled above by the other hand.
use Rattle.std.specs.Prelude.{◌≡◌, ℕ, ◌==◌, Bool, true, false, ℤ}
use Rattle.std.specs.Prelude.{List, [], ◌∷◌, map, filter, All, Contains, slice_get, slice_index_or, Option, Some, None}
use Rattle.std.specs.List.{flat_map}
use Rattle.overlay_geom.specs.Plane.{Step, Edge, edge_of}
use Rattle.overlay_geom.specs.Edges.{CountedEdge}
use Rattle.overlay_plane.specs.Regions.{IsRuled}
use Rattle.overlay_plane.specs.SelectedSteps.{selected_steps}
use Rattle.overlay_plane.specs.Contours.{is_filled_above, outline_or_hole_hand, IsCutInto, IsContour}
use Rattle.overlay_plane.specs.Anchors.{IsAnchor, IsNextBelow, is_below_anchor, is_anchored_before}
use Rattle.overlay_plane.specs.Turn.{Hand}

-- the walk is a hole: it begins with an edge that is filled above
abbrev pub is_hole : Hand → List Step → Bool
is_hole filled [] = false
is_hole filled (s ∷ ss) = is_filled_above filled s

-- the filled-above edges of a walk, and those of all walks
abbrev pub filled_above_edges : Hand → List Step → List Edge
filled_above_edges filled walk = map edge_of (filter (is_filled_above filled) walk)

abbrev pub all_filled_above : Hand → List (List Step) → List Edge
all_filled_above filled walks = flat_map (filled_above_edges filled) walks

-- ---- numbers found below walks

-- next is the walk with the next filled-above edge below the walk's anchor
pub record IsNextWalk (filled : Hand) (walks : List (List Step)) (walk next : List Step) : Type 0 where
  pub anchor : Edge
  pub anchored : IsAnchor walk anchor
  pub edge : Edge
  pub next_below : IsNextBelow (all_filled_above filled walks) anchor edge
  pub kept : Contains walks next
  pub has : Contains (filled_above_edges filled next) edge

-- no filled-above edge of the walks is below the walk's anchor
pub record HasNoneBelow (filled : Hand) (walks : List (List Step)) (walk : List Step) : Type 0 where
  pub anchor : Edge
  pub anchored : IsAnchor walk anchor
  pub none : (f : Edge) → Contains (all_filled_above filled walks) f → is_below_anchor anchor f ≡ false

-- the walk at place j is the next walk of the walk at place i
pub record HasNextAt (filled : Hand) (walks : List (List Step)) (i j : ℕ) : Type 0 where
  pub walk : List Step
  pub at : slice_get walks i ≡ Some walk
  pub next : List Step
  pub next_at : slice_get walks j ≡ Some next
  pub is_next : IsNextWalk filled walks walk next

-- some walks have known numbers, and each other walk takes the number of its next walk. This number, or none, is found
-- for the walk at place i. None is found where no edge is below it, or where none is found for its next walk
pub data IsFoundBelow (filled : Hand) (walks : List (List Step)) (known : List (Option ℕ)) : ℕ → Option ℕ → Type 0 where
  nothing : {i : ℕ} (walk : List Step) → slice_get walks i ≡ Some walk → HasNoneBelow filled walks walk →
      IsFoundBelow filled walks known i None
  direct : {i j n : ℕ} → HasNextAt filled walks i j → slice_index_or known j None ≡ Some n →
      IsFoundBelow filled walks known i (Some n)
  through : {i j : ℕ} {found : Option ℕ} → HasNextAt filled walks i j → slice_index_or known j None ≡ None →
      IsFoundBelow filled walks known j found →
      IsFoundBelow filled walks known i found

-- ---- shapes

-- the number is the one in the option
abbrev pub is_number : ℕ → Option ℕ → Bool
is_number n None = false
is_number n (Some m) = m == n

-- the walks of all shapes
abbrev pub walks_of : List (List (List Step)) → List (List Step)
walks_of shapes = flat_map (λ shape. shape) shapes

-- ---- laws

-- the walks are a cut of the selected steps of a ruled list
pub record AreCutFrom (holds : ℤ → ℤ → Bool) (subj clip : CountedEdge → ℤ) (es : List CountedEdge) (filled : Hand)
    (walks : List (List Step)) : Type 0 where
  pub ruled : IsRuled holds subj clip es
  pub cut : IsCutInto (outline_or_hole_hand filled) (selected_steps holds subj clip filled es) walks

-- each hole has a next filled-above edge below it
abbrev pub HolesHaveNext : Type 0
HolesHaveNext = (holds : ℤ → ℤ → Bool) (subj clip : CountedEdge → ℤ) (es : List CountedEdge) (filled : Hand)
    (walks : List (List Step)) →
    AreCutFrom holds subj clip es filled walks → (hole : List Step) → Contains walks hole →
    is_hole filled hole ≡ true →
    (next : List Step) × IsNextWalk filled walks hole next

-- where the walks are contours, the next walk of a hole is anchored before the hole
abbrev pub NextIsAnchoredBefore : Type 0
NextIsAnchoredBefore = (filled : Hand) (walks : List (List Step)) → All IsContour walks → (hole next : List Step) →
    Contains walks hole →
    (n : IsNextWalk filled walks hole next) → (e : Edge) → IsAnchor next e → is_anchored_before e n.anchor ≡ true
