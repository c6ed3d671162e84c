-- Contents with balanced counts, for the subject and for the clip, and the operations that keep them: adding contours,
-- joining lists, merging edges.
use Rattle.std.specs.Prelude.{◌≡◌, Bool, ℤ, ◌-ℤ◌, ◌*ℤ◌, List, [], ◌∷◌, ◌++◌, map}
use Rattle.overlay_geom.specs.Plane.{Point, edge_of, sign_of, steps_through, steps_of, total}
use Rattle.overlay_geom.specs.Edges.{CountedEdge, ends_of, subj_of, clip_of, subject_edge, clip_edge, AddsContour}
use Rattle.overlay_geom.specs.Merged.{IsMerged}
use Rattle.overlay_plane.specs.EdgeLists.{IsBalanced}

-- the counts of the subject are balanced, and so are those of the clip
pub record HasBalancedCounts (es : List CountedEdge) : Type 0 where
  pub subj : IsBalanced ends_of subj_of es
  pub clip : IsBalanced ends_of clip_of es

-- along a chain of steps from u to w, the rises of a number given to each point add up to its rise from u to w
abbrev pub ChainsTelescope : Type 0
ChainsTelescope = (g : Point → ℤ) (u : Point) (vs : List Point) (w : Point) →
    total (λ s. sign_of s *ℤ (g (edge_of s).b -ℤ g (edge_of s).a)) (steps_through u (vs ++ w ∷ [])) ≡ g w -ℤ g u

-- the steps of a closed contour are balanced
abbrev pub ContoursAreBalanced : Type 0
ContoursAreBalanced = (ps : List Point) → IsBalanced edge_of sign_of (steps_of ps)

-- the counted edges of a contour's steps have balanced counts, for a subject and for a clip
pub record AddedContoursAreBalanced : Type 0 where
  pub subject : (ps : List Point) → HasBalancedCounts (map subject_edge (steps_of ps))
  pub clip : (ps : List Point) → HasBalancedCounts (map clip_edge (steps_of ps))

-- a list without edges has balanced counts, and two joined lists have them where both do
pub record JoiningKeepsBalance : Type 0 where
  pub none : HasBalancedCounts []
  pub both : (es fs : List CountedEdge) → HasBalancedCounts es → HasBalancedCounts fs → HasBalancedCounts (es ++ fs)

-- a content with an added contour keeps balanced counts, whether the contour is a subject's or a clip's
pub record AddingKeepsBalance : Type 0 where
  pub subject : (keep : Bool) (given : List Point) (old new : List CountedEdge) →
      AddsContour keep subject_edge given old new →
      HasBalancedCounts old → HasBalancedCounts new
  pub clip : (keep : Bool) (given : List Point) (old new : List CountedEdge) →
      AddsContour keep clip_edge given old new →
      HasBalancedCounts old → HasBalancedCounts new

-- a merged list keeps balanced counts
abbrev pub MergingKeepsBalance : Type 0
MergingKeepsBalance = (old new : List CountedEdge) → IsMerged old new → HasBalancedCounts old → HasBalancedCounts new
