-- The region where a rule holds of two windings, and the signs of the edges across which it changes.
use Rattle.std.specs.Prelude.{◌≡◌, Bool, true, false, cond, ℤ, pos, ◌-ℤ◌, ◌<ℤ◌, List, Contains, AllPairs}
use Rattle.overlay_geom.specs.Plane.{PlanePoint, Edge, edge_eq, total}
use Rattle.overlay_geom.specs.Edges.{CountedEdge, ends_of, winding_by, winding_below, winding_above}
use Rattle.overlay_geom.specs.Settled.{IsSettled}
use Rattle.overlay_plane.specs.Heights.{covers, is_under}
use Rattle.overlay_plane.specs.Windings.{total_under}
use Rattle.overlay_plane.specs.EdgeLists.{IsForwardBy, IsBalanced}

-- 1 where the test passes, 0 where it fails
abbrev pub one_if : Bool → ℤ
one_if t = cond t (pos 1) (pos 0)

-- the rule holds of the windings above the edge, and of the windings below it
abbrev pub holds_above : (ℤ → ℤ → Bool) → (subj clip : CountedEdge → ℤ) → List CountedEdge → CountedEdge → Bool
holds_above holds subj clip es e = holds (winding_above subj es e) (winding_above clip es e)

abbrev pub holds_below : (ℤ → ℤ → Bool) → (subj clip : CountedEdge → ℤ) → List CountedEdge → CountedEdge → Bool
holds_below holds subj clip es e = holds (winding_below subj es e) (winding_below clip es e)

-- 1 for an edge where the rule holds above alone, -1 where it holds below alone, else 0
abbrev pub selected_sign : (ℤ → ℤ → Bool) → (subj clip : CountedEdge → ℤ) → List CountedEdge → CountedEdge → ℤ
selected_sign holds subj clip es e =
    one_if (holds_above holds subj clip es e) -ℤ one_if (holds_below holds subj clip es e)

-- no two entries of the list have equal ends
abbrev pub HasDistinctEnds : List CountedEdge → Type 0
HasDistinctEnds es = AllPairs (λ e f. edge_eq (ends_of e) (ends_of f) ≡ false) es

-- the edges lead forward, meet in ends alone, and no two have equal ends
pub record IsPlanar (es : List CountedEdge) : Type 0 where
  pub forward : IsForwardBy ends_of es
  pub settled : IsSettled es
  pub distinct : HasDistinctEnds es

-- the test takes entries whose edges cover the x-coordinate, and with each of them all entries under it
pub record TakesDownward {X : Type 0} (ends : X → Edge) (xs : List X) (x d : ℤ) (taken : X → Bool) : Type 0 where
  pub over : (e : X) → Contains xs e → taken e ≡ true → covers (ends e) x d ≡ true
  pub downward : (e f : X) → Contains xs e → Contains xs f → taken e ≡ true → covers (ends f) x d ≡ true →
      is_under (ends f) (ends e) x d ≡ true → taken f ≡ true

-- a planar list with balanced counts, and a rule that fails for two windings 0
pub record IsRuled (holds : ℤ → ℤ → Bool) (subj clip : CountedEdge → ℤ) (es : List CountedEdge) : Type 0 where
  pub planar : IsPlanar es
  pub subj_balanced : IsBalanced ends_of subj es
  pub clip_balanced : IsBalanced ends_of clip es
  pub none : holds (pos 0) (pos 0) ≡ false

-- the sum of the numbers that f gives to the entries taken
abbrev pub total_taken : {X : Type 0} → (X → Bool) → (X → ℤ) → List X → ℤ
total_taken taken f xs = total (λ x. cond (taken x) (f x) (pos 0)) xs

-- takes edges over an x-coordinate, with each of them all under it. Their signs add up to 1 if the rule holds of the
-- sums of their counts, else to 0
abbrev pub RegionOverEdgesTaken : Type 0
RegionOverEdgesTaken = (holds : ℤ → ℤ → Bool) (subj clip : CountedEdge → ℤ) (es : List CountedEdge) →
    IsRuled holds subj clip es →
    (x d : ℤ) → pos 0 <ℤ d → (taken : CountedEdge → Bool) → TakesDownward ends_of es x d taken →
    total_taken taken (selected_sign holds subj clip es) es ≡ one_if
    (holds (total_taken taken subj es) (total_taken taken clip es))

-- the signs of the edges strictly below a point add up to 1 where the rule holds of the windings at the point, else to
-- 0
abbrev pub RegionFromSelectedSigns : Type 0
RegionFromSelectedSigns = (holds : ℤ → ℤ → Bool) (subj clip : CountedEdge → ℤ) (es : List CountedEdge) →
    IsRuled holds subj clip es → (p : PlanePoint) →
    winding_by (selected_sign holds subj clip es) es p ≡ one_if (holds (winding_by subj es p) (winding_by clip es p))

-- the signs of the edges under an edge, at an x-coordinate that it covers, add up to 1 where the rule holds below the
-- edge, else to 0
abbrev pub RegionBelowAnEdge : Type 0
RegionBelowAnEdge = (holds : ℤ → ℤ → Bool) (subj clip : CountedEdge → ℤ) (es : List CountedEdge) →
    IsRuled holds subj clip es →
    (e : CountedEdge) → Contains es e → (x d : ℤ) → pos 0 <ℤ d → covers (ends_of e) x d ≡ true →
    total_under ends_of (selected_sign holds subj clip es) es (ends_of e) x d ≡
    one_if (holds_below holds subj clip es e)
