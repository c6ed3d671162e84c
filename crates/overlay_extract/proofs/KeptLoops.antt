-- What is kept of filled loops: it leads between different points in range, and can be bound.
use Rattle.std.proofs.Common.{ℕ, List, All, Contains, sym, subst}
use Rattle.std.proofs.lemmas.List.Elements.{All-contains}
use Rattle.overlay_geom.specs.Plane.{Step}
use Rattle.overlay_geom.specs.Edges.{CountedEdge, subj_of}
use Rattle.overlay_geom.specs.Rules.{is_filled}
use Rattle.overlay_geom.specs.declared.fill_rule.FillRule.{FillRule}
use Rattle.overlay_plane.specs.Balance.{HasBalancedCounts}
use Rattle.overlay_plane.specs.BoundContours.{walks_in}
use Rattle.overlay_plane.specs.Contours.{all_steps}
use Rattle.overlay_plane.specs.KeptContours.{CanBeBound}
use Rattle.overlay_plane.specs.MinimumArea.{reaches}
use Rattle.overlay_plane.specs.RoledContours.{Contour}
use Rattle.overlay_plane.specs.Turn.Hand.{left}
use Rattle.overlay_plane.proofs.Entries.{all_of_entries, Contains-flat_map}
use Rattle.overlay_graph.specs.Graphs.{IsArrangement}
use Rattle.overlay_extract.specs.FilledSides.{filled_sides}
use Rattle.overlay_extract.specs.Loops.{AreLoops}
use Rattle.overlay_extract.specs.Slices.{AreSliceContours}
use Rattle.overlay_extract.proofs.BoundLoops.{loops_can_be_bound}
use Rattle.overlay_extract.proofs.SidesByBits.{balanced_arrangement, sides_are_long}
use Rattle.overlay_walk.specs.Steps.{IsLong}

-- the steps of loops are filled sides, and lead between different points in range
pub loops_long : (limit : ℕ) (fill : FillRule) (es : List CountedEdge) → IsArrangement limit es →
    HasBalancedCounts es → (loops : List (List Step)) → AreLoops (filled_sides (is_filled fill) subj_of es) loops →
    All (All (IsLong limit)) loops
loops_long limit fill es arranged balanced loops are = all_of_entries (All (IsLong limit)) loops (λ l c.
    all_of_entries (IsLong limit) l (λ s d. All-contains (IsLong limit) (filled_sides (is_filled fill) subj_of es) s
    (sides_are_long limit fill es arranged balanced)
    (All-contains (Contains (filled_sides (is_filled fill) subj_of es)) (all_steps loops) s are.are_sides
    (Contains-flat_map (λ (m : List Step). m) loops l s c d))))

-- the contours can be bound
pub slices_can_be_bound : (limit : ℕ) (width : _) (min : ℕ) (fill : FillRule) (es : List CountedEdge) →
    IsArrangement limit es → HasBalancedCounts es → (contours : List Contour) →
    AreSliceContours width min fill es contours → CanBeBound left (walks_in contours)
slices_can_be_bound limit width min fill es arranged balanced contours are = subst (CanBeBound left) (sym are.kept)
    (loops_can_be_bound (is_filled fill) subj_of es (balanced_arrangement limit es arranged balanced) are.loops are.cut
    (reaches width min))
