-- The selected steps of a content, and the walks that they are cut into, lead between different points in range.
use Rattle.std.proofs.Common.{ℕ, Bool, true, false, ℤ, List, All, sym, subst}
use Rattle.std.proofs.lemmas.List.Elements.{All-contains, All-map, All-weaker}
use Rattle.overlay_geom.specs.Plane.{Step, points_of}
use Rattle.overlay_geom.specs.Edges.{CountedEdge, ends_of}
use Rattle.overlay_geom.specs.Points.{InRange, AllInRange}
use Rattle.overlay_plane.specs.Binding.{AreCutFrom}
use Rattle.overlay_plane.specs.SelectedSteps.{step_with_left, selected_steps}
use Rattle.overlay_plane.specs.Turn.{Hand}
use Rattle.overlay_plane.proofs.Entries.{all_of_entries}
use Rattle.overlay_plane.proofs.SameWay.{ends_differ}
use Rattle.overlay_plane.proofs.SelectedLists.{selected_steps_of_edges}
use Rattle.overlay_plane.proofs.WalksOfCuts.{walk_of_a_cut}
use Rattle.overlay_order.specs.Content.{IsHeld, IsContent}
use Rattle.overlay_walk.specs.Steps.{IsLong}

-- the two steps along an edge that is held
step_is_long : (limit : ℕ) (e : CountedEdge) → IsHeld limit e →
    (above : Bool) → IsLong limit (step_with_left above (ends_of e))
step_is_long limit e held true = record {
  from_in_range = held.a_in_range;
  to_in_range = held.b_in_range;
  apart = ends_differ (ends_of e) held.forward;
}
step_is_long limit e held false = record {
  from_in_range = held.b_in_range;
  to_in_range = held.a_in_range;
  apart = λ same. ends_differ (ends_of e) held.forward (sym same);
}

-- the selected steps
pub selected_are_long : (limit : ℕ) (es : List CountedEdge) → IsContent limit es →
    (holds : ℤ → ℤ → Bool) (subj clip : CountedEdge → ℤ)
    (filled : Hand) → All (IsLong limit) (selected_steps holds subj clip filled es)
selected_are_long limit es content holds subj clip filled =
    all_of_entries (IsLong limit) (selected_steps holds subj clip filled es) (λ s c.
    let own = (selected_steps_of_edges holds subj clip filled es).selected s c in
    subst (λ t. IsLong limit t) (sym own.1.walks)
    (step_is_long limit own.0 (All-contains (IsHeld limit) es own.0 content.held own.1.entry) _))

-- the steps of their walks are long
pub walks_are_long : (limit : ℕ) (es : List CountedEdge) → IsContent limit es →
    (holds : ℤ → ℤ → Bool) (subj clip : CountedEdge → ℤ)
    (filled : Hand) (walks : List (List Step)) → AreCutFrom holds subj clip es filled walks →
    All (All (IsLong limit)) walks
walks_are_long limit es content holds subj clip filled walks cut = all_of_entries (All (IsLong limit)) walks (λ w c.
    let own = walk_of_a_cut holds subj clip es filled cut.ruled walks cut.cut w c in
    all_of_entries (IsLong limit) w (λ s d. All-contains (IsLong limit) (selected_steps holds subj clip filled es) s
    (selected_are_long limit es content holds subj clip filled) (own.inside s (own.within s d))))

-- ---- points

-- the points at which long steps begin are in range
pub points_in_range : (limit : ℕ) (ss : List Step) → All (IsLong limit) ss → AllInRange limit (points_of ss)
points_in_range limit ss long = All-map (InRange limit) (λ (s : Step). s.from) ss
    (All-weaker (IsLong limit) (λ s. InRange limit s.from) (λ s h. h.from_in_range) ss long)
