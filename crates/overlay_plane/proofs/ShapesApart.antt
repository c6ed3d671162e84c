-- The shapes to which kept contours are bound can be bound again: their walks are some of the contours, in another
-- order.
use Rattle.std.proofs.Common.{◌≡◌, ℕ, false, Bool, ℤ, List, ◌++◌, All, AllPairs, Contains, Option}
use Rattle.std.proofs.lemmas.List.Elements.{Contains-append_left}
use Rattle.std.proofs.lemmas.List.Sorted.{All-permutation, Contains-permutation, IsPermutation-sym}
use Rattle.overlay_geom.specs.Plane.{Step, edge_eq}
use Rattle.overlay_geom.specs.Edges.{CountedEdge}
use Rattle.overlay_geom.proofs.Orders.{edge_eq-exchanged}
use Rattle.overlay_plane.specs.Anchors.{HasEachEdgeOnce}
use Rattle.overlay_plane.specs.Binding.{filled_above_edges, all_filled_above, walks_of}
use Rattle.overlay_plane.specs.BoundContours.{AreShapesFound, walks_in, contours_bound, shapes_bound}
use Rattle.overlay_plane.specs.ContourNumbers.{AreNumbers}
use Rattle.overlay_plane.specs.Contours.{all_steps, IsContour}
use Rattle.overlay_plane.specs.KeptContours.{CanBeBound, AreKeptContours, KeptShapesCanBeBound}
use Rattle.overlay_plane.specs.RoledContours.{Contour}
use Rattle.overlay_plane.specs.SelectedSteps.{selected_steps}
use Rattle.overlay_plane.specs.Turn.{Hand, other_hand}
use Rattle.overlay_plane.proofs.BoundSteps.{parts_left, walks_left}
use Rattle.overlay_plane.proofs.ContourNumbers.{cut_numbered}
use Rattle.overlay_plane.proofs.Entries.{All-first}
use Rattle.overlay_plane.proofs.KeptContours.{can_be_bound}
use Rattle.overlay_plane.proofs.KeptWalks.{Each-first}
use Rattle.overlay_plane.proofs.LaterEntries.{Each-from_all_pairs, AllPairs-from_each}
use Rattle.overlay_plane.proofs.ShuffledPairs.{pairs_shuffled}

module _ (holds : ℤ → ℤ → Bool) (subj clip : CountedEdge → ℤ) (es : List CountedEdge) (filled : Hand)
    (in_groups : Bool) (keeps : List Step → Bool) (contours : List Contour)
    (kept : AreKeptContours holds subj clip es filled in_groups keeps contours)
    (shapes : List (Option ℕ)) (found : AreShapesFound filled contours shapes) where
  abbrev walks : List (List Step)
  walks = walks_of (shapes_bound (contours_bound contours shapes))

  numbered : AreNumbers 0 contours
  numbered = cut_numbered in_groups filled keeps (selected_steps holds subj clip filled es) contours kept.cut

  own : CanBeBound filled (walks_in contours)
  own = can_be_bound holds subj clip es filled in_groups keeps contours kept

  -- a fact of all contours holds of these walks
  all_of : (P : List Step → Type 0) → All P (walks_in contours) → All P walks
  all_of P all =
      let rest = walks_left filled contours numbered shapes found in
      All-first P walks rest.0 (All-permutation P (walks_in contours) (walks ++ rest.0) rest.1 all)

  -- no two of their filled edges are equal
  distinct_in : (hand : Hand) → AllPairs (λ e f. edge_eq e f ≡ false) (all_filled_above hand (walks_in contours)) →
      AllPairs (λ e f. edge_eq e f ≡ false) (all_filled_above hand walks)
  distinct_in hand distinct =
      let rest = parts_left filled contours numbered shapes found
      (filled_above_edges hand) in
      AllPairs-from_each (λ e f. edge_eq e f ≡ false) (all_filled_above hand walks)
      (Each-first (λ e f. edge_eq e f ≡ false) (all_filled_above hand walks) rest.0
      (Each-from_all_pairs (λ e f. edge_eq e f ≡ false) (all_filled_above hand walks ++ rest.0)
      (pairs_shuffled edge_eq edge_eq-exchanged (all_filled_above hand (walks_in contours))
      (all_filled_above hand walks ++ rest.0) rest.1 distinct)))

  -- their steps are steps of the contours
  step_of : (s : Step) → Contains (all_steps walks) s → Contains (all_steps (walks_in contours)) s
  step_of s c =
      let rest = parts_left filled contours numbered shapes found (λ w. w) in
      Contains-permutation (all_steps walks ++ rest.0) (all_steps (walks_in contours)) s
      (IsPermutation-sym (all_steps (walks_in contours)) (all_steps walks ++ rest.0) rest.1)
      (Contains-append_left (all_steps walks) rest.0 s c)

  pub shapes_can_be_bound : CanBeBound filled walks
  shapes_can_be_bound = record {
    contours = all_of IsContour own.contours;
    single = all_of HasEachEdgeOnce own.single;
    distinct_above = distinct_in filled own.distinct_above;
    distinct_below = distinct_in (other_hand filled) own.distinct_below;
    settled = λ s t at_s at_t apart. own.settled s t (step_of s at_s) (step_of t at_t) apart;
  }

-- they can be bound
pub kept_shapes_can_be_bound : KeptShapesCanBeBound
kept_shapes_can_be_bound holds subj clip es filled in_groups keeps contours kept shapes found =
    shapes_can_be_bound holds subj clip es filled in_groups keeps contours kept shapes found
