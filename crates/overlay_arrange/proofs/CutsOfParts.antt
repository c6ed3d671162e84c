-- Edges that are parted where many overlap, and cut or led to hot points: the result stands for the pieces of the
-- edges, and is refused where these are heavy.
use Rattle.std.proofs.Common.{◌≡◌, ℕ, ◌≤◌, List, sym, ap, ◌∙◌, subst}
use Rattle.std.specs.Prelude.{◌↔◌}
use Rattle.overlay_geom.specs.Edges.{ends_of, weight}
use Rattle.overlay_plane.specs.Carried.{Carried, edges_in}
use Rattle.overlay_plane.specs.CutPoints.{cut_edges, cut_points}
use Rattle.overlay_plane.specs.EdgeLists.{IsForwardBy}
use Rattle.overlay_plane.specs.Meetings.{MeetInWholePoints}
use Rattle.overlay_parts.specs.PartedContents.{covered, edges_in_parts}
use Rattle.overlay_arrange.specs.Batches.{AreJoinedPieces}
use Rattle.overlay_arrange.specs.Cut.{LeadingPoints}
use Rattle.overlay_arrange.specs.Parting.{AreInParts, unparted, in_parts, AreJoinedParts, cover_weight}
use Rattle.overlay_arrange.specs.Snapping.{AreHeavyPieces, AreLedBySnapping, IsLedOnce}
use Rattle.overlay_arrange.proofs.PartingKeepsCuts.{carried_of_covered, covered_by_none, cut_of_parted}
use Rattle.overlay_arrange.proofs.PartingKeepsCuts.{cut_weight_of_parted, heavy_of_parted}
use Rattle.overlay_arrange.proofs.PartingKeepsCuts.{joined_of_lone, led_of_parted, lone_weight, whole_of_parted}

-- edges with hidden weights are edges as before
edges_of_covered : {C : Type 0} (ys : List (Carried C)) (hidden : List ℕ) →
    edges_in_parts (covered ys hidden) ≡ edges_in ys
edges_of_covered ys hidden = ap edges_in (carried_of_covered ys hidden)

module _ {C : Type 0} (merges : C → C → C → Type 0) (splits reverses : C → C → Type 0) (xs : List (Carried C))
    (forward : IsForwardBy ends_of (edges_in xs)) where
  -- the edges after a parting
  abbrev pub Parted : List (Carried C) → List ℕ → Type 0
  Parted ys hidden = AreInParts merges splits reverses xs ys hidden

  -- what stands for the pieces of the parts
  abbrev pub Stands : LeadingPoints → List (Carried C) → List ℕ → List (Carried C) → Type 0
  Stands points ys hidden new = AreJoinedParts merges splits reverses points (covered ys hidden) new

  -- they meet in whole points alone exactly where the edges did
  pub whole_in_parts : {ys : List (Carried C)} {hidden : List ℕ} → Parted ys hidden →
      MeetInWholePoints (edges_in xs) ↔ MeetInWholePoints (edges_in ys)
  whole_in_parts unparted = (λ whole. whole, λ whole. whole)
  whole_in_parts {ys} {hidden} (in_parts may are) =
      let whole = whole_of_parted merges splits reverses may xs (covered ys hidden) forward are in (
        λ h. subst MeetInWholePoints (edges_of_covered ys hidden) (whole.0 h),
        λ h. whole.1 (subst MeetInWholePoints (sym (edges_of_covered ys hidden)) h),
      )

  -- ---- cutting rounds

  pub cut_in_parts : {ys : List (Carried C)} {hidden : List ℕ} → Parted ys hidden → {new : List (Carried C)} →
      Stands (cut_points (edges_in ys)) ys hidden new →
      AreJoinedPieces merges splits reverses (cut_points (edges_in xs)) xs new
  cut_in_parts unparted {new} stands = joined_of_lone merges splits reverses (cut_points (edges_in xs)) xs
      (subst (λ ps. AreJoinedParts merges splits reverses (cut_points (edges_in xs)) ps new) (covered_by_none xs)
      stands)
  cut_in_parts {ys} {hidden} (in_parts may are) {new} stands =
      cut_of_parted merges splits reverses may xs (covered ys hidden) forward are
      (subst (λ es. Stands (cut_points es) ys hidden new) (sym (edges_of_covered ys hidden)) stands)

  -- the pieces of all edges weigh as much
  pub cut_weight_in_parts : {ys : List (Carried C)} {hidden : List ℕ} → Parted ys hidden →
      weight (cut_edges (edges_in xs)) ≡ cover_weight (cut_points (edges_in ys)) (covered ys hidden)
  cut_weight_in_parts unparted = sym (lone_weight (cut_points (edges_in xs)) xs)
      ∙ ap (cover_weight (cut_points (edges_in xs))) (sym (covered_by_none xs))
  cut_weight_in_parts {ys} {hidden} (in_parts may are) =
      cut_weight_of_parted merges splits reverses may xs (covered ys hidden) forward are
      ∙ ap (λ es. cover_weight (cut_points es) (covered ys hidden)) (edges_of_covered ys hidden)

  -- ---- snap rounding

  pub led_in_parts : {ys : List (Carried C)} {hidden : List ℕ} → Parted ys hidden → (points : LeadingPoints) →
      AreLedBySnapping (edges_in ys) points → {new : List (Carried C)} → Stands points ys hidden new →
      IsLedOnce merges splits reverses xs new
  led_in_parts unparted points led {new} stands = record {
    points = points;
    led = led;
    joined = joined_of_lone merges splits reverses points xs
        (subst (λ ps. AreJoinedParts merges splits reverses points ps new) (covered_by_none xs) stands);
  }
  led_in_parts {ys} {hidden} (in_parts may are) points led stands =
      led_of_parted merges splits reverses may xs (covered ys hidden) forward are points
      (subst (λ es. AreLedBySnapping es points) (sym (edges_of_covered ys hidden)) led) stands

  pub heavy_in_parts : {ys : List (Carried C)} {hidden : List ℕ} → Parted ys hidden → (limit : ℕ) →
      (points : LeadingPoints) → AreLedBySnapping (edges_in ys) points →
      limit ≤ cover_weight points (covered ys hidden) → AreHeavyPieces limit (edges_in xs)
  heavy_in_parts unparted limit points led heavy = record {
    points = points;
    led = led;
    heavy = subst (λ n. limit ≤ n) (ap (cover_weight points) (covered_by_none xs) ∙ lone_weight points xs) heavy;
  }
  heavy_in_parts {ys} {hidden} (in_parts may are) limit points led heavy =
      heavy_of_parted merges splits reverses may xs (covered ys hidden) forward are limit points
      (subst (λ es. AreLedBySnapping es points) (sym (edges_of_covered ys hidden)) led) heavy
