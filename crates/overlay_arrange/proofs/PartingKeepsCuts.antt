-- Edges that were parted at each other's ends before they are cut or led to hot points: what stands for the pieces of
-- the parts stands for those of the edges.
use Rattle.std.proofs.Common.{◌≡◌, ℕ, ◌+◌, ◌*◌, ◌<◌, ◌≤◌, ◌^◌, List, [], ◌∷◌, map, length, refl, sym, ap, ap₂, ◌∙◌}
use Rattle.std.proofs.Common.{zero, suc, subst, arith}
use Rattle.std.specs.Prelude.{◌↔◌}
use Rattle.std.specs.List.{flat_map}
use Rattle.std.proofs.lemmas.List.Sums.{sum_by-append, sum_by-cons}
use Rattle.overlay_geom.specs.Edges.{CountedEdge, ends_of, weight}
use Rattle.overlay_geom.specs.Plane.{Step}
use Rattle.overlay_geom.proofs.Weights.{edge_weight, weight-cons}
use Rattle.overlay_plane.specs.Carried.{Carried, edges_in}
use Rattle.overlay_plane.specs.CutPoints.{cut_points}
use Rattle.overlay_plane.specs.Cutting.{piece_along, pieces_through}
use Rattle.overlay_plane.specs.DerivedData.{AreCutAlong}
use Rattle.overlay_plane.specs.EdgeLists.{IsForwardBy}
use Rattle.overlay_plane.specs.Meetings.{MeetInWholePoints}
use Rattle.overlay_plane.specs.SnapPoints.{snap_points}
use Rattle.overlay_plane.proofs.PieceCounts.{edge_weight-piece}
use Rattle.overlay_parts.specs.PartedContents.{carried_parts}
use Rattle.overlay_parts.specs.PartedContents.{covered, edges_in_parts}
use Rattle.overlay_parts.specs.Parts.{Part, lone_part, AreParted}
use Rattle.overlay_arrange.specs.Batches.{AreJoinedPieces}
use Rattle.overlay_arrange.specs.Cut.{chain_by, LeadingPoints}
use Rattle.overlay_arrange.specs.Parting.{AreJoinedParts, MayPart, cover_weight, cover_weight_of}
use Rattle.overlay_arrange.specs.Snapping.{AreHeavyPieces, AreLedBySnapping, IsLedOnce}
use Rattle.overlay_arrange.specs.Snapping.AreLedBySnapping.{cut, snapped}
use Rattle.overlay_arrange.proofs.KeptChains.{KeepChains, cuts_keep, snaps_keep}
use Rattle.overlay_arrange.proofs.PartingKept.{ArePartedSo, parting_keeps}
use Rattle.overlay_arrange.proofs.StandingLists.{stand_on}
use Rattle.overlay_arrange.proofs.StandingPieces.{edges_of_cut}

-- ---- edges as parts of themselves

-- the edges of these parts are the edges
carried_of_lone : {C : Type 0} (xs : List (Carried C)) → carried_parts (map lone_part xs) ≡ xs
carried_of_lone [] = refl
carried_of_lone (x ∷ xs) = ap (λ ys. x ∷ ys) (carried_of_lone xs)

-- the pieces of an edge weigh, for each step, as much as the edge
pub pieces_weight : (e : CountedEdge) (ss : List Step) →
    weight (map (piece_along e) ss) ≡ edge_weight e * length ss
pieces_weight e [] = none (edge_weight e)
  where
    none : (n : ℕ) → 0 ≡ n * 0
    none zero = refl
    none (suc n) = let more = none n in omega (arith, more)
pieces_weight e (s ∷ ss) =
    weight-cons (piece_along e s) (map (piece_along e) ss)
    ∙ ap (λ n. n + weight (map (piece_along e) ss)) (edge_weight-piece e s)
    ∙ ap (λ n. edge_weight e + n) (pieces_weight e ss)
    ∙ next_step (edge_weight e) (length ss)
  where
    next_step : (n m : ℕ) → n + n * m ≡ n * suc m
    next_step zero m = omega arith
    next_step (suc n) m = let more = next_step n m in omega (arith, more)

-- edges as parts of themselves weigh as much as their pieces
pub lone_weight : {C : Type 0} (points : LeadingPoints) (xs : List (Carried C)) →
    cover_weight points (map lone_part xs) ≡ weight (flat_map (pieces_through points) (edges_in xs))
lone_weight points [] = refl
lone_weight points (x ∷ xs) =
    sum_by-cons (cover_weight_of points) (lone_part x) (map lone_part xs)
    ∙ ap₂ (λ m n. m + n) (sym (pieces_weight x.edge (chain_by points x.edge))) (lone_weight points xs)
    ∙ sym (sum_by-append edge_weight (pieces_through points x.edge) (flat_map (pieces_through points) (edges_in xs)))

-- edges with hidden weights are the edges
pub carried_of_covered : {C : Type 0} (xs : List (Carried C)) (hidden : List ℕ) →
    carried_parts (covered xs hidden) ≡ xs
carried_of_covered [] hidden = refl
carried_of_covered (x ∷ xs) [] = ap (λ ys. x ∷ ys) (carried_of_covered xs [])
carried_of_covered (x ∷ xs) (h ∷ hidden) = ap (λ ys. x ∷ ys) (carried_of_covered xs hidden)

-- where no weight is hidden they are parts of themselves
pub covered_by_none : {C : Type 0} (xs : List (Carried C)) → covered xs [] ≡ map lone_part xs
covered_by_none [] = refl
covered_by_none (x ∷ xs) = ap (λ ps. lone_part x ∷ ps) (covered_by_none xs)

-- then what stands for the pieces of the parts stands for those of the edges
pub joined_of_lone : {C : Type 0} (merges : C → C → C → Type 0) (splits reverses : C → C → Type 0)
    (points : LeadingPoints) (xs : List (Carried C)) {new : List (Carried C)} →
    AreJoinedParts merges splits reverses points (map lone_part xs) new →
    AreJoinedPieces merges splits reverses points xs new
joined_of_lone merges splits reverses points xs joined =
    let given = subst (λ ys. AreCutAlong splits reverses (chain_by points) ys joined.pieces) (carried_of_lone xs)
    joined.carried in
    let edges = edges_of_cut splits reverses points given in
    record {
      pieces = joined.pieces;
      edges = edges;
      carried = given;
      light = subst (λ (es : List CountedEdge). weight es < 2 ^ 31) (sym edges)
          (subst (λ n. n < 2 ^ 31) (lone_weight points xs) joined.light);
      stands = joined.stands;
    }

-- ---- the parts of edges

module _ {C : Type 0} (merges : C → C → C → Type 0) (splits reverses : C → C → Type 0)
    (may : MayPart merges splits reverses) (xs : List (Carried C)) (parts : List (Part C))
    (forward : IsForwardBy ends_of (edges_in xs)) (parted : AreParted merges (map lone_part xs) parts) where
  -- the edges before
  before : edges_in_parts (map lone_part xs) ≡ edges_in xs
  before = ap edges_in (carried_of_lone xs)

  module _ (points : List CountedEdge → LeadingPoints) (keep : KeepChains points) where
    kept : ArePartedSo merges splits reverses may points keep (map lone_part xs) parts
    kept = parting_keeps merges splits reverses may points keep parted
        (subst (IsForwardBy ends_of) (sym before) forward)

    -- the pieces of all edges weigh as much over the parts
    pub weight_of_parted : weight (flat_map (pieces_through (points (edges_in xs))) (edges_in xs))
        ≡ cover_weight (points (edges_in_parts parts)) parts
    weight_of_parted = sym (lone_weight (points (edges_in xs)) xs)
        ∙ ap (λ es. cover_weight (points es) (map lone_part xs)) (sym before) ∙ kept.weighed

    -- what stands for the pieces of the parts stands for those of the edges
    pub joined_of_parted : {new : List (Carried C)} →
        AreJoinedParts merges splits reverses (points (edges_in_parts parts)) parts new →
        AreJoinedPieces merges splits reverses (points (edges_in xs)) xs new
    joined_of_parted {new} joined =
        let found = kept.pieces joined.pieces joined.carried in
        let given = subst (λ ys. AreCutAlong splits reverses (chain_by (points (edges_in xs))) ys found.0)
        (carried_of_lone xs) (subst (λ es. AreCutAlong splits reverses (chain_by (points es))
        (carried_parts (map lone_part xs)) found.0) before found.1) in
        let edges = edges_of_cut splits reverses (points (edges_in xs)) given in
        record {
          pieces = found.0;
          edges = edges;
          carried = given;
          light = subst (λ (es : List CountedEdge). weight es < 2 ^ 31) (sym edges)
              (subst (λ n. n < 2 ^ 31) (sym weight_of_parted) joined.light);
          stands = stand_on merges found.2 joined.stands;
        }

  -- the parts meet in whole points alone exactly where the edges do
  pub whole_of_parted : MeetInWholePoints (edges_in xs) ↔ MeetInWholePoints (edges_in_parts parts)
  whole_of_parted =
      let whole = (kept cut_points cuts_keep).whole in (
        λ h. whole.0 (subst MeetInWholePoints (sym before) h),
        λ h. subst MeetInWholePoints before (whole.1 h),
      )

  -- the parts lead forward
  pub forward_of_parted : IsForwardBy ends_of (edges_in_parts parts)
  forward_of_parted = (kept cut_points cuts_keep).forward

  -- ---- both solvers

  -- cutting rounds
  pub cut_of_parted : {new : List (Carried C)} →
      AreJoinedParts merges splits reverses (cut_points (edges_in_parts parts)) parts new →
      AreJoinedPieces merges splits reverses (cut_points (edges_in xs)) xs new
  cut_of_parted = joined_of_parted cut_points cuts_keep

  pub cut_weight_of_parted : weight (flat_map (pieces_through (cut_points (edges_in xs))) (edges_in xs))
      ≡ cover_weight (cut_points (edges_in_parts parts)) parts
  cut_weight_of_parted = weight_of_parted cut_points cuts_keep

  -- snap rounding
  pub snap_of_parted : {new : List (Carried C)} →
      AreJoinedParts merges splits reverses (snap_points (edges_in_parts parts)) parts new →
      AreJoinedPieces merges splits reverses (snap_points (edges_in xs)) xs new
  snap_of_parted = joined_of_parted snap_points snaps_keep

  pub snap_weight_of_parted : weight (flat_map (pieces_through (snap_points (edges_in xs))) (edges_in xs))
      ≡ cover_weight (snap_points (edges_in_parts parts)) parts
  snap_weight_of_parted = weight_of_parted snap_points snaps_keep

  -- it leads the edges as it leads the parts
  pub led_of_parted : (points : LeadingPoints) → AreLedBySnapping (edges_in_parts parts) points →
      {new : List (Carried C)} → AreJoinedParts merges splits reverses points parts new →
      IsLedOnce merges splits reverses xs new
  led_of_parted _ (cut whole) joined = record {
    points = cut_points (edges_in xs);
    led = cut (whole_of_parted.1 whole);
    joined = cut_of_parted joined;
  }
  led_of_parted _ (snapped not_whole) joined = record {
    points = snap_points (edges_in xs);
    led = snapped (λ whole. not_whole (whole_of_parted.0 whole));
    joined = snap_of_parted joined;
  }

  -- heavy pieces over the parts are heavy pieces of the edges
  pub heavy_of_parted : (limit : ℕ) (points : LeadingPoints) → AreLedBySnapping (edges_in_parts parts) points →
      limit ≤ cover_weight points parts → AreHeavyPieces limit (edges_in xs)
  heavy_of_parted limit _ (cut whole) heavy = record {
    points = cut_points (edges_in xs);
    led = cut (whole_of_parted.1 whole);
    heavy = subst (λ n. limit ≤ n) (sym cut_weight_of_parted) heavy;
  }
  heavy_of_parted limit _ (snapped not_whole) heavy = record {
    points = snap_points (edges_in xs);
    led = snapped (λ whole. not_whole (whole_of_parted.0 whole));
    heavy = subst (λ n. limit ≤ n) (sym snap_weight_of_parted) heavy;
  }
