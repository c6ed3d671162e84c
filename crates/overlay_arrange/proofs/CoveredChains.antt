-- Each edge has at least one piece: with all edges over them, the pieces weigh at least as much as the edges over the
-- parts.
use Rattle.std.proofs.Common.{◌≡◌, ◌⊎◌, ⊎_elim, inl, inr, pos, ℕ, zero, suc, ◌*◌, ◌≤◌, Bool, true, false, cond}
use Rattle.std.proofs.Common.{List, [], ◌∷◌, ◌++◌, length, map}
use Rattle.std.proofs.Common.{refl, ◌∙◌, subst, arith}
use Rattle.std.specs.List.{sum_by}
use Rattle.std.specs.Ordering.{int_eq}
use Rattle.std.proofs.lemmas.Bool.{both_ways}
use Rattle.std.proofs.lemmas.Bool.Decides.{Decides-int_eq}
use Rattle.std.proofs.lemmas.List.Elements.{All-contains, All-head, All-tail}
use Rattle.std.proofs.lemmas.List.Sums.{sum_by-cons}
use Rattle.overlay_geom.specs.Edges.{CountedEdge, ends_of, weight}
use Rattle.overlay_geom.specs.Plane.{Point, Step, cross_at, point_eq, point_lt, steps_through}
use Rattle.overlay_geom.proofs.Orders.{Decides-point_eq, point_lt-itself}
use Rattle.overlay_plane.specs.Carried.{Carried, edges_in}
use Rattle.overlay_plane.specs.CutPoints.{cut_edges, cut_points}
use Rattle.overlay_plane.specs.EdgeLists.{IsForwardBy}
use Rattle.overlay_plane.specs.Meetings.{MeetInWholePoints}
use Rattle.overlay_plane.specs.SnapPoints.{snap_points, snapped_edges}
use Rattle.overlay_plane.proofs.Entries.{Contains-from_any, all_or_any}
use Rattle.overlay_plane.proofs.WholeOnEdges.{by_test}
use Rattle.overlay_parts.specs.PartedContents.{edges_in_parts}
use Rattle.overlay_parts.specs.Parts.{Part, lone_part, AreParted}
use Rattle.overlay_arrange.specs.Cut.{chain_by, AreLedAlongLines, IsOnLineOf, LeadingPoints}
use Rattle.overlay_arrange.specs.Parting.{MayPart, cover_weight, cover_weight_of}
use Rattle.overlay_arrange.specs.Snapping.{AreHeavyPieces}
use Rattle.overlay_arrange.specs.Snapping.AreLedBySnapping.{cut, snapped}
use Rattle.overlay_arrange.proofs.PartingKeepsCuts.{cut_weight_of_parted, forward_of_parted, snap_weight_of_parted}
use Rattle.overlay_arrange.proofs.WholeMeetings.{whole_meetings_on_lines}

-- between different points there is a step, whichever points it leads through
some_step : (a b : Point) (vs : List Point) → ¬ (a ≡ b) → 1 ≤ length (steps_through a (vs ++ b ∷ []))
some_step a b [] apart = by (point_eq a b) refl
  where
    by : (t : Bool) → point_eq a b ≡ t →
        1 ≤ length {A = Step} (cond t [] (record { from = a; to = b } ∷ []) ++ [])
    by true same = absurd (apart ((Decides-point_eq a b).0 same))
    by false other = omega arith
some_step a b (v ∷ vs) apart = by (point_eq a v) refl (some_step v b vs)
  where
    by : (t : Bool) → point_eq a v ≡ t → (¬ (v ≡ b) → 1 ≤ length (steps_through v (vs ++ b ∷ []))) →
        1 ≤ length {A = Step} (cond t [] (record { from = a; to = v } ∷ []) ++ steps_through v (vs ++ b ∷ []))
    by true same later = later (λ is. apart ((Decides-point_eq a v).0 same ∙ is))
    by false other later = omega arith

-- the chain of a forward edge has a step
pub chain_some : (points : LeadingPoints) (e : CountedEdge) → point_lt e.a e.b ≡ true →
    1 ≤ length (chain_by points e)
chain_some points e forward = some_step e.a e.b (points e)
    (λ same. both_ways (point_lt e.a e.b) (subst (λ v. point_lt e.a v ≡ false) same (point_lt-itself e.a)) forward)

-- a number is at most its product with a number above 0
at_least_once : (n k : ℕ) → 1 ≤ k → n ≤ n * k
at_least_once zero k some = omega arith
at_least_once (suc n) k some = let more = at_least_once n k some in omega (arith, more, some)

-- the edges over forward parts weigh at most as much as their pieces
pub cover_below : {C : Type 0} (points : LeadingPoints) (parts : List (Part C)) →
    IsForwardBy ends_of (edges_in_parts parts) → sum_by (λ p. p.cover) parts ≤ cover_weight points parts
cover_below points [] forward = omega arith
cover_below {C} points (p ∷ parts) forward =
    let Leads : CountedEdge → Type 0 = λ e. point_lt e.a e.b ≡ true in
    let covers = sum_by-cons (λ (q : Part C). q.cover) p parts in
    let all = sum_by-cons (cover_weight_of points) p parts in
    let here = at_least_once p.cover (length (chain_by points p.edge.edge)) (chain_some points p.edge.edge
    (All-head Leads p.edge.edge (edges_in_parts parts) forward)) in
    let rest = cover_below points parts (All-tail Leads p.edge.edge (edges_in_parts parts) forward) in
    omega (arith, covers, all, here, rest)

-- ---- whole meeting points

-- edges meet in whole points alone, or they do not
pub whole_or_not : (es : List CountedEdge) → IsForwardBy ends_of es →
    MeetInWholePoints es ⊎ ¬ (MeetInWholePoints es)
whole_or_not es forward = ⊎_elim (λ all. inl ((whole_meetings_on_lines es forward).0 all))
    (λ some. inr (λ whole.
    let found = Contains-from_any (λ e. ¬ (AreLedAlongLines es e)) es some in
    found.2 (All-contains (AreLedAlongLines es) es found.0 ((whole_meetings_on_lines es forward).1 whole) found.1)))
    (all_or_any (AreLedAlongLines es) (λ e. ¬ (AreLedAlongLines es e)) along_or_not es)
  where
    on_or_off : (e : CountedEdge) (v : Point) → IsOnLineOf e v ⊎ ¬ (IsOnLineOf e v)
    on_or_off e v = by_test (int_eq (cross_at e.a e.b v) (pos 0)) (Decides-int_eq (cross_at e.a e.b v) (pos 0))
        (λ on. inl on) (λ off. inr off)

    along_or_not : (e : CountedEdge) → AreLedAlongLines es e ⊎ ¬ (AreLedAlongLines es e)
    along_or_not e = ⊎_elim (λ all. inl all)
        (λ some. inr (λ all.
        let found = Contains-from_any (λ v. ¬ (IsOnLineOf e v)) (cut_points es e) some in
        found.2 (All-contains (IsOnLineOf e) (cut_points es e) found.0 all found.1)))
        (all_or_any (IsOnLineOf e) (λ v. ¬ (IsOnLineOf e v)) (on_or_off e) (cut_points es e))

-- ---- the parts of edges

module _ {C : Type 0} (merges : C → C → C → Type 0) (splits reverses : C → C → Type 0)
    (may : MayPart merges splits reverses) (xs : List (Carried C)) (parts : List (Part C))
    (forward : IsForwardBy ends_of (edges_in xs)) (are : AreParted merges (map lone_part xs) parts) where
  parts_forward : IsForwardBy ends_of (edges_in_parts parts)
  parts_forward = forward_of_parted merges splits reverses may xs parts forward are

  -- so do they for the pieces of the edges, by cutting rounds
  pub cut_heavy_of_covers : (n : ℕ) → n ≤ sum_by (λ p. p.cover) parts → n ≤ weight (cut_edges (edges_in xs))
  cut_heavy_of_covers n heavy =
      let below = cover_below (cut_points (edges_in_parts parts)) parts parts_forward in
      let same = cut_weight_of_parted merges splits reverses may xs parts forward are in
      omega (arith, heavy, below, same)

  -- and by snap rounding
  pub snap_heavy_of_covers : (n : ℕ) → n ≤ sum_by (λ p. p.cover) parts → n ≤ weight (snapped_edges (edges_in xs))
  snap_heavy_of_covers n heavy =
      let below = cover_below (snap_points (edges_in_parts parts)) parts parts_forward in
      let same = snap_weight_of_parted merges splits reverses may xs parts forward are in
      omega (arith, heavy, below, same)

  -- the solver by snap rounding refuses them as it refuses the edges
  pub led_heavy_of_covers : (n : ℕ) → n ≤ sum_by (λ p. p.cover) parts → AreHeavyPieces n (edges_in xs)
  led_heavy_of_covers n heavy = ⊎_elim
      (λ whole. record {
        points = cut_points (edges_in xs);
        led = cut whole;
        heavy = cut_heavy_of_covers n heavy;
      })
      (λ not_whole. record {
        points = snap_points (edges_in xs);
        led = snapped not_whole;
        heavy = snap_heavy_of_covers n heavy;
      })
      (whole_or_not (edges_in xs) forward)
