-- A snap keeps the windings round a point whose unit square no edge meets: a step of a chain that leads across the
-- vertical line through the point passes below it exactly where the edge does.
use Rattle.std.proofs.Common.{◌≡◌, true, ◌-ℤ◌, ◌*ℤ◌, ◌<ℤ◌, ◌≤ℤ◌, List, [], ◌∷◌, ◌++◌}
use Rattle.std.proofs.Common.{Contains, refl, sym, ap, ◌∙◌, subst}
use Rattle.std.specs.List.{All}
use Rattle.std.proofs.lemmas.List.Elements.{All-contains}
use Rattle.overlay_geom.specs.Plane.{Point, PlanePoint, Edge, IsOn, in_plane, point_lt}
use Rattle.overlay_geom.specs.Edges.{CountedEdge, ends_of, subj_of, clip_of}
use Rattle.overlay_geom.specs.Rounding.{nearest_point}
use Rattle.overlay_geom.proofs.AlongEdge.{over_le}
use Rattle.overlay_geom.proofs.MergedWindings.{windings_from_merged}
use Rattle.overlay_geom.proofs.PointOrder.{IsBefore}
use Rattle.overlay_geom.proofs.Signs.{linear}
use Rattle.overlay_plane.specs.EdgeLists.{IsForwardBy}
use Rattle.overlay_plane.specs.Rounds.{Round, whole_cuts, pieces_of}
use Rattle.overlay_plane.specs.Snaps.{IsSnap, IsSnappedAt, MeetsSquareRound, SnapsKeepWindings}
use Rattle.overlay_plane.proofs.AlongLines.{winding_part, left_above, IsCrossedAlike, below_where_alike}
use Rattle.overlay_plane.proofs.AlongLines.{winding_part-where_alike}
use Rattle.overlay_plane.proofs.CutOnLines.{WindsAsBefore, winding_by-cut}
use Rattle.overlay_plane.proofs.Ends.{start_on, end_on}
use Rattle.overlay_plane.proofs.PieceCounts.{subj_of_piece, clip_of_piece}
use Rattle.overlay_plane.proofs.RoundedAlong.{start_up_to_rounded, rounded_up_to_end}
use Rattle.overlay_plane.proofs.SnapStops.{nearest_itself, IsRounded, rounded_places, rounded_after}
use Rattle.overlay_plane.proofs.SquareSides.{IsInColumn, IsBelowSquare, IsAboveSquare, below_or_above}
use Rattle.overlay_plane.proofs.SquareSides.{not_on_both_sides}
use Rattle.overlay_plane.proofs.StepsAcross.{CrossesSquare, on_one_side, step_crosses}
use Rattle.overlay_plane.proofs.Telescopes.{rises_along, last_from-append}
use Rattle.overlay_plane.proofs.Tests.{lt_from_test, ge_from_test}
use Rattle.overlay_plane.proofs.WholeCuts.{ends_of_merged, forward_merged}
use Rattle.overlay_plane.proofs.WholeOnEdges.{forward_from_test}

module _ (e : Edge) (before : IsBefore e.a e.b) (p : PlanePoint) (misses : ¬ (MeetsSquareRound e p)) where
  -- e itself crosses it so where a step between whole points nearest points of e leads across
  edge_crosses : (q r : PlanePoint) → IsOn e q → IsOn e r → ((nearest_point q).x *ℤ p.d) ≤ℤ p.x →
      p.x <ℤ ((nearest_point r).x *ℤ p.d) → CrossesSquare e p e
  edge_crosses q r on_q on_r from to = subst (CrossesSquare e p)
      (λ i. record { a = nearest_itself e.a i; b = nearest_itself e.b i })
      (step_crosses e p (in_plane e.a) (in_plane e.b) (start_on e) (end_on e)
      (subst (λ (w : Point). (w.x *ℤ p.d) ≤ℤ p.x) (sym (nearest_itself e.a))
      (let first = over_le e.a.x (nearest_point q).x p.d p.positive (start_up_to_rounded e before q on_q).x in
      omega linear))
      (subst (λ (w : Point). p.x <ℤ (w.x *ℤ p.d)) (sym (nearest_itself e.b))
      (let last = over_le (nearest_point r).x e.b.x p.d p.positive (rounded_up_to_end e before r on_r).x in
      omega linear)))

  -- such a step passes below p exactly where e does
  crossed_alike : (u v : Point) → IsRounded e u → IsRounded e v → IsCrossedAlike e p u v
  crossed_alike u v (q, on_q, is_u) (r, on_r, is_v) = subst (λ (f : Edge). IsCrossedAlike e p f.a f.b)
      (λ i. record { a = is_u i; b = is_v i }) between
    where
      between : IsCrossedAlike e p (nearest_point q) (nearest_point r)
      between right left =
          let from = ge_from_test p.x ((nearest_point q).x *ℤ p.d) right in
          let to = lt_from_test p.x ((nearest_point r).x *ℤ p.d) left in
          on_one_side (IsInColumn p) (IsBelowSquare p) (IsAboveSquare p) e p (below_or_above e p misses)
          (not_on_both_sides e p misses) (record { a = nearest_point q; b = nearest_point r }) e
          (step_crosses e p q r on_q on_r from to) (edge_crosses q r on_q on_r from to)

-- a chain through points of one kind winds round p as the edge, where a step between two of them passes p as the edge
pub chain_winds_alike : (Good : Point → Type 0) (points : CountedEdge → List Point) (e : CountedEdge) →
    IsBefore e.a e.b → (p : PlanePoint) → Good e.a → All Good (points e ++ e.b ∷ []) →
    ((u v : Point) → Good u → Good v → IsCrossedAlike (ends_of e) p u v) → WindsAsBefore points p e
chain_winds_alike Good points e before p good_a good_after alike =
    rises_along (winding_part p) (left_above (ends_of e) p) Good
    (λ u v at_u at_v. winding_part-where_alike (ends_of e) p u v (alike u v at_u at_v) (alike v u at_v at_u))
    e.a (points e ++ e.b ∷ []) good_a good_after
    ∙ ap (λ v. left_above (ends_of e) p v -ℤ left_above (ends_of e) p e.a) (last_from-append e.a (points e) e.b)
    ∙ sym (below_where_alike (ends_of e) p e.a e.b before.x (λ right left. refl))

-- the chain of a snapped edge winds round p as the edge
chain_winds : (r : Round) → ((p : PlanePoint) → r.whole_at p ≡ nearest_point p) → (e : CountedEdge) →
    IsBefore e.a e.b → All (IsOn (ends_of e)) (r.cuts e) → (p : PlanePoint) → ¬ (MeetsSquareRound (ends_of e) p) →
    WindsAsBefore (whole_cuts r) p e
chain_winds r rounding e before on p misses =
    chain_winds_alike (IsRounded (ends_of e)) (whole_cuts r) e before p
    (in_plane e.a, start_on (ends_of e), nearest_itself e.a)
    (subst (All (IsRounded (ends_of e))) (rounded_places r rounding e) (rounded_after r rounding e on))
    (crossed_alike (ends_of e) before p misses)

-- so does that of each edge of a snap
pub snapped_winds : (old : List CountedEdge) (r : Round) → IsForwardBy ends_of old → IsSnap old r →
    (p : PlanePoint) (e : CountedEdge) → Contains r.edges e → ¬ (MeetsSquareRound (ends_of e) p) →
    WindsAsBefore (whole_cuts r) p e
snapped_winds old r forward snap p e has = chain_winds r snap.rounding e
    (forward_from_test (ends_of e) (All-contains (λ e. point_lt e.a e.b ≡ true) r.edges e
    (forward_merged old r.edges snap.merged forward) has))
    (All-contains (λ e. IsSnappedAt r.edges e (r.cuts e)) r.edges e snap.cut has).on p

-- the law
pub snaps_keep_windings : SnapsKeepWindings
snaps_keep_windings old new r forward snap left p misses = (
  (windings_from_merged (pieces_of r) new left).subj p
      ∙ winding_by-cut subj_of (whole_cuts r) r.edges subj_of_piece p winds
      ∙ (windings_from_merged old r.edges snap.merged).subj p,
  (windings_from_merged (pieces_of r) new left).clip p
      ∙ winding_by-cut clip_of (whole_cuts r) r.edges clip_of_piece p winds
      ∙ (windings_from_merged old r.edges snap.merged).clip p,
)
  where
    winds : (e : CountedEdge) → Contains r.edges e → WindsAsBefore (whole_cuts r) p e
    winds e has =
        let from = ends_of_merged old r.edges snap.merged e has in
        snapped_winds old r forward snap p e has
        (subst (λ (f : Edge). ¬ (MeetsSquareRound f p)) from.2
        (All-contains (λ e. ¬ (MeetsSquareRound (ends_of e) p)) old from.0 misses from.1))
