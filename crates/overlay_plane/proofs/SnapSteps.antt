-- Steps of a snap: no hot point lies inside a step, and two that meet share an end.
use Rattle.std.proofs.Common.{◌≡◌, ◌⊎◌, inl, inr, false, List, refl, sym, subst}
use Rattle.std.proofs.lemmas.Bool.{cases_Bool}
use Rattle.overlay_geom.specs.Plane.{Point, PlanePoint, Step, IsOn, in_plane, edge_eq, edge_of}
use Rattle.overlay_geom.specs.Edges.{CountedEdge, ends_of}
use Rattle.overlay_geom.specs.Placed.{IsAlong}
use Rattle.overlay_geom.specs.Rounding.{nearest_point}
use Rattle.overlay_geom.proofs.OneLine.{along_exchanged}
use Rattle.overlay_geom.proofs.Orders.{edge_eq-same}
use Rattle.overlay_geom.proofs.PointOrder.{IsBefore}
use Rattle.overlay_geom.proofs.Rounded.{nearest_point-rounding}
use Rattle.overlay_plane.specs.EdgeLists.{IsForwardBy}
use Rattle.overlay_plane.specs.PixelSteps.{Between, mixed, PiecesMeet, PassesPixel, StepsMeet, MeetingStepsPassPixels}
use Rattle.overlay_plane.specs.Rounds.{Round}
use Rattle.overlay_plane.specs.Snaps.{IsHot, IsSnap}
use Rattle.overlay_plane.proofs.CommonPoints.{Decides-are_along, common_is_meeting}
use Rattle.overlay_plane.proofs.CutChains.{along_itself}
use Rattle.overlay_plane.proofs.LinesWithin.{on_line_of}
use Rattle.overlay_plane.proofs.Mixtures.{mixture_on}
use Rattle.overlay_plane.proofs.PlaceOrder.{IsUpToPlace, by_place, place_of_same, place_up_to_through, on_between}
use Rattle.overlay_plane.proofs.PlaceOrder.{on_same_place, first_up_to_mixed, mixed_up_to_second}
use Rattle.overlay_plane.proofs.RoundedMixtures.{pixel_on_step_passed}
use Rattle.overlay_plane.proofs.SmallerPoints.{same_place-trans}
use Rattle.overlay_plane.proofs.SnapPieces.{IsSnapPiece, IsSnapStep, step_near, snap_leads_forward}
use Rattle.overlay_plane.proofs.StepPoints.{IsMixedOf, mixed_of_ends}
use Rattle.overlay_plane.proofs.WholeOnEdges.{by_test}

-- the point is an end of the step
abbrev pub IsEndOf : Step → Point → Type 0
IsEndOf s u = (u ≡ s.from) ⊎ (u ≡ s.to)

-- a whole point is an end of both steps
abbrev pub ShareAnEnd : Step → Step → Type 0
ShareAnEnd s t = (u : Point) × IsEndOf s u × IsEndOf t u

module _ (old : List CountedEdge) (r : Round) (forward : IsForwardBy ends_of old) (snap : IsSnap old r) where
  -- a mixture of the ends of a piece is on its edge
  mixed_on : (e : CountedEdge) (p q : PlanePoint) → IsSnapPiece r e p q → (b : Between p q) → IsOn (ends_of e) (mixed b)
  mixed_on e p q piece b = mixture_on (ends_of e) b.m b.n p q b.some b.m_nonneg b.n_nonneg piece.on_p piece.on_q

  -- a hot point whose pixel a piece passes is an end of its step
  passed_is_end : (e : CountedEdge) (p q : PlanePoint) → IsSnapPiece r e p q → (v : Point) → IsHot r.edges v →
      PassesPixel p q v →
      IsEndOf (step_near p q) v
  passed_is_end e p q piece v hot (b, is) = subst (IsEndOf (step_near p q)) is
      (piece.alone (mixed b) (mixed_on e p q piece b) (first_up_to_mixed p q piece.in_order b)
      (mixed_up_to_second p q piece.in_order b) (subst (IsHot r.edges) (sym is) hot))

  -- a hot point on a step is an end of it
  pub hot_is_end : (s : Step) → IsSnapStep r s → IsBefore (edge_of s).a (edge_of s).b → (v : Point) → IsHot r.edges v →
      IsOn (edge_of s) (in_plane v) →
      IsEndOf s v
  hot_is_end s step before v hot on = subst (λ t. IsEndOf t v) step.is
      (passed_is_end step.e step.p step.q step.piece v hot (pixel_on_step_passed step.p step.q v between.0 between.1))
    where
      -- it is mixed of the step's ends
      between : IsMixedOf (in_plane (nearest_point step.p)) (in_plane (nearest_point step.q)) (in_plane v)
      between = subst (λ t. IsMixedOf (in_plane t.from) (in_plane t.to) (in_plane v)) (sym step.is)
          (mixed_of_ends s (in_plane v) before on)

  module _ (e f : CountedEdge) (p q k l : PlanePoint) (here : IsSnapPiece r e p q) (there : IsSnapPiece r f k l) where
    -- two pieces along one line that meet: an end of one is on the other
    ends_of_overlap : IsAlong (ends_of e) (ends_of f) → PiecesMeet p q k l → ShareAnEnd (step_near p q) (step_near k l)
    ends_of_overlap along (b, c, (same_x, same_y)) = by_place p k
        (λ first. (
          nearest_point k,
          here.alone k (on_between (ends_of e) e_forward p q k here.on_p here.on_q (on_line_of (ends_of e) (ends_of f) k
              f_forward along there.on_p.on_line) first up_to_q) first up_to_q there.hot_p,
          inl refl,
        ))
        (λ first. (
          nearest_point p,
          inl refl,
          there.alone p (on_between (ends_of f) f_forward k l p there.on_p there.on_q
              (on_line_of (ends_of f) (ends_of e) p e_forward back here.on_p.on_line) first up_to_l) first up_to_l
              here.hot_p,
        ))
      where
        -- both edges lead forward
        e_forward : IsBefore e.a e.b
        e_forward = snap_leads_forward old r forward snap e here.has

        f_forward : IsBefore f.a f.b
        f_forward = snap_leads_forward old r forward snap f there.has

        -- each lies along the other
        back : IsAlong (ends_of f) (ends_of e)
        back = along_exchanged (ends_of e) (ends_of f) e_forward along

        -- the piece from k starts no later than the common point, and so no later than q, the end of the other piece
        up_to_q : IsUpToPlace k q
        up_to_q = place_up_to_through k (mixed c) q (first_up_to_mixed k l there.in_order c)
            (place_up_to_through (mixed c) (mixed b) q (place_of_same (mixed c) (mixed b) (sym same_x, sym same_y))
            (mixed_up_to_second p q here.in_order b))

        up_to_l : IsUpToPlace p l
        up_to_l = place_up_to_through p (mixed b) l (first_up_to_mixed p q here.in_order b)
            (place_up_to_through (mixed b) (mixed c) l (place_of_same (mixed b) (mixed c) (same_x, same_y))
            (mixed_up_to_second k l there.in_order c))

    -- two that do not lie along one line: where they meet is a meeting point
    end_at_meeting : ¬ (IsAlong (ends_of e) (ends_of f)) → PiecesMeet p q k l →
        ShareAnEnd (step_near p q) (step_near k l)
    end_at_meeting apart (b, c, (same_x, same_y)) = (
      nearest_point (mixed b),
      passed_is_end e p q here (nearest_point (mixed b)) hot (b, refl),
      passed_is_end f k l there (nearest_point (mixed b)) hot
          (c, nearest_point-rounding.one (mixed c) (mixed b) (sym same_x, sym same_y)),
    )
      where
        -- an edge lies along itself
        differ : edge_eq (ends_of e) (ends_of f) ≡ false
        differ = elim (cases_Bool (edge_eq (ends_of e) (ends_of f))) [
          | inl same ↦ absurd (apart (subst (IsAlong (ends_of e)) (edge_eq-same (ends_of e) (ends_of f) same)
              (along_itself (ends_of e))))
          | inr other ↦ other
        ]

        f_forward : IsBefore f.a f.b
        f_forward = snap_leads_forward old r forward snap f there.has

        -- the common point is on both edges
        on_f : IsOn (ends_of f) (mixed b)
        on_f = on_same_place (ends_of f) f_forward (mixed c) (mixed b) (sym same_x, sym same_y)
            (mixed_on f k l there c)

        -- the point is a meeting point
        hot : IsHot r.edges (nearest_point (mixed b))
        hot = inr (
          e,
          mixed b,
          here.has,
          (
            f,
            there.has,
            differ,
            common_is_meeting (ends_of e) (ends_of f) (mixed b) f_forward apart
                (mixed_on e p q here b, on_f),
          ),
          refl,
        )

    -- steps that meet share an end
    share_an_end : MeetingStepsPassPixels → StepsMeet p q k l → ShareAnEnd (step_near p q) (step_near k l)
    share_an_end core meet = elim (core p q k l meet) [
      | inl pieces ↦ by_test _ (Decides-are_along (ends_of e) (ends_of f)) (λ along. ends_of_overlap along pieces)
          (λ apart. end_at_meeting apart pieces)
      | inr (inl (inl passes)) ↦
          (nearest_point k, passed_is_end e p q here (nearest_point k) there.hot_p passes, inl refl)
      | inr (inl (inr passes)) ↦
          (nearest_point l, passed_is_end e p q here (nearest_point l) there.hot_q passes, inr refl)
      | inr (inr (inl passes)) ↦
          (nearest_point p, inl refl, passed_is_end f k l there (nearest_point p) here.hot_p passes)
      | inr (inr (inr passes)) ↦
          (nearest_point q, inr refl, passed_is_end f k l there (nearest_point q) here.hot_q passes)
    ]

  -- steps whose edges have a common point share an end
  pub meeting_steps_share : MeetingStepsPassPixels → (s t : Step) → IsSnapStep r s → IsSnapStep r t →
      IsBefore (edge_of s).a (edge_of s).b →
      IsBefore (edge_of t).a (edge_of t).b → (x : PlanePoint) → IsOn (edge_of s) x → IsOn (edge_of t) x →
      ShareAnEnd s t
  meeting_steps_share core s t step_s step_t s_forward t_forward x on_s on_t =
      subst (λ u. ShareAnEnd u t) step_s.is (subst (λ u. ShareAnEnd (step_near step_s.p step_s.q) u) step_t.is
      (share_an_end step_s.e step_t.e step_s.p step_s.q step_t.p step_t.q step_s.piece step_t.piece core
      (of_s.0, of_t.0, same_place-trans (mixed of_s.0) x (mixed of_t.0) of_s.1 (sym of_t.1.0, sym of_t.1.1))))
    where
      -- the common point is mixed of the ends of each
      of_s : IsMixedOf (in_plane (nearest_point step_s.p)) (in_plane (nearest_point step_s.q)) x
      of_s = subst (λ u. IsMixedOf (in_plane u.from) (in_plane u.to) x) (sym step_s.is)
          (mixed_of_ends s x s_forward on_s)

      of_t : IsMixedOf (in_plane (nearest_point step_t.p)) (in_plane (nearest_point step_t.q)) x
      of_t = subst (λ u. IsMixedOf (in_plane u.from) (in_plane u.to) x) (sym step_t.is)
          (mixed_of_ends t x t_forward on_t)
