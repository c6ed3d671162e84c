-- The pieces of a merged list's edges are the links of the chains by which its exact arrangement replaces them.
use Rattle.std.proofs.Common.{◌≡◌, inl, inr, ⊎_elim, false, ℤ, pos, ◌*ℤ◌, List, [], ◌∷◌, ◌++◌, Contains, sym}
use Rattle.std.proofs.Common.{subst}
use Rattle.std.proofs.Common.{◌∙◌}
use Rattle.std.proofs.lemmas.Int.{by_lt_z}
use Rattle.std.proofs.lemmas.List.Elements.{Contains-append_right}
use Rattle.overlay_geom.specs.Edges.{CountedEdge, ends_of}
use Rattle.overlay_geom.specs.Merged.{IsMerged}
use Rattle.overlay_geom.specs.Plane.{Point, PlanePoint, Edge, IsOn, IsAt, IsEnd, in_plane, side}
use Rattle.overlay_geom.specs.Plane.{edge_eq}
use Rattle.overlay_geom.proofs.AlongEdge.{over, place_of, on_of_order}
use Rattle.overlay_geom.proofs.Identities.{solve, number, ◌⊗◌, ◌≗◌}
use Rattle.overlay_geom.proofs.OneLine.{along_exchanged}
use Rattle.overlay_geom.proofs.PointOrder.{IsBefore, IsUpTo}
use Rattle.overlay_geom.proofs.Signs.{linear}
use Rattle.overlay_plane.specs.EdgeLists.{IsForwardBy}
use Rattle.overlay_plane.specs.Meetings.{IsMeetingPoint, MeetsAnother}
use Rattle.overlay_plane.specs.Rounds.{Round, IsSmaller, whole_cuts}
use Rattle.overlay_plane.proofs.ChainStops.{IsLink}
use Rattle.overlay_plane.proofs.LinesWithin.{on_line_of}
use Rattle.overlay_plane.proofs.Totals.{Contains-head, Contains-later}
use Rattle.overlay_plane.proofs.WholeCuts.{CutsWhole, stops, stop_cases, stop_held, goes_forward, whole_cut_meets}
use Rattle.overlay_plane.proofs.WholeCuts.{meeting_whole, meeting_cut, stop_at_cut}
use Rattle.overlay_plane.proofs.WholeOnEdges.{at_itself, on_of_held, same_place_at}
use Rattle.overlay_plane.proofs.WholePlaces.{before_of_smaller}
use Rattle.overlay_scaled.specs.ExactArrangements.{IsExactArrangement}
use Rattle.overlay_scaled.specs.Pieces.{IsPlaceOn, IsPiece, IsWithinPiece, PiecesArePlain}
use Rattle.overlay_scaled.specs.Scaled.{scaled_edge, IsTimes}
use Rattle.overlay_scaled.proofs.ExactArrangements.{whole_cut}
use Rattle.overlay_scaled.proofs.PlainPoints.{has_scaled, from_scaled}
use Rattle.overlay_scaled.proofs.ScaledMeetings.{end_forth, end_back, meeting_forth, meeting_back, times_at_place}
use Rattle.overlay_scaled.proofs.ScaledMeetings.{smaller_forth, smaller_back}
use Rattle.overlay_scaled.proofs.ScaledMerged.{same_edge_eq}
use Rattle.overlay_scaled.proofs.ScaledPoints.{further, is_further, nearer, is_nearer, lies_alike}

pub pieces_are_plain : PiecesArePlain
pieces_are_plain es e l m p piece within = record {
  entry = piece.entry;
  on = within.on;
  no_end = λ end. piece.clear p (record { on = within.on; stop = inl end }) within.after within.before;
  alone = λ met. piece.clear p (record { on = within.on; stop = inr met }) within.after within.before;
}

-- smaller whole points are smaller points of the plane
smaller_whole : (v w : Point) → IsBefore v w → IsSmaller (in_plane v) (in_plane w)
smaller_whole v w before = by_lt_z v.x w.x
    (λ less. inl (let a = once v.x in let b = once w.x in omega linear))
    (λ ge. inr (
      let a = once v.x in let b = once w.x in let le = before.x in omega linear,
      let a = once v.y in let b = once w.y in let less = before.y ge in omega linear,
    ))
  where
    once : (z : ℤ) → z *ℤ pos 1 ≡ z
    once z = solve 1 (λ z. z ⊗ number (pos 1) ≗ z) tt z

module _ (n : ℤ) (content es new : List CountedEdge) (merged : IsMerged content es) (forward : IsForwardBy ends_of es)
    (arranged : IsExactArrangement n es new) (e : CountedEdge) (c : Contains es e) where
  abbrev r : Round
  r = arranged.round

  h : CutsWhole r
  h = whole_cut n es new forward arranged

  abbrev large : CountedEdge
  large = scaled_edge n e

  has_large : Contains r.edges large
  has_large = has_scaled n content es new merged forward arranged e c

  -- the point of the list whose n-fold is a whole point
  abbrev pub point_of : Point → PlanePoint
  point_of v = nearer n arranged.scale (in_plane v)

  times_of : (v : Point) → IsTimes n (point_of v) (in_plane v)
  times_of v = is_nearer n arranged.scale (in_plane v)

  -- ---- places and stops

  pub place_of_stop : (v : Point) → Contains (stops r large) v → IsPlaceOn es e (point_of v)
  place_of_stop v has = record {
    on = ((lies_alike n arranged.scale (point_of v) (in_plane v) (times_of v)).on e).1
        (on_of_held (ends_of large) v (in_plane v) (goes_forward r h large has_large) (at_itself v)
        (stop_held r h large v has_large has));
    stop = stop_cases r h large v has
        (λ is. inl (end_back n arranged.scale (point_of v) (in_plane v) (times_of v) e
        (inl (subst (λ w. IsAt w (in_plane v)) (sym is) (at_itself v)))))
        (λ is. inl (end_back n arranged.scale (point_of v) (in_plane v) (times_of v) e
        (inr (subst (λ w. IsAt w (in_plane v)) (sym is) (at_itself v)))))
        (λ cut. inr (met (whole_cut_meets r h large v has_large cut)));
  }
    where
      met : (p : PlanePoint) × MeetsAnother r.edges large p × IsAt v p → MeetsAnother es e (point_of v)
      met (p, (f, c_f, other, meeting), at) =
          let from = from_scaled n content es new merged forward arranged f c_f in (
            from.0,
            from.1,
            sym (same_edge_eq n arranged.scale e from.0)
                ∙ subst (λ (g : CountedEdge). edge_eq (ends_of large) (ends_of g) ≡ false) (sym from.2) other,
            meeting_back n arranged.scale (point_of v) p (times_at_place n arranged.scale (point_of v) (in_plane v) p
                (times_of v) (same_place_at v (in_plane v) p (at_itself v) at)) e from.0
                (subst (λ (g : CountedEdge). IsMeetingPoint (ends_of large) (ends_of g) p) (sym from.2) meeting),
          )

  -- a place is at a stop
  pub stop_of_place : (p : PlanePoint) → IsPlaceOn es e p →
      (v : Point) × Contains (stops r large) v × IsAt v (further n p)
  stop_of_place p place = ⊎_elim at_end at_meeting place.stop
    where
      at_end : IsEnd (ends_of e) p → (v : Point) × Contains (stops r large) v × IsAt v (further n p)
      at_end end = ⊎_elim
          (λ at. (large.a, Contains-head large.a (whole_cuts r large ++ large.b ∷ []), at))
          (λ at. (
            large.b,
            Contains-later large.a (whole_cuts r large ++ large.b ∷ []) large.b
                (Contains-append_right (whole_cuts r large) (large.b ∷ []) large.b (Contains-head large.b [])),
            at,
          ))
          (end_forth n arranged.scale p (further n p) (is_further n p) e end)

      at_meeting : MeetsAnother es e p → (v : Point) × Contains (stops r large) v × IsAt v (further n p)
      at_meeting (f, c_f, other, meeting) =
          let meets : MeetsAnother r.edges large (further n p) = (
            scaled_edge n f,
            has_scaled n content es new merged forward arranged f c_f,
            same_edge_eq n arranged.scale e f ∙ other,
            meeting_forth n arranged.scale p (further n p) (is_further n p) e f meeting,
          ) in
          let at = meeting_whole r h large (further n p) has_large meets in (
            r.whole_at (further n p),
            stop_at_cut r h large (r.whole_at (further n p))
                (meeting_cut r h large (further n p) (r.whole_at (further n p)) has_large meets at),
            at,
          )

  -- ---- pieces and links

  pub piece_of_link : (g : Edge) → IsLink (stops r large) g → IsPiece es e (point_of g.a) (point_of g.b)
  piece_of_link g link = record {
    entry = c;
    from = place_of_stop g.a link.from;
    to = place_of_stop g.b link.to;
    before = smaller_back n arranged.scale (point_of g.a) (in_plane g.a) (point_of g.b) (in_plane g.b) (times_of g.a)
        (times_of g.b) (smaller_whole g.a g.b link.forward);
    clear = λ s place after before.
        let stop = stop_of_place s place in
        link.clear stop.0 stop.1
        (before_of_smaller g.a stop.0 (in_plane g.a) (further n s) (at_itself g.a) stop.2
        (smaller_forth n arranged.scale (point_of g.a) (in_plane g.a) s (further n s) (times_of g.a) (is_further n s)
        after))
        (before_of_smaller stop.0 g.b (further n s) (in_plane g.b) stop.2 (at_itself g.b)
        (smaller_forth n arranged.scale s (further n s) (point_of g.b) (in_plane g.b) (is_further n s) (times_of g.b)
        before));
  }

  module _ (l m : PlanePoint) (piece : IsPiece es e l m) where
    abbrev from : (v : Point) × Contains (stops r large) v × IsAt v (further n l)
    from = stop_of_place l piece.from

    abbrev to : (w : Point) × Contains (stops r large) w × IsAt w (further n m)
    to = stop_of_place m piece.to

    -- the link of the piece
    abbrev pub link_between : Edge
    link_between = record { a = from.0; b = to.0 }

    pub from_at : IsAt link_between.a (further n l)
    from_at = from.2

    pub to_at : IsAt link_between.b (further n m)
    to_at = to.2

    -- its ends are n times as far as those of the piece
    times_from : IsTimes n l (in_plane link_between.a)
    times_from = times_at_place n arranged.scale l (further n l) (in_plane link_between.a) (is_further n l)
        (same_place_at link_between.a (further n l) (in_plane link_between.a) from.2 (at_itself link_between.a))

    times_to : IsTimes n m (in_plane link_between.b)
    times_to = times_at_place n arranged.scale m (further n m) (in_plane link_between.b) (is_further n m)
        (same_place_at link_between.b (further n m) (in_plane link_between.b) to.2 (at_itself link_between.b))

    pub is_link : IsLink (stops r large) link_between
    is_link = record {
      forward = before_of_smaller from.0 to.0 (further n l) (further n m) from.2 to.2
          (smaller_forth n arranged.scale l (further n l) m (further n m) (is_further n l) (is_further n m)
          piece.before);
      from = from.1;
      to = to.1;
      clear = λ v has after before. piece.clear (point_of v) (place_of_stop v has)
          (smaller_back n arranged.scale l (in_plane from.0) (point_of v) (in_plane v) times_from (times_of v)
          (smaller_whole from.0 v after))
          (smaller_back n arranged.scale (point_of v) (in_plane v) m (in_plane to.0) (times_of v) times_to
          (smaller_whole v to.0 before));
    }

    -- points within the piece are inner points of the link
    module _ (p q : PlanePoint) (at : IsTimes n p q) (within : IsWithinPiece e l m p) where
      after : IsSmaller (in_plane from.0) q
      after = smaller_forth n arranged.scale l (in_plane from.0) p q times_from at within.after

      before : IsSmaller q (in_plane to.0)
      before = smaller_forth n arranged.scale p q m (in_plane to.0) at times_to within.before

      level : side link_between q ≡ pos 0
      level = on_line_of link_between (ends_of large) q (goes_forward r h large has_large)
          (along_exchanged (ends_of large) link_between (goes_forward r h large has_large) (
            (stop_held r h large from.0 has_large from.1).on_line,
            (stop_held r h large to.0 has_large to.1).on_line,
          ))
          (((lies_alike n arranged.scale p q at).on e).0 within.on).on_line

      pub on_link : IsOn link_between q
      on_link = on_of_order link_between q is_link.forward level (up_to after) (up_from before)
        where
          once : (z : ℤ) → z *ℤ pos 1 ≡ z
          once z = solve 1 (λ z. z ⊗ number (pos 1) ≗ z) tt z

          up_to : IsSmaller (in_plane from.0) q → IsUpTo (over from.0 q.d) (place_of q)
          up_to (inl less) = record {
            x = let is = once q.x in omega linear;
            y = λ le. absurd (let is = once q.x in omega linear);
          }
          up_to (inr (same, less)) = record {
            x = let is = once q.x in omega linear;
            y = λ le. let is = once q.y in omega linear;
          }

          up_from : IsSmaller q (in_plane to.0) → IsUpTo (place_of q) (over to.0 q.d)
          up_from (inl less) = record {
            x = let is = once q.x in omega linear;
            y = λ le. absurd (let is = once q.x in omega linear);
          }
          up_from (inr (same, less)) = record {
            x = let is = once q.x in omega linear;
            y = λ le. let is = once q.y in omega linear;
          }

      pub inside_link : ¬ (IsEnd link_between q)
      inside_link (inl at_a) = not_at from.0 at_a after
        where
          not_at : (v : Point) → IsAt v q → IsSmaller (in_plane v) q → ⊥
          not_at v is (inl less) =
              let x = is.0 in let once = solve 1 (λ z. z ⊗ number (pos 1) ≗ z) tt q.x in omega linear
          not_at v is (inr (same, less)) =
              let y = is.1 in let once = solve 1 (λ z. z ⊗ number (pos 1) ≗ z) tt q.y in omega linear
      inside_link (inr at_b) = not_at to.0 at_b before
        where
          not_at : (v : Point) → IsAt v q → IsSmaller q (in_plane v) → ⊥
          not_at v is (inl less) =
              let x = is.0 in let once = solve 1 (λ z. z ⊗ number (pos 1) ≗ z) tt q.x in omega linear
          not_at v is (inr (same, less)) =
              let y = is.1 in let once = solve 1 (λ z. z ⊗ number (pos 1) ≗ z) tt q.y in omega linear
