-- Two collinear edges meet in the ends of each that lie on the other. The whole points through which one leads the
-- other are those ends.
use Rattle.std.proofs.Common.{◌≡◌, ◌⊎◌, inl, inr, ⊎_elim, ℤ, pos, ◌*ℤ◌, List, [], ◌∷◌, ◌++◌, map, Contains, refl, sym}
use Rattle.std.proofs.Common.{subst, ◌∙◌, arith}
use Rattle.std.specs.List.{Any}
use Rattle.std.proofs.lemmas.Int.{ints}
use Rattle.std.proofs.lemmas.List.Elements.{All-map, Contains-append_left, Contains-append_right, Contains-append_cases}
use Rattle.overlay_geom.specs.Plane.{Point, PlanePoint, Edge, IsEnd, IsAt, SamePlace, in_plane, cross_at}
use Rattle.overlay_geom.specs.Settled.{IsCommon}
use Rattle.overlay_geom.specs.Placed.{IsAlong}
use Rattle.overlay_geom.specs.Rounding.{nearest_point}
use Rattle.overlay_geom.proofs.OneLine.{along_exchanged, IsHeldBy, holds_start, holds_end}
use Rattle.overlay_geom.proofs.PointOrder.{IsBefore, by_order, before_up_to}
use Rattle.overlay_geom.proofs.Rounded.{nearest_point-rounding}
use Rattle.overlay_plane.specs.CutPoints.{is_between}
use Rattle.overlay_plane.specs.Meetings.{IsMeetingPoint}
use Rattle.overlay_plane.proofs.Entries.{all_of_entries, any_of_entry, Contains-map, Contains-from_filter}
use Rattle.overlay_plane.proofs.Entries.{Contains-filter}
use Rattle.overlay_plane.proofs.LaterEntries.{Contains-cases}
use Rattle.overlay_plane.proofs.CommonPoints.{end_is_meeting}
use Rattle.overlay_plane.proofs.MeetingLists.{AreMeetings, AreNearest}
use Rattle.overlay_plane.proofs.Placements.{ends_between}
use Rattle.overlay_plane.proofs.SettledMeetings.{overlap_at_inner, common_of_held}
use Rattle.overlay_plane.proofs.Totals.{Contains-head, Contains-later}
use Rattle.overlay_plane.proofs.WholeOnEdges.{Decides-is_between, at_itself, same_place_at, held_of_on, by_end}
use Rattle.overlay_plane.proofs.WholePlaces.{rounded_whole}

-- an entry of a list of two is the first or the second
one_of_two : (u v w : Point) → Contains (u ∷ v ∷ []) w → (u ≡ w) ⊎ (v ≡ w)
one_of_two u v w at = ⊎_elim (λ is. inl is) (λ later. ⊎_elim (λ is. inr is) (λ none. absurd (omega (arith, none.1)))
    (Contains-cases v [] w later))
    (Contains-cases u (v ∷ []) w at)

-- ---- ends on the other edge

-- an end of f
abbrev pub IsOneOfEnds : Edge → Point → Type 0
IsOneOfEnds f v = (f.a ≡ v) ⊎ (f.b ≡ v)

-- an edge holds its ends
pub holds_its_ends : (f : Edge) (v : Point) → IsBefore f.a f.b → IsOneOfEnds f v → IsHeldBy f v
holds_its_ends f v forward (inl is) = subst (λ w. IsHeldBy f w) is (holds_start f forward)
holds_its_ends f v forward (inr is) = subst (λ w. IsHeldBy f w) is (holds_end f forward)

-- an end of an edge along e's line is on that line
end_on_line : (e f : Edge) (v : Point) → IsAlong e f → IsOneOfEnds f v → cross_at e.a e.b v ≡ pos 0
end_on_line e f v along (inl is) = subst (λ w. cross_at e.a e.b w ≡ pos 0) is along.0
end_on_line e f v along (inr is) = subst (λ w. cross_at e.a e.b w ≡ pos 0) is along.1

-- f's ends between those of e are the ends of f that e holds
pub end_held : (e f : Edge) (v : Point) → IsAlong e f → Contains (ends_between e f) v → IsOneOfEnds f v × IsHeldBy e v
end_held e f v along at =
    let parts = Contains-from_filter (is_between e) (f.a ∷ f.b ∷ []) v at in
    let end = one_of_two f.a f.b v parts.0 in
    let between = (Decides-is_between e v).0 parts.1 in
    (end, record { on_line = end_on_line e f v along end; from = between.0; to = between.1 })

-- each of those is among them
held_end : (e f : Edge) (v : Point) → IsOneOfEnds f v → IsHeldBy e v → Contains (ends_between e f) v
held_end e f v end held = Contains-filter (is_between e) (f.a ∷ f.b ∷ []) v (listed end)
    ((Decides-is_between e v).1 (held.from, held.to))
  where
    listed : IsOneOfEnds f v → Contains (f.a ∷ f.b ∷ []) v
    listed (inl is) = subst (λ w. Contains (f.a ∷ f.b ∷ []) w) is (Contains-head f.a (f.b ∷ []))
    listed (inr is) = subst (λ w. Contains (f.a ∷ f.b ∷ []) w) is
        (Contains-later f.a (f.b ∷ []) f.b (Contains-head f.b []))

-- ---- the meeting points

-- a common point that is the only one is an end of one of the edges
only_is_end : (e f : Edge) (p : PlanePoint) → IsBefore e.a e.b → IsBefore f.a f.b → IsAlong e f → IsCommon e f p →
    ((q : PlanePoint) → IsCommon e f q → SamePlace q p) → IsEnd e p ⊎ IsEnd f p
only_is_end e f p e_forward f_forward along common only = by_end e p (λ end. inl end) inner
  where
    at_place : (v : Point) → IsHeldBy e v → IsHeldBy f v → IsAt v p
    at_place v e_v f_v =
        let same = only (in_plane v) (common_of_held e f v e_forward f_forward e_v f_v) in
        (unit_out v.x p.x same.0, unit_out v.y p.y same.1)
      where
        unit_out : (a z : ℤ) → a *ℤ p.d ≡ z *ℤ pos 1 → z ≡ a *ℤ p.d
        unit_out a z is = omega (arith, ints)

    inner : ¬ (IsEnd e p) → IsEnd e p ⊎ IsEnd f p
    inner none =
        let order = overlap_at_inner e f p e_forward f_forward common none in
        by_order e.a f.a
        (λ later. inr (inl (at_place f.a (record { on_line = along.0; from = later; to = before_up_to f.a e.b order.0 })
        (holds_start f f_forward))))
        (λ sooner. inl (inl (at_place e.a (holds_start e e_forward)
        (record {
          on_line = (along_exchanged e f e_forward along).0;
          from = before_up_to f.a e.a sooner;
          to = before_up_to e.a f.b order.1;
        }))))

-- the ends of each edge on the other
abbrev pub ends_on_other : Edge → Edge → List Point
ends_on_other e f = ends_between f e ++ ends_between e f

-- such an end is an end of one of the two, and both hold it
record IsSharedEnd (e f : Edge) (v : Point) : Type 0 where
  end : IsOneOfEnds e v ⊎ IsOneOfEnds f v
  of_e : IsHeldBy e v
  of_f : IsHeldBy f v

module _ (e f : Edge) (e_forward : IsBefore e.a e.b) (f_forward : IsBefore f.a f.b) (along : IsAlong e f) where
  back : IsAlong f e
  back = along_exchanged e f e_forward along

  -- this holds of the points found
  shared_end : (v : Point) → Contains (ends_on_other e f) v → IsSharedEnd e f v
  shared_end v at = ⊎_elim of_e of_f (Contains-append_cases (ends_between f e) (ends_between e f) v at)
    where
      of_e : Contains (ends_between f e) v → IsSharedEnd e f v
      of_e there = let found = end_held f e v back there in
          record { end = inl found.0; of_e = holds_its_ends e v e_forward found.0; of_f = found.1 }

      of_f : Contains (ends_between e f) v → IsSharedEnd e f v
      of_f there = let found = end_held e f v along there in
          record { end = inr found.0; of_e = found.1; of_f = holds_its_ends f v f_forward found.0 }

  -- an end in the plane
  end_in_plane : (g : Edge) (v : Point) → IsOneOfEnds g v → IsEnd g (in_plane v)
  end_in_plane g v (inl is) = inl (subst (λ w. IsAt w (in_plane v)) (sym is) (at_itself v))
  end_in_plane g v (inr is) = inr (subst (λ w. IsAt w (in_plane v)) (sym is) (at_itself v))

  -- each of these ends is a meeting point
  meets_in : (v : Point) → IsSharedEnd e f v → IsMeetingPoint e f (in_plane v)
  meets_in v shared = end_is_meeting e f (in_plane v) (common_of_held e f v e_forward f_forward shared.of_e shared.of_f)
      (⊎_elim (λ of_e. inl (end_in_plane e v of_e)) (λ of_f. inr (end_in_plane f v of_f)) shared.end)

  -- a common point at an end of e is one of them
  start_found : (v : Point) (p : PlanePoint) → IsOneOfEnds e v → IsAt v p → IsCommon e f p →
      Any (SamePlace p) (map in_plane (ends_on_other e f))
  start_found v p end at common =
      any_of_entry (SamePlace p) (map in_plane (ends_on_other e f)) (in_plane v)
      (Contains-map in_plane (ends_on_other e f) v (Contains-append_left (ends_between f e) (ends_between e f) v
      (held_end f e v end (held_of_on f v p f_forward at common.1))))
      (same_place_at v p (in_plane v) at (at_itself v))

  -- a meeting point at an end of f is so too
  end_found : (v : Point) (p : PlanePoint) → IsOneOfEnds f v → IsAt v p → IsCommon e f p →
      Any (SamePlace p) (map in_plane (ends_on_other e f))
  end_found v p end at common =
      any_of_entry (SamePlace p) (map in_plane (ends_on_other e f)) (in_plane v)
      (Contains-map in_plane (ends_on_other e f) v (Contains-append_right (ends_between f e) (ends_between e f) v
      (held_end e f v end (held_of_on e v p e_forward at common.0))))
      (same_place_at v p (in_plane v) at (at_itself v))

  -- each meeting point is one of them
  each_found : (p : PlanePoint) → IsMeetingPoint e f p → Any (SamePlace p) (map in_plane (ends_on_other e f))
  each_found p meeting = by (⊎_elim (λ only. only_is_end e f p e_forward f_forward along meeting.common only)
      (λ end. end) meeting.only_or_end)
    where
      by : IsEnd e p ⊎ IsEnd f p → Any (SamePlace p) (map in_plane (ends_on_other e f))
      by (inl (inl at)) = start_found e.a p (inl refl) at meeting.common
      by (inl (inr at)) = start_found e.b p (inr refl) at meeting.common
      by (inr (inl at)) = end_found f.a p (inl refl) at meeting.common
      by (inr (inr at)) = end_found f.b p (inr refl) at meeting.common

  -- the ends on the other edge are the meeting points
  pub meetings_along : AreMeetings e f (map in_plane (ends_on_other e f))
  meetings_along = record {
    only = All-map (IsMeetingPoint e f) in_plane (ends_on_other e f)
        (all_of_entries (λ v. IsMeetingPoint e f (in_plane v)) (ends_on_other e f)
        (λ v at. meets_in v (shared_end v at)));
    every = each_found;
  }

  -- the whole points nearest to them are f's ends on e, except e's own ends
  pub nearest_along : AreNearest e (map in_plane (ends_on_other e f)) (ends_between e f)
  nearest_along = record {
    from = All-map IsFound in_plane (ends_on_other e f)
        (all_of_entries (λ v. IsFound (in_plane v)) (ends_on_other e f) found);
    to = all_of_entries (λ v. (v ≡ e.a)
        ⊎ ((v ≡ e.b) ⊎ Any (λ p. v ≡ nearest_point p) (map in_plane (ends_on_other e f)))) (ends_between e f)
        (λ v at. inr (inr (taken v at)));
  }
    where
      IsFound : PlanePoint → Type 0
      IsFound p = (nearest_point p ≡ e.a) ⊎ ((nearest_point p ≡ e.b) ⊎ Contains (ends_between e f) (nearest_point p))

      whole : (v : Point) → nearest_point (in_plane v) ≡ v
      whole v = rounded_whole nearest_point v (in_plane v) nearest_point-rounding (at_itself v)

      own : (v : Point) → IsOneOfEnds e v → IsFound (in_plane v)
      own v (inl is) = inl (whole v ∙ sym is)
      own v (inr is) = inr (inl (whole v ∙ sym is))

      found : (v : Point) → Contains (ends_on_other e f) v → IsFound (in_plane v)
      found v at =
          ⊎_elim
          (λ there. own v (end_held f e v back there).0)
          (λ here. inr (inr (subst (λ w. Contains (ends_between e f) w) (sym (whole v)) here)))
          (Contains-append_cases (ends_between f e) (ends_between e f) v at)

      taken : (v : Point) → Contains (ends_between e f) v →
          Any (λ p. v ≡ nearest_point p) (map in_plane (ends_on_other e f))
      taken v at =
          any_of_entry (λ p. v ≡ nearest_point p) (map in_plane (ends_on_other e f)) (in_plane v)
          (Contains-map in_plane (ends_on_other e f) v
          (Contains-append_right (ends_between f e) (ends_between e f) v at)) (sym (whole v))
