-- The chain of an edge through its rounded cuts is the chain through the whole points computed pair by pair.
use Rattle.std.proofs.Common.{◌≡◌, ◌⊎◌, inl, inr, ⊎_elim, Bool, true, false, pos, List, [], ◌∷◌, ◌++◌, map, Contains}
use Rattle.std.proofs.Common.{refl, sym, ◌∙◌, subst}
use Rattle.std.specs.List.{Any, flat_map}
use Rattle.std.proofs.lemmas.List.Elements.{All-contains, Contains-append_left, Contains-push, Contains-push_cases}
use Rattle.overlay_geom.specs.Plane.{Point, PlanePoint, Edge, edge_eq, steps_through}
use Rattle.overlay_geom.specs.Edges.{CountedEdge, ends_of}
use Rattle.overlay_geom.specs.Rounding.{nearest_point}
use Rattle.overlay_geom.specs.Placed.{IsAlong}
use Rattle.overlay_geom.proofs.Cross.{crossE}
use Rattle.overlay_geom.proofs.Identities.{solve, number, ◌≗◌}
use Rattle.overlay_geom.proofs.Orders.{edge_eq-same}
use Rattle.overlay_geom.proofs.PointOrder.{IsBefore}
use Rattle.overlay_geom.proofs.Rounded.{nearest_point-rounding}
use Rattle.overlay_plane.specs.CutPoints.{met_at, comes_first, cut_points}
use Rattle.overlay_plane.specs.EdgeLists.{IsForwardBy}
use Rattle.overlay_plane.specs.Rounds.{IsSmaller}
use Rattle.overlay_plane.proofs.Entries.{Contains-map, Contains-from_any, Contains-from_map, Contains-flat_map}
use Rattle.overlay_plane.proofs.Entries.{Contains-from_flat_map}
use Rattle.overlay_plane.proofs.LaterEntries.{Contains-cases, Each, Each-map, Each-between_ends}
use Rattle.overlay_plane.proofs.AlongOrder.{IsUpToAlong, along-order, along-reflexive, along-antisymmetric}
use Rattle.overlay_plane.proofs.AlongOrder.{start_up_to_end}
use Rattle.overlay_plane.proofs.CutLists.{pair_points, points_between, cuts_of, cuts_ascend, cut_at, cut_from, differs}
use Rattle.overlay_plane.proofs.CutLists.{leads_forward, two_forward, cut_on}
use Rattle.overlay_plane.proofs.InOrderLists.{Contains-in_order, Contains-put_in_order, Each-in_weak_order}
use Rattle.overlay_plane.proofs.MeetingLists.{AreNearest}
use Rattle.overlay_plane.proofs.MeetingsAlong.{end_held}
use Rattle.overlay_plane.proofs.Placements.{met_along}
use Rattle.overlay_plane.proofs.RoundedAlong.{start_up_to_rounded, rounded_up_to_end, rounded_up_to}
use Rattle.overlay_plane.proofs.SortedSteps.{same_chain_steps}
use Rattle.overlay_plane.proofs.Totals.{Contains-head, Contains-later}
use Rattle.overlay_plane.proofs.WholeOnEdges.{forward_from_test}

-- ---- an edge and itself

-- an edge lies along itself
pub along_itself : (e : Edge) → IsAlong e e
along_itself e = (
  solve 4 (λ ax ay bx by. crossE ax ay bx by ax ay ≗ number (pos 0)) tt e.a.x e.a.y e.b.x e.b.y,
  solve 4 (λ ax ay bx by. crossE ax ay bx by bx by ≗ number (pos 0)) tt e.a.x e.a.y e.b.x e.b.y,
)

-- an edge leads itself through its ends alone
pub met_at_itself : (e : Edge) (v : Point) → Contains (met_at e e) v → (v ≡ e.a) ⊎ (v ≡ e.b)
met_at_itself e v at_v = ⊎_elim (λ is. inl (sym is)) (λ is. inr (sym is))
    (end_held e e v (along_itself e) (subst (λ vs. Contains vs v) (met_along e e (along_itself e)) at_v)).0

-- ---- two lists between two ends

-- the point is one of the ends or in the list
abbrev pub IsEndOrIn : Point → Point → List Point → Point → Type 0
IsEndOrIn a b vs v = (v ≡ a) ⊎ ((v ≡ b) ⊎ Contains vs v)

-- where the entries of one list are ends or in the other, its entries with the ends are those of the other with the
-- ends
entries_with_ends : (a b : Point) (us vs : List Point) → ((v : Point) → Contains us v → IsEndOrIn a b vs v) →
    (z : Point) → Contains (a ∷ us ++ b ∷ []) z → Contains (a ∷ vs ++ b ∷ []) z
entries_with_ends a b us vs each z at_z = ⊎_elim (λ is. placed (inl (sym is)))
    (λ later. ⊎_elim (λ old. placed (each z old)) (λ is. placed (inr (inl (sym is))))
    (Contains-push_cases us b z later))
    (Contains-cases a (us ++ b ∷ []) z at_z)
  where
    placed : IsEndOrIn a b vs z → Contains (a ∷ vs ++ b ∷ []) z
    placed (inl is) = subst (λ u. Contains (a ∷ vs ++ b ∷ []) u) (sym is) (Contains-head a (vs ++ b ∷ []))
    placed (inr (inl is)) = subst (λ u. Contains (a ∷ vs ++ b ∷ []) u) (sym is)
        (Contains-later a (vs ++ b ∷ []) b (Contains-push vs b))
    placed (inr (inr in_vs)) = Contains-later a (vs ++ b ∷ []) z (Contains-append_left vs (b ∷ []) z in_vs)

-- two lists in order along an edge lead it along one chain, if each has the entries of the other or ends, and the
-- second lies between its ends
pub chains_alike : (e : Edge) → IsBefore e.a e.b → (us vs : List Point) →
    Each (IsUpToAlong e) us → Each (IsUpToAlong e) vs →
    ((v : Point) → Contains vs v → IsUpToAlong e e.a v × IsUpToAlong e v e.b) →
    ((v : Point) → Contains us v → IsEndOrIn e.a e.b vs v) → ((v : Point) → Contains vs v → IsEndOrIn e.a e.b us v) →
    steps_through e.a (us ++ e.b ∷ []) ≡ steps_through e.a (vs ++ e.b ∷ [])
chains_alike e before us vs us_in_order vs_in_order within forth back =
    same_chain_steps (IsUpToAlong e) (along-reflexive e) (along-antisymmetric e) e.a (us ++ e.b ∷ []) (vs ++ e.b ∷ [])
    (Each-between_ends (IsUpToAlong e) e.a e.b us ends_in_order also_within us_in_order)
    (Each-between_ends (IsUpToAlong e) e.a e.b vs ends_in_order within vs_in_order)
    (record { forth = entries_with_ends e.a e.b us vs forth; back = entries_with_ends e.a e.b vs us back })
  where
    IsWithin : Point → Type 0
    IsWithin v = IsUpToAlong e e.a v × IsUpToAlong e v e.b

    ends_in_order : IsUpToAlong e e.a e.b
    ends_in_order = start_up_to_end e before

    also_within : (v : Point) → Contains us v → IsWithin v
    also_within v at_v = ⊎_elim (λ is. subst IsWithin (sym is) (along-reflexive e e.a, ends_in_order))
        (λ other. ⊎_elim (λ is. subst IsWithin (sym is) (ends_in_order, along-reflexive e e.b))
        (λ in_vs. within v in_vs) other)
        (forth v at_v)

-- ---- the two chains of an edge

module _ (es : List CountedEdge) (forward : IsForwardBy ends_of es) (e : CountedEdge) (at_e : Contains es e) where
  -- the cuts rounded
  abbrev rounded : List Point
  rounded = map nearest_point (cuts_of es e)

  -- the points through which f leads e
  abbrev led_by : CountedEdge → List Point
  led_by f = met_at (ends_of e) (ends_of f)

  -- those of all edges, before they are put in order
  abbrev computed : List Point
  computed = flat_map led_by es

  -- ---- the entries

  -- the points through which a different edge leads e are those nearest their meetings
  are_nearest : (f : CountedEdge) → Contains es f → edge_eq (ends_of e) (ends_of f) ≡ false →
      AreNearest (ends_of e) (points_between e f) (led_by f)
  are_nearest f at_f differ = (pair_points (ends_of e) (ends_of f)).nearest
      (two_forward es forward e at_e f at_f differ)

  -- each of them is an end of e or a rounded cut
  led_is_rounded : (f : CountedEdge) → Contains es f → (v : Point) → Contains (led_by f) v → IsEndOrIn e.a e.b rounded v
  led_is_rounded f at_f v at_v = by (edge_eq (ends_of e) (ends_of f)) refl
    where
      cut : Any (λ p. v ≡ nearest_point p) (points_between e f) → Contains rounded v
      cut some =
          let met = Contains-from_any (λ p. v ≡ nearest_point p) (points_between e f) some in
          let put = cut_at es e f met.0 at_f met.1 in
          let is : v ≡ nearest_point put.0 = met.2 ∙ nearest_point-rounding.one met.0 put.0 put.2 in
          subst (λ w. Contains rounded w) (sym is) (Contains-map nearest_point (cuts_of es e) put.0 put.1)

      by : (t : Bool) → edge_eq (ends_of e) (ends_of f) ≡ t → IsEndOrIn e.a e.b rounded v
      by true same = ⊎_elim (λ is. inl is) (λ is. inr (inl is))
          (met_at_itself (ends_of e) v (subst (λ g. Contains (met_at (ends_of e) g) v)
          (sym (edge_eq-same (ends_of e) (ends_of f) same)) at_v))
      by false differ = ⊎_elim (λ is. inl is) (λ other. inr (⊎_elim (λ is. inl is) (λ some. inr (cut some)) other))
          (All-contains (λ w. (w ≡ e.a) ⊎ ((w ≡ e.b) ⊎ Any (λ p. w ≡ nearest_point p) (points_between e f)))
          (led_by f) v (are_nearest f at_f differ).to at_v)

  -- each computed point is a rounded cut, or an end
  pub computed_is_rounded : (v : Point) → Contains (cut_points es e) v → IsEndOrIn e.a e.b rounded v
  computed_is_rounded v at_v =
      let from = Contains-from_flat_map led_by es v (Contains-in_order (comes_first (ends_of e)) computed v at_v) in
      led_is_rounded from.0 from.1 v from.2

  -- a computed point of an edge is one in their order
  put_in_order : (f : CountedEdge) → Contains es f → (v : Point) → Contains (led_by f) v → Contains (cut_points es e) v
  put_in_order f at_f v at_v = Contains-put_in_order (comes_first (ends_of e)) computed v
      (Contains-flat_map led_by es f v at_f at_v)

  -- each cut rounded is an end of e or a computed point
  pub cut_is_computed : (p : PlanePoint) → Contains (cuts_of es e) p →
      IsEndOrIn e.a e.b (cut_points es e) (nearest_point p)
  cut_is_computed p at_p = ⊎_elim (λ is. inl is)
      (λ other. inr (⊎_elim (λ is. inl is) (λ met. inr (put_in_order f at_f (nearest_point p) met)) other))
      (All-contains (λ q. IsEndOrIn e.a e.b (led_by f) (nearest_point q)) (points_between e f) p
      (are_nearest f at_f differ).from from.2)
    where
      from : (f : CountedEdge) × Contains es f × Contains (points_between e f) p
      from = cut_from es e p at_p

      f : CountedEdge
      f = from.0

      at_f : Contains es f
      at_f = from.1

      differ : edge_eq (ends_of e) (ends_of f) ≡ false
      differ = differs (ends_of e) (ends_of f) p from.2

  -- each rounded cut is computed, or an end
  rounded_is_computed : (v : Point) → Contains rounded v → IsEndOrIn e.a e.b (cut_points es e) v
  rounded_is_computed v at_v =
      let cut = Contains-from_map nearest_point (cuts_of es e) v at_v in
      subst (λ w. IsEndOrIn e.a e.b (cut_points es e) w) cut.2 (cut_is_computed cut.0 cut.1)

  -- ---- the order

  -- the order along e
  abbrev IsUpTo : Point → Point → Type 0
  IsUpTo v w = IsUpToAlong (ends_of e) v w

  -- v comes between the ends of e
  abbrev IsWithin : Point → Type 0
  IsWithin v = IsUpTo e.a v × IsUpTo v e.b

  -- e leads forward
  before : IsBefore e.a e.b
  before = forward_from_test (ends_of e) (leads_forward es forward e at_e e at_e)

  -- the ends come in their order
  ends_in_order : IsUpTo e.a e.b
  ends_in_order = start_up_to_end (ends_of e) before

  -- the rounded cuts come between them
  rounded_within : (v : Point) → Contains rounded v → IsWithin v
  rounded_within v at_v =
      let cut = Contains-from_map nearest_point (cuts_of es e) v at_v in
      let on = cut_on es forward e at_e cut.0 cut.1 in
      subst IsWithin cut.2 (
        start_up_to_rounded (ends_of e) before cut.0 on,
        rounded_up_to_end (ends_of e) before cut.0 on,
      )

  -- the computed points lie between the ends
  computed_within : (v : Point) → Contains (cut_points es e) v → IsWithin v
  computed_within v at_v = ⊎_elim (λ is. subst IsWithin (sym is) (along-reflexive (ends_of e) e.a, ends_in_order))
      (λ other. ⊎_elim (λ is. subst IsWithin (sym is) (ends_in_order, along-reflexive (ends_of e) e.b))
      (λ cut. rounded_within v cut) other)
      (computed_is_rounded v at_v)

  -- the rounded cuts are in their order along e
  rounded_in_order : Each IsUpTo rounded
  rounded_in_order = Each-map IsSmaller IsUpTo nearest_point (cuts_of es e) kept (cuts_ascend es e)
    where
      kept : (p q : PlanePoint) → Contains (cuts_of es e) p → Contains (cuts_of es e) q → IsSmaller p q →
          IsUpTo (nearest_point p) (nearest_point q)
      kept p q at_p at_q smaller = rounded_up_to (ends_of e) before p q (cut_on es forward e at_e p at_p)
          (cut_on es forward e at_e q at_q) smaller

  -- the computed points are in order
  computed_in_order : Each IsUpTo (cut_points es e)
  computed_in_order = Each-in_weak_order (comes_first (ends_of e)) IsUpTo (along-order (ends_of e)) computed

  -- the two chains have the same steps
  pub same_chain : steps_through e.a (rounded ++ e.b ∷ []) ≡ steps_through e.a (cut_points es e ++ e.b ∷ [])
  same_chain = chains_alike (ends_of e) before rounded (cut_points es e) rounded_in_order computed_in_order
      computed_within rounded_is_computed computed_is_rounded

  -- the chain through other points in order is equal, if they are the computed points but for ends
  pub same_chain_through : (us : List Point) → Each IsUpTo us →
      ((v : Point) → Contains us v → Contains (cut_points es e) v)
      → ((v : Point) → Contains (cut_points es e) v → IsEndOrIn e.a e.b us v)
      → steps_through e.a (us ++ e.b ∷ []) ≡ steps_through e.a (cut_points es e ++ e.b ∷ [])
  same_chain_through us us_in_order computed_of all = chains_alike (ends_of e) before us (cut_points es e)
      us_in_order computed_in_order computed_within (λ v at_v. inr (inr (computed_of v at_v))) all
