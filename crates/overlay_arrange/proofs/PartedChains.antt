-- The chain of an edge that is parted at a point is the chains of its two parts, one behind the other.
use lib.IntN.{*ℤ_comm}
use Rattle.std.proofs.Common.{◌≡◌, ◌⊎◌, ⊎_elim, inl, inr, Bool, cond, neg_ℤ, ◌-ℤ◌, ◌*ℤ◌, ◌<ℤ◌, ◌≤ℤ◌, int_le}
use Rattle.std.proofs.Common.{List, [], ◌∷◌, ◌++◌, Contains, sym, ap, ◌∙◌, subst, append_assoc}
use Rattle.std.proofs.lemmas.Int.{by_lt_z}
use Rattle.std.proofs.lemmas.List.Elements.{Contains-append_cases, Contains-append_left, Contains-append_right}
use Rattle.overlay_geom.specs.Edges.{CountedEdge, ends_of}
use Rattle.overlay_geom.specs.Placed.{IsAlong}
use Rattle.overlay_geom.specs.Plane.{Point, PlanePoint, Edge, IsOn, in_plane, steps_through}
use Rattle.overlay_geom.specs.Rounding.{nearest_point}
use Rattle.overlay_geom.proofs.Cross.{crossE}
use Rattle.overlay_geom.proofs.Identities.{solve, ◌⊗◌, ◌⊖◌, ◌≗◌}
use Rattle.overlay_geom.proofs.OneLine.{along_exchanged}
use Rattle.overlay_geom.proofs.PointOrder.{IsBefore, IsUpTo}
use Rattle.overlay_geom.proofs.Rounded.{nearest_point-rounding}
use Rattle.overlay_geom.proofs.Signs.{linear, mul-neg, mul-nonneg, mul-pos, mul-zero}
use Rattle.overlay_plane.specs.EdgeLists.{IsForwardBy}
use Rattle.overlay_plane.proofs.AlongOrder.{IsUpToAlong, along-order, along-reflexive}
use Rattle.overlay_plane.proofs.AlongOrder.{start_up_to_end}
use Rattle.overlay_plane.proofs.CutChains.{IsEndOrIn, chains_alike}
use Rattle.overlay_plane.proofs.LaterEntries.{Contains-cases, Each, Each-weaker}
use Rattle.overlay_plane.proofs.RoundedAlong.{start_up_to_rounded, rounded_up_to_end}
use Rattle.overlay_plane.proofs.Tests.{le_from_test, same_tests, test_from_le}
use Rattle.overlay_plane.proofs.Totals.{Contains-head, Contains-later}
use Rattle.overlay_plane.proofs.WholeOnEdges.{at_itself}
use Rattle.overlay_plane.proofs.WholePlaces.{rounded_whole}
use Rattle.overlay_arrange.specs.Cut.{chain_by, LeadingPoints}
use Rattle.overlay_arrange.proofs.PartedMeetings.{chain_parted}
use Rattle.overlay_arrange.proofs.PartedPoints.{high_of, low_of}

-- ---- one order along edges of one line

-- two forward edges along one line rise together
rises_with : (e g : Edge) → IsBefore e.a e.b → IsBefore g.a g.b → IsAlong e g → e.a.y ≤ℤ e.b.y → g.a.y ≤ℤ g.b.y
rises_with e g e_forward g_forward (at_a, at_b) rises = by_lt_z g.b.y g.a.y (λ falls. absurd (falling falls)) (λ le. le)
  where
    falling : g.b.y <ℤ g.a.y → ⊥
    falling falls = by_lt_z g.a.x g.b.x slanted (λ upright. let up = g_forward.y upright in omega linear)
      where
        level : (e.b.x -ℤ e.a.x) *ℤ (g.b.y -ℤ g.a.y) ≡ (e.b.y -ℤ e.a.y) *ℤ (g.b.x -ℤ g.a.x)
        level =
            let identity = solve 8 (λ ax ay bx by ux uy vx vy. (bx ⊖ ax) ⊗ (vy ⊖ uy) ⊖ (by ⊖ ay) ⊗ (vx ⊖ ux)
            ≗ crossE ax ay bx by vx vy ⊖ crossE ax ay bx by ux uy) tt e.a.x e.a.y e.b.x e.b.y g.a.x g.a.y g.b.x
            g.b.y in
            omega linear

        slanted : g.a.x <ℤ g.b.x → ⊥
        slanted lt = by_lt_z e.a.x e.b.x
            (λ wide.
            let down = mul-neg (e.b.x -ℤ e.a.x) (g.b.y -ℤ g.a.y) (omega linear) (omega linear) in
            let up = mul-nonneg (e.b.y -ℤ e.a.y) (g.b.x -ℤ g.a.x) (omega linear) (omega linear) in
            let same = level in
            omega linear)
            (λ upright.
            let higher = e_forward.y upright in
            let right = e_forward.x in
            let up = mul-pos (e.b.y -ℤ e.a.y) (g.b.x -ℤ g.a.x) (omega linear) (omega linear) in
            let none = mul-zero (g.b.y -ℤ g.a.y) (e.b.x -ℤ e.a.x) (omega linear) in
            let turned = *ℤ_comm (e.b.x -ℤ e.a.x) (g.b.y -ℤ g.a.y) in
            let same = level in
            omega linear)

-- the test of both is one
same_rise : (e g : Edge) → IsBefore e.a e.b → IsBefore g.a g.b → IsAlong e g →
    int_le g.a.y g.b.y ≡ int_le e.a.y e.b.y
same_rise e g e_forward g_forward along_g = same_tests (int_le g.a.y g.b.y) (int_le e.a.y e.b.y)
    (λ t. test_from_le e.a.y e.b.y (rises_with g e g_forward e_forward (along_exchanged e g e_forward along_g)
    (le_from_test g.a.y g.b.y t)))
    (λ t. test_from_le g.a.y g.b.y (rises_with e g e_forward g_forward along_g (le_from_test e.a.y e.b.y t)))

-- the order along both is one
pub same_order : (e g : Edge) → IsBefore e.a e.b → IsBefore g.a g.b → IsAlong e g → (v w : Point) →
    IsUpToAlong g v w → IsUpToAlong e v w
same_order e g e_forward g_forward along_g v w =
    subst (λ t. IsUpTo (counted t v) (counted t w)) (same_rise e g e_forward g_forward along_g)
  where
    counted : Bool → Point → Point
    counted t u = record { x = u.x; y = cond t u.y (neg_ℤ u.y) }

-- ---- lists in order

-- two lists in order, of which the second comes after the first
Each-both : {X : Type 0} (R : X → X → Type 0) (xs ys : List X) → Each R xs → Each R ys →
    ((x y : X) → Contains xs x → Contains ys y → R x y) → Each R (xs ++ ys)
Each-both R [] ys first second across = second
Each-both {X} R (x ∷ xs) ys first second across = (
  (λ z c. ⊎_elim (λ here. first.0 z here) (λ there. across x z (Contains-head x xs) there)
      (Contains-append_cases xs ys z c)),
  Each-both R xs ys first.1 second (λ u w at_u at_w. across u w (Contains-later x xs u at_u) at_w),
)

-- ---- points that lead edges

-- points of lists of edges that lead an edge: in their order along it, those nearest to certain points of the edge,
-- perhaps without its ends
pub record LeadBy (points : List CountedEdge → LeadingPoints) (IsLed : List CountedEdge → Edge → PlanePoint → Type 0) :
    Type 0 where
  pub in_order : (es : List CountedEdge) (e : CountedEdge) → Each (IsUpToAlong (ends_of e)) (points es e)
  pub all : (es : List CountedEdge) → IsForwardBy ends_of es → (e : CountedEdge) → IsBefore e.a e.b →
      (p : PlanePoint) → IsOn (ends_of e) p → IsLed es (ends_of e) p →
      IsEndOrIn e.a e.b (points es e) (nearest_point p)
  pub only : (es : List CountedEdge) → IsForwardBy ends_of es → (e : CountedEdge) → IsBefore e.a e.b → (v : Point) →
      Contains (points es e) v →
      (v ≡ e.a) ⊎ ((v ≡ e.b)
      ⊎ ((p : PlanePoint) × IsOn (ends_of e) p × IsLed es (ends_of e) p × (nearest_point p ≡ v)))
  pub by_ends : (es : List CountedEdge) (e f : CountedEdge) → ends_of e ≡ ends_of f → points es e ≡ points es f

module _ (points : List CountedEdge → LeadingPoints) (IsLed : List CountedEdge → Edge → PlanePoint → Type 0)
    (lead : LeadBy points IsLed) where
  module _ (es : List CountedEdge) (forward : IsForwardBy ends_of es) (e : CountedEdge) (before : IsBefore e.a e.b)
    where
      -- they come between the ends of the edge
      pub led_within : (v : Point) → Contains (points es e) v →
          IsUpToAlong (ends_of e) e.a v × IsUpToAlong (ends_of e) v e.b
      led_within v at = ⊎_elim
          (λ is. subst Within (sym is) (along-reflexive (ends_of e) e.a, start_up_to_end (ends_of e) before))
          (λ other. ⊎_elim
          (λ is. subst Within (sym is) (start_up_to_end (ends_of e) before, along-reflexive (ends_of e) e.b))
          (λ found. subst Within found.3 (
            start_up_to_rounded (ends_of e) before found.0 found.1,
            rounded_up_to_end (ends_of e) before found.0 found.1,
          )) other) (lead.only es forward e before v at)
        where
          Within : Point → Type 0
          Within w = IsUpToAlong (ends_of e) e.a w × IsUpToAlong (ends_of e) w e.b

  -- two lists lead an edge along one chain, where both lead it by the same points
  module _ (es fs : List CountedEdge) (es_forward : IsForwardBy ends_of es) (fs_forward : IsForwardBy ends_of fs)
      (e : CountedEdge) (before : IsBefore e.a e.b)
      (forth : (p : PlanePoint) → IsOn (ends_of e) p → IsLed es (ends_of e) p → IsLed fs (ends_of e) p)
      (back : (p : PlanePoint) → IsOn (ends_of e) p → IsLed fs (ends_of e) p → IsLed es (ends_of e) p) where
    led_there : (gs hs : List CountedEdge) → IsForwardBy ends_of gs → IsForwardBy ends_of hs →
        ((p : PlanePoint) → IsOn (ends_of e) p → IsLed gs (ends_of e) p → IsLed hs (ends_of e) p) →
        (v : Point) → Contains (points gs e) v → IsEndOrIn e.a e.b (points hs e) v
    led_there gs hs gs_forward hs_forward to v at = ⊎_elim (λ is. inl is)
        (λ other. ⊎_elim (λ is. inr (inl is))
        (λ found. subst (IsEndOrIn e.a e.b (points hs e)) found.3
        (lead.all hs hs_forward e before found.0 found.1 (to found.0 found.1 found.2))) other)
        (lead.only gs gs_forward e before v at)

    pub same_led : chain_by (points es) e ≡ chain_by (points fs) e
    same_led = chains_alike (ends_of e) before (points es e) (points fs e) (lead.in_order es e) (lead.in_order fs e)
        (led_within fs fs_forward e before) (led_there es fs es_forward fs_forward forth)
        (led_there fs es fs_forward es_forward back)

  -- a list leads an edge through v, and another the two parts at v as the first the edge
  module _ (es fs : List CountedEdge) (es_forward : IsForwardBy ends_of es) (fs_forward : IsForwardBy ends_of fs)
      (part : CountedEdge) (v : Point) (before : IsBefore part.a part.b) (low_before : IsBefore part.a v)
      (high_before : IsBefore v part.b) (low_along : IsAlong (ends_of part) (ends_of (low_of part v)))
      (high_along : IsAlong (ends_of part) (ends_of (high_of part v)))
      (low_on : (p : PlanePoint) → IsOn (ends_of (low_of part v)) p → IsOn (ends_of part) p)
      (high_on : (p : PlanePoint) → IsOn (ends_of (high_of part v)) p → IsOn (ends_of part) p)
      (on_either : (p : PlanePoint) → IsOn (ends_of part) p →
      IsOn (ends_of (low_of part v)) p ⊎ IsOn (ends_of (high_of part v)) p)
      (there : IsOn (ends_of part) (in_plane v) × IsLed es (ends_of part) (in_plane v))
      (to_low : (p : PlanePoint) → IsLed es (ends_of part) p → IsOn (ends_of (low_of part v)) p →
      IsLed fs (ends_of (low_of part v)) p)
      (to_high : (p : PlanePoint) → IsLed es (ends_of part) p → IsOn (ends_of (high_of part v)) p →
      IsLed fs (ends_of (high_of part v)) p)
      (of_low : (p : PlanePoint) → IsLed fs (ends_of (low_of part v)) p → IsLed es (ends_of part) p)
      (of_high : (p : PlanePoint) → IsLed fs (ends_of (high_of part v)) p → IsLed es (ends_of part) p) where
    -- the points of the parts, and v between them
    abbrev lows : List Point
    lows = points fs (low_of part v)

    abbrev highs : List Point
    highs = points fs (high_of part v)

    abbrev both : List Point
    both = lows ++ v ∷ highs

    abbrev Up : Point → Point → Type 0
    Up u w = IsUpToAlong (ends_of part) u w

    low_up : (u w : Point) → IsUpToAlong (ends_of (low_of part v)) u w → Up u w
    low_up = same_order (ends_of part) (ends_of (low_of part v)) before low_before low_along

    high_up : (u w : Point) → IsUpToAlong (ends_of (high_of part v)) u w → Up u w
    high_up = same_order (ends_of part) (ends_of (high_of part v)) before high_before high_along

    up_to_v : (u : Point) → Contains lows u → Up u v
    up_to_v u at = low_up u v (led_within fs fs_forward (low_of part v) low_before u at).1

    from_v : (w : Point) → Contains highs w → Up v w
    from_v w at = high_up v w (led_within fs fs_forward (high_of part v) high_before w at).0

    -- they are in order along the edge
    both_in_order : Each Up both
    both_in_order = Each-both Up lows (v ∷ highs)
        (Each-weaker (IsUpToAlong (ends_of (low_of part v))) Up lows (λ u w at_u at_w. low_up u w)
        (lead.in_order fs (low_of part v))) (
          from_v,
          Each-weaker (IsUpToAlong (ends_of (high_of part v))) Up highs (λ u w at_u at_w. high_up u w)
              (lead.in_order fs (high_of part v)),
        )
        (λ u w at_u at_w. ⊎_elim (λ is. subst (Up u) is (up_to_v u at_u))
        (λ later. (along-order (ends_of part)).transitive u v w (up_to_v u at_u) (from_v w later))
        (Contains-cases v highs w at_w))

    -- each of them leads the edge
    passed : (p : PlanePoint) → IsOn (ends_of part) p → IsLed es (ends_of part) p →
        IsEndOrIn part.a part.b (points es part) (nearest_point p)
    passed = lead.all es es_forward part before

    v_passed : IsEndOrIn part.a part.b (points es part) v
    v_passed = subst (IsEndOrIn part.a part.b (points es part))
        (rounded_whole nearest_point v (in_plane v) nearest_point-rounding (at_itself v))
        (passed (in_plane v) there.0 there.1)

    low_passed : (u : Point) → Contains lows u → IsEndOrIn part.a part.b (points es part) u
    low_passed u at = ⊎_elim (λ is. inl is)
        (λ other. ⊎_elim (λ is. subst (IsEndOrIn part.a part.b (points es part)) (sym is) v_passed)
        (λ found. subst (IsEndOrIn part.a part.b (points es part)) found.3
        (passed found.0 (low_on found.0 found.1) (of_low found.0 found.2))) other)
        (lead.only fs fs_forward (low_of part v) low_before u at)

    high_passed : (u : Point) → Contains highs u → IsEndOrIn part.a part.b (points es part) u
    high_passed u at = ⊎_elim (λ is. subst (IsEndOrIn part.a part.b (points es part)) (sym is) v_passed)
        (λ other. ⊎_elim (λ is. inr (inl is))
        (λ found. subst (IsEndOrIn part.a part.b (points es part)) found.3
        (passed found.0 (high_on found.0 found.1) (of_high found.0 found.2))) other)
        (lead.only fs fs_forward (high_of part v) high_before u at)

    forth : (u : Point) → Contains both u → IsEndOrIn part.a part.b (points es part) u
    forth u at = ⊎_elim (low_passed u)
        (λ later. ⊎_elim (λ is. subst (IsEndOrIn part.a part.b (points es part)) is v_passed) (high_passed u)
        (Contains-cases v highs u later)) (Contains-append_cases lows (v ∷ highs) u at)

    -- each point that leads the edge is among them
    v_in : Contains both v
    v_in = Contains-append_right lows (v ∷ highs) v (Contains-head v highs)

    of_lows : (u : Point) → IsEndOrIn part.a v lows u → IsEndOrIn part.a part.b both u
    of_lows u (inl is) = inl is
    of_lows u (inr (inl is)) = inr (inr (subst (Contains both) (sym is) v_in))
    of_lows u (inr (inr at)) = inr (inr (Contains-append_left lows (v ∷ highs) u at))

    of_highs : (u : Point) → IsEndOrIn v part.b highs u → IsEndOrIn part.a part.b both u
    of_highs u (inl is) = inr (inr (subst (Contains both) (sym is) v_in))
    of_highs u (inr (inl is)) = inr (inl is)
    of_highs u (inr (inr at)) = inr (inr (Contains-append_right lows (v ∷ highs) u (Contains-later v highs u at)))

    back : (u : Point) → Contains (points es part) u → IsEndOrIn part.a part.b both u
    back u at = ⊎_elim (λ is. inl is) (λ other. ⊎_elim (λ is. inr (inl is)) found other)
        (lead.only es es_forward part before u at)
      where
        found : (p : PlanePoint) × IsOn (ends_of part) p × IsLed es (ends_of part) p × (nearest_point p ≡ u) →
            IsEndOrIn part.a part.b both u
        found (p, on, led, is) = subst (IsEndOrIn part.a part.b both) is (⊎_elim
            (λ low. of_lows (nearest_point p) (lead.all fs fs_forward (low_of part v) low_before p low
            (to_low p led low)))
            (λ high. of_highs (nearest_point p) (lead.all fs fs_forward (high_of part v) high_before p high
            (to_high p led high))) (on_either p on))

    -- the chain of the edge is those of its parts
    pub parted_chain : chain_by (points es) part
        ≡ chain_by (points fs) (low_of part v) ++ chain_by (points fs) (high_of part v)
    parted_chain =
        sym (chains_alike (ends_of part) before both (points es part) both_in_order (lead.in_order es part)
        (led_within es es_forward part before) forth back)
        ∙ ap (steps_through part.a) (append_assoc lows (v ∷ highs) (part.b ∷ []))
        ∙ chain_parted part.a v lows (highs ++ part.b ∷ [])
