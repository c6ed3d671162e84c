-- A rule holds somewhere off the edges exactly where it holds beside some edge.
use Rattle.std.proofs.Common.{◌≡◌, ⊎_elim, Bool, true, false, cond, ◌||◌, ℤ, pos, ◌-ℤ◌, ◌*ℤ◌, ◌<ℤ◌, ◌≤ℤ◌, List, [], ◌∷◌}
use Rattle.std.proofs.Common.{Contains, refl, sym, ap, ap₂, ◌∙◌, subst, arith}
use Rattle.std.proofs.lemmas.Bool.{or_cases, or_left, and_parts}
use Rattle.std.proofs.lemmas.Int.{ints, by_lt_z}
use Rattle.std.proofs.lemmas.List.Elements.{All-contains}
use Rattle.overlay_geom.specs.Plane.{PlanePoint, point_lt, midpoint, is_strictly_below, total}
use Rattle.overlay_geom.specs.Edges.{CountedEdge, ends_of, winding_by}
use Rattle.overlay_geom.proofs.Signs.{linear}
use Rattle.overlay_plane.specs.Heights.{width, covers}
use Rattle.overlay_plane.specs.Predicates.{HoldsSomewhere}
use Rattle.overlay_plane.specs.EdgePredicates.{SomeEdge, RegionsReachEdges}
use Rattle.overlay_plane.specs.Regions.{holds_above, holds_below, one_if, selected_sign, IsRuled}
use Rattle.overlay_plane.proofs.BalancedSigns.{signs_are_balanced}
use Rattle.overlay_plane.proofs.BelowHoles.{positive_taken}
use Rattle.overlay_plane.proofs.GreatestBelow.{winding_above_the_greatest_below}
use Rattle.overlay_plane.proofs.LaterEntries.{Contains-cases}
use Rattle.overlay_plane.proofs.NearAbove.{near_above}
use Rattle.overlay_plane.proofs.NodeStarts.{rises_upright}
use Rattle.overlay_plane.proofs.RegionBelow.{region_from_selected_signs}
use Rattle.overlay_plane.proofs.RisesRound.{some_positive, some_negative}
use Rattle.overlay_plane.proofs.SelectedAlternate.{one_if_rises}
use Rattle.overlay_plane.proofs.SelectedLists.{arranged_by_subject, arranged_by_clip}
use Rattle.overlay_plane.proofs.Totals.{Contains-head, Contains-later}
use Rattle.overlay_plane.proofs.Under.{covers_wide}

-- if a sum is not above 0 and some term is, another term is below 0
another_negative : {X : Type 0} (f : X → ℤ) (xs : List X) (x : X) → Contains xs x → pos 0 <ℤ f x → total f xs ≤ℤ pos 0 →
    (y : X) × Contains xs y × (f y <ℤ pos 0)
another_negative f [] x c high low = elim c.1 [ ]
another_negative {X} f (y ∷ ys) x c high low = by_lt_z (f y) (pos 0) (λ less. (y, Contains-head y ys, less))
    (λ ge. ⊎_elim
    (λ is. later (some_negative f ys (let h : pos 0 <ℤ f y = subst (λ (z : X). pos 0 <ℤ f z) (sym is) high in
    omega linear)))
    (λ rest. later (another_negative f ys x rest high (omega linear)))
    (Contains-cases y ys x c))
  where
    later : (z : X) × Contains ys z × (f z <ℤ pos 0) → (z : X) × Contains (y ∷ ys) z × (f z <ℤ pos 0)
    later found = (found.0, Contains-later y ys found.0 found.1, found.2)

module _ (holds : ℤ → ℤ → Bool) (subj clip : CountedEdge → ℤ) (es : List CountedEdge)
    (ruled : IsRuled holds subj clip es) where
  -- the rule holds above the edge, and below it
  abbrev above : CountedEdge → Bool
  above e = holds_above holds subj clip es e

  abbrev below : CountedEdge → Bool
  below e = holds_below holds subj clip es e

  -- the rule holds above an edge that is not vertical
  abbrev WideAbove : Type 0
  WideAbove = (f : CountedEdge) × Contains es f × (pos 0 <ℤ width (ends_of f)) × (above f ≡ true)

  -- where the rule holds at a point, it holds above some edge below the point
  pub above_below_point : (p : PlanePoint) → holds (winding_by subj es p) (winding_by clip es p) ≡ true → WideAbove
  above_below_point p h =
      let found = some_positive (λ f. cond (is_strictly_below (ends_of f) p) (selected_sign holds subj clip es f)
      (pos 0)) es
      (subst (λ z. pos 0 <ℤ z) (sym (region_from_selected_signs holds subj clip es ruled p ∙ ap one_if h))
      (record { lt = tt })) in
      let parts = positive_taken (is_strictly_below (ends_of found.0) p) (selected_sign holds subj clip es found.0)
      found.2 in (
        found.0,
        found.1,
        covers_wide (ends_of found.0) p.x p.d p.positive (and_parts (covers (ends_of found.0) p.x p.d) _ parts.0).0,
        (one_if_rises (above found.0) (below found.0) parts.1).0,
      )

  -- this holds if the rule holds below an edge
  from_below : (e : CountedEdge) → below e ≡ true → WideAbove
  from_below e h = above_below_point (midpoint (ends_of e)) h

  -- how much an edge counts that rises
  abbrev rise : CountedEdge → ℤ
  rise f = selected_sign holds subj clip es f *ℤ (f.b.y -ℤ f.a.y)

  -- an edge across which the rule changes and which counts less than 0
  from_negative : (f : CountedEdge) → Contains es f → rise f <ℤ pos 0 → WideAbove
  from_negative f c low = by (above f) (below f) refl refl low
    where
      by : (s t : Bool) → above f ≡ s → below f ≡ t → ((one_if s -ℤ one_if t) *ℤ (f.b.y -ℤ f.a.y)) <ℤ pos 0 → WideAbove
      by s true is_s is_t h = from_below f is_t
      by false false is_s is_t h = absurd (omega (arith, ints))
      by true false is_s is_t h = by_lt_z (pos 0) (width (ends_of f)) (λ wide. (f, c, wide, is_s))
          (λ narrow. absurd (let up = rises_upright (ends_of f)
          (All-contains (λ g. point_lt g.a g.b ≡ true) es f ruled.planar.forward c) narrow in
          falls (f.b.y -ℤ f.a.y) up h))
        where
          falls : (z : ℤ) → pos 0 <ℤ z → (pos 1 *ℤ z) <ℤ pos 0 → ⊥
          falls z up h = omega (arith, ints)

  -- it holds if the rule holds above an edge: the heights of the edges across which it changes sum to 0
  from_above : (e : CountedEdge) → Contains es e → above e ≡ true → WideAbove
  from_above e c h = by_lt_z (pos 0) (width (ends_of e)) (λ wide. (e, c, wide, h)) (λ narrow. by (below e) refl
      (rises_upright (ends_of e) (All-contains (λ g. point_lt g.a g.b ≡ true) es e ruled.planar.forward c) narrow))
    where
      by : (t : Bool) → below e ≡ t → pos 0 <ℤ (e.b.y -ℤ e.a.y) → WideAbove
      by true is up = from_below e is
      by false is up =
          let found = another_negative rise es e c
          (subst (λ z. pos 0 <ℤ (z *ℤ (e.b.y -ℤ e.a.y))) (sym (ap₂ (λ s t. one_if s -ℤ one_if t) h is))
          (once (e.b.y -ℤ e.a.y) up))
          (let balanced = signs_are_balanced holds subj clip es ruled (λ v. v.y) in omega linear) in
          from_negative found.0 found.1 found.2
        where
          once : (z : ℤ) → pos 0 <ℤ z → pos 0 <ℤ ((pos 1 -ℤ pos 0) *ℤ z)
          once z up = omega (arith, ints)

  -- above an edge that is not vertical there is a point where the rule holds
  point_above : WideAbove → HoldsSomewhere holds subj clip es
  point_above (f, c, wide, h) =
      let near = near_above es ruled.planar.forward ruled.planar.settled ruled.planar.distinct f c wide in (
        near.0,
        near.1,
        ap₂ holds
            (winding_above_the_greatest_below.above subj es (arranged_by_subject holds subj clip es ruled)
            near.0 f near.2)
            (winding_above_the_greatest_below.above clip es (arranged_by_clip holds subj clip es ruled) near.0 f near.2)
            ∙ h,
      )

  -- the law
  pub reached : HoldsSomewhere holds subj clip es → SomeEdge (λ e. above e || below e) es
  reached (p, off, h) = let found = above_below_point p h in
      (found.0, found.1, or_left (above found.0) (below found.0) found.3)

  pub reaching : SomeEdge (λ e. above e || below e) es → HoldsSomewhere holds subj clip es
  reaching (e, c, t) = point_above (⊎_elim (λ high. from_above e c high) (λ low. from_below e low)
      (or_cases (above e) (below e) t))

pub regions_reach_edges : RegionsReachEdges
regions_reach_edges holds subj clip es ruled = (reached holds subj clip es ruled, reaching holds subj clip es ruled)
