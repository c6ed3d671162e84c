-- The predicates as statements on points are statements on the filled sides of the edges.
use Rattle.std.proofs.Common.{◌≡◌, ◌⊎◌, inl, inr, ⊎_elim, Bool, true, false, not, ◌&&◌, ℤ, ◌*ℤ◌, List, Contains, refl}
use Rattle.std.proofs.Common.{sym, ap, ap₂, ◌∙◌, subst}
use Rattle.std.proofs.lemmas.Bool.{false≢true, and_parts, and_from, or_left, or_right, both_ways, false_from_ne_true}
use Rattle.std.proofs.lemmas.List.Elements.{All-contains}
use lib.IntN.{*ℤ_comm}
use Rattle.overlay_geom.specs.Plane.{Point, PlanePoint, IsOn, IsAt, IsEnd, IsOff, edge_eq, in_plane, point_lt}
use Rattle.overlay_geom.specs.Edges.{CountedEdge, ends_of, all_ends, subj_of, clip_of}
use Rattle.overlay_geom.proofs.OneLine.{holds_start, holds_end}
use Rattle.overlay_geom.proofs.Orders.{same_point}
use Rattle.overlay_geom.proofs.Signs.{eq_of_mul-eq}
use Rattle.overlay_plane.specs.EdgePredicates.{EndsAt, SomeEdge, HasSharedEnd, has_both, has_common_side, pokes_out}
use Rattle.overlay_plane.specs.EdgePredicates.{is_border_of, EdgesTell, EdgesTellPredicates}
use Rattle.overlay_plane.specs.Predicates.{fills_at, fills_above, fills_below, fills_a_side, IsInClosedRegion}
use Rattle.overlay_plane.specs.Predicates.{Intersects, InteriorsIntersect}
use Rattle.overlay_plane.specs.Predicates.{IsWithin, IsFillable}
use Rattle.overlay_plane.specs.Regions.{IsRuled}
use Rattle.overlay_plane.proofs.InnerPoints.{winding_at_whole, winding_inside}
use Rattle.overlay_plane.proofs.ReachedEdges.{above_below_point, reached, reaching}
use Rattle.overlay_plane.proofs.SelectedLists.{arranged_by_subject}
use Rattle.overlay_plane.proofs.SharedEnds.{IsThere, ruled_by_subj, ruled_by_clip, both_there, side_of_one}
use Rattle.overlay_plane.proofs.SingleEntries.{one_entry}
use Rattle.overlay_plane.proofs.WholeOnEdges.{forward_from_test, at_itself, on_of_held, by_end}

module _ (filled : ℤ → Bool) (es : List CountedEdge) (fillable : IsFillable filled es) where
  -- a rule on the fillings of both shapes rules the list, if it fails where neither shape is filled
  ruled_by : (rule : Bool → Bool → Bool) → rule false false ≡ false →
      IsRuled (λ s c. rule (filled s) (filled c)) subj_of clip_of es
  ruled_by rule none = record {
    planar = fillable.planar;
    subj_balanced = fillable.balanced.subj;
    clip_balanced = fillable.balanced.clip;
    none = ap₂ rule fillable.none fillable.none ∙ none;
  }

  both_rule : IsRuled (λ s c. filled s && filled c) subj_of clip_of es
  both_rule = ruled_by (λ s c. s && c) refl

  outside_rule : IsRuled (λ s c. filled s && not (filled c)) subj_of clip_of es
  outside_rule = ruled_by (λ s c. s && not c) refl

  -- ---- points of the closed regions

  abbrev EdgeOrEnd : Type 0
  EdgeOrEnd = SomeEdge (has_both filled es) es ⊎ HasSharedEnd filled es

  forward_at : (e : CountedEdge) → Contains es e → point_lt e.a e.b ≡ true
  forward_at e c = All-contains (λ f. point_lt f.a f.b ≡ true) es e fillable.planar.forward c

  -- an end of an edge at a point
  end_at : (e : CountedEdge) (p : PlanePoint) → IsEnd (ends_of e) p → (v : Point) × EndsAt v e × IsAt v p
  end_at e p (inl a) = (e.a, inl refl, a)
  end_at e p (inr b) = (e.b, inr refl, b)

  -- two whole points at one place are equal
  one_whole : (v w : Point) (p : PlanePoint) → IsAt v p → IsAt w p → v ≡ w
  one_whole v w p at_v at_w = same_point v w (cancel v.x w.x (sym at_v.0 ∙ at_w.0))
      (cancel v.y w.y (sym at_v.1 ∙ at_w.1))
    where
      cancel : (a b : ℤ) → a *ℤ p.d ≡ b *ℤ p.d → a ≡ b
      cancel a b same = eq_of_mul-eq p.d a b p.positive (turned p.d a ∙ same ∙ sym (turned p.d b))
        where
          turned : (d z : ℤ) → d *ℤ z ≡ z *ℤ d
          turned d z = *ℤ_comm d z

  -- a shape that fills a point of an edge: it fills a side of the edge, or the point is an end, and the shape is there
  at_edge : (shape : CountedEdge → ℤ) (ruled : IsRuled (λ w z. filled w) shape shape es) (p : PlanePoint)
      (f : CountedEdge) → Contains es f →
      IsOn (ends_of f) p → fills_at filled es shape p ≡ true →
      (fills_a_side filled es shape f ≡ true) ⊎ ((v : Point) × EndsAt v f × IsThere filled shape es ruled v)
  at_edge shape ruled p f c on fills = by_end (ends_of f) p
      (λ end. let at = end_at f p end in
      inr (at.0, at.1, inl (ap filled (sym (winding_at_whole shape es at.0 p at.2)) ∙ fills)))
      (λ no_end. inl (or_right (fills_above filled es shape f) (fills_below filled es shape f)
      (ap filled (sym (winding_inside shape es (arranged_by_subject (λ w z. filled w) shape shape es ruled) f c p on
      no_end)) ∙ fills)))

  -- a point of both closed regions is where the edges tell
  from_point : (p : PlanePoint) → IsInClosedRegion filled es subj_of p → IsInClosedRegion filled es clip_of p →
      EdgeOrEnd
  from_point p (inl s) (inl k) =
      let found = above_below_point (λ s c. filled s && filled c) subj_of clip_of es both_rule p
      (and_from (fills_at filled es subj_of p) (fills_at filled es clip_of p) s k) in
      let parts = and_parts (fills_above filled es subj_of found.0) (fills_above filled es clip_of found.0) found.3 in
      inl (
        found.0,
        found.1,
        and_from (fills_a_side filled es subj_of found.0) (fills_a_side filled es clip_of found.0)
            (or_left (fills_above filled es subj_of found.0) (fills_below filled es subj_of found.0) parts.0)
            (or_left (fills_above filled es clip_of found.0) (fills_below filled es clip_of found.0) parts.1),
      )
  from_point p (inl s) (inr k) = ⊎_elim
      (λ side. inl (
        k.edge,
        k.entry,
        and_from (fills_a_side filled es subj_of k.edge)
            (fills_a_side filled es clip_of k.edge) side k.fills,
      ))
      (λ at. both_there filled es fillable at.0 k.edge k.entry at.1 at.2 (inr (k.edge, k.entry, at.1, k.fills)))
      (at_edge subj_of (ruled_by_subj filled es fillable) p k.edge k.entry k.on s)
  from_point p (inr s) (inl k) = ⊎_elim
      (λ side. inl (
        s.edge,
        s.entry,
        and_from (fills_a_side filled es subj_of s.edge)
            (fills_a_side filled es clip_of s.edge) s.fills side,
      ))
      (λ at. both_there filled es fillable at.0 s.edge s.entry at.1 (inr (s.edge, s.entry, at.1, s.fills)) at.2)
      (at_edge clip_of (ruled_by_clip filled es fillable) p s.edge s.entry s.on k)
  from_point p (inr s) (inr k) = by (edge_eq (ends_of s.edge) (ends_of k.edge)) refl
    where
      by : (t : Bool) → edge_eq (ends_of s.edge) (ends_of k.edge) ≡ t → EdgeOrEnd
      by true same = inl (
        k.edge,
        k.entry,
        and_from (fills_a_side filled es subj_of k.edge) (fills_a_side filled es clip_of k.edge)
            (subst (λ (e : CountedEdge). fills_a_side filled es subj_of e ≡ true)
            (one_entry es fillable.planar.distinct s.edge k.edge s.entry k.entry same) s.fills) k.fills,
      )
      by false apart =
          let ends = fillable.planar.settled s.edge k.edge s.entry k.entry apart p (s.on, k.on) in
          let at_s = end_at s.edge p ends.0 in
          let at_k = end_at k.edge p ends.1 in
          both_there filled es fillable at_s.0 s.edge s.entry at_s.1 (inr (s.edge, s.entry, at_s.1, s.fills))
          (inr (
            k.edge,
            k.entry,
            subst (λ (v : Point). EndsAt v k.edge) (sym (one_whole at_s.0 at_k.0 p at_s.2 at_k.2))
                at_k.1,
            k.fills,
          ))

  -- an end of an edge lies on it
  end_on : (v : Point) (e : CountedEdge) → Contains es e → EndsAt v e → IsOn (ends_of e) (in_plane v)
  end_on v e c (inl a) = subst (λ (u : Point). IsOn (ends_of e) (in_plane u)) a
      (on_of_held (ends_of e) e.a (in_plane e.a) (forward_from_test (ends_of e) (forward_at e c)) (at_itself e.a)
      (holds_start (ends_of e) (forward_from_test (ends_of e) (forward_at e c))))
  end_on v e c (inr b) = subst (λ (u : Point). IsOn (ends_of e) (in_plane u)) b
      (on_of_held (ends_of e) e.b (in_plane e.b) (forward_from_test (ends_of e) (forward_at e c)) (at_itself e.b)
      (holds_end (ends_of e) (forward_from_test (ends_of e) (forward_at e c))))

  -- where the edges tell it, there is such a point
  to_point : EdgeOrEnd → Intersects filled es
  to_point (inl (e, c, t)) =
      let parts = and_parts (fills_a_side filled es subj_of e) (fills_a_side filled es clip_of e) t in
      let on = end_on e.a e c (inl refl) in (
        in_plane e.a,
        inr (record { edge = e; entry = c; on = on; fills = parts.0 }),
        inr (record { edge = e; entry = c; on = on; fills = parts.1 }),
      )
  to_point (inr s) = (
    in_plane s.end,
    inr (record {
      edge = s.of_subj;
      entry = s.subj_entry;
      on = end_on s.end s.of_subj s.subj_entry s.subj_at;
      fills = border s.of_subj subj_of clip_of s.subj_border;
    }),
    inr (record {
      edge = s.of_clip;
      entry = s.clip_entry;
      on = end_on s.end s.of_clip s.clip_entry s.clip_at;
      fills = border s.of_clip clip_of subj_of s.clip_border;
    }),
  )
    where
      border : (e : CountedEdge) (own other : CountedEdge → ℤ) → is_border_of filled es own other e ≡ true →
          fills_a_side filled es own e ≡ true
      border e own other t = side_of_one (fills_above filled es own e) (fills_below filled es own e)
          (and_parts _ (not (fills_a_side filled es other e)) t).0

  meets : Intersects filled es → EdgeOrEnd
  meets (p, s, k) = from_point p s k

  -- ---- interiors, and sides outside the clip

  inside : InteriorsIntersect filled es → SomeEdge (has_common_side filled es) es
  inside (p, off, s, k) = reached (λ s c. filled s && filled c) subj_of clip_of es both_rule
      (p, off, and_from (fills_at filled es subj_of p) (fills_at filled es clip_of p) s k)

  inside_back : SomeEdge (has_common_side filled es) es → InteriorsIntersect filled es
  inside_back some =
      let at = reaching (λ s c. filled s && filled c) subj_of clip_of es both_rule some in
      let parts = and_parts (fills_at filled es subj_of at.0) (fills_at filled es clip_of at.0) at.2 in
      (at.0, at.1, parts.0, parts.1)

  within : IsWithin filled es → SomeEdge (fills_a_side filled es subj_of) es × (¬ (SomeEdge (pokes_out filled es) es))
  within lies = (
    reached (λ w z. filled w) subj_of subj_of es (ruled_by_subj filled es fillable) lies.some,
    λ some. out some,
  )
    where
      out : SomeEdge (pokes_out filled es) es → ⊥
      out some =
          let at = reaching (λ s c. filled s && not (filled c)) subj_of clip_of es outside_rule some in
          let parts = and_parts (fills_at filled es subj_of at.0) (not (fills_at filled es clip_of at.0)) at.2 in
          false≢true (sym (ap not (lies.each at.0 at.1 parts.0)) ∙ parts.1)

  within_back : SomeEdge (fills_a_side filled es subj_of) es × (¬ (SomeEdge (pokes_out filled es) es)) →
      IsWithin filled es
  within_back (some, none) = record {
    some = reaching (λ w z. filled w) subj_of subj_of es (ruled_by_subj filled es fillable) some;
    each = λ p off s. each p off s (fills_at filled es clip_of p) refl;
  }
    where
      each : (p : PlanePoint) → IsOff (all_ends es) p → fills_at filled es subj_of p ≡ true →
          (t : Bool) → fills_at filled es clip_of p ≡ t → fills_at filled es clip_of p ≡ true
      each p off s true is = is
      each p off s false is = absurd (none (reached (λ s c. filled s && not (filled c)) subj_of clip_of es outside_rule
          (p, off, and_from (fills_at filled es subj_of p) (not (fills_at filled es clip_of p)) s (ap not is))))

  -- the five
  pub told : EdgesTell filled es
  told = record {
    intersects = (meets, to_point);
    interiors_intersect = (inside, inside_back);
    touches = ((λ h. (meets h.0, λ some. h.1 (inside_back some))), (λ h. (to_point h.0, λ at. h.1 (inside at))));
    point_intersects = (alone, alone_back);
    within = (within, within_back);
  }
    where
      alone : Intersects filled es × ((e : CountedEdge) → Contains es e → has_both filled es e ≡ false) →
          HasSharedEnd filled es × (¬ (SomeEdge (has_both filled es) es))
      alone (at, none) = (
        ⊎_elim (λ some. absurd (both_ways (has_both filled es some.0) (none some.0 some.1) some.2))
            (λ end. end) (meets at),
        λ some. both_ways (has_both filled es some.0) (none some.0 some.1) some.2,
      )

      alone_back : HasSharedEnd filled es × (¬ (SomeEdge (has_both filled es) es)) →
          Intersects filled es × ((e : CountedEdge) → Contains es e → has_both filled es e ≡ false)
      alone_back (end, none) = (
        to_point (inr end),
        λ e c. false_from_ne_true (has_both filled es e)
            (λ t. none (e, c, t)),
      )

pub edges_tell_predicates : EdgesTellPredicates
edges_tell_predicates filled es fillable = told filled es fillable
