-- A scale by which all meeting points become whole: the product of the sizes of the cross products of the directions of
-- any two edges. A crossing has a denominator that divides the cross product of the two.
use Rattle.std.proofs.Common.{◌≡◌, true, inl, inr, ⊎_elim, ℤ, pos, ◌-ℤ◌, ◌*ℤ◌, ◌<ℤ◌, List, Contains, sym, ap, ◌∙◌}
use Rattle.std.proofs.Common.{subst}
use Rattle.std.proofs.lemmas.Bool.Decides.{Decides-int_eq}
use Rattle.std.proofs.lemmas.List.Elements.{All-contains}
use Rattle.std.specs.Ordering.{int_eq}
use Rattle.overlay_geom.specs.Edges.{CountedEdge, ends_of}
use Rattle.overlay_geom.specs.Placed.{IsAlong}
use Rattle.overlay_geom.specs.Plane.{Point, PlanePoint, Edge, IsAt, IsEnd, side, cross_at, point_lt}
use Rattle.overlay_geom.proofs.AlongEdge.{sideE}
use Rattle.overlay_geom.proofs.Cross.{crossE}
use Rattle.overlay_geom.proofs.Identities.{solve, ◌⊗◌, ◌⊖◌, ◌≗◌}
use Rattle.overlay_geom.proofs.PointOrder.{IsBefore}
use Rattle.overlay_geom.proofs.Signs.{linear, mul-zero, eq_of_mul-eq}
use Rattle.overlay_plane.specs.EdgeLists.{IsForwardBy}
use Rattle.overlay_plane.specs.Heights.{width}
use Rattle.overlay_plane.specs.Meetings.{IsMeetingPoint, MeetInWholePoints}
use Rattle.overlay_plane.specs.Nodes.{edge_turn}
use Rattle.overlay_plane.proofs.CommonPoints.{along_of_parallel}
use Rattle.overlay_plane.proofs.Entries.{Contains-from_map}
use Rattle.overlay_plane.proofs.LinesWithin.{only_common_is_end}
use Rattle.overlay_plane.proofs.WholeOnEdges.{forward_from_test, by_test, by_end}
use Rattle.overlay_scaled.specs.Scaled.{scaled_edge, scaled, IsTimes}
use Rattle.overlay_scaled.specs.WholeScales.{SomeScaleIsWhole}
use Rattle.overlay_scaled.proofs.Products.{product, product-pos, multiple_of_each, size_or_one, size_or_one-pos}
use Rattle.overlay_scaled.proofs.Products.{multiple_of_size}
use Rattle.overlay_scaled.proofs.ScaledLists.{scaled_forward}
use Rattle.overlay_scaled.proofs.ScaledPoints.{nearer, is_nearer, lies_alike}

-- ---- the crossing of two lines

-- the coordinates of the crossing, times the cross product of the directions
abbrev crossing_x : Edge → Edge → ℤ
crossing_x e f = width f *ℤ (width e *ℤ e.a.y -ℤ (e.b.y -ℤ e.a.y) *ℤ e.a.x)
    -ℤ width e *ℤ (width f *ℤ f.a.y -ℤ (f.b.y -ℤ f.a.y) *ℤ f.a.x)

abbrev crossing_y : Edge → Edge → ℤ
crossing_y e f = (f.b.y -ℤ f.a.y) *ℤ (width e *ℤ e.a.y -ℤ (e.b.y -ℤ e.a.y) *ℤ e.a.x)
    -ℤ (e.b.y -ℤ e.a.y) *ℤ (width f *ℤ f.a.y -ℤ (f.b.y -ℤ f.a.y) *ℤ f.a.x)

module _ (e f : Edge) (p : PlanePoint) (on_e : side e p ≡ pos 0) (on_f : side f p ≡ pos 0) where
  at_x : edge_turn e f *ℤ p.x ≡ crossing_x e f *ℤ p.d
  at_x =
      let first = mul-zero (width e) (side f p) on_f in
      let second = mul-zero (width f) (side e p) on_e in
      let identity = solve 11
      (λ ax ay bx by cx cy dx dy x y d.
      ((bx ⊖ ax) ⊗ (dy ⊖ cy) ⊖ (by ⊖ ay) ⊗ (dx ⊖ cx)) ⊗ x ≗
      ((dx ⊖ cx) ⊗ ((bx ⊖ ax) ⊗ ay ⊖ (by ⊖ ay) ⊗ ax) ⊖ (bx ⊖ ax) ⊗ ((dx ⊖ cx) ⊗ cy ⊖ (dy ⊖ cy) ⊗ cx)) ⊗ d
      ⊖ ((bx ⊖ ax) ⊗ sideE cx cy dx dy x y d ⊖ (dx ⊖ cx) ⊗ sideE ax ay bx by x y d))
      tt e.a.x e.a.y e.b.x e.b.y f.a.x f.a.y f.b.x f.b.y p.x p.y p.d in
      omega linear

  at_y : edge_turn e f *ℤ p.y ≡ crossing_y e f *ℤ p.d
  at_y =
      let first = mul-zero (e.b.y -ℤ e.a.y) (side f p) on_f in
      let second = mul-zero (f.b.y -ℤ f.a.y) (side e p) on_e in
      let identity = solve 11
      (λ ax ay bx by cx cy dx dy x y d.
      ((bx ⊖ ax) ⊗ (dy ⊖ cy) ⊖ (by ⊖ ay) ⊗ (dx ⊖ cx)) ⊗ y ≗
      ((dy ⊖ cy) ⊗ ((bx ⊖ ax) ⊗ ay ⊖ (by ⊖ ay) ⊗ ax) ⊖ (by ⊖ ay) ⊗ ((dx ⊖ cx) ⊗ cy ⊖ (dy ⊖ cy) ⊗ cx)) ⊗ d
      ⊖ ((by ⊖ ay) ⊗ sideE cx cy dx dy x y d ⊖ (dy ⊖ cy) ⊗ sideE ax ay bx by x y d))
      tt e.a.x e.a.y e.b.x e.b.y f.a.x f.a.y f.b.x f.b.y p.x p.y p.d in
      omega linear

-- a coordinate that a factor makes whole is whole n times as far, where the factor divides n
whole_further : (n t m x d z c w : ℤ) → pos 0 <ℤ d → n ≡ t *ℤ m → t *ℤ x ≡ w *ℤ d → z *ℤ d ≡ n *ℤ (x *ℤ c) →
    z ≡ (m *ℤ w) *ℤ c
whole_further n t m x d z c w positive multiple at times = eq_of_mul-eq d z ((m *ℤ w) *ℤ c) positive (
    solve 2 (λ d z. d ⊗ z ≗ z ⊗ d) tt d z ∙ times ∙ ap (λ k. k *ℤ (x *ℤ c)) multiple
    ∙ solve 4 (λ t m x c. (t ⊗ m) ⊗ (x ⊗ c) ≗ (m ⊗ c) ⊗ (t ⊗ x)) tt t m x c
    ∙ ap (λ k. (m *ℤ c) *ℤ k) at
    ∙ solve 4 (λ m c w d. (m ⊗ c) ⊗ (w ⊗ d) ≗ d ⊗ ((m ⊗ w) ⊗ c)) tt m c w d)

-- ---- the scale

-- the size of the cross product of two directions, or 1 where they are parallel
abbrev factor_of : CountedEdge → CountedEdge → ℤ
factor_of e f = size_or_one (edge_turn (ends_of e) (ends_of f))

-- the product of these for any two edges of the list
abbrev pub whole_scale : List CountedEdge → ℤ
whole_scale es = product (λ e. product (factor_of e) es) es

pub whole_scale-pos : (es : List CountedEdge) → pos 0 <ℤ whole_scale es
whole_scale-pos es = product-pos (λ e. product (factor_of e) es) es
    (λ e. product-pos (factor_of e) es (λ f. size_or_one-pos (edge_turn (ends_of e) (ends_of f))))

-- it is a multiple of each cross product that is not 0
multiple_of_turn : (es : List CountedEdge) (e f : CountedEdge) → Contains es e → Contains es f →
    ¬ (edge_turn (ends_of e) (ends_of f) ≡ pos 0) →
    (m : ℤ) × (whole_scale es ≡ edge_turn (ends_of e) (ends_of f) *ℤ m)
multiple_of_turn es e f c_e c_f some =
    let of_e = multiple_of_each (λ g. product (factor_of g) es) es e c_e in
    let of_f = multiple_of_each (factor_of e) es f c_f in
    let of_size = multiple_of_size (edge_turn (ends_of e) (ends_of f)) some in (
      of_size.0 *ℤ of_f.0 *ℤ of_e.0,
      of_e.1 ∙ ap (λ z. z *ℤ of_e.0) (of_f.1 ∙ ap (λ z. z *ℤ of_f.0) of_size.1)
          ∙ solve 4 (λ t k l m. ((t ⊗ k) ⊗ l) ⊗ m ≗ t ⊗ ((k ⊗ l) ⊗ m)) tt (edge_turn (ends_of e) (ends_of f)) of_size.0
          of_f.0 of_e.0,
    )

-- ---- whole meeting points

module _ (es : List CountedEdge) (forward : IsForwardBy ends_of es) where
  abbrev n : ℤ
  n = whole_scale es

  leads : (e : CountedEdge) → Contains (scaled n es) e → IsBefore e.a e.b
  leads e c = forward_from_test (ends_of e) (All-contains (λ x. point_lt x.a x.b ≡ true) (scaled n es) e
      (scaled_forward n (whole_scale-pos es) es forward) c)

  abbrev Whole : PlanePoint → Type 0
  Whole q = (v : Point) × IsAt v q

  end_whole : (e : CountedEdge) (q : PlanePoint) → IsEnd (ends_of e) q → Whole q
  end_whole e q (inl at) = (e.a, at)
  end_whole e q (inr at) = (e.b, at)

  -- of two edges that are not parallel
  module _ (e f : CountedEdge) (q : PlanePoint) (c_e : Contains es e) (c_f : Contains es f)
      (meeting : IsMeetingPoint (ends_of (scaled_edge n e)) (ends_of (scaled_edge n f)) q)
      (some : ¬ (edge_turn (ends_of e) (ends_of f) ≡ pos 0)) where
    abbrev p : PlanePoint
    p = nearer n (whole_scale-pos es) q

    at : IsTimes n p q
    at = is_nearer n (whole_scale-pos es) q

    abbrev m : ℤ
    m = (multiple_of_turn es e f c_e c_f some).0

    multiple : n ≡ edge_turn (ends_of e) (ends_of f) *ℤ m
    multiple = (multiple_of_turn es e f c_e c_f some).1

    on_e : side (ends_of e) p ≡ pos 0
    on_e = (((lies_alike n (whole_scale-pos es) p q at).on e).1 meeting.common.0).on_line

    on_f : side (ends_of f) p ≡ pos 0
    on_f = (((lies_alike n (whole_scale-pos es) p q at).on f).1 meeting.common.1).on_line

    crossing_whole : Whole q
    crossing_whole = (
      record { x = m *ℤ crossing_x (ends_of e) (ends_of f); y = m *ℤ crossing_y (ends_of e) (ends_of f) },
      (
        whole_further n (edge_turn (ends_of e) (ends_of f)) m p.x p.d q.x q.d (crossing_x (ends_of e) (ends_of f))
            p.positive multiple (at_x (ends_of e) (ends_of f) p on_e on_f) at.0,
        whole_further n (edge_turn (ends_of e) (ends_of f)) m p.y p.d q.y q.d (crossing_y (ends_of e) (ends_of f))
            p.positive multiple (at_y (ends_of e) (ends_of f) p on_e on_f) at.1,
      ),
    )

  -- of parallel ones
  overlap_whole : (e f : CountedEdge) (q : PlanePoint) → Contains (scaled n es) e → Contains (scaled n es) f →
      IsMeetingPoint (ends_of e) (ends_of f) q →
      cross_at e.a e.b f.b -ℤ cross_at e.a e.b f.a ≡ pos 0 → Whole q
  overlap_whole e f q c_e c_f meeting parallel = by_end (ends_of e) q (end_whole e q)
      (λ no_end. by_end (ends_of f) q (end_whole f q) (λ none. absurd (⊎_elim
      (λ only. only_common_is_end (ends_of e) (ends_of f) q (leads e c_e) (leads f c_f) along meeting.common only
      no_end none)
      (λ end. ⊎_elim no_end none end) meeting.only_or_end)))
    where
      along : IsAlong (ends_of e) (ends_of f)
      along = along_of_parallel (ends_of e) (ends_of f) q (leads f c_f) parallel meeting.common.0.on_line
          meeting.common.1.on_line

  -- the scaled edges go as far across each other as the edges, times the square of the scale
  across_scaled : (e f : CountedEdge) → edge_turn (ends_of e) (ends_of f) ≡ pos 0 →
      cross_at (scaled_edge n e).a (scaled_edge n e).b (scaled_edge n f).b
      -ℤ cross_at (scaled_edge n e).a (scaled_edge n e).b (scaled_edge n f).a ≡ pos 0
  across_scaled e f zero = solve 9
      (λ ax ay bx by cx cy dx dy n.
      crossE (n ⊗ ax) (n ⊗ ay) (n ⊗ bx) (n ⊗ by) (n ⊗ dx) (n ⊗ dy) ⊖
      crossE (n ⊗ ax) (n ⊗ ay) (n ⊗ bx) (n ⊗ by) (n ⊗ cx) (n ⊗ cy) ≗
      (n ⊗ n) ⊗ ((bx ⊖ ax) ⊗ (dy ⊖ cy) ⊖ (by ⊖ ay) ⊗ (dx ⊖ cx)))
      tt e.a.x e.a.y e.b.x e.b.y f.a.x f.a.y f.b.x f.b.y n
      ∙ mul-zero (n *ℤ n) (edge_turn (ends_of e) (ends_of f)) zero

  of_two : (e f : CountedEdge) (q : PlanePoint) → Contains es e → Contains es f →
      Contains (scaled n es) (scaled_edge n e) → Contains (scaled n es) (scaled_edge n f) →
      IsMeetingPoint (ends_of (scaled_edge n e)) (ends_of (scaled_edge n f)) q → Whole q
  of_two e f q c_e c_f c_e' c_f' meeting = by_test (int_eq (edge_turn (ends_of e) (ends_of f)) (pos 0))
      (Decides-int_eq (edge_turn (ends_of e) (ends_of f)) (pos 0))
      (λ zero. overlap_whole (scaled_edge n e) (scaled_edge n f) q c_e' c_f' meeting (across_scaled e f zero))
      (crossing_whole e f q c_e c_f meeting)

  pub whole_at_scale : MeetInWholePoints (scaled n es)
  whole_at_scale e f q c_e c_f meeting =
      let from_e = Contains-from_map (scaled_edge n) es e c_e in
      let from_f = Contains-from_map (scaled_edge n) es f c_f in
      of_two from_e.0 from_f.0 q from_e.1 from_f.1
      (subst (Contains (scaled n es)) (sym from_e.2) c_e) (subst (Contains (scaled n es)) (sym from_f.2) c_f)
      (subst (λ (g : CountedEdge). IsMeetingPoint (ends_of (scaled_edge n from_e.0)) (ends_of g) q) (sym from_f.2)
      (subst (λ (g : CountedEdge). IsMeetingPoint (ends_of g) (ends_of f) q) (sym from_e.2) meeting))

pub some_scale_is_whole : SomeScaleIsWhole
some_scale_is_whole es forward = (whole_scale es, whole_scale-pos es, whole_at_scale es forward)
