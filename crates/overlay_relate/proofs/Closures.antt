-- Relations of two shapes of an arrangement are those of the closures of their interiors.
use Rattle.std.proofs.Common.{◌≡◌, ◌⊎◌, ◌↔◌, inl, inr, ⊎_elim, Bool, true, false, ◌&&◌, ℤ, pos, ◌-ℤ◌, ◌*ℤ◌, ◌<ℤ◌, ◌≤ℤ◌}
use Rattle.std.proofs.Common.{List, Contains, refl, sym, ap, ap₂, ◌∙◌, subst, arith}
use Rattle.std.proofs.lemmas.Bool.{and_parts, and_from, or_left, or_right, both_ways}
use Rattle.std.proofs.lemmas.Int.{ints, by_lt_z}
use Rattle.std.proofs.lemmas.List.Elements.{All-contains}
use Rattle.overlay_geom.specs.Edges.{CountedEdge, ends_of, subj_of, clip_of}
use Rattle.overlay_geom.specs.Plane.{Point, PlanePoint, SamePlace, IsOn, IsAt, IsEnd, point_lt, edge_eq, in_plane}
use Rattle.overlay_geom.proofs.Identities.{solve, number, ◌⊕◌, ◌⊗◌, ◌⊖◌, ◌≗◌}
use Rattle.overlay_geom.proofs.OneLine.{holds_start}
use Rattle.overlay_geom.proofs.Orders.{same_point}
use Rattle.overlay_geom.proofs.Signs.{linear, mul-le, mul-pos}
use Rattle.overlay_plane.specs.EdgePredicates.{has_both}
use Rattle.overlay_plane.specs.Predicates.{fills_at, fills_above, fills_below, fills_a_side}
use Rattle.overlay_plane.specs.Predicates.{IsInClosedRegion, Intersects, PointIntersects}
use Rattle.overlay_plane.specs.Predicates.{IsFillable}
use Rattle.overlay_plane.specs.Regions.{IsRuled}
use Rattle.overlay_plane.proofs.InnerPoints.{winding_inside}
use Rattle.overlay_plane.proofs.ReachedEdges.{above_below_point}
use Rattle.overlay_plane.proofs.SelectedLists.{arranged_by_subject}
use Rattle.overlay_plane.proofs.SharedEnds.{ruled_by_subj, ruled_by_clip}
use Rattle.overlay_plane.proofs.SingleEntries.{one_entry}
use Rattle.overlay_plane.proofs.WholeOnEdges.{forward_from_test, at_itself, on_of_held, by_end, same_place_at}
use Rattle.overlay_relate.specs.Closures.{AreWithinPart, IsInClosure, ClosuresMeet, ClosuresTouch}
use Rattle.overlay_relate.specs.Closures.{ClosuresMeetInPoints, AreClosuresApart, IsInInterior, ClosuresTell}
use Rattle.overlay_relate.specs.Closures.{ClosuresAreClosedRegions}
use Rattle.overlay_relate.proofs.ClosedRegions.{closed_region, closure_of_near}
use Rattle.overlay_relate.proofs.InsideNear.{inner, inner_inside, inner_near, no_end_inside}

-- ---- sets with the same closures

-- a set and a set in its closure that has it have one closure
pub same_closure : (first second : PlanePoint → Type 0) → ((p : PlanePoint) → first p → second p) →
    ((p : PlanePoint) → second p → IsInClosure first p) → (p : PlanePoint) →
    IsInClosure first p ↔ IsInClosure second p
same_closure first second has close p = (
  λ near n. let at = near n in (at.0, has at.0 at.1, at.2),
  λ near. closure_of_near first p (λ n. let at = near n in (at.0, close at.0 at.1, at.2)),
)

module _ (a b a' b' : PlanePoint → Type 0) (same_a : (p : PlanePoint) → IsInClosure a p ↔ IsInClosure a' p)
    (same_b : (p : PlanePoint) → IsInClosure b p ↔ IsInClosure b' p) where
  meet_forth : ClosuresMeet a b → ClosuresMeet a' b'
  meet_forth (p, s, c) = (p, (same_a p).0 s, (same_b p).0 c)

  meet_back : ClosuresMeet a' b' → ClosuresMeet a b
  meet_back (p, s, c) = (p, (same_a p).1 s, (same_b p).1 c)

  pub same_meeting : ClosuresMeet a b ↔ ClosuresMeet a' b'
  same_meeting = (meet_forth, meet_back)

  pub same_apart : AreClosuresApart a b ↔ AreClosuresApart a' b'
  same_apart = (λ none at. none (meet_back at), λ none at. none (meet_forth at))

  pub same_points : ClosuresMeetInPoints a b ↔ ClosuresMeetInPoints a' b'
  same_points = (
    λ h. (
      meet_forth h.0,
      λ p s c. let alone = h.1 p ((same_a p).1 s) ((same_b p).1 c) in
          (alone.0, λ q t d near. alone.1 q ((same_a q).1 t) ((same_b q).1 d) near),
    ),
    λ h. (
      meet_back h.0,
      λ p s c. let alone = h.1 p ((same_a p).0 s) ((same_b p).0 c) in
          (alone.0, λ q t d near. alone.1 q ((same_a q).0 t) ((same_b q).0 d) near),
    ),
  )

  pub same_touch : (((p : PlanePoint) → a p → b p → ⊥) ↔ ((p : PlanePoint) → a' p → b' p → ⊥)) →
      ClosuresTouch a b ↔ ClosuresTouch a' b'
  same_touch inner = (λ h. (meet_forth h.0, inner.0 h.1), λ h. (meet_back h.0, inner.1 h.1))

-- ---- whole points near each other

-- whole numbers that differ by at most a half are in order
whole_near : (v w x d u c : ℤ) → x ≡ v *ℤ d → u ≡ w *ℤ c → pos 0 <ℤ d → pos 0 <ℤ c →
    (pos 2 *ℤ (u *ℤ d -ℤ x *ℤ c)) ≤ℤ (c *ℤ d) → w ≤ℤ v
whole_near v w x d u c at_x at_u d_pos c_pos near = by_lt_z v w (λ less. absurd (
    let some = mul-pos c d c_pos d_pos in
    let one = mul-le (c *ℤ d) (pos 1) (w -ℤ v) (omega linear) (omega linear) in
    let once = solve 1 (λ z. z ⊗ number (pos 1) ≗ z) tt (c *ℤ d) in
    let is = ap₂ (λ a b. pos 2 *ℤ (b *ℤ d -ℤ a *ℤ c)) at_x at_u in
    let product = solve 4 (λ v w d c. number (pos 2) ⊗ ((w ⊗ c) ⊗ d ⊖ (v ⊗ d) ⊗ c) ≗
    (c ⊗ d) ⊗ (w ⊖ v) ⊕ (c ⊗ d) ⊗ (w ⊖ v)) tt v w d c in
    omega linear)) (λ ge. ge)

whole_alone : (v w : Point) (p q : PlanePoint) → IsAt v p → IsAt w q → AreWithinPart 2 q p → SamePlace q p
whole_alone v w p q at_p at_q near = same_place_at v q p (subst (λ (z : Point). IsAt z q) (same_point w v
    (let high = whole_near v.x w.x p.x p.d q.x q.d at_p.0 at_q.0 p.positive q.positive near.right in
    let low = whole_near w.x v.x q.x q.d p.x p.d at_q.0 at_p.0 q.positive p.positive (turned near.left) in
    omega linear)
    (let high = whole_near v.y w.y p.y p.d q.y q.d at_p.1 at_q.1 p.positive q.positive near.up in
    let low = whole_near w.y v.y q.y q.d p.y p.d at_q.1 at_p.1 q.positive p.positive (turned near.down) in
    omega linear)) at_q) at_p
  where
    turned : {z : ℤ} → z ≤ℤ (q.d *ℤ p.d) → z ≤ℤ (p.d *ℤ q.d)
    turned le = let is = solve 2 (λ c d. c ⊗ d ≗ d ⊗ c) tt q.d p.d in omega linear

module _ (filled : ℤ → Bool) (es : List CountedEdge) (fillable : IsFillable filled es) where
  abbrev Subj : PlanePoint → Type 0
  Subj p = IsInInterior filled es subj_of p

  abbrev Clip : PlanePoint → Type 0
  Clip p = IsInInterior filled es clip_of p

  subject : (p : PlanePoint) → IsInClosure Subj p ↔ IsInClosedRegion filled es subj_of p
  subject = closed_region filled es subj_of (ruled_by_subj filled es fillable)

  clip : (p : PlanePoint) → IsInClosure Clip p ↔ IsInClosedRegion filled es clip_of p
  clip = closed_region filled es clip_of (ruled_by_clip filled es fillable)

  meets : Intersects filled es → ClosuresMeet Subj Clip
  meets (p, s, k) = (p, (subject p).1 s, (clip p).1 k)

  meets_back : ClosuresMeet Subj Clip → Intersects filled es
  meets_back (p, s, k) = (p, (subject p).0 s, (clip p).0 k)

  -- ---- where no edge has sides of both

  abbrev NoneHasBoth : Type 0
  NoneHasBoth = (e : CountedEdge) → Contains es e → has_both filled es e ≡ false

  both_rule : IsRuled (λ s c. filled s && filled c) subj_of clip_of es
  both_rule = record {
    planar = fillable.planar;
    subj_balanced = fillable.balanced.subj;
    clip_balanced = fillable.balanced.clip;
    none = ap₂ (λ s c. s && c) fillable.none fillable.none;
  }

  module _ (none : NoneHasBoth) (p : PlanePoint) where
    abbrev Whole : Type 0
    Whole = (v : Point) × IsAt v p

    at_end : (e : CountedEdge) → IsEnd (ends_of e) p → Whole
    at_end e (inl a) = (e.a, a)
    at_end e (inr b) = (e.b, b)

    never : (e : CountedEdge) → Contains es e → fills_a_side filled es subj_of e ≡ true →
        fills_a_side filled es clip_of e ≡ true → ⊥
    never e c s k = both_ways (has_both filled es e) (none e c)
        (and_from (fills_a_side filled es subj_of e) (fills_a_side filled es clip_of e) s k)

    -- not both fill the point
    pub not_both_fill : fills_at filled es subj_of p ≡ true → fills_at filled es clip_of p ≡ true → ⊥
    not_both_fill s k =
        let found = above_below_point (λ s c. filled s && filled c) subj_of clip_of es both_rule p
        (and_from (fills_at filled es subj_of p) (fills_at filled es clip_of p) s k) in
        let parts = and_parts (fills_above filled es subj_of found.0) (fills_above filled es clip_of found.0) found.3 in
        never found.0 found.1
        (or_left (fills_above filled es subj_of found.0) (fills_below filled es subj_of found.0) parts.0)
        (or_left (fills_above filled es clip_of found.0) (fills_below filled es clip_of found.0) parts.1)

    -- the point of an edge that a shape fills is an end, or a side of the edge is filled
    inside_or_end : (shape : CountedEdge → ℤ) (ruled : IsRuled (λ w z. filled w) shape shape es) (e : CountedEdge) →
        Contains es e → IsOn (ends_of e) p → fills_at filled es shape p ≡ true →
        (fills_a_side filled es shape e ≡ true) ⊎ Whole
    inside_or_end shape ruled e c on fills = by_end (ends_of e) p (λ end. inr (at_end e end))
        (λ no_end. inl (or_right (fills_above filled es shape e) (fills_below filled es shape e)
        (ap filled (sym (winding_inside shape es (arranged_by_subject (λ w z. filled w) shape shape es ruled) e c p on
        no_end)) ∙ fills)))

    -- a point of both closed regions is a whole point
    common_whole : IsInClosedRegion filled es subj_of p → IsInClosedRegion filled es clip_of p → Whole
    common_whole (inl s) (inl k) = absurd (not_both_fill s k)
    common_whole (inl s) (inr k) =
        ⊎_elim (λ side. absurd (never k.edge k.entry side k.fills)) (λ whole. whole)
        (inside_or_end subj_of (ruled_by_subj filled es fillable) k.edge k.entry k.on s)
    common_whole (inr s) (inl k) =
        ⊎_elim (λ side. absurd (never s.edge s.entry s.fills side)) (λ whole. whole)
        (inside_or_end clip_of (ruled_by_clip filled es fillable) s.edge s.entry s.on k)
    common_whole (inr s) (inr k) = by (edge_eq (ends_of s.edge) (ends_of k.edge)) refl
      where
        by : (t : Bool) → edge_eq (ends_of s.edge) (ends_of k.edge) ≡ t → Whole
        by true same = absurd (never k.edge k.entry
            (subst (λ (e : CountedEdge). fills_a_side filled es subj_of e ≡ true)
            (one_entry es fillable.planar.distinct s.edge k.edge s.entry k.entry same) s.fills) k.fills)
        by false apart = at_end s.edge (fillable.planar.settled s.edge k.edge s.entry k.entry apart p (s.on, k.on)).0

  points : PointIntersects filled es → ClosuresMeetInPoints Subj Clip
  points (at, none) = (
    meets at,
    λ p s k. (
      2,
      λ q t l near.
          let here = common_whole none p ((subject p).0 s) ((clip p).0 k) in
          let there = common_whole none q ((subject q).0 t) ((clip q).0 l) in
          whole_alone here.0 there.0 p q here.1 there.1 near,
    ),
  )

  -- ---- where an edge has sides of both, its points are not alone

  module _ (e : CountedEdge) (c : Contains es e) (both : has_both filled es e ≡ true) where
    forward : point_lt e.a e.b ≡ true
    forward = All-contains (λ f. point_lt f.a f.b ≡ true) es e fillable.planar.forward c

    start_on : IsOn (ends_of e) (in_plane e.a)
    start_on = on_of_held (ends_of e) e.a (in_plane e.a) (forward_from_test (ends_of e) forward) (at_itself e.a)
        (holds_start (ends_of e) (forward_from_test (ends_of e) forward))

    sides : (fills_a_side filled es subj_of e ≡ true) × (fills_a_side filled es clip_of e ≡ true)
    sides = and_parts (fills_a_side filled es subj_of e) (fills_a_side filled es clip_of e) both

    in_subj : (p : PlanePoint) → IsOn (ends_of e) p → IsInClosure Subj p
    in_subj p on = (subject p).1 (inr (record { edge = e; entry = c; on = on; fills = sides.0 }))

    in_clip : (p : PlanePoint) → IsOn (ends_of e) p → IsInClosure Clip p
    in_clip p on = (clip p).1 (inr (record { edge = e; entry = c; on = on; fills = sides.1 }))

    not_alone : ClosuresMeetInPoints Subj Clip → ⊥
    not_alone (at, alone) =
        let start = alone (in_plane e.a) (in_subj (in_plane e.a) start_on) (in_clip (in_plane e.a) start_on) in
        let r = inner start.0 (ends_of e) forward (in_plane e.a) start_on in
        let inside = inner_inside start.0 (ends_of e) forward (in_plane e.a) start_on in
        let same = start.1 r (in_subj r inside.on) (in_clip r inside.on)
        (inner_near start.0 (ends_of e) forward (in_plane e.a) start_on) in
        no_end_inside (ends_of e) r inside (inl (sym (once r.x) ∙ same.0, sym (once r.y) ∙ same.1))
      where
        once : (z : ℤ) → z *ℤ pos 1 ≡ z
        once z = omega (arith, ints)

  points_back : ClosuresMeetInPoints Subj Clip → PointIntersects filled es
  points_back h = (meets_back h.0, λ e c. by e c (has_both filled es e) refl)
    where
      by : (e : CountedEdge) → Contains es e → (t : Bool) → has_both filled es e ≡ t → has_both filled es e ≡ false
      by e c true is = absurd (not_alone e c is h)
      by e c false is = is

  pub closures_tell : ClosuresTell filled es
  closures_tell = record {
    subject = subject;
    clip = clip;
    intersects = (meets, meets_back);
    touches = (
      λ h. (meets h.0, λ p s k. h.1 (p, s.0, s.1, k.1)),
      λ h. (meets_back h.0, λ at. h.1 at.0 (at.1, at.2) (at.1, at.3)),
    );
    point_intersects = (points, points_back);
    disjoint = (λ none at. none (meets_back at), λ none at. none (meets at));
  }

pub closures_are_closed_regions : ClosuresAreClosedRegions
closures_are_closed_regions filled es fillable = closures_tell filled es fillable
