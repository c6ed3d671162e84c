-- A point that lies left of all points of each contour of a shape, or right of all of them, lies outside the shape.
use Rattle.std.proofs.Common.{◌≡◌, ⊎_elim, Bool, true, false, cond, pos, ◌*ℤ◌, ◌<ℤ◌, ◌≤ℤ◌, int_lt}
use Rattle.std.proofs.Common.{List, [], ◌∷◌, ◌++◌, map, All, refl, sym, ap₂, subst, arith}
use Rattle.std.proofs.lemmas.Bool.{and_parts, false_from_ne_true}
use Rattle.std.proofs.lemmas.Int.{ints}
use Rattle.std.proofs.lemmas.List.Elements.{All-nil, All-cons, All-head, All-tail, All-append, All-push, All-weaker}
use Rattle.overlay_geom.specs.Plane.{Point, Edge, PlanePoint, edge_of, point_eq, point_lt, in_plane}
use Rattle.overlay_geom.specs.Plane.{side}
use Rattle.overlay_geom.specs.Plane.{is_strictly_below, IsOn}
use Rattle.overlay_geom.specs.Resolved.{edges_between, edges_through, edges_of}
use Rattle.overlay_geom.proofs.ResolvedSteps.{edges_through-more}
use Rattle.overlay_plane.specs.Heights.{covers}
use Rattle.overlay_plane.proofs.Under.{covers_from, covers_to}
use Rattle.overlay_relate.specs.Locations.{differ, odd_below, IsLocatedIn}
use Rattle.overlay_relate.specs.Runs.{IsBeside}
use Rattle.overlay_relate.specs.declared.location.PointLocation.TheVariants.{Outside}
use Rattle.overlay_relate.proofs.Located.{outside_none, more_contours, located_by_edges}

-- ---- what holds of all points of a contour holds of the ends of its edges

module _ (P : Point → Type 0) where
  abbrev HasEnds : Edge → Type 0
  HasEnds e = P e.a × P e.b

  ends_between : (p q : Point) → P p → P q → All HasEnds (edges_between p q)
  ends_between p q at_p at_q = by (point_eq p q)
    where
      way : (t : Bool) → HasEnds (cond t (record { a = p; b = q }) (record { a = q; b = p }))
      way true = (at_p, at_q)
      way false = (at_q, at_p)

      by : (t : Bool) → All HasEnds (map edge_of (cond t [] (record { from = p; to = q } ∷ [])))
      by true = All-nil HasEnds
      by false = All-cons HasEnds (edge_of (record { from = p; to = q })) [] (way (point_lt p q)) (All-nil HasEnds)

  ends_through : (p : Point) (qs : List Point) → P p → All P qs → All HasEnds (edges_through p qs)
  ends_through p [] at_p all = All-nil HasEnds
  ends_through p (q ∷ qs) at_p all = subst (All HasEnds) (sym (edges_through-more p q qs))
      (All-append HasEnds (edges_between p q) (edges_through q qs) (ends_between p q at_p (All-head P q qs all))
      (ends_through q qs (All-head P q qs all) (All-tail P q qs all)))

  ends_round : (ps : List Point) → All P ps → All HasEnds (edges_of ps)
  ends_round [] all = All-nil HasEnds
  ends_round (p ∷ ps) all = ends_through p (ps ++ p ∷ []) (All-head P p ps all)
      (All-push P ps p (All-tail P p ps all) (All-head P p ps all))

-- ---- by an edge beside the point

not_on : (e : Edge) (q : Point) → (q.x <ℤ e.a.x) × (q.x <ℤ e.b.x) → ¬ (IsOn e (in_plane q))
not_on e q left on = ⊎_elim (λ b. omega (arith, ints, left.0, b.0)) (λ b. omega (arith, ints, left.1, b.0)) on.in_x

not_on_right : (e : Edge) (q : Point) → (e.a.x <ℤ q.x) × (e.b.x <ℤ q.x) → ¬ (IsOn e (in_plane q))
not_on_right e q right on =
    ⊎_elim (λ b. omega (arith, ints, right.1, b.1)) (λ b. omega (arith, ints, right.0, b.1)) on.in_x

-- the abscissa of a point above an edge lies in the edge's span
spanned : (e : Edge) (q : Point) → is_strictly_below e (in_plane q) ≡ true →
    ((e.a.x *ℤ pos 1) ≤ℤ q.x) × (q.x <ℤ (e.b.x *ℤ pos 1))
spanned e q below =
    let parts = and_parts (covers e q.x (pos 1)) (int_lt (pos 0) (side e (in_plane q))) below in
    (covers_from e q.x (pos 1) parts.0, covers_to e q.x (pos 1) parts.0)

not_below : (e : Edge) (q : Point) → (q.x <ℤ e.a.x) × (q.x <ℤ e.b.x) → is_strictly_below e (in_plane q) ≡ false
not_below e q left = false_from_ne_true (is_strictly_below e (in_plane q)) (λ below.
    let from = (spanned e q below).0 in omega (arith, ints, left.0, from))

not_below_right : (e : Edge) (q : Point) → (e.a.x <ℤ q.x) × (e.b.x <ℤ q.x) → is_strictly_below e (in_plane q) ≡ false
not_below_right e q right = false_from_ne_true (is_strictly_below e (in_plane q)) (λ below.
    let to = (spanned e q below).1 in omega (arith, ints, right.1, to))

-- no edge below the point, and so an even number
none_below : (es : List Edge) (p : PlanePoint) → All (λ e. is_strictly_below e p ≡ false) es → odd_below es p ≡ false
none_below [] p none = refl
none_below (e ∷ es) p none = ap₂ differ (All-head (λ e. is_strictly_below e p ≡ false) e es none)
    (none_below es p (All-tail (λ e. is_strictly_below e p ≡ false) e es none))

-- ---- by contours

outside_by : (ps : List Point) (q : Point) (P : Point → Type 0) →
    ((e : Edge) → P e.a × P e.b → ¬ (IsOn e (in_plane q))) →
    ((e : Edge) → P e.a × P e.b → is_strictly_below e (in_plane q) ≡ false) →
    All P ps → IsLocatedIn (ps ∷ []) (in_plane q) Outside
outside_by ps q P off even all =
    let ends = ends_round P ps all in
    located_by_edges ps (edges_of ps) refl (in_plane q) Outside (
      All-weaker (λ e. P e.a × P e.b) (λ e. ¬ (IsOn e (in_plane q))) off (edges_of ps) ends,
      none_below (edges_of ps) (in_plane q)
          (All-weaker (λ e. P e.a × P e.b) (λ e. is_strictly_below e (in_plane q) ≡ false) even (edges_of ps) ends),
    )

outside_one : (ps : List Point) (q : Point) → IsBeside ps q → IsLocatedIn (ps ∷ []) (in_plane q) Outside
outside_one ps q beside = ⊎_elim
    (λ left. outside_by ps q (λ p. q.x <ℤ p.x) (λ e. not_on e q) (λ e. not_below e q) left)
    (λ right. outside_by ps q (λ p. p.x <ℤ q.x) (λ e. not_on_right e q) (λ e. not_below_right e q) right) beside

-- beside each contour it is outside the shape
pub outside_beside : (shape : List (List Point)) (q : Point) → All (λ ps. IsBeside ps q) shape →
    IsLocatedIn shape (in_plane q) Outside
outside_beside [] q beside = outside_none (in_plane q)
outside_beside (ps ∷ shape) q beside = more_contours (ps ∷ []) shape (in_plane q) Outside Outside
    (outside_one ps q (All-head (λ ps. IsBeside ps q) ps shape beside))
    (outside_beside shape q (All-tail (λ ps. IsBeside ps q) ps shape beside))
