-- The pieces of an edge along the steps between points of a chain: the program's piece of a step, which a builder may
-- hold.
use Rattle.std.proofs.Common.{◌≡◌, ℕ, ◌≤◌, Bool, true, false, cond, List, [], ◌∷◌, ◌++◌}
use Rattle.std.proofs.Common.{map, get_or, refl, sym, ap, subst, ◌∙◌, arith}
use Rattle.std.specs.List.{All}
use Rattle.std.specs.declared.cmp.Ordering.TheVariants.{Less, Equal, Greater}
use Rattle.std.specs.Ordering.{is_eq}
use Rattle.std.proofs.lemmas.Bool.{false_from_ne_true}
use Rattle.std.proofs.lemmas.List.Elements.{All-nil, All-cons, All-head, All-map}
use Rattle.std.proofs.lemmas.List.Sums.{sum_by-append}
use Rattle.overlay_geom.specs.Plane.{Point, Edge, point_eq, point_lt, steps_between}
use Rattle.overlay_geom.specs.Points.{InRange}
use Rattle.overlay_geom.specs.Edges.{CountedEdge, weight}
use Rattle.overlay_geom.specs.Counts.{Counts, reversed_counts}
use Rattle.overlay_geom.proofs.Orders.{Decides-point_eq, point_lt-back}
use Rattle.overlay_geom.proofs.PointComparisons.{point_cmp-is_tie}
use Rattle.overlay_geom.proofs.PointOrder.{Decides-point_lt, before_is_other}
use Rattle.overlay_geom.proofs.Weights.{edge_weight}
use Rattle.overlay_plane.specs.Cutting.{piece_along}
use Rattle.overlay_plane.proofs.PieceCounts.{edge_weight-piece}
use Rattle.overlay_order.specs.Content.{edge_with, point_cmp, IsHeld}

-- ---- how the two points of a step compare

-- a point that comes after another point differs from it
other_where_after : (p q : Point) → point_lt q p ≡ true → point_eq p q ≡ false
other_where_after p q after =
    false_from_ne_true (point_eq p q)
    (λ same. let is = (Decides-point_eq p q).0 same in
    before_is_other q p ((Decides-point_lt q p).0 after) (ap (λ (r : Point). r.x) is) (ap (λ (r : Point). r.y) is))

-- the step leads back: its points differ, and the first is not the smaller
pub record LeadsBack (p q : Point) : Type 0 where
  pub apart : point_eq p q ≡ false
  pub back : point_lt p q ≡ false

-- the step leads back if the first point compares as `Greater`
pub back_where_greater : (p q : Point) → point_cmp p q ≡ Greater → LeadsBack p q
back_where_greater p q greater = by (point_lt p q) (point_lt q p) refl refl greater
  where
    by : (s t : Bool) → point_lt p q ≡ s → point_lt q p ≡ t → cond s Less (cond t Greater Equal) ≡ Greater →
        LeadsBack p q
    by true t forth back h = absurd (cc)
    by false true forth back h = record { apart = other_where_after p q back; back = forth }
    by false false forth back h = absurd (cc)

-- the step leads on: its points differ, and the first is the smaller
pub record LeadsOn (p q : Point) : Type 0 where
  pub apart : point_eq p q ≡ false
  pub on : point_lt p q ≡ true

-- the step leads on if the first point compares as `Less`
pub on_where_less : (p q : Point) → point_cmp p q ≡ Less → LeadsOn p q
on_where_less p q less = record {
  apart = sym (point_cmp-is_tie p q) ∙ ap is_eq less;
  on = by (point_lt p q) (point_lt q p) refl less;
}
  where
    by : (s t : Bool) → point_lt p q ≡ s → cond s Less (cond t Greater Equal) ≡ Less → point_lt p q ≡ true
    by true t forth h = forth
    by false true forth h = absurd (cc)
    by false false forth h = absurd (cc)

-- the points are one where they compare as `Equal`
pub same_where_equal : (p q : Point) → point_cmp p q ≡ Equal → point_eq p q ≡ true
same_where_equal p q equal = sym (point_cmp-is_tie p q) ∙ ap is_eq equal

-- ---- the piece of a step

-- the piece of an edge between two points, where the first is the smaller, or is not
abbrev piece_by : Bool → CountedEdge → Point → Point → CountedEdge
piece_by t e p q = record {
  a = (cond {A = Edge} t (record { a = p; b = q }) (record { a = q; b = p })).a;
  b = (cond {A = Edge} t (record { a = p; b = q }) (record { a = q; b = p })).b;
  counts = cond t e.counts (reversed_counts e.counts);
}

-- between two different points there is one piece
one_piece : (e : CountedEdge) (p q : Point) (t : Bool) → point_eq p q ≡ false → point_lt p q ≡ t →
    map (piece_along e) (steps_between p q) ≡ piece_by t e p q ∷ []
one_piece e p q t apart way =
    ap (λ s. map (piece_along e) (cond s [] (record { from = p; to = q } ∷ []))) apart
    ∙ ap (λ s. piece_by s e p q ∷ []) way

-- the piece of a step that leads on has the edge's counts
pub piece_forth : (a b p q : Point) (c k : Counts) → point_cmp p q ≡ Less → k ≡ c →
    edge_with p q k ∷ [] ≡ map (piece_along (edge_with a b c)) (steps_between p q)
piece_forth a b p q c k less same =
    let leads = on_where_less p q less in
    ap (λ n. edge_with p q n ∷ []) same
    ∙ sym (one_piece (edge_with a b c) p q true leads.apart leads.on)

-- the piece of a step that leads back has the counts reversed
pub piece_back : (a b p q : Point) (c k : Counts) → point_cmp p q ≡ Greater → k ≡ reversed_counts c →
    edge_with q p k ∷ [] ≡ map (piece_along (edge_with a b c)) (steps_between p q)
piece_back a b p q c k greater reversed =
    let leads = back_where_greater p q greater in
    ap (λ n. edge_with q p n ∷ []) reversed
    ∙ sym (one_piece (edge_with a b c) p q false leads.apart leads.back)

-- ---- pieces that a builder may hold

-- the piece between two different points in range is one that a builder may hold
held_piece : (limit : ℕ) (e : CountedEdge) (p q : Point) → InRange limit p → InRange limit q → point_eq p q ≡ false →
    (t : Bool) → point_lt p q ≡ t → IsHeld limit (piece_by t e p q)
held_piece limit e p q hp hq apart true way = record { forward = way; a_in_range = hp; b_in_range = hq }
held_piece limit e p q hp hq apart false way = record {
  forward = point_lt-back p q apart way;
  a_in_range = hq;
  b_in_range = hp;
}

-- the pieces of the steps between two points in range may be held
held_pieces : (limit : ℕ) (e : CountedEdge) (p q : Point) → InRange limit p → InRange limit q →
    All (IsHeld limit) (map (piece_along e) (steps_between p q))
held_pieces limit e p q hp hq = by (point_eq p q) refl
  where
    by : (s : Bool) → point_eq p q ≡ s →
        All (IsHeld limit) (map (piece_along e) (cond s [] (record { from = p; to = q } ∷ [])))
    by true same = All-nil (IsHeld limit)
    by false apart = All-cons (IsHeld limit) (piece_by (point_lt p q) e p q) []
        (held_piece limit e p q hp hq apart (point_lt p q) refl) (All-nil (IsHeld limit))

-- the single piece of a step may be held
pub step_held : (limit : ℕ) (e piece : CountedEdge) (p q : Point) → InRange limit p → InRange limit q →
    piece ∷ [] ≡ map (piece_along e) (steps_between p q) → IsHeld limit piece
step_held limit e piece p q hp hq is = All-head (IsHeld limit) piece []
    (subst (λ es. All (IsHeld limit) es) (sym is) (held_pieces limit e p q hp hq))

-- the piece weighs as much as the edge
pub step_weighs : (e piece : CountedEdge) (p q : Point) → piece ∷ [] ≡ map (piece_along e) (steps_between p q) →
    edge_weight piece ≡ edge_weight e
step_weighs e piece p q is =
    All-head WeighsAlike piece [] (subst (λ es. All WeighsAlike es) (sym is)
    (All-map WeighsAlike (piece_along e) (steps_between p q)
    (λ k d l. edge_weight-piece e (get_or (steps_between p q) k d))))
  where
    WeighsAlike : CountedEdge → Type 0
    WeighsAlike f = edge_weight f ≡ edge_weight e

-- ---- part of a push

-- where the beginning of a list is heavy, the list is
pub heavy_beginning : (limit : ℕ) (first rest whole : List CountedEdge) → first ++ rest ≡ whole → limit ≤ weight first →
    limit ≤ weight whole
heavy_beginning limit first rest whole is heavy = let both = sum_by-append edge_weight first rest in
    let all = ap weight is in omega arith
