-- The winding below an edge counts the edges below its start, so it is the winding above the greatest of them.
use Rattle.std.proofs.Common.{◌≡◌, ⊎_elim, Bool, true, false, cond, ◌&&◌, ◌||◌, ℤ, pos, ◌+ℤ◌, int_lt, List}
use Rattle.std.proofs.Common.{Contains, refl, sym, ap, ◌∙◌, subst}
use Rattle.std.proofs.lemmas.Bool.{and_parts, or_cases, false_from_ne_true}
use lib.IntN.{+ℤ_idl, +ℤ_idr}
use Rattle.overlay_geom.specs.Plane.{Point, Edge, side, in_plane, point_lt, point_eq, is_strictly_below}
use Rattle.overlay_geom.specs.Edges.{CountedEdge, ends_of, winding_below, winding_above}
use Rattle.overlay_geom.proofs.Orders.{point_eq-same}
use Rattle.overlay_geom.proofs.Signs.{linear}
use Rattle.std.proofs.lemmas.List.Elements.{All-contains}
use Rattle.overlay_plane.specs.Anchors.{is_below_anchor}
use Rattle.overlay_plane.specs.Heights.{covers}
use Rattle.overlay_plane.specs.Nodes.{IsBalancedArrangement, edge_turn, turns_left}
use Rattle.overlay_plane.specs.Regions.{TakesDownward, total_taken}
use Rattle.overlay_plane.proofs.EdgeTurns.{wide_before_left}
use Rattle.overlay_plane.proofs.GreatestTaken.{IsGreatestTaken, above_the_greatest_taken}
use Rattle.overlay_plane.proofs.LineForms.{side-start}
use Rattle.overlay_plane.proofs.NodeWindings.{winding_from_a_start}
use Rattle.overlay_plane.proofs.RisesOver.{meets_under}
use Rattle.overlay_plane.proofs.Tests.{lt_from_test}
use Rattle.overlay_plane.proofs.Totals.{total-same, total-zero, total-add}
use Rattle.overlay_plane.proofs.WhereEdgesStart.{covers_start}
use Rattle.overlay_scan.proofs.BelowStarts.{IsBeside, below_through}

-- an edge below the start of an edge is over that start
pub below_is_over : (e f : Edge) → point_lt e.a e.b ≡ true → point_lt f.a f.b ≡ true → is_below_anchor e f ≡ true →
    covers f e.a.x (pos 1) ≡ true
below_is_over e f forward_e forward_f below = ⊎_elim
    (λ strict. (and_parts (covers f e.a.x (pos 1)) (int_lt (pos 0) (side f (in_plane e.a))) strict).0)
    (λ starts. let both = and_parts (point_eq f.a e.a) (turns_left f e) starts in
    let wide = wide_before_left f e forward_f forward_e (lt_from_test (pos 0) (edge_turn f e) both.1) in
    subst (λ (p : Point). covers f p.x (pos 1) ≡ true) (point_eq-same f.a e.a both.0) (covers_start f (omega linear)))
    (or_cases (is_strictly_below f (in_plane e.a)) (point_eq f.a e.a && turns_left f e) below)

module _ (count : CountedEdge → ℤ) (es : List CountedEdge) (r : IsBalancedArrangement count es) (e : CountedEdge)
    (at_e : Contains es e) where
  -- the edge is below the start of e
  abbrev below : CountedEdge → Bool
  below f = is_below_anchor (ends_of e) (ends_of f)

  forward : (f : CountedEdge) → Contains es f → point_lt f.a f.b ≡ true
  forward f at = All-contains (λ (g : CountedEdge). point_lt g.a g.b ≡ true) es f r.planar.forward at

  -- an edge strictly below a point does not start there
  starts_elsewhere : (f : CountedEdge) → is_strictly_below (ends_of f) (in_plane e.a) ≡ true → point_eq f.a e.a ≡ false
  starts_elsewhere f strict = false_from_ne_true (point_eq f.a e.a) (λ same.
      absurd (let level = subst (λ (p : Point). side (ends_of f) (in_plane p) ≡ pos 0) (point_eq-same f.a e.a same)
      (side-start (ends_of f)) in
      let left = lt_from_test (pos 0) (side (ends_of f) (in_plane e.a))
      (and_parts (covers (ends_of f) e.a.x (pos 1)) (int_lt (pos 0) (side (ends_of f) (in_plane e.a))) strict).1 in
      omega linear))

  -- the edges strictly below the start, and those that start there to the right, are the ones below it
  counted_once : (f : CountedEdge) → cond (is_strictly_below (ends_of f) (in_plane e.a)) (count f) (pos 0)
      +ℤ cond (point_eq f.a e.a && turns_left (ends_of f) (ends_of e)) (count f) (pos 0) ≡ cond (below f)
      (count f) (pos 0)
  counted_once f = by (is_strictly_below (ends_of f) (in_plane e.a)) refl
    where
      by : (t : Bool) → is_strictly_below (ends_of f) (in_plane e.a) ≡ t →
          cond t (count f) (pos 0) +ℤ cond (point_eq f.a e.a && turns_left (ends_of f) (ends_of e)) (count f) (pos 0) ≡
          cond (t || (point_eq f.a e.a && turns_left (ends_of f) (ends_of e))) (count f) (pos 0)
      by true strict = ap (λ s. count f +ℤ cond (s && turns_left (ends_of f) (ends_of e)) (count f) (pos 0))
          (starts_elsewhere f strict) ∙ +ℤ_idr (count f)
      by false other = +ℤ_idl (cond (point_eq f.a e.a && turns_left (ends_of f) (ends_of e)) (count f) (pos 0))

  -- the winding below the edge is the sum of the counts of the edges below its start
  pub winding_counts_below : winding_below count es e ≡ total_taken below count es
  winding_counts_below = winding_from_a_start count es r e at_e
      ∙ sym (total-add (λ f. cond (is_strictly_below (ends_of f) (in_plane e.a)) (count f) (pos 0))
      (λ f. cond (point_eq f.a e.a && turns_left (ends_of f) (ends_of e)) (count f) (pos 0)) es)
      ∙ total-same (λ f. cond (is_strictly_below (ends_of f) (in_plane e.a)) (count f) (pos 0)
      +ℤ cond (point_eq f.a e.a && turns_left (ends_of f) (ends_of e)) (count f) (pos 0))
      (λ f. cond (below f) (count f) (pos 0)) es (λ f at. counted_once f)

  -- it is 0 where none is below
  pub winding_with_none_below : ((f : CountedEdge) → Contains es f → below f ≡ false) → winding_below count es e ≡ pos 0
  winding_with_none_below none = winding_counts_below
      ∙ total-zero (λ f. cond (below f) (count f) (pos 0)) es (λ f at. ap (λ t. cond t (count f) (pos 0)) (none f at))

  -- with an edge below the start all under it are below
  beside : (f : CountedEdge) → Contains es f → covers (ends_of f) e.a.x (pos 1) ≡ true →
      IsBeside (ends_of e) (forward e at_e) (ends_of f)
  beside f at over = record { over = over; meets = r.planar.settled e f at_e at }

  takes_below_start : TakesDownward ends_of es e.a.x (pos 1) below
  takes_below_start = record {
    over = λ f at is. below_is_over (ends_of e) (ends_of f) (forward e at_e) (forward f at) is;
    downward = λ g f at_g at_f is over under. below_through (ends_of e) (forward e at_e) (ends_of f) (ends_of g)
        (beside f at_f over)
        (beside g at_g (below_is_over (ends_of e) (ends_of g) (forward e at_e) (forward g at_g) is))
        (meets_under (ends_of g) (ends_of f) e.a.x (pos 1) (r.planar.settled g f at_g at_f) under) under is;
  }

  -- the winding is that above the greatest edge below
  pub winding_above_the_greatest : (g : CountedEdge) → IsGreatestTaken es e.a.x (pos 1) below g →
      winding_below count es e ≡ winding_above count es g
  winding_above_the_greatest g h = winding_counts_below
      ∙ above_the_greatest_taken count es r e.a.x (pos 1) (omega linear) below takes_below_start g h
