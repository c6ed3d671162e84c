-- The region from the signs of edges: of the edges strictly below a point, and of the edges under an edge.
use Rattle.std.proofs.Common.{◌≡◌, true, cond, ◌&&◌, ℤ, pos, ◌+ℤ◌, ◌-ℤ◌, ◌<ℤ◌, ◌≤ℤ◌, int_lt, List, ap, ap₂, ◌∙◌}
use Rattle.std.proofs.lemmas.Bool.{and_parts, and_from}
use lib.IntN.{+ℤ_idr}
use Rattle.overlay_geom.specs.Plane.{PlanePoint, Edge, side, is_strictly_below, total}
use Rattle.overlay_geom.specs.Edges.{CountedEdge, ends_of, winding_below}
use Rattle.overlay_geom.specs.Settled.{MeetInEnds, IsSettledBy}
use Rattle.overlay_geom.proofs.Signs.{linear, by_sign, mul-pos, pos_of_mul-pos}
use Rattle.overlay_plane.specs.Heights.{width, gap, covers, is_under, Spans}
use Rattle.overlay_plane.specs.Regions.{one_if, TakesDownward, RegionOverEdgesTaken, RegionFromSelectedSigns}
use Rattle.overlay_plane.specs.Regions.{RegionBelowAnEdge}
use Rattle.overlay_plane.specs.EdgeLists.{IsBalanced}
use Rattle.overlay_plane.specs.Windings.{total_under}
use Rattle.overlay_plane.proofs.LineForms.{gap-line_form}
use Rattle.overlay_plane.proofs.Crossing.{no_crossing}
use Rattle.overlay_plane.proofs.Tests.{lt_from_test, test_from_lt}
use Rattle.overlay_plane.proofs.Under.{covers_from, covers_to, covers_wide, shared_just_right, under_transitive}
use Rattle.overlay_plane.proofs.Sides.{one_winding_along}
use Rattle.overlay_plane.proofs.RisesOver.{meets_under, rises_over}

-- ---- below a point

-- an edge that covers the point's x-coordinate, under an edge strictly below the point, is strictly below it too
pub below_under : (f e : Edge) (p : PlanePoint) → MeetInEnds e f → covers f p.x p.d ≡ true → covers e p.x p.d ≡ true →
    is_under f e p.x p.d ≡ true →
    pos 0 <ℤ side e p → pos 0 <ℤ side f p
below_under f e p meet over_f over_e under low =
    let wide_f = covers_wide f p.x p.d p.positive over_f in
    let wide = covers_wide e p.x p.d p.positive over_e in
    let product = mul-pos (width f) (side e p) wide_f low in
    let level = gap-line_form f e p.x p.y p.d in
    let above = lt_from_test (pos 0) (gap f e (p.x +ℤ p.x +ℤ pos 1) (p.d +ℤ p.d)) under in
    let weakly : pos 0 ≤ℤ gap f e p.x p.d = by_sign (gap f e p.x p.d)
    (λ below. absurd (no_crossing f e (p.x +ℤ p.x +ℤ pos 1) (p.d +ℤ p.d) p.x p.d wide_f wide meet
    (shared_just_right f e p.x p.d p.positive over_f over_e) p.positive (spans e over_e)
    (spans f over_f) above below))
    (λ zero. omega linear) (λ more. omega linear) in
    pos_of_mul-pos (width e) (side f p) wide (omega linear)
  where
    spans : (g : Edge) → covers g p.x p.d ≡ true → Spans g p.x p.d
    spans g over = record { from = covers_from g p.x p.d over; to = let r = covers_to g p.x p.d over in omega linear }

-- the edges strictly below a point are taken with all under them
pub takes_below : {X : Type 0} (ends : X → Edge) (xs : List X) → IsSettledBy ends xs → (p : PlanePoint) →
    TakesDownward ends xs p.x p.d (λ e. is_strictly_below (ends e) p)
takes_below {X} ends xs settled p = record {
  over = λ e at t. (and_parts (covers (ends e) p.x p.d) (int_lt (pos 0) (side (ends e) p)) t).0;
  downward = λ e f at_e at_f t over under. and_from (covers (ends f) p.x p.d) (int_lt (pos 0) (side (ends f) p)) over
      (test_from_lt (pos 0) (side (ends f) p)
      (below_under (ends f) (ends e) p (meets_under (ends e) (ends f) p.x p.d (settled e f at_e at_f) under) over
      (parts e t).0 under (lt_from_test (pos 0) (side (ends e) p) (parts e t).1)));
}
  where
    parts : (e : X) → is_strictly_below (ends e) p ≡ true →
        (covers (ends e) p.x p.d ≡ true) × (int_lt (pos 0) (side (ends e) p) ≡ true)
    parts e t = and_parts (covers (ends e) p.x p.d) (int_lt (pos 0) (side (ends e) p)) t

-- the edges under an edge are taken so too
pub takes_under : {X : Type 0} (ends : X → Edge) (xs : List X) (g : Edge) (x d : ℤ) → pos 0 <ℤ d → covers g x d ≡ true →
    TakesDownward ends xs x d (λ e. covers (ends e) x d && is_under (ends e) g x d)
takes_under {X} ends xs g x d positive over_g = record {
  over = λ e at t. (parts e t).0;
  downward = λ e f at_e at_f t over under. and_from (covers (ends f) x d) (is_under (ends f) g x d) over
      (under_transitive (ends f) (ends e) g x d positive over (parts e t).0 over_g under (parts e t).1);
}
  where
    parts : (e : X) → (covers (ends e) x d && is_under (ends e) g x d) ≡ true →
        (covers (ends e) x d ≡ true) × (is_under (ends e) g x d ≡ true)
    parts e t = and_parts (covers (ends e) x d) (is_under (ends e) g x d) t

-- the signs of edges taken with all under them add up to the rule at the sums of their counts
pub region_over_edges_taken : RegionOverEdgesTaken
region_over_edges_taken holds subj clip es r x d positive taken takes = rises_over ends_of es r.planar.forward
    r.planar.settled x d
    positive taken takes subj clip
    (λ v w. one_if (holds v w)) r.planar.distinct r.subj_balanced r.clip_balanced
    ∙ ap (λ t. here -ℤ one_if t) r.none ∙ +ℤ_idr here
  where
    here : ℤ
    here = one_if (holds (total (λ e. cond (taken e) (subj e) (pos 0)) es)
        (total (λ e. cond (taken e) (clip e) (pos 0)) es))

-- those of the edges strictly below a point to the rule at the point
pub region_from_selected_signs : RegionFromSelectedSigns
region_from_selected_signs holds subj clip es r p = region_over_edges_taken holds subj clip es r p.x p.d p.positive
    (λ e. is_strictly_below (ends_of e) p) (takes_below ends_of es r.planar.settled p)

-- those of the edges under an edge to the rule just below it
pub region_below_an_edge : RegionBelowAnEdge
region_below_an_edge holds subj clip es r e at x d positive over = region_over_edges_taken holds subj clip es r
    x d positive
    (λ f. covers (ends_of f) x d && is_under (ends_of f) (ends_of e) x d)
    (takes_under ends_of es (ends_of e) x d positive over)
    ∙ ap₂ (λ v w. one_if (holds v w)) (winding subj r.subj_balanced) (winding clip r.clip_balanced)
  where
    winding : (count : CountedEdge → ℤ) → IsBalanced ends_of count es →
        total_under ends_of count es (ends_of e) x d ≡ winding_below count es e
    winding count balanced = one_winding_along ends_of count es (ends_of e) r.planar.forward
        (λ f c. r.planar.settled e f at c)
        balanced x d positive over
