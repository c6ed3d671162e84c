-- Past a place of an edge, the windings below and above the edge rise by the edges across the place, and by those that
-- start or end there along the edge.
use Rattle.std.proofs.Common.{◌≡◌, Bool, true, false, cond, not, ◌&&◌, ℤ, pos, ◌-ℤ◌, ◌*ℤ◌, List, Contains, refl}
use Rattle.std.proofs.Common.{sym, ap, ap₂, ◌∙◌}
use Rattle.std.proofs.lemmas.Bool.{false≢true}
use Rattle.std.proofs.lemmas.List.Elements.{All-contains}
use Rattle.overlay_geom.specs.Edges.{CountedEdge, ends_of}
use Rattle.overlay_geom.specs.Plane.{Point, PlanePoint, IsOn, in_plane, point_lt}
use Rattle.overlay_geom.proofs.Crossing.{at_one_point}
use Rattle.overlay_geom.proofs.Identities.{solve, ◌⊗◌, ◌⊖◌, ◌≗◌}
use Rattle.overlay_geom.proofs.PointOrder.{IsBefore, before_is_other}
use Rattle.overlay_geom.proofs.Signs.{linear}
use Rattle.overlay_plane.specs.CutPoints.{are_along}
use Rattle.overlay_plane.specs.EdgeLists.{IsForwardBy}
use Rattle.overlay_plane.specs.Regions.{one_if}
use Rattle.overlay_plane.proofs.Ends.{start_on, end_on}
use Rattle.overlay_plane.proofs.NodeWindings.{count-times}
use Rattle.overlay_plane.proofs.PlaceOrder.{on_same_place}
use Rattle.overlay_plane.proofs.Totals.{total-same, total-sub}
use Rattle.overlay_plane.proofs.WholeOnEdges.{forward_from_test, at_itself, same_place_at, Decides-is_at}
use Rattle.overlay_scaled.specs.BesidePieces.{is_right_of, is_at, total_to_right, total_from_right, total_leading_on}
use Rattle.overlay_scaled.specs.BesidePieces.{total_coming_up, rise_past, rise_along, WindingsPastAPlace}
use Rattle.overlay_scaled.specs.Through.{is_on}
use Rattle.overlay_scaled.proofs.AlongPieces.{counts_along_pieces}
use Rattle.overlay_scaled.proofs.BesidePieces.{windings_beside_pieces}
use Rattle.overlay_scaled.proofs.OnTests.{test_from_on}

-- ---- across

-- the edges to the right, less those from there
rise_is : (count : CountedEdge → ℤ) (es : List CountedEdge) (e : CountedEdge) (m : PlanePoint) →
    rise_past count es e m ≡ total_to_right count es e m -ℤ total_from_right count es e m
rise_is count es e m = total-same
    (λ f. cond (is_on (ends_of f) m)
    (count f *ℤ (one_if (is_right_of (ends_of e) f.b) -ℤ one_if (is_right_of (ends_of e) f.a))) (pos 0))
    (λ f. cond (is_on (ends_of f) m && is_right_of (ends_of e) f.b) (count f) (pos 0)
    -ℤ cond (is_on (ends_of f) m && is_right_of (ends_of e) f.a) (count f) (pos 0)) es
    (λ f c. by (is_on (ends_of f) m) (is_right_of (ends_of e) f.a) (is_right_of (ends_of e) f.b) (count f))
    ∙ total-sub (λ f. cond (is_on (ends_of f) m && is_right_of (ends_of e) f.b) (count f) (pos 0))
    (λ f. cond (is_on (ends_of f) m && is_right_of (ends_of e) f.a) (count f) (pos 0)) es
  where
    by : (o ra rb : Bool) (c : ℤ) → cond o (c *ℤ (one_if rb -ℤ one_if ra)) (pos 0) ≡
        cond (o && rb) c (pos 0) -ℤ cond (o && ra) c (pos 0)
    by true ra rb c = solve 3 (λ c s t. c ⊗ (s ⊖ t) ≗ c ⊗ s ⊖ c ⊗ t) tt c (one_if rb) (one_if ra)
        ∙ sym (ap₂ (λ s t. s -ℤ t) (count-times rb c) (count-times ra c))
    by false ra rb c = refl

-- ---- along

-- whether f is on m (`o`), runs along e (`l`), and starts or ends at m
runs : (o l s t : Bool) (c : ℤ) → (s ≡ true → o ≡ true) → (t ≡ true → o ≡ true) → (s ≡ true → t ≡ true → ⊥) →
    cond l (c *ℤ (one_if s -ℤ one_if t)) (pos 0) ≡
    cond (o && l && not t) c (pos 0) -ℤ cond (o && l && not s) c (pos 0)
runs o false s t c on_s on_t both = none o s t
  where
    none : (o s t : Bool) → pos 0 ≡ cond (o && false && not t) c (pos 0) -ℤ cond (o && false && not s) c (pos 0)
    none true s t = refl
    none false s t = refl
runs o true s t c on_s on_t both = solve 3 (λ c s t. c ⊗ (s ⊖ t) ≗ c ⊗ s ⊖ c ⊗ t) tt c (one_if s) (one_if t)
    ∙ sym (ap₂ (λ u v. u -ℤ v) (count-times s c) (count-times t c)) ∙ by o s t on_s on_t both
  where
    nothing : (c : ℤ) → pos 0 -ℤ pos 0 ≡ c -ℤ c
    nothing c = omega linear

    by : (o s t : Bool) → (s ≡ true → o ≡ true) → (t ≡ true → o ≡ true) → (s ≡ true → t ≡ true → ⊥) →
        cond s c (pos 0) -ℤ cond t c (pos 0) ≡
        cond (o && true && not t) c (pos 0) -ℤ cond (o && true && not s) c (pos 0)
    by true true true on_s on_t both = absurd (both refl refl)
    by true true false on_s on_t both = refl
    by true false true on_s on_t both = refl
    by true false false on_s on_t both = nothing c
    by false true t on_s on_t both = absurd (false≢true (on_s refl))
    by false false true on_s on_t both = absurd (false≢true (on_t refl))
    by false false false on_s on_t both = refl

-- the edges that lead on, less those that come up
along_is : (count : CountedEdge → ℤ) (es : List CountedEdge) → IsForwardBy ends_of es → (e : CountedEdge)
    (m : PlanePoint) → rise_along count es e m ≡ total_leading_on count es e m -ℤ total_coming_up count es e m
along_is count es forward e m = total-same
    (λ f. cond (are_along (ends_of e) (ends_of f)) (count f *ℤ (one_if (is_at f.a m) -ℤ one_if (is_at f.b m))) (pos 0))
    (λ f. cond (is_on (ends_of f) m && are_along (ends_of e) (ends_of f) && not (is_at f.b m)) (count f) (pos 0)
    -ℤ cond (is_on (ends_of f) m && are_along (ends_of e) (ends_of f) && not (is_at f.a m)) (count f) (pos 0)) es each
    ∙ total-sub
    (λ f. cond (is_on (ends_of f) m && are_along (ends_of e) (ends_of f) && not (is_at f.b m)) (count f) (pos 0))
    (λ f. cond (is_on (ends_of f) m && are_along (ends_of e) (ends_of f) && not (is_at f.a m)) (count f) (pos 0)) es
  where
    each : (f : CountedEdge) → Contains es f →
        cond (are_along (ends_of e) (ends_of f)) (count f *ℤ (one_if (is_at f.a m) -ℤ one_if (is_at f.b m))) (pos 0) ≡
        cond (is_on (ends_of f) m && are_along (ends_of e) (ends_of f) && not (is_at f.b m)) (count f) (pos 0)
        -ℤ cond (is_on (ends_of f) m && are_along (ends_of e) (ends_of f) && not (is_at f.a m)) (count f) (pos 0)
    each f c = runs (is_on (ends_of f) m) (are_along (ends_of e) (ends_of f)) (is_at f.a m) (is_at f.b m) (count f)
        (λ t. at_end f.a (start_on (ends_of f)) t) (λ t. at_end f.b (end_on (ends_of f)) t)
        (λ s t. let same = at_one_point f.a f.b m ((Decides-is_at f.a m).0 s) ((Decides-is_at f.b m).0 t) in
        before_is_other f.a f.b before (ap (λ (v : Point). v.x) (sym same)) (ap (λ (v : Point). v.y) (sym same)))
      where
        before : IsBefore f.a f.b
        before = forward_from_test (ends_of f) (All-contains (λ h. point_lt h.a h.b ≡ true) es f forward c)

        at_end : (v : Point) → IsOn (ends_of f) (in_plane v) → is_at v m ≡ true → is_on (ends_of f) m ≡ true
        at_end v on t = test_from_on (ends_of f) m (on_same_place (ends_of f) before (in_plane v) m
            (same_place_at v (in_plane v) m (at_itself v) ((Decides-is_at v m).0 t)) on)

-- ---- both

pub windings_past_a_place : WindingsPastAPlace
windings_past_a_place count es forward balanced e l m k p s first second within_first within_second =
    let here = (windings_beside_pieces count es forward balanced e l m p first within_first).from_end in
    let there = (windings_beside_pieces count es forward balanced e m k s second within_second).from_start in
    let runs_here = (counts_along_pieces count es forward e l m p first within_first).from_end in
    let runs_there = (counts_along_pieces count es forward e m k s second within_second).from_start in
    let rise = rise_is count es e m in
    let along = along_is count es forward e m in
    record { below = omega linear; above = omega linear }
