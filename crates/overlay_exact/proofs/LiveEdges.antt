-- Live edges of a sweep from left to right: those that have begun and have not ended wind as all edges do.
use Rattle.std.proofs.Common.{◌≡◌, ⊎_elim, ℕ, ◌+◌, ◌<◌, ◌≤◌, Bool, true, false, cond, not, ◌&&◌, ℤ, pos, ◌+ℤ◌, ◌*ℤ◌}
use Rattle.std.proofs.Common.{◌<ℤ◌, ◌≤ℤ◌, int_lt, int_le, List, [], ◌∷◌, ◌++◌, All, Contains, filter, map, take, drop}
use Rattle.std.proofs.Common.{length, get_or, refl, sym, ap, ap₂, ◌∙◌, subst, arith}
use Rattle.std.specs.Ordering.{int_cmp, is_gt}
use Rattle.std.proofs.lemmas.Bool.{cases_Bool}
use Rattle.std.proofs.lemmas.List.{take_more, take-append-drop, get_or-drop, length-drop, get_or_default}
use Rattle.std.proofs.lemmas.List.Elements.{All-nil, All-push, All-filter}
use Rattle.std.proofs.lemmas.List.Filters.{sum_by-filter_both}
use Rattle.std.proofs.lemmas.List.Sums.{sum_by-append, sum_by-take-le}
use Rattle.std.proofs.Math.Nat.{eq-or-lt_of_le}
use lib.IntN.{+ℤ_idr}
use Rattle.overlay_geom.specs.Counts.{weight_of_counts}
use Rattle.overlay_geom.specs.Edges.{CountedEdge, ends_of, winding_by, weight}
use Rattle.overlay_geom.specs.Plane.{Point, Edge, side, cross_at, in_plane, is_strictly_below, edge_lt}
use Rattle.overlay_geom.proofs.Comparisons.{is_gt-int_cmp}
use Rattle.overlay_geom.proofs.Identities.{solve, number, ◌⊗◌, ◌≗◌}
use Rattle.overlay_geom.proofs.Mapped.{map-filter}
use Rattle.overlay_geom.proofs.Signs.{linear}
use Rattle.overlay_geom.proofs.Totals.{total-append}
use Rattle.overlay_order.specs.Content.{IsHeld, IsAscending}
use Rattle.overlay_pairs.specs.Places.{IsAt}
use Rattle.overlay_pairs.proofs.SettledLists.{starts_no_further_left}
use Rattle.overlay_plane.proofs.Tests.{ge_from_test, test_from_ge}
use Rattle.overlay_plane.proofs.Totals.{total-same, total-zero, total-filter}
use Rattle.overlay_plane.proofs.WholeOnEdges.{side_at, at_itself}
use Rattle.overlay_exact.specs.PointWindings.{point_windings, AreLive, TellWindings}
use Rattle.overlay_exact.proofs.ToldMeetings.{less_at}

-- ---- below a whole point

times_one : (z : ℤ) → z *ℤ pos 1 ≡ z
times_one = solve 1 (λ z. z ⊗ number (pos 1) ≗ z) tt

one_times : (z : ℤ) → pos 1 *ℤ z ≡ z
one_times = solve 1 (λ z. number (pos 1) ⊗ z ≗ z) tt

-- the tests of whole numbers
pub below_whole : (e : Edge) (v : Point) → is_strictly_below e (in_plane v) ≡
    (int_le e.a.x v.x && int_lt v.x e.b.x && int_lt (pos 0) (cross_at e.a e.b v))
below_whole e v =
    ap₂ (λ a b. int_le a v.x && int_lt v.x b && int_lt (pos 0) (side e (in_plane v))) (times_one e.a.x)
    (times_one e.b.x)
    ∙ ap (λ z. int_le e.a.x v.x && int_lt v.x e.b.x && int_lt (pos 0) z)
    (side_at e v (in_plane v) (at_itself v) ∙ one_times (cross_at e.a e.b v))

pub left_whole : (e : Edge) (v : Point) (w : ℤ) → w ≡ cross_at e.a e.b v →
    is_gt (int_cmp w (pos 0)) ≡ int_lt (pos 0) (cross_at e.a e.b v)
left_whole e v w is = is_gt-int_cmp w (pos 0) ∙ ap (int_lt (pos 0)) is

-- an edge that ends no further right than a point is not below it
ended_not_below : (e : Edge) (v : Point) → e.b.x ≤ℤ v.x → is_strictly_below e (in_plane v) ≡ false
ended_not_below e v ended = below_whole e v
    ∙ ap (λ t. int_le e.a.x v.x && t && int_lt (pos 0) (cross_at e.a e.b v)) (test_from_ge v.x e.b.x ended)
    ∙ none (int_le e.a.x v.x)
  where
    none : (t : Bool) → (t && false && int_lt (pos 0) (cross_at e.a e.b v)) ≡ false
    none true = refl
    none false = refl

-- nor is one that starts right of it
later_not_below : (e : Edge) (v : Point) → v.x <ℤ e.a.x → is_strictly_below e (in_plane v) ≡ false
later_not_below e v later = below_whole e v
    ∙ ap (λ t. t && int_lt v.x e.b.x && int_lt (pos 0) (cross_at e.a e.b v)) not_up_to
  where
    not_up_to : int_le e.a.x v.x ≡ false
    not_up_to = grind (linear, later)

-- ---- live edges

-- at first there are none
pub live_none : (limit : ℕ) (es : List CountedEdge) (x : ℤ) → AreLive limit es 0 x []
live_none limit es x = record {
  held = All-nil (IsHeld limit);
  lighter = omega arith;
  alike = λ count v from. refl;
}

-- they stay live further right
pub live_later : (limit : ℕ) (es : List CountedEdge) (n : ℕ) (x z : ℤ) (live : List CountedEdge) → x ≤ℤ z →
    AreLive limit es n x live → AreLive limit es n z live
live_later limit es n x z live up so_far = record {
  held = so_far.held;
  lighter = so_far.lighter;
  alike = λ count v from. so_far.alike count v (omega linear);
}

-- the next edge begins
pub live_more : (limit : ℕ) (es : List CountedEdge) (n : ℕ) (x : ℤ) (live : List CountedEdge) (f : CountedEdge) →
    IsAt es n f → IsHeld limit f → AreLive limit es n x live → AreLive limit es (n + 1) x (live ++ f ∷ [])
live_more limit es n x live f at f_held so_far = record {
  held = All-push (IsHeld limit) live f so_far.held f_held;
  lighter =
      let old = sum_by-append (λ e. weight_of_counts e.counts) live (f ∷ []) in
      let new = sum_by-append (λ e. weight_of_counts e.counts) (take n es) (f ∷ []) in
      let le = so_far.lighter in
      subst (λ fs. weight (live ++ f ∷ []) ≤ weight fs) (sym next) (omega (arith, old, new, le));
  alike = λ count v from.
      total-append (λ e. cond (is_strictly_below (ends_of e) (in_plane v)) (count e) (pos 0)) live (f ∷ [])
      ∙ ap (λ z. z +ℤ winding_by count (f ∷ []) (in_plane v)) (so_far.alike count v from)
      ∙ sym (ap (λ fs. winding_by count fs (in_plane v)) next
      ∙ total-append (λ e. cond (is_strictly_below (ends_of e) (in_plane v)) (count e) (pos 0)) (take n es) (f ∷ []));
}
  where
    next : take (n + 1) es ≡ take n es ++ f ∷ []
    next = take_more es n f at.0 ∙ ap (λ g. take n es ++ g ∷ []) at.1

-- those that have ended are dropped
pub live_ended : (limit : ℕ) (es : List CountedEdge) (n : ℕ) (x : ℤ) (live : List CountedEdge) →
    AreLive limit es n x live → AreLive limit es n x (filter (λ f. int_lt x f.b.x) live)
live_ended limit es n x live so_far = record {
  held = All-filter (λ f. int_lt x f.b.x) (IsHeld limit) live so_far.held;
  lighter =
      let le = so_far.lighter in
      let both = sum_by-filter_both (λ f. int_lt x f.b.x) (λ f. not (int_lt x f.b.x)) (λ f. refl)
      (λ e. weight_of_counts e.counts) live in
      omega (arith, both, le);
  alike = λ count v from.
      total-filter (λ f. int_lt x f.b.x)
      (λ e. cond (is_strictly_below (ends_of e) (in_plane v)) (count e) (pos 0)) live
      ∙ total-same _ (λ e. cond (is_strictly_below (ends_of e) (in_plane v)) (count e) (pos 0)) live
      (λ f c. ⊎_elim
      (λ (stays : int_lt x f.b.x ≡ true).
      ap (λ t. cond t (cond (is_strictly_below (ends_of f) (in_plane v)) (count f) (pos 0)) (pos 0)) stays)
      (λ (ends : int_lt x f.b.x ≡ false).
      let le = ge_from_test x f.b.x ends in
      ap (λ t. cond t (cond (is_strictly_below (ends_of f) (in_plane v)) (count f) (pos 0)) (pos 0)) ends
      ∙ sym (ap (λ t. cond t (count f) (pos 0)) (ended_not_below (ends_of f) v (omega linear))))
      (cases_Bool (int_lt x f.b.x)))
      ∙ so_far.alike count v from;
}

-- ---- at a point

module _ (limit : ℕ) (es : List CountedEdge) (n : ℕ) (v : Point) (live : List CountedEdge)
    (up : IsAscending es) (right : (f : CountedEdge) → IsAt es n f → v.x <ℤ f.a.x)
    (so_far : AreLive limit es n v.x live) where
  -- later edges start right of it
  rest_right : (f : CountedEdge) → Contains (drop n es) f → v.x <ℤ f.a.x
  rest_right f (k, inside, is) =
      let l = length-drop n es in
      let at_f : get_or es (n + k) f ≡ f = sym (get_or-drop n es k f) ∙ is in
      let within : n + k < length es = omega (arith, inside) in
      ⊎_elim
      (λ (same : 0 ≡ k). right f (
        omega arith,
        subst (λ j. get_or es j f ≡ f) (let s : n + k ≡ n = omega (arith, same)
            in s) at_f,
      ))
      (λ (more : 0 < k).
      let first = get_or es n f in
      let from = right first (omega arith, get_or_default es n first f (omega arith)) in
      let no_less = starts_no_further_left (ends_of first) (ends_of f)
      (subst (λ (g : CountedEdge). edge_lt (ends_of first) (ends_of g) ≡ true) at_f
      (up n (n + k) f (omega arith) within))
      in
      omega linear)
      (eq-or-lt_of_le (let le : 0 ≤ k = omega arith in le))

  pub winds_whole : (count : CountedEdge → ℤ) → winding_by count live (in_plane v) ≡ winding_by count es (in_plane v)
  winds_whole count =
      so_far.alike count v (omega linear)
      ∙ sym (+ℤ_idr (winding_by count (take n es) (in_plane v)))
      ∙ ap (λ z. winding_by count (take n es) (in_plane v) +ℤ z)
      (sym (total-zero (λ e. cond (is_strictly_below (ends_of e) (in_plane v)) (count e) (pos 0)) (drop n es)
      (λ f c. ap (λ t. cond t (count f) (pos 0)) (later_not_below (ends_of f) v (rest_right f c)))))
      ∙ sym (total-append (λ e. cond (is_strictly_below (ends_of e) (in_plane v)) (count e) (pos 0)) (take n es)
      (drop n es))
      ∙ ap (λ fs. winding_by count fs (in_plane v)) (take-append-drop n es)

  -- so the live edges tell the windings there
  pub live_tell : point_windings live v ≡ point_windings es v
  live_tell = ap₂ (λ s c. record { subj = s; clip = c }) (winds_whole (λ e. e.counts.subj))
      (winds_whole (λ e. e.counts.clip))

  pub live_light : (m : ℕ) → weight es < m → weight live < m
  live_light m light =
      let le = so_far.lighter in
      let part = sum_by-take-le (λ (e : CountedEdge). weight_of_counts e.counts) es n in
      omega (arith, light, le, part)

-- at the start of an edge, and at that of the next
module _ (limit : ℕ) (es : List CountedEdge) (i n : ℕ) (e : CountedEdge) (live : List CountedEdge)
    (up : IsAscending es) (at : IsAt es i e) (so_far : AreLive limit es n e.a.x live) where
  pub live_on : (f : CountedEdge) → IsAt es (i + 1) f → AreLive limit es n f.a.x live
  live_on f at_f = live_later limit es n e.a.x f.a.x live
      (starts_no_further_left (ends_of e) (ends_of f) (less_at es i e at up i (i + 1) e f (omega arith) at at_f)) so_far

  pub live_at : ((f : CountedEdge) → IsAt es n f → e.a.x <ℤ f.a.x) → TellWindings limit es e.a live
  live_at right = record { held = so_far.held; alike = winds_whole limit es n e.a live up right so_far }

-- ---- of the program

-- a filter that drops those that have ended keeps the others live
pub live_dropped : {X : Type 0} (plain : X → CountedEdge) (limit : ℕ) (es : List CountedEdge) (n : ℕ) (x : ℤ)
    (old new : List X) → new ≡ filter (λ e. int_lt x (plain e).b.x) old → AreLive limit es n x (map plain old) →
    AreLive limit es n x (map plain new)
live_dropped plain limit es n x old new dropped so_far = subst (AreLive limit es n x)
    (sym (ap (map plain) dropped ∙ map-filter plain (λ f. int_lt x f.b.x) old))
    (live_ended limit es n x (map plain old) so_far)
