-- Entries in the order of their starts: those from a place on start no further left, and those below a start come
-- before it.
use Rattle.std.proofs.Common.{◌≡◌, ◌⊎◌, ⊎_elim, inl, inr, ℕ, zero, suc, ◌+◌, ◌<◌, true, false, ◌&&◌, ℤ, pos, ◌*ℤ◌, ◌≤ℤ◌}
use Rattle.std.proofs.Common.{◌<ℤ◌, int_lt, int_le, List, length, take, drop, get_or, Contains, sym, ap, ◌∙◌, subst}
use Rattle.std.proofs.Common.{arith}
use Rattle.std.specs.List.{All, AllPairs}
use Rattle.std.proofs.Math.Nat.{eq-or-lt_of_le}
use Rattle.std.proofs.lemmas.Bool.{cases_lt, both_ways, and_from, or_cases, or_left, or_right, false_from_ne_true}
use Rattle.std.proofs.lemmas.Int.{ints}
use Rattle.std.proofs.lemmas.List.{drop_more, get_or_default, get_or-drop, get_or-take, length-drop, length-take-le}
use Rattle.std.proofs.lemmas.List.{take-append-drop}
use Rattle.std.proofs.lemmas.List.Elements.{All-head, All-tail, All-weaker, Contains-append_left}
use Rattle.overlay_geom.specs.Plane.{Edge, edge_eq, point_lt, point_eq, is_strictly_below, in_plane}
use Rattle.overlay_geom.specs.Points.{InRange}
use Rattle.overlay_geom.specs.Settled.{IsSettledBy, MeetInEnds}
use Rattle.overlay_geom.proofs.Orders.{edge_eq-flip}
use Rattle.overlay_plane.specs.Anchors.{is_anchored_before, is_below_anchor}
use Rattle.overlay_plane.specs.Nodes.{turns_left}
use Rattle.overlay_plane.proofs.AnchorOrder.{anchored_before-itself}
use Rattle.overlay_plane.proofs.LeftmostPoints.{below_starts_before}
use Rattle.overlay_plane.proofs.Entries.{all_of_entries}
use Rattle.overlay_plane.proofs.Tests.{ge_from_test, lt_from_test, test_from_le, test_from_lt}
use Rattle.overlay_scan.specs.Scan.{Entry, Sweep, live_at, IsOver, MeetsOthers, IsNewAmong}
use Rattle.overlay_scan.specs.Sweeps.{IsByStart, IsSwept}

-- a fact of all from a place on holds of the entry there
pub at_front : {X : Type 0} (P : X → Type 0) (xs : List X) (i : ℕ) (x : X) → i < length xs → x ≡ get_or xs i x →
    All P (drop i xs) → P x
at_front P xs i x lt is all = subst P (sym is)
    (All-head P (get_or xs i x) (drop (i + 1) xs) (subst (All P) (drop_more xs i x lt) all))

-- a fact of all items holds of all items after an item
pub after_front : {X : Type 0} (P : X → Type 0) (xs : List X) (i : ℕ) (x : X) → i < length xs → All P (drop i xs) →
    All P (drop (i + 1) xs)
after_front P xs i x lt all = All-tail P (get_or xs i x) (drop (i + 1) xs) (subst (All P) (drop_more xs i x lt) all)

-- the later of two starts no further left
pub start_order : (e f : Edge) → is_anchored_before f e ≡ false → e.a.x ≤ℤ f.a.x
start_order e f later = ge_from_test f.a.x e.a.x (false_from_ne_true (int_lt f.a.x e.a.x)
    (λ less. both_ways (is_anchored_before f e) later
    (or_left (point_lt f.a e.a) _ (or_left (int_lt f.a.x e.a.x) _ less))))

-- an edge below a start starts before it
pub below_is_before : (e f : Edge) → is_below_anchor e f ≡ true → is_anchored_before f e ≡ true
below_is_before e f below = ⊎_elim
    (λ low. or_left (point_lt f.a e.a) (point_eq f.a e.a && turns_left f e) (below_starts_before f e.a low))
    (λ beside. or_right (point_lt f.a e.a) (point_eq f.a e.a && turns_left f e) beside)
    (or_cases (is_strictly_below f (in_plane e.a)) (point_eq f.a e.a && turns_left f e) below)

module _ {V : Type 0} (es : List (Entry V)) (i : ℕ) (e : Entry V) (lt : i < length es) (is : e ≡ get_or es i e) where
  -- from the place of an entry on all start no further left
  pub later_starts : IsByStart es → All (λ f. e.edge.a.x ≤ℤ f.edge.a.x) (drop i es)
  later_starts order k d h = subst (λ (f : Entry V). e.edge.a.x ≤ℤ f.edge.a.x) (sym (get_or-drop i es k d)) (by k h)
    where
      by : (k : ℕ) → k < length (drop i es) → e.edge.a.x ≤ℤ (get_or es (i + k) d).edge.a.x
      by zero h =
          let here : i ≡ i + 0 = omega arith in
          subst (λ (f : Entry V). e.edge.a.x ≤ℤ f.edge.a.x) (is ∙ get_or_default es i e d lt
          ∙ ap (λ n. get_or es n d) here) (omega (arith, ints))
      by (suc k) h =
          let l = length-drop i es in
          start_order e.edge (get_or es (i + suc k) d).edge
          (subst (λ (f : Entry V). is_anchored_before (get_or es (i + suc k) d).edge f.edge ≡ false)
          (get_or_default es i d e lt ∙ sym is)
          (order i (i + suc k) d (omega arith) (omega arith)))

  -- where it starts right of x, so do those after it
  pub right_of_order : (x : ℤ) → IsByStart es → int_lt x e.edge.a.x ≡ true → All (λ f. x <ℤ f.edge.a.x) (drop i es)
  right_of_order x order far = All-weaker (λ f. e.edge.a.x ≤ℤ f.edge.a.x) (λ f. x <ℤ f.edge.a.x)
      (λ f le. let lt = lt_from_test x e.edge.a.x far in omega (arith, ints)) (drop i es) (later_starts order)

  -- no entry before it has its edge
  pub new_among : AllPairs (λ f g. edge_eq f.edge g.edge ≡ false) es → (f : Entry V) → Contains (take i es) f →
      edge_eq e.edge f.edge ≡ false
  new_among distinct f c =
      let short = length-take-le i es (omega arith) in
      let below : c.0 < i = let k = c.1 in omega arith in
      edge_eq-flip f.edge e.edge (subst (λ (g : Entry V). edge_eq f.edge g.edge ≡ false) (sym is)
      (subst (λ (g : Entry V). edge_eq g.edge (get_or es i e).edge ≡ false) (get_or_default es c.0 e f (omega arith)
      ∙ sym (get_or-take i es c.0 f below) ∙ c.2)
      (distinct c.0 i e below lt)))

  -- entries below its start come before it
  pub below_stands_before : IsByStart es → point_lt e.edge.a e.edge.b ≡ true → (f : Entry V) → Contains es f →
      is_below_anchor e.edge f.edge ≡ true →
      Contains (take i es) f
  below_stands_before order forward f c below = ⊎_elim
      (λ early. (c.0, let short = length-take-le i es (omega arith) in omega arith, get_or-take i es c.0 f early ∙ c.2))
      (λ not_early. absurd (not_later (eq-or-lt_of_le not_early)))
      (cases_lt c.0 i)
    where
      before : is_anchored_before f.edge e.edge ≡ true
      before = below_is_before e.edge f.edge below

      not_later : (i ≡ c.0) ⊎ (i < c.0) → ⊥
      not_later (inl here) = both_ways (is_anchored_before f.edge e.edge)
          (subst (λ (g : Entry V). is_anchored_before g.edge e.edge ≡ false)
          (is ∙ get_or_default es i e f lt ∙ ap (λ n. get_or es n f) here ∙ c.2)
          (anchored_before-itself e.edge forward)) before
      not_later (inr after) = both_ways (is_anchored_before f.edge e.edge)
          (subst (λ (g : Entry V). is_anchored_before g.edge e.edge ≡ false) c.2
          (subst (λ (g : Entry V). is_anchored_before (get_or es c.0 f).edge g.edge ≡ false)
          (get_or_default es i f e lt ∙ sym is)
          (order i c.0 f after c.1))) before

  module _ (limit : ℕ) (x : ℤ) (s : Sweep V) (swept : IsSwept limit x (take i es) s) where
    -- no live entry has its edge
    pub new_among_live : AllPairs (λ f g. edge_eq f.edge g.edge ≡ false) es → IsNewAmong e.edge (live_at x s.entries)
    new_among_live distinct = all_of_entries (λ f. edge_eq e.edge f.edge ≡ false) (live_at x s.entries)
        (λ f c. new_among distinct f (swept.from f c))

    -- the edge meets each live edge in ends alone
    pub meets_live : IsSettledBy (λ f. f.edge) es → MeetsOthers e.edge (live_at x s.entries)
    meets_live settled = all_of_entries (λ f. edge_eq e.edge f.edge ≡ false → MeetInEnds e.edge f.edge)
        (live_at x s.entries)
        (λ f c differ. settled e f (i, lt, sym is)
        (subst (λ fs. Contains fs f) (take-append-drop i es)
        (Contains-append_left (take i es) (drop i es) f (swept.from f c))) differ)

-- an edge that starts no later than x and ends right of it is over x
pub over_x : (limit : ℕ) (x : ℤ) (e : Edge) → InRange limit e.a → InRange limit e.b → int_lt x e.a.x ≡ false →
    int_lt x e.b.x ≡ true → IsOver limit x e
over_x limit x e a_in_range b_in_range begun lasts = record {
  a_in_range = a_in_range;
  b_in_range = b_in_range;
  over =
      let low = ge_from_test x e.a.x begun in
      let high = lt_from_test x e.b.x lasts in
      and_from (int_le (e.a.x *ℤ pos 1) x) (int_lt x (e.b.x *ℤ pos 1))
      (test_from_le (e.a.x *ℤ pos 1) x (omega (arith, ints)))
      (test_from_lt x (e.b.x *ℤ pos 1) (omega (arith, ints)));
}
