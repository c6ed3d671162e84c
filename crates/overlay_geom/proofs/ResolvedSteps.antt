-- Steps one by one: facts of the edges through points, and the test of the next step against the later steps.
use Rattle.std.proofs.Common.{◌≡◌, ◌↔◌, Bool, true, false, cond, List, [], ◌∷◌, ◌++◌, map, All, Some}
use Rattle.std.proofs.Common.{refl, sym, ap, ◌∙◌, subst, arith}
use Rattle.std.specs.List.{Contains, slice_get}
use Rattle.std.proofs.lemmas.List.{map-append}
use Rattle.std.proofs.lemmas.List.Elements.{All-nil, All-cons, All-head, All-append, All-contains, All-weaker}
use Rattle.std.proofs.lemmas.List.Elements.{All-contains_itself}
use Rattle.std.proofs.lemmas.List.Elements.{Contains-append_left, Contains-append_right}
use Rattle.std.proofs.lemmas.List.Kept.{AllPairs-cons}
use Rattle.std.proofs.lemmas.Option.{same_Some}
use Rattle.overlay_geom.specs.Plane.{Point, Step, Edge, edge_of, point_eq, steps_between, steps_through}
use Rattle.overlay_geom.specs.Settled.{MeetInEnds}
use Rattle.overlay_geom.specs.Resolved.{edges_between, edges_through, edges_of, AreApart}
use Rattle.overlay_geom.proofs.Entries.{Contains-head}
use Rattle.overlay_geom.proofs.Merging.{AllPairs-head, AllPairs-tail}
use Rattle.overlay_geom.proofs.Orders.{point_eq-of_same}

-- a fact of an item holds of the list of it alone, and back
pub All-one : {X : Type 0} (P : X → Type 0) (x : X) → P x ↔ All P (x ∷ [])
All-one P x = (λ h. All-cons P x [] h (All-nil P), λ all. All-head P x [] all)

-- a fact of the entries of two lists holds of those of the lists joined, and back
pub All-joined : {X : Type 0} (P : X → Type 0) (xs ys : List X) → All P xs × All P ys ↔ All P (xs ++ ys)
All-joined P xs ys = (
  λ both. All-append P xs ys both.0 both.1,
  λ all. (
    All-weaker (Contains xs) P (λ x c. All-contains P (xs ++ ys) x all (Contains-append_left xs ys x c)) xs
        (All-contains_itself xs),
    All-weaker (Contains ys) P (λ y c. All-contains P (xs ++ ys) y all (Contains-append_right xs ys y c)) ys
        (All-contains_itself ys),
  ),
)

-- the edges through the next point and on
pub edges_through-more : (p q : Point) (qs : List Point) → edges_through p (q ∷ qs) ≡ edges_between p q
    ++ edges_through q qs
edges_through-more p q qs = map-append edge_of (steps_between p q) (steps_through q qs)

module _ (P : Edge → Type 0) (p q : Point) (qs : List Point) {W : Type 0}
    (all : All P (edges_through p (q ∷ qs)) ↔ W) where
  split : All P (edges_between p q) × All P (edges_through q qs) ↔ All P (edges_through p (q ∷ qs))
  split = subst (λ es. All P (edges_between p q) × All P (edges_through q qs) ↔ All P es)
      (sym (edges_through-more p q qs))
      (All-joined P (edges_between p q) (edges_through q qs))

  -- where it holds of the next step, the others decide
  pub step_passes : All P (edges_between p q) → (All P (edges_through q qs) ↔ W)
  step_passes here = (λ rest. all.0 (split.0 (here, rest)), λ w. (split.1 (all.1 w)).1)

  -- if the fact fails for the step, it fails for all
  pub step_fails : ¬ (All P (edges_between p q)) → ¬ W
  step_fails not_here w = not_here (split.1 (all.1 w)).0

-- after the last step it decides alone
pub last_step : (P : Edge → Type 0) (p q : Point) {W T : Type 0} → (All P (edges_through p (q ∷ [])) ↔ W) →
    (T ↔ All P (edges_between p q)) → (T ↔ W)
last_step P p q all here = (
  λ t. (step_passes P p q [] all (here.0 t)).0 (All-nil P),
  λ w. here.1 ((split P p q [] all).1 (all.1 w)).0,
)

-- an edge put before others is apart from each of them, if all are apart
abbrev are_before : List Edge → List Edge → Type 0
are_before xs es = All (λ e. All (MeetInEnds e) es) xs

pairs_joined : (s : Step) (es : List Edge) (b : Bool) → let xs = map edge_of (cond b [] (s ∷ [])) in
    are_before xs es × AreApart es ↔ AreApart (xs ++ es)
pairs_joined s es true = (λ both. both.1, λ apart. (All-nil (λ e. All (MeetInEnds e) es), apart))
pairs_joined s es false = (
  λ both. AllPairs-cons MeetInEnds (edge_of s) es (All-head (λ e. All (MeetInEnds e) es) (edge_of s) [] both.0) both.1,
  λ apart. (
    All-cons (λ e. All (MeetInEnds e) es) (edge_of s) [] (AllPairs-head MeetInEnds (edge_of s) es apart)
        (All-nil (λ e. All (MeetInEnds e) es)),
    AllPairs-tail MeetInEnds (edge_of s) es apart,
  ),
)

module _ (p q : Point) (qs : List Point) {W : Type 0} (apart : AreApart (edges_through p (q ∷ qs)) ↔ W) where
  split_apart : are_before (edges_between p q) (edges_through q qs) × AreApart (edges_through q qs) ↔ AreApart
      (edges_through p (q ∷ qs))
  split_apart = subst (λ es. are_before (edges_between p q) (edges_through q qs) × AreApart (edges_through q qs)
      ↔ AreApart es) (sym (edges_through-more p q qs))
      (pairs_joined (record { from = p; to = q }) (edges_through q qs) (point_eq p q))

  -- where the next step is apart from the later ones, those decide
  pub step_is_apart : are_before (edges_between p q) (edges_through q qs) → (AreApart (edges_through q qs) ↔ W)
  step_is_apart here = (λ rest. apart.0 (split_apart.0 (here, rest)), λ w. (split_apart.1 (apart.1 w)).1)

  -- if the next step is not apart, the steps are not apart
  pub step_is_not_apart : ¬ (are_before (edges_between p q) (edges_through q qs)) → ¬ W
  step_is_not_apart not_here w = not_here (split_apart.1 (apart.1 w)).0

-- a single step, and the step from a point to itself, are apart
pub one_step_apart : (p q : Point) → AreApart (edges_through p (q ∷ []))
one_step_apart p q = subst AreApart (sym (edges_through-more p q []))
    ((pairs_joined (record { from = p; to = q }) [] (point_eq p q)).0 (
      All-weaker (Contains xs) (λ e. All (MeetInEnds e) []) (λ e c. All-nil (MeetInEnds e)) xs (All-contains_itself xs),
      λ i j d l m. absurd (omega (arith, m)),
    ))
  where
    xs : List Edge
    xs = edges_between p q

-- no edge leads from a point to itself
no_edge : (p : Point) → edges_between p p ≡ []
no_edge p = ap (λ b. map edge_of (cond b [] (record { from = p; to = p } ∷ []))) (point_eq-of_same p p refl)

-- the steps from a contour's first point through all its points and back are the contour's steps
pub edges_round : {X : Type 0} (f : X → Point) (xs : List X) (x : X) → Some x ≡ slice_get xs 0 →
    edges_through (f x) (map f xs ++ f x ∷ []) ≡ edges_of (map f xs)
edges_round f [] x first = absurd (cc)
edges_round f (y ∷ ys) x first =
    subst (λ z. edges_through (f z) (map f (y ∷ ys) ++ f z ∷ []) ≡ edges_of (map f (y ∷ ys)))
    (sym (same_Some x y first))
    (edges_through-more (f y) (f y) (map f ys ++ f y ∷ []) ∙ ap (λ es. es ++ edges_through (f y) (map f ys ++ f y ∷ []))
    (no_edge (f y)))

-- the first item, mapped, is one of the mapped list
pub first_mapped : {X Y : Type 0} (f : X → Y) (xs : List X) (x : X) → Some x ≡ slice_get xs 0 →
    Contains (map f xs) (f x)
first_mapped f [] x first = absurd (cc)
first_mapped f (y ∷ ys) x first = subst (λ z. Contains (f y ∷ map f ys) (f z)) (sym (same_Some x y first))
    (Contains-head (f y) (map f ys))
