-- In points that are sorted no two are one exactly where no two that follow one another are.
use Rattle.std.proofs.Common.{◌≡◌, ⊎_elim, Bool, true, false, not, List, [], ◌∷◌, Contains, ℤ, refl, sym, ap}
use Rattle.std.proofs.Common.{subst}
use Rattle.std.proofs.Common.{arith}
use Rattle.std.specs.Cmp.{IsStrictWeakOrder}
use Rattle.std.specs.List.{AllPairs}
use Rattle.std.specs.List.Sorted.{IsSortedBy, IsPermutation}
use Rattle.std.specs.Prelude.{◌↔◌, IsTrue}
use Rattle.std.proofs.lemmas.Bool.{and_parts, and_from, both_ways, false_from_ne_true}
use Rattle.std.proofs.lemmas.List.Sorted.{sorted_far, IsPermutation-map, IsPermutation-sym}
use Rattle.overlay_geom.specs.Plane.{Point, point_lt, point_eq}
use Rattle.overlay_geom.specs.Points.{plain_point, plain_points}
use Rattle.overlay_geom.specs.declared.point.IntPoint.{IntPoint}
use Rattle.overlay_geom.proofs.Entries.{Contains-head, Contains-cases}
use Rattle.overlay_geom.proofs.Mapped.{AllPairs-map}
use Rattle.overlay_geom.proofs.Orders.{point_eq-same, point_eq-of_same, point_lt-back, point_lt-itself, point_lt-order}
use Rattle.overlay_geom.proofs.PointOrder.{point_lt-before_up_to}
use Rattle.overlay_plane.specs.Groups.{HasEachPointOnce}
use Rattle.overlay_plane.proofs.LaterEntries.{Each, Each-from_all_pairs, AllPairs-from_each}
use Rattle.overlay_plane.proofs.ShuffledPairs.{pairs_shuffled}
use Rattle.overlay_walk.specs.PointsOnce.{differ_along, all_next_differ}
use Rattle.std.proofs.lemmas.Bool.{not-true}

-- the two points differ
abbrev pub Differ : Point → Point → Type 0
Differ p q = point_eq p q ≡ false

-- in either order
pub differ_back : (p q : Point) → Differ p q → Differ q p
differ_back p q apart = false_from_ne_true (point_eq q p)
    (λ same. both_ways (point_eq p q) apart (point_eq-of_same p q (sym (point_eq-same q p same))))

-- the second point is not smaller
abbrev pub InOrder : Point → Point → Type 0
InOrder p q = point_lt q p ≡ false

-- ---- sorted points

-- smaller than a point that is not after another one, p differs from that
smaller_differs : (p q r : Point) → Differ p q → InOrder p q → InOrder q r → Differ p r
smaller_differs p q r differ order later = false_from_ne_true (point_eq p r) (λ same.
    let less : point_lt p r ≡ true = point_lt-before_up_to p q r (point_lt-back q p (differ_back p q differ) order)
    later
    in both_ways (point_lt p p) (point_lt-itself p)
    (subst (λ (s : Point). point_lt p s ≡ true) (sym (point_eq-same p r same)) less))

all_differ : (p : Point) (ps : List Point) → Each InOrder (p ∷ ps) → differ_along p ps ≡ true → Each Differ (p ∷ ps)
all_differ p [] order next = ((λ z c. elim c.1 [ ]), tt)
all_differ p (q ∷ qs) order next = (first, all_differ q qs order.1 parts.1)
  where
    parts : (not (point_eq p q) ≡ true) × (differ_along q qs ≡ true)
    parts = and_parts (not (point_eq p q)) (differ_along q qs) next

    differ : Differ p q
    differ = not-true (point_eq p q) parts.0

    first : (z : Point) → Contains (q ∷ qs) z → Differ p z
    first z c = ⊎_elim (λ here. subst (Differ p) here differ)
        (λ later. smaller_differs p q z differ (order.0 q (Contains-head q qs)) (order.1.0 z later))
        (Contains-cases q qs z c)

next_differ : (p : Point) (ps : List Point) → Each Differ (p ∷ ps) → differ_along p ps ≡ true
next_differ p [] once = refl
next_differ p (q ∷ qs) once = and_from (not (point_eq p q)) (differ_along q qs)
    (ap not (once.0 q (Contains-head q qs))) (next_differ q qs once.1)

sorted_once : (ps : List Point) → AllPairs InOrder ps → IsTrue (all_next_differ ps) ↔ HasEachPointOnce ps
sorted_once [] order = ((λ t. AllPairs-from_each Differ [] tt), (λ once. refl))
sorted_once (p ∷ ps) order = (
  (λ t. AllPairs-from_each Differ (p ∷ ps) (all_differ p ps (Each-from_all_pairs InOrder (p ∷ ps) order) t)),
  (λ once. next_differ p ps (Each-from_all_pairs Differ (p ∷ ps) once)),
)

-- ---- points in another order

point_eq-turned : (p q : Point) → point_eq p q ≡ true → point_eq q p ≡ true
point_eq-turned p q same = point_eq-of_same q p (sym (point_eq-same p q same))

once_shuffled : (ps qs : List Point) → IsPermutation ps qs → HasEachPointOnce ps → HasEachPointOnce qs
once_shuffled ps qs moved once = pairs_shuffled point_eq point_eq-turned ps qs moved once

module _ {I : Type 0} (whole : I → ℤ) where
  -- the first point is smaller
  abbrev pub held_before : IntPoint I → IntPoint I → Bool
  held_before p q = point_lt (plain_point whole p) (plain_point whole q)

  pub held_before-order : IsStrictWeakOrder held_before
  held_before-order = record {
    one_way = λ p q. point_lt-order.one_way (plain_point whole p) (plain_point whole q);
    chain = λ p q r. point_lt-order.chain (plain_point whole p) (plain_point whole q) (plain_point whole r);
  }

  -- so points that were sorted tell of those that were given
  pub once_by_sorting : (given sorted : List (IntPoint I)) → IsPermutation given sorted → IsSortedBy held_before
      sorted →
      IsTrue (all_next_differ (plain_points whole sorted)) ↔ HasEachPointOnce (plain_points whole given)
  once_by_sorting given sorted moved up =
      let all_moved : IsPermutation (plain_points whole given) (plain_points whole sorted) =
      IsPermutation-map (plain_point whole) given sorted moved in
      let told = sorted_once (plain_points whole sorted)
      (AllPairs-map InOrder (plain_point whole) sorted
      (λ j k d l m. sorted_far held_before held_before-order sorted up j k d (omega (arith, l)) m)) in (
        λ t. once_shuffled (plain_points whole sorted) (plain_points whole given)
            (IsPermutation-sym (plain_points whole given) (plain_points whole sorted) all_moved) (told.0 t),
        λ once. told.1 (once_shuffled (plain_points whole given) (plain_points whole sorted) all_moved once),
      )
