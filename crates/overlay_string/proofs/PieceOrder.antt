-- Pieces by where they begin: each stands among them, and those from one point in the order of their places.
use Rattle.std.proofs.Common.{◌≡◌, ℕ, ◌+◌, ◌<◌, Bool, true, false, cond, ◌&&◌, ◌||◌, ℤ, List, []}
use Rattle.std.proofs.Common.{◌∷◌, ◌++◌, length, map, get_or, refl, sym, ap, ◌∙◌, below_more, arith}
use Rattle.std.specs.Prelude.{◌==◌, Contains, nat_lt}
use Rattle.std.specs.Cmp.{IsTotalOrder, IsStrictWeakOrder}
use Rattle.std.specs.List.Sorted.{IsPermutation, IsSortedBy}
use Rattle.std.specs.Ordering.{is_lt, nat_cmp, ordering_then, then_cmp, on}
use Rattle.std.specs.declared.cmp.Ordering.{Ordering}
use Rattle.std.specs.declared.cmp.Ordering.TheVariants.{Less, Equal, Greater}
use Rattle.std.proofs.lemmas.Bool.{both_ways, ltb-false}
use Rattle.std.proofs.lemmas.Cmp.{on_total, then_total, nat_cmp_total}
use Rattle.std.proofs.lemmas.List.{length-map, length_push, get_or-map, get_or_push, get_or_append_left}
use Rattle.std.proofs.lemmas.List.Elements.{All-nil, All-push}
use Rattle.std.proofs.lemmas.List.Sorted.{All-permutation, Contains-permutation, IsPermutation-map, sorted_far}
use Rattle.std.proofs.lemmas.List.Sorted.{ranks_by}
use Rattle.overlay_geom.specs.Plane.{Point, Step, point_eq, point_lt}
use Rattle.overlay_geom.specs.Resolved.{point_cmp}
use Rattle.overlay_geom.proofs.Entries.{some_entry}
use Rattle.overlay_geom.proofs.Mapped.{AllPairs-map}
use Rattle.overlay_geom.proofs.Orders.{point_order, point_order-total, point_lt-is_less, point_eq-is_tie, less_in_turn}
use Rattle.overlay_geom.proofs.Orders.{point_eq-of_same}
use Rattle.overlay_geom.proofs.PointComparisons.{point_cmp-is_less, point_cmp-is_tie}
use Rattle.overlay_walk.specs.Steps.{plain_step}
use Rattle.overlay_walk.specs.declared.step.Step.{Step as StepTaken}
use Rattle.overlay_string.specs.PieceOrder.{IsPieceAt, AreNumbered, AreInOrder, AreByStart}
use Rattle.overlay_string.specs.declared.piece.Way.{Way}

module _ {I : Type 0} (whole : I → ℤ) (way : Way) (ss : List Step) where
  -- no step is the first none of the pieces
  pub none_numbered : AreNumbered whole way ss 0 []
  none_numbered = record {
    many = refl;
    pieces = All-nil (IsPieceAt whole way ss);
    numbered = λ i d h. absurd (omega arith);
  }

  -- one piece more
  pub one_more_numbered : (n : ℕ) (ts : List (StepTaken I)) (t : StepTaken I) → AreNumbered whole way ss n ts →
      IsPieceAt whole way ss t → t.edge ≡ n → AreNumbered whole way ss (n + 1) (ts ++ t ∷ [])
  one_more_numbered n ts t have piece is = record {
    many = length_push ts t ∙ ap (λ m. m + 1) have.many;
    pieces = All-push (IsPieceAt whole way ss) ts t have.pieces piece;
    numbered = λ i d h. below_more (λ k. (get_or (ts ++ t ∷ []) k d).edge ≡ k) n
        (λ k less. ap (λ (s : StepTaken I). s.edge)
        (get_or_append_left ts (t ∷ []) d k (let m = have.many in omega arith)) ∙ have.numbered k d less)
        (ap (λ (s : StepTaken I). s.edge) (get_or_push ts t d n have.many) ∙ is) i h;
  }

-- ---- sorted

-- what tells the place of a step
record Key : Type 0 where
  from : Point
  number : ℕ

-- the comparison of two: by their points, then by their numbers
abbrev key_order : Key → Key → Ordering
key_order = then_cmp (on (λ (k : Key). k.from) point_order) (on (λ (k : Key). k.number) nat_cmp)

-- any two compare, and in one way
key_order-total : IsTotalOrder key_order
key_order-total = then_total (on_total (λ (k : Key). k.from) point_order-total)
    (on_total (λ (k : Key). k.number) nat_cmp_total)

-- two numbers compare as `Less` where the first is below the second
is_less : (below same : Bool) → below ≡ is_lt (cond below Less (cond same Equal Greater))
is_less true same = refl
is_less false true = refl
is_less false false = refl

-- where a test by one thing and then by another fails, so does that by the first, and, for a tie, that by the other
first_fails : (b c : Bool) → (b || c) ≡ false → b ≡ false
first_fails true c h = h
first_fails false c h = refl

last_fails : (b e c : Bool) → (b || (e && c)) ≡ false → e ≡ true → c ≡ false
last_fails true e c h holds = absurd (both_ways true h refl)
last_fails false true c h holds = h
last_fails false false c h holds = absurd (both_ways false refl holds)

module _ {I : Type 0} (whole : I → ℤ) where
  abbrev key_of : StepTaken I → Key
  key_of s = record { from = (plain_step whole s).from; number = s.edge }

  -- the first leaves a smaller point, or the same and has the smaller number
  abbrev pub comes_first : StepTaken I → StepTaken I → Bool
  comes_first s t = point_lt (plain_step whole s).from (plain_step whole t).from
      || (point_eq (plain_step whole s).from (plain_step whole t).from && nat_lt s.edge t.edge)

  comes_first-is_less : (s t : StepTaken I) → comes_first s t ≡ is_lt (key_order (key_of s) (key_of t))
  comes_first-is_less s t =
      let p = (plain_step whole s).from in
      let q = (plain_step whole t).from in
      less_in_turn (point_order p q) (nat_cmp s.edge t.edge) (point_lt p q) (point_eq p q) (nat_lt s.edge t.edge)
      (point_lt-is_less p q) (point_eq-is_tie p q) (is_less (nat_lt s.edge t.edge) (s.edge == t.edge))

  -- that is how they compare by their points and then by their numbers
  pub compared_in_turn : (s t : StepTaken I) →
      is_lt (ordering_then (point_cmp (plain_step whole s).from (plain_step whole t).from) (nat_cmp s.edge t.edge))
      ≡ comes_first s t
  compared_in_turn s t =
      let p = (plain_step whole s).from in
      let q = (plain_step whole t).from in
      sym (less_in_turn (point_cmp p q) (nat_cmp s.edge t.edge) (point_lt p q) (point_eq p q) (nat_lt s.edge t.edge)
      (sym (point_cmp-is_less p q)) (sym (point_cmp-is_tie p q)) (is_less (nat_lt s.edge t.edge) (s.edge == t.edge)))

  -- any two steps compare
  pub comes_first-order : IsStrictWeakOrder comes_first
  comes_first-order =
      let r : IsStrictWeakOrder (λ (k l : Key). is_lt (key_order k l)) = ranks_by key_order-total (λ (k : Key). k) in
      record {
        one_way = λ s t h. comes_first-is_less t s
            ∙ r.one_way (key_of s) (key_of t) (sym (comes_first-is_less s t) ∙ h);
        chain = λ s t u h k. comes_first-is_less s u
            ∙ r.chain (key_of s) (key_of t) (key_of u) (sym (comes_first-is_less s t) ∙ h)
            (sym (comes_first-is_less t u) ∙ k);
      }

  -- steps sorted so are in order
  in_order : (us : List (StepTaken I)) → IsSortedBy comes_first us → AreInOrder whole us
  in_order us up = record {
    leaving = AllPairs-map (λ (s t : Step). point_lt t.from s.from ≡ false) (plain_step whole) us
        (λ i j d less h. first_fails _ _ (later i j d less h));
    rising = λ i j d less h same.
        let s = get_or us i d in
        let t = get_or us j d in
        let back : nat_lt t.edge s.edge ≡ false = last_fails _ _ _ (later i j d less h)
        (point_eq-of_same (plain_step whole t).from (plain_step whole s).from (sym same)) in
        ltb-false t.edge s.edge back;
  }
    where
      later : (i j : ℕ) (d : StepTaken I) → i < j → j < length us →
          comes_first (get_or us j d) (get_or us i d) ≡ false
      later i j d less h = sorted_far comes_first comes_first-order us up i j d (omega arith) h

-- the pieces, sorted so, are all of them in order
pub sorted_by_start : {I : Type 0} (whole : I → ℤ) (way : Way) (ss : List Step) (n : ℕ) (ts us : List (StepTaken I)) →
    n ≡ length ss → AreNumbered whole way ss n ts → IsPermutation ts us → IsSortedBy (comes_first whole) us →
    AreByStart whole way ss us
sorted_by_start {I} whole way ss n ts us counted have moved up = record {
  pieces = All-permutation (IsPieceAt whole way ss) ts us moved have.pieces;
  all = λ k h. Contains-permutation (map (λ t. t.edge) ts) (map (λ t. t.edge) us) k
      (IsPermutation-map (λ t. t.edge) ts us moved) (stands k (omega arith));
  order = in_order whole us up;
}
  where
    stands : (k : ℕ) → k < n → Contains (map (λ (t : StepTaken I). t.edge) ts) k
    stands k h =
        let many = have.many in
        let within : k < length ts = omega arith in
        let d = some_entry ts k within in (
          k,
          (let l = length-map ts (λ (t : StepTaken I). t.edge) in omega arith),
          get_or-map (λ (t : StepTaken I). t.edge) ts k d k within ∙ have.numbered k d h,
        )
