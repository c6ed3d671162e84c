-- Points by their numbers: no two points that steps leave have one number. So the place at a number is that of its
-- point.
use Rattle.std.proofs.Common.{◌≡◌, ◌≢◌, ⊎_elim, ℕ, ◌+◌, ◌<◌, ◌≤◌, Bool, true, false, ℤ, List, [], ◌∷◌, ◌++◌, length}
use Rattle.std.proofs.Common.{take, Contains, All, Some, get_or, set, refl, sym, ap, ◌∙◌, subst, arith}
use Rattle.std.specs.List.{slice_get}
use Rattle.std.specs.List.Sorted.{IsPermutation}
use Rattle.std.proofs.Math.ListN.{get_or-append}
use Rattle.std.proofs.Math.Seq.{get_or-append_seam}
use Rattle.std.proofs.lemmas.Bool.{both_ways, cases_lt, false_from_ne_true}
use Rattle.std.proofs.lemmas.List.{get_or-set_other, get_or-set_same, get_or-take, get_or_default, length-append}
use Rattle.std.proofs.lemmas.List.{length-set, length-take, length-take-le}
use Rattle.std.proofs.lemmas.List.Elements.{All-contains, All-push, All-take}
use Rattle.std.proofs.lemmas.List.Sorted.{Contains-permutation, IsPermutation-map}
use Rattle.std.proofs.lemmas.Option.{get_or_from_slice_get, slice_get_read, slice_get_within}
use Rattle.overlay_geom.specs.Plane.{Point, Step, point_eq, point_lt, points_of}
use Rattle.overlay_geom.proofs.Orders.{point_eq-of_same, point_eq-same, point_lt-back, point_lt-itself}
use Rattle.overlay_plane.specs.Turn.{no_step}
use Rattle.overlay_plane.proofs.Entries.{all_of_entries, Contains-map, Contains-from_map}
use Rattle.overlay_extract.specs.ClosedWalks.{NoneLeaves}
use Rattle.overlay_extract.specs.Visits.{AreNoted, IsLeft, IsNumberOf}
use Rattle.overlay_walk.specs.Places.{step_at}
use Rattle.overlay_walk.specs.Steps.{plain_step, plain_steps, IsByFrom}
use Rattle.overlay_walk.specs.declared.step.Step.{Step as StepTaken}

module _ {I : Type 0} (whole : I → ℤ) (steps : List (StepTaken I)) where
  -- ---- numbers

  module _ (v : Point) (left : IsLeft whole steps v) where
    -- a step that leaves the point
    leaver : (t : StepTaken I) × Contains steps t × ((plain_step whole t).from ≡ v)
    leaver =
        let s = Contains-from_map (λ (s : Step). s.from) (plain_steps whole steps) v left in
        let t = Contains-from_map (plain_step whole) steps s.0 s.1 in
        (t.0, t.1, ap (λ (s : Step). s.from) t.2 ∙ s.2)

    -- its place
    place : ℕ
    place = leaver.1.0

    inside : place < length steps
    unfolding leaver place
    inside = leaver.1.1

    compared : (w : Point) (b : Bool) → point_lt (plain_step whole (get_or steps place leaver.0)).from w ≡ b →
        point_lt v w ≡ b
    unfolding leaver place
    compared w b h = subst (λ p. point_lt p w ≡ b) leaver.2
        (subst (λ s. point_lt (plain_step whole s).from w ≡ b) leaver.1.2 h)

    -- it stands before the number of a greater point
    before_greater : (w : Point) (n : ℕ) → IsNumberOf whole steps w n → point_lt v w ≡ true → place < n
    before_greater w n number less = ⊎_elim (λ h. h)
        (λ back. absurd (both_ways (point_lt v w) (compared w false (number.1 place leaver.0 back inside)) less))
        (cases_lt place n)

    -- and not before that of its own
    from_own : (n : ℕ) → IsNumberOf whole steps v n → n ≤ place
    from_own n number = ⊎_elim
        (λ front. absurd (both_ways (point_lt v v) (point_lt-itself v)
        (compared v true (number.0 place leaver.0 (omega arith) front))))
        (λ h. h) (cases_lt place n)

    -- so the number is a place of the steps
    pub number_within : (n : ℕ) → IsNumberOf whole steps v n → n < length steps
    number_within n number = let up = from_own n number in let within = inside in omega arith

    -- and the point has no smaller number
    no_smaller : (n m : ℕ) → IsNumberOf whole steps v n → IsNumberOf whole steps v m → n < m → ⊥
    no_smaller n m one two less =
        let t = get_or steps n leaver.0 in
        both_ways (point_lt (plain_step whole t).from v)
        (one.1 n leaver.0 (omega arith) (number_within n one)) (two.0 n leaver.0 (omega arith) less)

    pub one_number : (n m : ℕ) → IsNumberOf whole steps v n → IsNumberOf whole steps v m → n ≡ m
    one_number n m one two = ⊎_elim (λ less. absurd (no_smaller n m one two less))
        (λ up. ⊎_elim (λ less. absurd (no_smaller m n two one less)) (λ back. omega arith) (cases_lt m n))
        (cases_lt n m)

  -- points with one number are one
  pub one_point : (v w : Point) (n : ℕ) → IsLeft whole steps v → IsLeft whole steps w →
      IsNumberOf whole steps v n → IsNumberOf whole steps w n → v ≡ w
  one_point v w n of_v of_w at_v at_w = by (point_eq v w) refl (point_lt v w) refl
    where
      smaller : (p q : Point) (left : IsLeft whole steps p) → IsNumberOf whole steps p n →
          IsNumberOf whole steps q n → point_lt p q ≡ true → ⊥
      smaller p q left at_p at_q less =
          let below = before_greater p left q n at_q less in
          let up = from_own p left n at_p in
          omega arith

      by : (same : Bool) → point_eq v w ≡ same → (less : Bool) → point_lt v w ≡ less → v ≡ w
      by true same less is = point_eq-same v w same
      by false apart true less = absurd (smaller v w of_v at_v at_w less)
      by false apart false back = absurd (smaller w v of_w at_w at_v (point_lt-back v w apart back))

  -- ---- on the way

  -- steps in another order leave the points of the walk
  pub all_left : (walk : List (StepTaken I)) → IsPermutation walk steps →
      All (λ s. IsLeft whole steps s.from) (plain_steps whole walk)
  all_left walk moved = all_of_entries (λ s. IsLeft whole steps s.from) (plain_steps whole walk) (λ s c.
      Contains-map (λ (t : Step). t.from) (plain_steps whole steps) s
      (Contains-permutation (plain_steps whole walk) (plain_steps whole steps) s
      (IsPermutation-map (plain_step whole) walk steps moved) c))

  -- no step is walked
  pub none_noted : (places : List ℕ) → IsByFrom (plain_steps whole steps) → length places ≡ length steps →
      AreNoted whole steps places []
  none_noted places order long = record {
    by_start = order;
    a_place_each = long;
    known = all_of_entries (λ s. IsLeft whole steps s.from) [] (λ s c. let h = c.1 in absurd (omega arith));
    noted = λ k n h number. absurd (omega arith);
  }

  module _ (places : List ℕ) (path : List Step) (so_far : AreNoted whole steps places path) where
    -- the places of the points in front of a place stay
    pub noted_in_front : (k : ℕ) → AreNoted whole steps places (take k path)
    noted_in_front k = record {
      by_start = so_far.by_start;
      a_place_each = so_far.a_place_each;
      known = All-take (λ s. IsLeft whole steps s.from) k path so_far.known;
      noted = λ j n h number.
          let long = length-take k path in
          so_far.noted j n (omega (arith, h, long))
          (subst (λ (s : Step). IsNumberOf whole steps s.from n)
          (get_or-take k path j no_step (omega (arith, h, long))) number);
    }

    -- the path goes on by a step whose place is noted
    pub noted_behind : (s : Step) → IsLeft whole steps s.from →
        ((n : ℕ) → IsNumberOf whole steps s.from n → slice_get places n ≡ Some (length path)) →
        AreNoted whole steps places (path ++ s ∷ [])
    noted_behind s left last = record {
      by_start = so_far.by_start;
      a_place_each = so_far.a_place_each;
      known = All-push (λ t. IsLeft whole steps t.from) path s so_far.known left;
      noted = λ k n h number. ⊎_elim
          (λ front. so_far.noted k n front
          (subst (λ (t : Step). IsNumberOf whole steps t.from n) (get_or-append path (s ∷ []) no_step k front) number))
          (λ back.
          let long = length-append path (s ∷ []) in
          let end : k ≡ length path = omega (arith, h, back, long) in
          subst (λ j. slice_get places n ≡ Some j) (sym end)
          (last n (subst (λ (t : Step). IsNumberOf whole steps t.from n)
          (ap (λ j. step_at (path ++ s ∷ []) j) end ∙ get_or-append_seam path s [] no_step) number)))
          (cases_lt k (length path));
    }

    -- the point at a place of the path is one that a step leaves
    known_at : (k : ℕ) → k < length path → IsLeft whole steps (step_at path k).from
    known_at k within = All-contains (λ s. IsLeft whole steps s.from) path (step_at path k) so_far.known
        (k, within, get_or_default path k (step_at path k) no_step within)

    -- the place at the number of a point that the path does not leave may be another
    pub noted_elsewhere : (v : Point) (n m : ℕ) → IsLeft whole steps v → IsNumberOf whole steps v n →
        NoneLeaves v path → AreNoted whole steps (set places n m) path
    noted_elsewhere v n m left number none = record {
      by_start = so_far.by_start;
      a_place_each = length-set places n m ∙ so_far.a_place_each;
      known = so_far.known;
      noted = λ k j within at.
          let p = (step_at path k).from in
          let there = so_far.noted k j within at in
          let other : j ≢ n = λ same. both_ways (point_eq p v)
          (All-contains (λ s. point_eq s.from v ≡ false) path (step_at path k) none
          (k, within, get_or_default path k (step_at path k) no_step within))
          (point_eq-of_same p v (one_point p v n (known_at k within) left
          (subst (IsNumberOf whole steps p) same at) number)) in
          slice_get_read (set places n m) (length places) j k (sym (length-set places n m))
          (slice_get_within places j k there)
          (sym (get_or-set_other places n j m k other ∙ get_or_from_slice_get places j k k there));
    }

    -- a point at whose number no place of its own stands is not left
    pub none_left : (v : Point) (n k : ℕ) → IsNumberOf whole steps v n → k ≡ get_or places n k →
        (k < length path → point_eq (step_at path k).from v ≡ false) → NoneLeaves v path
    none_left v n k number at differs = all_of_entries (λ s. point_eq s.from v ≡ false) path (λ s c.
        false_from_ne_true (point_eq s.from v) (λ same.
        let j = c.0 in
        let here : step_at path j ≡ s = get_or_default path j no_step s c.1 ∙ c.2 in
        let is : (step_at path j).from ≡ v = ap (λ (t : Step). t.from) here ∙ point_eq-same s.from v same in
        let there = so_far.noted j n c.1 (subst (λ p. IsNumberOf whole steps p n) (sym is) number) in
        let found : k ≡ j = at ∙ get_or_from_slice_get places n j k there in
        both_ways (point_eq s.from v)
        (subst (λ (t : Step). point_eq t.from v ≡ false) (ap (λ i. step_at path i) found ∙ here)
        (differs (subst (λ i. i < length path) (sym found) c.1))) same))

  -- where the path comes back to the point at a place it goes on from there
  pub noted_back : (places : List ℕ) (path : List Step) (s : Step) (k : ℕ) → AreNoted whole steps places path →
      IsLeft whole steps s.from → k < length path → (step_at path k).from ≡ s.from →
      AreNoted whole steps places (take k path ++ s ∷ [])
  noted_back places path s k so_far left within same =
      noted_behind places (take k path) (noted_in_front places path so_far k) s left (λ n number.
      subst (λ j. slice_get places n ≡ Some j) (sym (length-take-le k path (omega arith)))
      (so_far.noted k n within (subst (λ p. IsNumberOf whole steps p n) (sym same) number)))

  -- by a step from a point that it does not leave it goes on from its end
  pub noted_onward : (places : List ℕ) (path : List Step) (s : Step) (n : ℕ) → AreNoted whole steps places path →
      IsLeft whole steps s.from → IsNumberOf whole steps s.from n → NoneLeaves s.from path →
      AreNoted whole steps (set places n (length path)) (path ++ s ∷ [])
  noted_onward places path s n so_far left number none =
      let noted = set places n (length path) in
      let inside : n < length places = subst (λ l. n < l) (sym so_far.a_place_each) (number_within s.from left n number)
      in
      noted_behind noted path (noted_elsewhere places path so_far s.from n (length path) left number none) s left
      (λ m at. subst (λ j. slice_get noted j ≡ Some (length path)) (one_number s.from left n m number at)
      (slice_get_read noted (length places) n (length path) (sym (length-set places n (length path))) inside
      (sym (get_or-set_same places n (length path) (length path) inside))))
