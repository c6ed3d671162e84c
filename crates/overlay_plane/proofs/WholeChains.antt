-- An edge stays whole if each point that it is led through is an end of it. Then its chain has one step, otherwise
-- more.
use Rattle.std.proofs.Common.{◌≡◌, ◌⊎◌, inl, inr, ⊎_elim, Bool, true, false, cond, List, [], ◌∷◌, ◌++◌, length, refl}
use Rattle.std.proofs.Common.{sym, ap, ◌∙◌, subst, arith}
use Rattle.std.specs.List.{All}
use Rattle.std.proofs.lemmas.Bool.{both_ways}
use Rattle.std.proofs.lemmas.List.Elements.{All-cons, All-head, All-nil, All-tail, All-weaker, All-contains}
use Rattle.overlay_geom.specs.Plane.{Point, Step, Edge, point_eq, point_lt, steps_between, steps_through}
use Rattle.overlay_geom.proofs.Orders.{Decides-point_eq, point_lt-itself}
use Rattle.overlay_geom.proofs.PointOrder.{Decides-point_lt}
use Rattle.overlay_plane.proofs.AlongOrder.{IsUpToAlong, along-antisymmetric, start_up_to_end}
use Rattle.overlay_plane.proofs.Entries.{all_of_entries}
use Rattle.overlay_plane.proofs.LaterEntries.{Each}

-- the point is an end of the edge from a to b
abbrev pub IsEither : Point → Point → Point → Type 0
IsEither a b v = (v ≡ a) ⊎ (v ≡ b)

-- between equal points there is no step, and between different ones there is one
no_step : (p q : Point) → p ≡ q → steps_between p q ≡ []
no_step p q same = ap (λ t. cond t [] (record { from = p; to = q } ∷ [])) ((Decides-point_eq p q).1 same)

a_step : (p q : Point) → point_eq p q ≡ false → steps_between p q ≡ record { from = p; to = q } ∷ []
a_step p q apart = ap (λ t. cond t [] (record { from = p; to = q } ∷ [])) apart

-- ---- from the steps to the points

-- where no step leads from p through the points to b, all of them are p
none_left : (p b : Point) (vs : List Point) → length (steps_through p (vs ++ b ∷ [])) ≡ 0 →
    All (λ v. v ≡ p) vs × (b ≡ p)
none_left p b [] none = (All-nil (λ v. v ≡ p), by (point_eq p b) refl none)
  where
    by : (t : Bool) → point_eq p b ≡ t → length {A = Step} (cond t [] (record { from = p; to = b } ∷ []) ++ []) ≡ 0 →
        b ≡ p
    by true same h = sym ((Decides-point_eq p b).0 same)
    by false apart h = absurd (omega (arith, h))
none_left p b (v ∷ vs) none = by (point_eq p v) refl none (λ h. none_left v b vs h)
  where
    by : (t : Bool) → point_eq p v ≡ t →
        length {A = Step} (cond t [] (record { from = p; to = v } ∷ []) ++ steps_through v (vs ++ b ∷ [])) ≡ 0 →
        (length (steps_through v (vs ++ b ∷ [])) ≡ 0 → All (λ w. w ≡ v) vs × (b ≡ v)) →
        All (λ w. w ≡ p) (v ∷ vs) × (b ≡ p)
    by true same h later =
        let is : v ≡ p = sym ((Decides-point_eq p v).0 same) in
        let rest = later h in
        (All-cons (λ w. w ≡ p) v vs is (All-weaker (λ w. w ≡ v) (λ w. w ≡ p) (λ w at. at ∙ is) vs rest.0), rest.1 ∙ is)
    by false apart h later = absurd (omega (arith, h))

-- where one step leads from a through the points to b, each of them is one of the two
pub ends_where_one_step : (a b : Point) (vs : List Point) → length (steps_through a (vs ++ b ∷ [])) ≡ 1 →
    All (IsEither a b) vs
ends_where_one_step a b [] one = All-nil (IsEither a b)
ends_where_one_step a b (v ∷ vs) one = by (point_eq a v) refl one (λ h. ends_where_one_step v b vs h)
  where
    by : (t : Bool) → point_eq a v ≡ t →
        length {A = Step} (cond t [] (record { from = a; to = v } ∷ []) ++ steps_through v (vs ++ b ∷ [])) ≡ 1 →
        (length (steps_through v (vs ++ b ∷ [])) ≡ 1 → All (IsEither v b) vs) → All (IsEither a b) (v ∷ vs)
    by true same h later =
        let is : v ≡ a = sym ((Decides-point_eq a v).0 same) in
        All-cons (IsEither a b) v vs (inl is)
        (All-weaker (IsEither v b) (IsEither a b) (λ w. ⊎_elim (λ at. inl (at ∙ is)) (λ at. inr at)) vs (later h))
    by false apart h later =
        let left : length (steps_through v (vs ++ b ∷ [])) ≡ 0 = omega (arith, h) in
        let rest = none_left v b vs left in
        All-cons (IsEither a b) v vs (inr (sym rest.1))
        (All-weaker (λ w. w ≡ v) (IsEither a b) (λ w at. inr (at ∙ sym rest.1)) vs rest.0)

-- ---- from the points to the steps

-- where all points are b, no step leads from b through them and back to b
none_where_all : (b : Point) (vs : List Point) → All (λ v. v ≡ b) vs → steps_through b (vs ++ b ∷ []) ≡ []
none_where_all b [] all = ap (λ ss. ss ++ []) (no_step b b refl)
none_where_all b (v ∷ vs) all =
    let is : v ≡ b = All-head (λ w. w ≡ b) v vs all in
    ap (λ ss. ss ++ steps_through v (vs ++ b ∷ [])) (no_step b v (sym is))
    ∙ ap (λ u. steps_through u (vs ++ b ∷ [])) is
    ∙ none_where_all b vs (All-tail (λ w. w ≡ b) v vs all)

module _ (e : Edge) (forward : point_lt e.a e.b ≡ true) where
  -- the ends are not one point
  apart : ¬ (e.a ≡ e.b)
  apart same = both_ways (point_lt e.a e.b) (subst (λ v. point_lt e.a v ≡ false) same (point_lt-itself e.a)) forward

  -- and do not test as one
  test_apart : point_eq e.a e.b ≡ false
  test_apart = by (point_eq e.a e.b) refl
    where
      by : (t : Bool) → point_eq e.a e.b ≡ t → point_eq e.a e.b ≡ false
      by true same = absurd (apart ((Decides-point_eq e.a e.b).0 same))
      by false h = h

  -- after the larger end, in the order along the edge, no smaller comes
  later_is_larger : (v : Point) → IsEither e.a e.b v → IsUpToAlong e e.b v → v ≡ e.b
  later_is_larger v (inl is) up =
      absurd (apart (along-antisymmetric e e.a e.b (start_up_to_end e ((Decides-point_lt e.a e.b).0 forward))
      (subst (IsUpToAlong e e.b) is up)))
  later_is_larger v (inr is) up = is

  -- points in order along the edge, each of them an end of it, are passed with one step
  pub one_step_through : (vs : List Point) → All (IsEither e.a e.b) vs → Each (IsUpToAlong e) vs →
      length (steps_through e.a (vs ++ e.b ∷ [])) ≡ 1
  one_step_through [] all order = ap (λ ss. length (ss ++ [])) (a_step e.a e.b test_apart)
  one_step_through (v ∷ vs) all order = by (one_step_through vs (All-tail (IsEither e.a e.b) v vs all) order.1)
      (All-head (IsEither e.a e.b) v vs all)
    where
      later : All (IsEither e.a e.b) vs
      later = All-tail (IsEither e.a e.b) v vs all

      by : length (steps_through e.a (vs ++ e.b ∷ [])) ≡ 1 → IsEither e.a e.b v →
          length (steps_between e.a v ++ steps_through v (vs ++ e.b ∷ [])) ≡ 1
      by rest (inl is) =
          ap (λ ss. length (ss ++ steps_through v (vs ++ e.b ∷ []))) (no_step e.a v (sym is))
          ∙ ap (λ u. length (steps_through u (vs ++ e.b ∷ []))) is
          ∙ rest
      by rest (inr is) =
          let all_larger : All (λ w. w ≡ e.b) vs =
          all_of_entries (λ w. w ≡ e.b) vs
          (λ w at. later_is_larger w (All-contains (IsEither e.a e.b) vs w later at)
          (subst (λ u. IsUpToAlong e u w) is (order.0 w at))) in
          ap (λ u. length (steps_between e.a u ++ steps_through u (vs ++ e.b ∷ []))) is
          ∙ ap (λ ss. length (steps_between e.a e.b ++ ss)) (none_where_all e.b vs all_larger)
          ∙ ap (λ ss. length (ss ++ [])) (a_step e.a e.b test_apart)
