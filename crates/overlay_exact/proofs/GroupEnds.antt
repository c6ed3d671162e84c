-- Where a group of equal parts ends in a list of meeting points that are in order along an edge.
use Rattle.std.proofs.Common.{◌≡◌, ⊎_elim, Bool, false, ℕ, ◌<◌, ◌≤◌, pos, ◌*ℤ◌, ◌<ℤ◌, ◌≤ℤ◌, List, map, length}
use Rattle.std.proofs.Common.{get_or, refl, sym, subst, ap, ◌∙◌, arith}
use Rattle.std.specs.List.{All, AllWithin}
use Rattle.std.specs.Ordering.{int_cmp, int_eq, is_eq}
use Rattle.std.specs.declared.cmp.Ordering.{Ordering}
use Rattle.std.proofs.lemmas.Bool.Decides.{Decides-int_eq, not_from_Decides}
use Rattle.std.proofs.lemmas.Int.{by_lt_z}
use Rattle.std.proofs.lemmas.List.{get_or-map, get_or_default, length-map}
use Rattle.std.proofs.Math.Nat.{eq-or-lt_of_le}
use Rattle.overlay_geom.specs.Plane.{Edge}
use Rattle.overlay_geom.proofs.Entries.{some_entry}
use Rattle.overlay_geom.proofs.PointOrder.{IsBefore}
use Rattle.overlay_geom.proofs.Signs.{linear}
use Rattle.overlay_plane.proofs.CrossingPoints.{point_along}
use Rattle.overlay_plane.proofs.SmallerPoints.{fraction_le}
use Rattle.overlay_plane.proofs.WholeOnEdges.{forward_from_test}
use Rattle.overlay_exact.specs.Along.{Met, IsUpToAlong}
use Rattle.overlay_exact.specs.Groups.{AreInOrderAlongOne, IsGroup}
use Rattle.overlay_exact.specs.Parts.{Fraction, IsLess, AreEqual, LiesAt}
use Rattle.overlay_exact.proofs.PartOrder.{compare_alike}

-- the first part is at most the second
abbrev pub IsAtMost : Fraction → Fraction → Type 0
IsAtMost s t = (s.n *ℤ t.d) ≤ℤ (t.n *ℤ s.d)

-- a part less than one at most a third is less than that
pub less_at_most : (s t u : Fraction) → pos 0 <ℤ s.d → pos 0 <ℤ t.d → pos 0 <ℤ u.d → IsLess s t → IsAtMost t u →
    IsLess s u
less_at_most s t u s_pos t_pos u_pos less up = by_lt_z (s.n *ℤ u.d) (u.n *ℤ s.d) (λ less. less)
    (λ back. let around = fraction_le t.n t.d u.n u.d s.n s.d t_pos u_pos s_pos up back in absurd (omega linear))

-- parts equal to one part are equal
pub equal_to_one : (s t u : Fraction) → pos 0 <ℤ s.d → pos 0 <ℤ t.d → pos 0 <ℤ u.d → AreEqual s t → AreEqual s u →
    AreEqual t u
equal_to_one s t u s_pos t_pos u_pos first second =
    let low = fraction_le t.n t.d s.n s.d u.n u.d t_pos s_pos u_pos (omega linear) (omega linear) in
    let high = fraction_le u.n u.d s.n s.d t.n t.d u_pos s_pos t_pos (omega linear) (omega linear) in
    omega linear

-- so it is where its point comes up to that of the second
pub at_most_along : (e : Edge) → IsBefore e.a e.b → (m n : Met) → pos 0 <ℤ m.part.d → pos 0 <ℤ n.part.d →
    IsUpToAlong e m n → IsAtMost m.part n.part
at_most_along e before m n m_pos n_pos up =
    let p = point_along e m.part.n m.part.d m_pos in
    let q = point_along e n.part.n n.part.d n_pos in
    let at_p : LiesAt e m.part p = record { x = refl; y = refl } in
    let at_q : LiesAt e n.part q = record { x = refl; y = refl } in
    let alike = compare_alike e before m.part n.part p q m_pos n_pos at_p at_q in
    ⊎_elim (λ smaller. let less = alike.0.1 smaller in omega linear)
    (λ same. let equal = alike.1.1 same.0 in omega linear)
    (up p q at_p at_q)

-- a part of a mapped list has a positive denominator where those of the items have
pub All-positive : {X : Type 0} (met : X → Met) (positive : (x : X) → pos 0 <ℤ (met x).part.d) (xs : List X) →
    All (λ m. pos 0 <ℤ m.part.d) (map met xs)
All-positive met positive xs k d within =
    let inside : k < length xs = (let l = length-map xs met in omega (arith, within)) in
    let x = some_entry xs k inside in
    subst (λ (m : Met). pos 0 <ℤ m.part.d) (sym (get_or-map met xs k x d inside)) (positive (get_or xs k x))

-- parts that a comparison of the program finds different are different
pub different_from_compared : (s t : Fraction) (o : Ordering) (r : Bool) →
    o ≡ int_cmp (s.n *ℤ t.d) (t.n *ℤ s.d) → r ≡ is_eq o → r ≡ false → ¬ (AreEqual s t)
different_from_compared s t o r order answer different =
    not_from_Decides (int_eq (s.n *ℤ t.d) (t.n *ℤ s.d)) (Decides-int_eq (s.n *ℤ t.d) (t.n *ℤ s.d))
    (ap is_eq (sym order) ∙ sym answer ∙ different)

module _ {X : Type 0} (met : X → Met) (xs : List X) (k : ℕ) (x : X) (within : k < length xs) (P : Met → Type 0)
    (d : Met) where
  -- what holds of a meeting point of the program holds of that at its place
  pub at_place : P (met (get_or xs k x)) → P (get_or (map met xs) k d)
  at_place holds = subst P (sym (get_or-map met xs k x d within)) holds

  -- and back
  pub from_place : P (get_or (map met xs) k d) → P (met (get_or xs k x))
  from_place holds = subst P (get_or-map met xs k x d within) holds

module _ (ms : List Met) (positive : All (λ m. pos 0 <ℤ m.part.d) ms) (order : AreInOrderAlongOne ms) where
  -- no later part is less
  pub at_most_later : (j k : ℕ) (d : Met) → j < k → k < length ms → IsAtMost (get_or ms j d).part (get_or ms k d).part
  at_most_later j k d less within = at_most_along order.0 (forward_from_test order.0 order.1) (get_or ms j d)
      (get_or ms k d) (positive j d (omega arith)) (positive k d within) (order.2 j k d less within)

  module _ (s : Fraction) (from end : ℕ) (s_pos : pos 0 <ℤ s.d) (some : from < end) (within : end ≤ length ms)
      (equal : AllWithin (λ n. AreEqual s n.part) ms from end)
      (other : (d : Met) → end < length ms → ¬ (AreEqual s (get_or ms end d).part)) where
    -- the part behind the group is greater than each of the group
    greater_next : (j : ℕ) (d : Met) → from ≤ j → j < end → end < length ms →
        IsLess (get_or ms j d).part (get_or ms end d).part
    greater_next j d begun inside more =
        let m = (get_or ms j d).part in
        let n = (get_or ms end d).part in
        let up = at_most_later j end d inside more in
        let m_pos = positive j d (omega arith) in
        by_lt_z (m.n *ℤ n.d) (n.n *ℤ m.d) (λ less. less)
        (λ back.
        let same : AreEqual m n = omega linear in
        let of_first = equal j d begun inside in
        absurd (other d more (equal_to_one m s n m_pos s_pos (positive end d more) (sym of_first) same)))

    -- and so is each later one
    greater_later : (j k : ℕ) (d : Met) → from ≤ j → j < end → end ≤ k → k < length ms →
        IsLess (get_or ms j d).part (get_or ms k d).part
    greater_later j k d begun inside past short =
        let m = (get_or ms j d).part in
        let n = (get_or ms end d).part in
        let next = greater_next j d begun inside (omega arith) in
        ⊎_elim (λ (same : end ≡ k). subst (λ i. IsLess m (get_or ms i d).part) same next)
        (λ (later : end < k).
        let l = (get_or ms k d).part in
        less_at_most m n l (positive j d (omega arith)) (positive end d (omega arith)) (positive k d short) next
        (at_most_later end k d later short))
        (eq-or-lt_of_le past)

    -- so they are a group
    pub group_ends : IsGroup ms from end
    group_ends = record {
      some = some;
      within = within;
      equal = λ j d begun inside k b begun_too inside_too.
          let m = (get_or ms j d).part in
          let n = (get_or ms k b).part in
          equal_to_one s m n s_pos (positive j d (omega arith)) (positive k b (omega arith)) (equal j d begun inside)
          (equal k b begun_too inside_too);
      greater = λ j d begun inside k b past short.
          let m = get_or ms j d in
          let is : get_or ms k b ≡ get_or ms k d = get_or_default ms k b d short in
          subst (λ n. IsLess m.part n.part) (sym is) (greater_later j k d begun inside past short);
    }
