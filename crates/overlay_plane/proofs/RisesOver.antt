-- The rise of a function of two windings across the edges over an x-coordinate. Over edges taken with all under them,
-- it is the function's value at the sums of their counts.
use Rattle.std.proofs.Common.{◌≡◌, inl, inr, ⊎_elim, Bool, true, false, cond, ◌&&◌, ℤ, pos, ◌+ℤ◌, ◌-ℤ◌, ◌<ℤ◌, List}
use Rattle.std.proofs.Common.{Contains, AllPairs, filter, refl, sym, ap, ap₂, ◌∙◌, subst}
use Rattle.std.proofs.lemmas.Bool.{false≢true}
use Rattle.overlay_geom.specs.Plane.{Edge, midpoint, edge_eq, total, total_below}
use Rattle.overlay_geom.specs.Settled.{MeetInEnds, IsSettledBy}
use Rattle.overlay_geom.proofs.Orders.{edge_eq-same}
use Rattle.overlay_plane.specs.Heights.{covers, is_under}
use Rattle.overlay_plane.specs.EdgeLists.{IsForwardBy, IsBalanced}
use Rattle.overlay_plane.specs.Regions.{TakesDownward}
use Rattle.overlay_plane.proofs.Entries.{Contains-from_filter}
use Rattle.overlay_plane.proofs.LaterEntries.{Each, Each-from_all_pairs, Each-filter, Each-weaker}
use Rattle.overlay_plane.proofs.Totals.{total-same, total-filter}
use Rattle.overlay_plane.proofs.Under.{under_irreflexive, under_asymmetric, under_transitive, under_total}
use Rattle.overlay_plane.proofs.Sides.{one_winding_along}
use Rattle.overlay_plane.proofs.Chains.{total_before, rises}
use Rattle.overlay_plane.proofs.InOrderLists.{Before, Ordered, total-in_order, Each-in_order}
use Rattle.overlay_plane.specs.InOrder.{in_order}

-- an edge under e is not e
pub meets_under : (e f : Edge) (x d : ℤ) → (edge_eq e f ≡ false → MeetInEnds e f) → is_under f e x d ≡ true →
    MeetInEnds e f
meets_under e f x d meets under = by (edge_eq e f) refl
  where
    by : (s : Bool) → edge_eq e f ≡ s → MeetInEnds e f
    by true same = absurd (false≢true
        (sym (subst (λ (g : Edge). is_under g e x d ≡ false) (edge_eq-same e f same) (under_irreflexive e x d))
        ∙ under))
    by false apart = meets apart

cond_both_tests : (s t : Bool) (c : ℤ) → cond (s && t) c (pos 0) ≡ cond s (cond t c (pos 0)) (pos 0)
cond_both_tests true t c = refl
cond_both_tests false t c = refl

-- two tests agree beside a third where each passes with it
same_beside : (r s t : Bool) → (r ≡ true → t ≡ true → s ≡ true) → (s ≡ true → r ≡ true) → (r && t) ≡ (s && t)
same_beside true true t f g = refl
same_beside true false true f g = sym (f refl refl)
same_beside true false false f g = refl
same_beside false true t f g = absurd (false≢true (g refl))
same_beside false false t f g = refl

module _ {X : Type 0} (ends : X → Edge) (xs : List X) (forward : IsForwardBy ends xs) (settled : IsSettledBy ends xs)
    (x d : ℤ) (positive : pos 0 <ℤ d) (taken : X → Bool) (takes : TakesDownward ends xs x d taken) where
  -- the order of the entries over the x-coordinate
  abbrev under_here : X → X → Bool
  under_here f e = is_under (ends f) (ends e) x d

  abbrev IsOver : X → Type 0
  IsOver e = Contains xs e × (covers (ends e) x d ≡ true)

  taken_over : (e : X) → Contains (filter taken xs) e → IsOver e
  taken_over e c = let both = Contains-from_filter taken xs e c in (both.0, takes.over e both.0 both.1)

  -- the entries taken, put in order
  abbrev risen : List X
  risen = in_order under_here (filter taken xs)

  total_risen : (f : X → ℤ) → total f risen ≡ total (λ e. cond (taken e) (f e) (pos 0)) xs
  total_risen f = total-in_order under_here f (filter taken xs) ∙ total-filter taken f xs

  risen_ascends : AllPairs (λ e f. edge_eq (ends e) (ends f) ≡ false) xs → Each (Before under_here) risen
  risen_ascends distinct = Each-in_order under_here IsOver
      (λ e f g ge gf gg. under_transitive (ends e) (ends f) (ends g) x d positive ge.1 gf.1 gg.1)
      (filter taken xs) taken_over
      (Each-weaker (λ e f. edge_eq (ends e) (ends f) ≡ false) (Ordered under_here) (filter taken xs) ordered
      (Each-filter (λ e f. edge_eq (ends e) (ends f) ≡ false) taken xs
      (Each-from_all_pairs (λ e f. edge_eq (ends e) (ends f) ≡ false) xs distinct)))
    where
      ordered : (e f : X) → Contains (filter taken xs) e → Contains (filter taken xs) f →
          edge_eq (ends e) (ends f) ≡ false → Ordered under_here e f
      ordered e f ce cf apart = ⊎_elim (λ l. inr l) (λ r. inl r)
          (under_total (ends f) (ends e) x d positive (settled e f (taken_over e ce).0 (taken_over f cf).0 apart)
          (taken_over f cf).1 (taken_over e ce).1)

  -- the winding below an entry taken is the sum of the counts of those before it
  below_is_before : (count : X → ℤ) → IsBalanced ends count xs → (e : X) → Contains xs e → taken e ≡ true →
      total_below ends count xs (midpoint (ends e)) ≡ total_before under_here count risen e
  below_is_before count balanced e at t =
      sym (one_winding_along ends count xs (ends e) forward (λ f c. settled e f at c) balanced x d positive
      (takes.over e at t))
      ∙ total-same (λ f. cond (covers (ends f) x d && under_here f e) (count f) (pos 0))
      (λ f. cond (taken f) (cond (under_here f e) (count f) (pos 0)) (pos 0)) xs
      (λ f c. ap (λ s. cond s (count f) (pos 0)) (same_beside (covers (ends f) x d) (taken f) (under_here f e)
      (takes.downward e f at c t) (takes.over f c)) ∙ cond_both_tests (taken f) (under_here f e) (count f))
      ∙ sym (total_risen (λ f. cond (under_here f e) (count f) (pos 0)))

  -- the sum of the rises of a function of two windings across the entries taken
  pub rises_over : (b c : X → ℤ) (h : ℤ → ℤ → ℤ) → AllPairs (λ e f. edge_eq (ends e) (ends f) ≡ false) xs →
      IsBalanced ends b xs →
      IsBalanced ends c xs →
      total
      (λ e. cond (taken e) (h (total_below ends b xs (midpoint (ends e)) +ℤ b e)
      (total_below ends c xs (midpoint (ends e)) +ℤ c e) -ℤ h (total_below ends b xs (midpoint (ends e)))
      (total_below ends c xs (midpoint (ends e)))) (pos 0)) xs ≡ h
      (total (λ e. cond (taken e) (b e) (pos 0)) xs) (total (λ e. cond (taken e) (c e) (pos 0)) xs) -ℤ h (pos 0) (pos 0)
  rises_over b c h distinct balanced_b balanced_c = total-same
      (λ e. cond (taken e) (rise_by (beside b e) (beside c e) e) (pos 0))
      (λ e. cond (taken e) (rise_by (before b e) (before c e) e) (pos 0)) xs (λ e at. each e at (taken e) refl)
      ∙ sym (total_risen (λ e. rise_by (before b e) (before c e) e))
      ∙ rises under_here (λ e. under_irreflexive (ends e) x d) (λ e f. under_asymmetric (ends e) (ends f) x d) h b c
      risen (risen_ascends distinct)
      ∙ ap₂ (λ v w. h v w -ℤ h (pos 0) (pos 0)) (total_risen b) (total_risen c)
    where
      rise_by : ℤ → ℤ → X → ℤ
      rise_by v w e = h (v +ℤ b e) (w +ℤ c e) -ℤ h v w

      beside : (X → ℤ) → X → ℤ
      beside count e = total_below ends count xs (midpoint (ends e))

      before : (X → ℤ) → X → ℤ
      before count e = total_before under_here count risen e

      each : (e : X) → Contains xs e → (t : Bool) → taken e ≡ t →
          cond t (rise_by (beside b e) (beside c e) e) (pos 0) ≡ cond t (rise_by (before b e) (before c e) e) (pos 0)
      each e at true t = ap₂ (λ v w. rise_by v w e) (below_is_before b balanced_b e at t)
          (below_is_before c balanced_c e at t)
      each e at false t = refl
