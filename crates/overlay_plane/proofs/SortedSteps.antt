-- Two lists of points in one weak order with equal entries give equal steps from their common start.
use Rattle.std.proofs.Common.{◌≡◌, ⊎_elim, Bool, true, false, cond, List, [], ◌∷◌, ◌++◌, Contains, refl, sym, ap, ◌∙◌}
use Rattle.std.proofs.Common.{subst}
use Rattle.std.proofs.lemmas.Bool.Decides.{not_from_Decides}
use Rattle.overlay_geom.specs.Plane.{Point, point_eq, steps_between, steps_through}
use Rattle.overlay_geom.proofs.Orders.{Decides-point_eq}
use Rattle.overlay_plane.proofs.LaterEntries.{Contains-cases, Each}
use Rattle.overlay_plane.proofs.Totals.{Contains-head, Contains-later}

-- each entry of the one list is an entry of the other
pub record HaveSameEntries (us vs : List Point) : Type 0 where
  pub forth : (z : Point) → Contains us z → Contains vs z
  pub back : (z : Point) → Contains vs z → Contains us z

-- the converse
exchanged : {us vs : List Point} → HaveSameEntries us vs → HaveSameEntries vs us
exchanged same = record { forth = same.back; back = same.forth }

-- a point that is there twice at the front may be there once
front_once : (p : Point) (us vs : List Point) → HaveSameEntries (p ∷ p ∷ us) vs → HaveSameEntries (p ∷ us) vs
front_once p us vs same = record {
  forth = λ z c. same.forth z (Contains-later p (p ∷ us) z c);
  back = λ z c. ⊎_elim (λ e. subst (λ u. Contains (p ∷ us) u) e (Contains-head p us)) (λ later. later)
      (Contains-cases p (p ∷ us) z (same.back z c));
}

-- no step is taken between equal points
no_step : (p v : Point) (vs : List Point) → p ≡ v → steps_through p (v ∷ vs) ≡ steps_through p vs
no_step p v vs e = subst (λ (u : Point). steps_through p (u ∷ vs) ≡ steps_through p vs) e
    (ap (λ t. cond t [] (record { from = p; to = p } ∷ []) ++ steps_through p vs) ((Decides-point_eq p p).1 refl))

-- no step is taken through points that all are the start
standing_still : (p : Point) (vs : List Point) → ((z : Point) → Contains vs z → p ≡ z) → steps_through p vs ≡ []
standing_still p [] h = refl
standing_still p (v ∷ vs) h = no_step p v vs (h v (Contains-head v vs))
    ∙ standing_still p vs (λ z c. h z (Contains-later v vs z c))

module _ (R : Point → Point → Type 0) (reflexive : (u : Point) → R u u) (antisymmetric : (u v : Point) → R u v → R v u →
    u ≡ v) where
  -- the first entry is in order with each entry
  first_before : (v : Point) (vs : List Point) → Each R (v ∷ vs) → (z : Point) → Contains (v ∷ vs) z → R v z
  first_before v vs sorted z c = ⊎_elim (λ e. subst (λ u. R v u) e (reflexive v)) (λ later. sorted.0 z later)
      (Contains-cases v vs z c)

  -- an entry does not come back after an entry that differs from it
  not_again : (p u : Point) (us : List Point) → ¬ (p ≡ u) → Each R (p ∷ u ∷ us) →
      (z : Point) → Contains (u ∷ us) z → ¬ (p ≡ z)
  not_again p u us differ sorted z c same =
      differ (antisymmetric p u (sorted.0 u (Contains-head u us))
      (subst (λ w. R u w) (sym same) (first_before u us sorted.1 z c)))

  -- the entries past the first, if it does not come back
  entries_past : (p u v : Point) (us vs : List Point) → ¬ (p ≡ u) → Each R (p ∷ u ∷ us) →
      ((z : Point) → Contains (p ∷ u ∷ us) z → Contains (p ∷ v ∷ vs) z) →
      (z : Point) → Contains (u ∷ us) z → Contains (v ∷ vs) z
  entries_past p u v us vs differ sorted forth z c = ⊎_elim (λ e. absurd (not_again p u us differ sorted z c e))
      (λ later. later)
      (Contains-cases p (v ∷ vs) z (forth z (Contains-later p (u ∷ us) z c)))

  -- each list in order that has the same entries as us, both from u on, gives the same steps
  abbrev GiveSameSteps : Point → List Point → Type 0
  GiveSameSteps u us = (ws : List Point) → Each R (u ∷ ws) → HaveSameEntries (u ∷ us) (u ∷ ws) →
      steps_through u us ≡ steps_through u ws

  -- the lists do so from p before them, where u is another point
  steps_past : (p u : Point) (us vs : List Point) → ¬ (p ≡ u) → Each R (p ∷ u ∷ us) → Each R (p ∷ vs) →
      HaveSameEntries (p ∷ u ∷ us) (p ∷ vs) →
      GiveSameSteps u us → steps_through p (u ∷ us) ≡ steps_through p vs
  steps_past p u us [] differ sorted others same rest = absurd (⊎_elim (λ e. differ e) (λ none. elim none.1 [ ])
      (Contains-cases p [] u (same.forth u (Contains-later p (u ∷ us) u (Contains-head u us)))))
  steps_past p u us (v ∷ vs) differ sorted others same rest = by (point_eq p v) refl
      (steps_past p u us vs differ sorted)
    where
      by : (t : Bool) → point_eq p v ≡ t →
          (Each R (p ∷ vs) → HaveSameEntries (p ∷ u ∷ us) (p ∷ vs) → GiveSameSteps u us →
          steps_through p (u ∷ us) ≡ steps_through p vs) →
          steps_through p (u ∷ us) ≡ steps_through p (v ∷ vs)
      by true e again =
          let is : p ≡ v = (Decides-point_eq p v).0 e in
          again (subst (λ w. Each R (w ∷ vs)) (sym is) others.1)
          (exchanged (front_once p vs (p ∷ u ∷ us)
          (exchanged (subst (λ w. HaveSameEntries (p ∷ u ∷ us) (p ∷ w ∷ vs)) (sym is) same)))) rest
          ∙ sym (no_step p v vs is)
      by false e again =
          let apart : ¬ (p ≡ v) = not_from_Decides (point_eq p v) (Decides-point_eq p v) e in
          let forth = entries_past p u v us vs differ sorted same.forth in
          let back = entries_past p v u vs us apart others same.back in
          let up : R u v = first_before u us sorted.1 v (back v (Contains-head v vs)) in
          let down : R v u = first_before v vs others.1 u (forth u (Contains-head u us)) in
          let is : u ≡ v = antisymmetric u v up down in
          ap (λ ss. steps_between p u ++ ss) (rest vs (subst (λ w. Each R (w ∷ vs)) (sym is) others.1)
          (subst (λ w. HaveSameEntries (u ∷ us) (w ∷ vs)) (sym is) (record { forth = forth; back = back })))
          ∙ ap (λ w. steps_between p w ++ steps_through w vs) is

  -- the steps through the rests of two lists with one start
  pub same_chain_steps : (p : Point) (us vs : List Point) → Each R (p ∷ us) → Each R (p ∷ vs) →
      HaveSameEntries (p ∷ us) (p ∷ vs) →
      steps_through p us ≡ steps_through p vs
  same_chain_steps p [] vs sorted others same = sym (standing_still p vs at_start)
    where
      at_start : (z : Point) → Contains vs z → p ≡ z
      at_start z c = ⊎_elim (λ e. e) (λ none. elim none.1 [ ])
          (Contains-cases p [] z (same.back z (Contains-later p vs z c)))
  same_chain_steps p (u ∷ us) vs sorted others same = by (point_eq p u) refl (λ q ws. same_chain_steps q us ws)
    where
      by : (t : Bool) → point_eq p u ≡ t →
          ((q : Point) (ws : List Point) → Each R (q ∷ us) → Each R (q ∷ ws) → HaveSameEntries (q ∷ us) (q ∷ ws) →
          steps_through q us ≡ steps_through q ws) →
          steps_through p (u ∷ us) ≡ steps_through p vs
      by true e rest =
          let is : p ≡ u = (Decides-point_eq p u).0 e in
          no_step p u us is ∙ rest p vs (subst (λ w. Each R (w ∷ us)) (sym is) sorted.1) others
          (front_once p us (p ∷ vs) (subst (λ w. HaveSameEntries (p ∷ w ∷ us) (p ∷ vs)) (sym is) same))
      by false e rest = steps_past p u us vs (not_from_Decides (point_eq p u) (Decides-point_eq p u) e) sorted others
          same (λ ws. rest u ws sorted.1)
