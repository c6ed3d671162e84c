-- An edge through the start of e leads on along e where its end is another point of e's line.
use Rattle.std.proofs.Common.{◌≡◌, inl, inr, Bool, true, false, not, ◌&&◌, pos, ◌-ℤ◌, refl, sym, ap, ap₂, ◌∙◌, subst}
use Rattle.std.specs.Ordering.{int_eq}
use Rattle.std.proofs.lemmas.Bool.{cases_Bool, false_from_ne_true, false≢true}
use Rattle.std.proofs.lemmas.Bool.Decides.{Decides-int_eq}
use Rattle.overlay_geom.specs.Plane.{Point, Edge, IsOn, side, in_plane, cross_at, point_eq}
use Rattle.overlay_geom.proofs.Cross.{cross_at_first}
use Rattle.overlay_geom.proofs.Orders.{point_eq-same, point_eq-of_same}
use Rattle.overlay_geom.proofs.PointOrder.{IsBefore}
use Rattle.overlay_geom.proofs.Signs.{linear, mul-zero}
use Rattle.overlay_plane.specs.CutPoints.{are_along}
use Rattle.overlay_plane.proofs.CommonPoints.{one_on_both}
use Rattle.overlay_plane.proofs.Ends.{end_on}
use Rattle.overlay_plane.proofs.WholeOnEdges.{at_itself, at_whole, side_at, Decides-is_at}
use Rattle.overlay_plane.proofs.WholePlaces.{at_moved}
use Rattle.overlay_scaled.specs.BesidePieces.{is_at}
use Rattle.overlay_given.specs.Steps.{leads_on}

module _ (e f : Edge) (e_before : IsBefore e.a e.b) (f_before : IsBefore f.a f.b)
    (on_f : IsOn f (in_plane e.a)) where
  level : (v : Point) → cross_at e.a e.b v ≡ pos 0 → side e (in_plane v) ≡ pos 0
  level v zero = side_at e v (in_plane v) (at_itself v) ∙ mul-zero (pos 1) (cross_at e.a e.b v) zero

  -- f's end is e's start, or it is another point
  module _ (apart : ¬ (f.b ≡ e.a)) where
    other : is_at f.b (in_plane e.a) ≡ false
    other = false_from_ne_true (is_at f.b (in_plane e.a))
        (λ t. apart (at_whole f.b e.a ((Decides-is_at f.b (in_plane e.a)).0 t)))

    other_point : point_eq f.b e.a ≡ false
    other_point = false_from_ne_true (point_eq f.b e.a) (λ t. apart (point_eq-same f.b e.a t))

    -- where f ends on e's line, it starts there too
    starts_on_line : cross_at e.a e.b f.b ≡ pos 0 → cross_at e.a e.b f.a ≡ pos 0
    starts_on_line zero = elim (cases_Bool (int_eq (cross_at e.a e.b f.a) (pos 0))) [
      | inl t ↦ (Decides-int_eq (cross_at e.a e.b f.a) (pos 0)).0 t
      | inr t ↦ absurd (apart (at_whole f.b e.a (at_moved f.b (in_plane f.b) (in_plane e.a)
          (one_on_both e f (in_plane e.a) (in_plane f.b) (across t) (level e.a (cross_at_first e.a e.b)) on_f.on_line
          (level f.b zero) (end_on f).on_line) (at_itself f.b))))
    ]
      where
        across : int_eq (cross_at e.a e.b f.a) (pos 0) ≡ false →
            ¬ (cross_at e.a e.b f.b -ℤ cross_at e.a e.b f.a ≡ pos 0)
        across off same = false≢true (sym off
            ∙ (Decides-int_eq (cross_at e.a e.b f.a) (pos 0)).1 (omega linear))

    along_told : are_along e f ≡ int_eq (cross_at e.a e.b f.b) (pos 0)
    along_told = elim (cases_Bool (int_eq (cross_at e.a e.b f.b) (pos 0))) [
      | inl t ↦ ap₂ (λ s u. s && u) ((Decides-int_eq (cross_at e.a e.b f.a) (pos 0)).1
          (starts_on_line ((Decides-int_eq (cross_at e.a e.b f.b) (pos 0)).0 t))) t ∙ sym t
      | inr t ↦ ap (λ u. int_eq (cross_at e.a e.b f.a) (pos 0) && u) t ∙ none (int_eq (cross_at e.a e.b f.a) (pos 0))
          ∙ sym t
    ]
      where
        none : (s : Bool) → (s && false) ≡ false
        none true = refl
        none false = refl

  none : (s : Bool) → (s && false) ≡ false
  none true = refl
  none false = refl

  pub leading_on : (are_along e f && not (is_at f.b (in_plane e.a))) ≡ leads_on e f
  leading_on = elim (cases_Bool (point_eq f.b e.a)) [
    | inl t ↦
        let same = point_eq-same f.b e.a t in
        ap (λ u. are_along e f && not u) (subst (λ v. is_at v (in_plane e.a) ≡ true) (sym same)
        ((Decides-is_at e.a (in_plane e.a)).1 (at_itself e.a)))
        ∙ none (are_along e f)
        ∙ sym (ap (λ u. int_eq (cross_at e.a e.b f.b) (pos 0) && not u) t
        ∙ none (int_eq (cross_at e.a e.b f.b) (pos 0)))
    | inr t ↦
        let apart : ¬ (f.b ≡ e.a) = λ same. false≢true (sym t
        ∙ point_eq-of_same f.b e.a same) in
        ap₂ (λ s u. s && not u) (along_told apart) (other apart)
        ∙ sym (ap (λ u. int_eq (cross_at e.a e.b f.b) (pos 0) && not u) (other_point apart))
  ]
