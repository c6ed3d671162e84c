-- Where f meets e at p, the counts of f are added to the winding above e as often as f starts on the left of e's line,
-- less as often as it ends there: below e it adds its steps to the right, along e its start or its end.
use Rattle.std.proofs.Common.{◌≡◌, ◌⊎◌, inl, inr, ⊎_elim, Bool, true, false, cond, ℤ, pos, ◌+ℤ◌, ◌-ℤ◌}
use Rattle.std.proofs.Common.{◌<ℤ◌, ◌≤ℤ◌, refl, sym, ap, ◌∙◌}
use Rattle.std.proofs.lemmas.Bool.{cases_Bool, false_from_ne_true, false≢true}
use Rattle.overlay_geom.specs.Plane.{Point, PlanePoint, Edge, IsOn, IsAt, cross_at, in_plane}
use Rattle.overlay_geom.proofs.Beside.{beside_meet_in_ends}
use Rattle.overlay_geom.proofs.Crossing.{at_one_point}
use Rattle.overlay_geom.proofs.PointOrder.{IsBefore, before_is_other}
use Rattle.overlay_geom.proofs.Signs.{linear, by_sign, mul-neg, mul-pos, mul-zero}
use Rattle.overlay_plane.specs.CutPoints.{are_along}
use Rattle.overlay_plane.specs.Regions.{one_if}
use Rattle.overlay_plane.proofs.CommonPoints.{one_on_both, Decides-are_along}
use Rattle.overlay_plane.proofs.Ends.{start_on, end_on}
use Rattle.overlay_plane.proofs.Tests.{test_from_lt, test_from_ge}
use Rattle.overlay_plane.proofs.WholeOnEdges.{at_itself, side_at, Decides-is_at}
use Rattle.overlay_plane.proofs.WholePlaces.{at_moved}
use Rattle.overlay_scaled.specs.BesidePieces.{is_right_of, is_at}
use Rattle.overlay_exact.specs.WindingSteps.{winding_step, along_step}
use Rattle.overlay_given.specs.Steps.{is_left_of}

module _ (e f : Edge) (p : PlanePoint) (f_before : IsBefore f.a f.b) (on_e : IsOn e p) (on_f : IsOn f p) where
  abbrev at_a : ℤ
  at_a = cross_at e.a e.b f.a

  abbrev at_b : ℤ
  at_b = cross_at e.a e.b f.b

  -- where v is at p, it is on e's line
  at_zero : (v : Point) → IsAt v p → cross_at e.a e.b v ≡ pos 0
  at_zero v at = by_sign (cross_at e.a e.b v)
      (λ less. absurd (let neg = mul-neg p.d (cross_at e.a e.b v) p.positive less in
      let is = side_at e v p at in let zero = on_e.on_line in omega linear))
      (λ zero. zero)
      (λ more. absurd (let large = mul-pos p.d (cross_at e.a e.b v) p.positive more in
      let is = side_at e v p at in let zero = on_e.on_line in omega linear))

  -- not both ends are at p
  one_end : IsAt f.a p → IsAt f.b p → ⊥
  one_end at_first at_second =
      let same = at_one_point f.a f.b p at_first at_second in
      before_is_other f.a f.b f_before (ap (λ (v : Point). v.x) (sym same)) (ap (λ (v : Point). v.y) (sym same))

  -- an end of f on e's line, where f is not along it, is at p
  on_line_at : (v : Point) → IsOn f (in_plane v) → cross_at e.a e.b v ≡ pos 0 → ¬ (at_b -ℤ at_a ≡ pos 0) → IsAt v p
  on_line_at v on zero apart = at_moved v (in_plane v) p
      (one_on_both e f p (in_plane v) apart on_e.on_line on_f.on_line
      (side_at e v (in_plane v) (at_itself v) ∙ mul-zero (pos 1) (cross_at e.a e.b v) zero) on.on_line)
      (at_itself v)

  -- what the tests tell of f adds up
  told : (ra rb la lb al sa sb : Bool) → is_right_of e f.a ≡ ra → is_right_of e f.b ≡ rb → is_left_of e f.a ≡ la →
      is_left_of e f.b ≡ lb → are_along e f ≡ al → is_at f.a p ≡ sa → is_at f.b p ≡ sb →
      ((one_if rb -ℤ one_if ra) +ℤ cond al (one_if sa -ℤ one_if sb) (pos 0)) +ℤ (one_if sb -ℤ one_if sa)
      ≡ one_if la -ℤ one_if lb →
      (winding_step e f +ℤ along_step e f p) +ℤ (one_if (is_at f.b p) -ℤ one_if (is_at f.a p))
      ≡ one_if (is_left_of e f.a) -ℤ one_if (is_left_of e f.b)
  told ra rb la lb al sa sb is_ra is_rb is_la is_lb is_al is_sa is_sb is =
      (λ i. ((one_if (is_rb i) -ℤ one_if (is_ra i)) +ℤ cond (is_al i) (one_if (is_sa i) -ℤ one_if (is_sb i)) (pos 0))
      +ℤ (one_if (is_sb i) -ℤ one_if (is_sa i)))
      ∙ is ∙ sym (λ i. one_if (is_la i) -ℤ one_if (is_lb i))

  right : (v : Point) → cross_at e.a e.b v <ℤ pos 0 → is_right_of e v ≡ true
  right v h = test_from_lt (cross_at e.a e.b v) (pos 0) h

  not_right : (v : Point) → pos 0 ≤ℤ cross_at e.a e.b v → is_right_of e v ≡ false
  not_right v h = test_from_ge (cross_at e.a e.b v) (pos 0) h

  left : (v : Point) → pos 0 <ℤ cross_at e.a e.b v → is_left_of e v ≡ true
  left v h = test_from_lt (pos 0) (cross_at e.a e.b v) h

  not_left : (v : Point) → cross_at e.a e.b v ≤ℤ pos 0 → is_left_of e v ≡ false
  not_left v h = test_from_ge (pos 0) (cross_at e.a e.b v) h

  along : at_a ≡ pos 0 → at_b ≡ pos 0 → are_along e f ≡ true
  along a b = (Decides-are_along e f).1 (a, b)

  not_along : ¬ (at_b ≡ at_a) → are_along e f ≡ false
  not_along apart = false_from_ne_true (are_along e f)
      (λ t. let both = (Decides-are_along e f).0 t in apart (both.1 ∙ sym both.0))

  at : (v : Point) → IsAt v p → is_at v p ≡ true
  at v h = (Decides-is_at v p).1 h

  not_at : (v : Point) → ¬ (IsAt v p) → is_at v p ≡ false
  not_at v none = false_from_ne_true (is_at v p) (λ t. none ((Decides-is_at v p).0 t))

  abbrev Adds : Type 0
  Adds = (winding_step e f +ℤ along_step e f p) +ℤ (one_if (is_at f.b p) -ℤ one_if (is_at f.a p))
      ≡ one_if (is_left_of e f.a) -ℤ one_if (is_left_of e f.b)

  -- f starts at p
  starting : IsAt f.a p → Adds
  starting here =
      let zero = at_zero f.a here in
      let is_sa = at f.a here in
      let is_sb = not_at f.b (λ there. one_end here there) in
      let ra = not_right f.a (omega linear) in
      let la = not_left f.a (omega linear) in
      by_sign at_b
      (λ less. told false true false false false true false ra (right f.b less) la (not_left f.b (omega linear))
      (not_along (λ same. omega linear)) is_sa is_sb refl)
      (λ level. told false false false false true true false ra (not_right f.b (omega linear)) la
      (not_left f.b (omega linear)) (along zero level) is_sa is_sb refl)
      (λ more. told false false false true false true false ra (not_right f.b (omega linear)) la (left f.b more)
      (not_along (λ same. omega linear)) is_sa is_sb refl)

  -- f ends at p
  ending : IsAt f.b p → Adds
  ending here =
      let zero = at_zero f.b here in
      let is_sb = at f.b here in
      let is_sa = not_at f.a (λ there. one_end there here) in
      let rb = not_right f.b (omega linear) in
      let lb = not_left f.b (omega linear) in
      by_sign at_a
      (λ less. told true false false false false false true (right f.a less) rb (not_left f.a (omega linear)) lb
      (not_along (λ same. omega linear)) is_sa is_sb refl)
      (λ level. told false false false false true false true (not_right f.a (omega linear)) rb
      (not_left f.a (omega linear)) lb (along level zero) is_sa is_sb refl)
      (λ more. told false false true false false false true (not_right f.a (omega linear)) rb (left f.a more) lb
      (not_along (λ same. omega linear)) is_sa is_sb refl)

  -- p is inside f
  module _ (no_a : ¬ (IsAt f.a p)) (no_b : ¬ (IsAt f.b p)) where
    no_end : ¬ (IsAt f.a p ⊎ IsAt f.b p)
    no_end end = ⊎_elim no_a no_b end

    inside : Adds
    inside =
        let is_sa = not_at f.a no_a in
        let is_sb = not_at f.b no_b in
        by_sign at_a
        (λ less. by_sign at_b
        (λ too. absurd (no_end (beside_meet_in_ends e f f_before (inr (less, too)) p (on_e, on_f)).1))
        (λ level. absurd (no_b (on_line_at f.b (end_on f) level (λ same. omega linear))))
        (λ more. told true false false true false false false (right f.a less) (not_right f.b (omega linear))
        (not_left f.a (omega linear)) (left f.b more) (not_along (λ same. omega linear)) is_sa is_sb refl))
        (λ level. by_sign at_b
        (λ less. absurd (no_a (on_line_at f.a (start_on f) level (λ same. omega linear))))
        (λ too. told false false false false true false false (not_right f.a (omega linear))
        (not_right f.b (omega linear)) (not_left f.a (omega linear)) (not_left f.b (omega linear)) (along level too)
        is_sa is_sb refl)
        (λ more. absurd (no_a (on_line_at f.a (start_on f) level (λ same. omega linear)))))
        (λ more. by_sign at_b
        (λ less. told false true true false false false false (not_right f.a (omega linear)) (right f.b less)
        (left f.a more) (not_left f.b (omega linear)) (not_along (λ same. omega linear)) is_sa is_sb refl)
        (λ level. absurd (no_b (on_line_at f.b (end_on f) level (λ same. omega linear))))
        (λ too. absurd (no_end (beside_meet_in_ends e f f_before (inl (more, too)) p (on_e, on_f)).1)))

  pub left_steps : Adds
  left_steps = elim (cases_Bool (is_at f.a p)) [
    | inl t ↦ starting ((Decides-is_at f.a p).0 t)
    | inr t ↦ elim (cases_Bool (is_at f.b p)) [
      | inl s ↦ ending ((Decides-is_at f.b p).0 s)
      | inr s ↦ inside (λ here. both f.a t here) (λ here. both f.b s here)
    ]
  ]
    where
      both : (v : Point) → is_at v p ≡ false → IsAt v p → ⊥
      both v other here = false≢true (sym other ∙ (Decides-is_at v p).1 here)
