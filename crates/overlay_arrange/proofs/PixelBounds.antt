-- Between which bounds twice a cross product lies where the line of an edge passes through a pixel: the bounds as sums
-- of two differences of coordinates, and the test of the line as comparisons with them. Pixels that are met at ends
-- alone.
use Rattle.std.proofs.Common.{◌≡◌, ⊎_elim, inl, inr, ◌⊎◌, Bool, true, false, cond, ◌&&◌, ◌||◌, ℤ, pos}
use Rattle.std.proofs.Common.{not, ◌+ℤ◌, ◌-ℤ◌, ◌*ℤ◌, int_lt, int_le}
use Rattle.std.proofs.Common.{refl, sym, ap, ap₂, ◌∙◌, arith}
use Rattle.std.proofs.lemmas.Bool.{false≢true, or_cases}
use Rattle.std.proofs.lemmas.Int.{ints}
use Rattle.std.specs.Ordering.{is_lt, is_le, is_gt, is_ge, int_cmp}
use Rattle.std.specs.declared.cmp.Ordering.{Ordering}
use Rattle.overlay_geom.specs.Plane.{Point, Edge, cross_at, point_eq}
use Rattle.overlay_geom.specs.Edges.{CountedEdge, ends_of}
use Rattle.overlay_geom.proofs.Comparisons.{is_lt-int_cmp, is_gt-int_cmp, is_le-int_cmp}
use Rattle.overlay_geom.proofs.Orders.{Decides-point_eq}
use Rattle.overlay_geom.proofs.Signs.{linear}
use Rattle.overlay_plane.specs.SnapPoints.{half_girth, is_in_box, line_meets, meets_pixel}
use Rattle.overlay_plane.proofs.CrossingPoints.{abs_up, abs_down}
use Rattle.overlay_plane.proofs.Tests.{ge_from_test, lt_from_test}
use Rattle.overlay_arrange.specs.Cut.{IsEndOf}
use Rattle.overlay_arrange.specs.HotPoints.{meets_inside}

-- ---- the bounds

module _ (e : Edge) (x y : ℤ) where
  -- of an edge that rises
  pub high_where_rises : int_lt e.a.y e.b.y ≡ true → x ≡ e.b.x -ℤ e.a.x → y ≡ e.b.y -ℤ e.a.y → x +ℤ y ≡ half_girth e
  high_where_rises rises x_is y_is =
      let up = lt_from_test e.a.y e.b.y rises in
      let height = abs_up (e.b.y -ℤ e.a.y) (omega linear) in
      rw (x_is, y_is, height) refl

  pub low_where_rises : int_lt e.a.y e.b.y ≡ true → x ≡ e.a.x -ℤ e.b.x → y ≡ e.a.y -ℤ e.b.y →
      x +ℤ y ≡ pos 0 -ℤ half_girth e
  low_where_rises rises x_is y_is =
      let up = lt_from_test e.a.y e.b.y rises in
      let height = abs_up (e.b.y -ℤ e.a.y) (omega linear) in
      rw height (omega linear)

  -- the upper bound of an edge that does not rise
  pub high_where_falls : int_lt e.a.y e.b.y ≡ false → x ≡ e.b.x -ℤ e.a.x → y ≡ e.a.y -ℤ e.b.y → x +ℤ y ≡ half_girth e
  high_where_falls falls x_is y_is =
      let down = ge_from_test e.a.y e.b.y falls in
      let height = abs_down (e.b.y -ℤ e.a.y) (omega linear) in
      rw height (omega linear)

  pub low_where_falls : int_lt e.a.y e.b.y ≡ false → x ≡ e.a.x -ℤ e.b.x → y ≡ e.b.y -ℤ e.a.y →
      x +ℤ y ≡ pos 0 -ℤ half_girth e
  low_where_falls falls x_is y_is =
      let down = ge_from_test e.a.y e.b.y falls in
      let height = abs_down (e.b.y -ℤ e.a.y) (omega linear) in
      rw height (omega linear)

-- ---- the test of the line

-- a comparison answers that the first number is at least the second where it is
is_ge-int_cmp : (x y : ℤ) → is_ge (int_cmp x y) ≡ int_le y x
is_ge-int_cmp x y = grind (arith, ints)

module _ (e : Edge) (v : Point) (cross : ℤ) (value : cross ≡ cross_at e.a e.b v) (low high : Ordering)
    (to_low : low ≡ int_cmp (pos 2 *ℤ cross) (pos 0 -ℤ half_girth e))
    (to_high : high ≡ int_cmp (pos 2 *ℤ cross) (half_girth e)) where
  -- twice the cross product
  abbrev twice : ℤ
  twice = pos 2 *ℤ cross_at e.a e.b v

  low_is : low ≡ int_cmp twice (pos 0 -ℤ half_girth e)
  low_is = to_low ∙ ap (λ z. int_cmp (pos 2 *ℤ z) (pos 0 -ℤ half_girth e)) value

  high_is : high ≡ int_cmp twice (half_girth e)
  high_is = to_high ∙ ap (λ z. int_cmp (pos 2 *ℤ z) (half_girth e)) value

  -- whether the upper bound is kept to
  abbrev is_kept : Bool
  is_kept = cond (int_lt e.a.y e.b.y) (is_lt high) (is_le high)

  is_kept-tells : is_kept ≡ cond (int_lt e.a.y e.b.y) (int_lt twice (half_girth e)) (int_le twice (half_girth e))
  is_kept-tells = ap₂ (λ s t. cond (int_lt e.a.y e.b.y) s t)
      (ap is_lt high_is ∙ is_lt-int_cmp twice (half_girth e))
      (ap is_le high_is ∙ is_le-int_cmp twice (half_girth e))

  -- the test reads the comparisons of an edge that is not upright
  wide_test : is_gt low && is_kept ≡ (int_lt (pos 0 -ℤ half_girth e) twice
      && cond (int_lt e.a.y e.b.y) (int_lt twice (half_girth e)) (int_le twice (half_girth e)))
  wide_test = ap₂ (λ s t. s && t) (ap is_gt low_is ∙ is_gt-int_cmp twice (pos 0 -ℤ half_girth e)) is_kept-tells

  -- the test of an upright edge
  upright_test : is_ge low && is_lt high ≡ (int_le (pos 0 -ℤ half_girth e) twice && int_lt twice (half_girth e))
  upright_test = ap₂ (λ s t. s && t) (ap is_ge low_is ∙ is_ge-int_cmp twice (pos 0 -ℤ half_girth e))
      (ap is_lt high_is ∙ is_lt-int_cmp twice (half_girth e))

  -- the whole test is the test of the line
  test : cond (int_lt e.a.x e.b.x) (is_gt low && is_kept) (is_ge low && is_lt high) ≡ line_meets e v
  test = ap₂ (λ s t. cond (int_lt e.a.x e.b.x) s t) wide_test upright_test

  -- it is so by the tests of the edge
  pub bounds_tell : (wide rises : Bool) → wide ≡ int_lt e.a.x e.b.x → rises ≡ int_lt e.a.y e.b.y →
      cond wide (is_gt low && cond rises (is_lt high) (is_le high)) (is_ge low && is_lt high) ≡ line_meets e v
  bounds_tell wide rises wide_is rises_is =
      ap₂ (λ s t. cond s (is_gt low && cond t (is_lt high) (is_le high)) (is_ge low && is_lt high)) wide_is rises_is
      ∙ test

-- a pixel is met at an end alone where the box does not hold its point, or the line does not meet it
pub met_at_end : (e : CountedEdge) (v : Point) → (is_in_box (ends_of e) v && line_meets (ends_of e) v) ≡ false →
    meets_pixel (ends_of e) v ≡ true → IsEndOf e v
met_at_end e v neither meets =
    let inside = is_in_box (ends_of e) v && line_meets (ends_of e) v in
    ⊎_elim (λ end. ⊎_elim (λ is. inl ((Decides-point_eq v e.a).0 is)) (λ is. inr ((Decides-point_eq v e.b).0 is))
    (or_cases (point_eq v e.a) (point_eq v e.b) end)) (λ both. absurd (false≢true (sym neither ∙ both)))
    (or_cases (point_eq v e.a || point_eq v e.b) inside meets)

-- a point is an end or not
pub is_end_or_not : (e : CountedEdge) (v : Point) → IsEndOf e v ⊎ (¬ (IsEndOf e v))
is_end_or_not e v = by (point_eq v e.a) (point_eq v e.b) refl refl
  where
    by : (s t : Bool) → point_eq v e.a ≡ s → point_eq v e.b ≡ t → IsEndOf e v ⊎ (¬ (IsEndOf e v))
    by true t is other = inl (inl ((Decides-point_eq v e.a).0 is))
    by false true is other = inl (inr ((Decides-point_eq v e.b).0 other))
    by false false is other = inr (λ end. ⊎_elim
        (λ a. false≢true (sym is ∙ (Decides-point_eq v e.a).1 a))
        (λ b. false≢true (sym other ∙ (Decides-point_eq v e.b).1 b)) end)

-- the test of a point is told by the box, the line and the ends
module _ (e : CountedEdge) (v : Point) where
  abbrev is_end : Bool
  is_end = point_eq v e.a || point_eq v e.b

  or_true : (b : Bool) → (b || true) ≡ true
  or_true true = refl
  or_true false = refl

  ends : is_end ≡ true → IsEndOf e v
  ends is = ⊎_elim (λ a. inl ((Decides-point_eq v e.a).0 a)) (λ b. inr ((Decides-point_eq v e.b).0 b))
      (or_cases (point_eq v e.a) (point_eq v e.b) is)

  -- an end is not met inside
  pub end_not_inside : IsEndOf e v → false ≡ meets_inside e v
  end_not_inside end = ⊎_elim
      (λ a. sym (ap (λ s. (s || point_eq v e.b || (is_in_box (ends_of e) v && line_meets (ends_of e) v))
      && not (s || point_eq v e.b)) ((Decides-point_eq v e.a).1 a)))
      (λ b. sym (ap (λ s. (s || (is_in_box (ends_of e) v && line_meets (ends_of e) v)) && not s)
      (ap (λ s. point_eq v e.a || s) ((Decides-point_eq v e.b).1 b) ∙ or_true (point_eq v e.a)))) end

  by : (q inside : Bool) → q ≡ false → inside ≡ ((q || inside) && not q)
  by true inside is = absurd (false≢true (sym is))
  by false true is = refl
  by false false is = refl

  not_end : (q : Bool) → q ≡ is_end → ¬ (IsEndOf e v) → q ≡ false
  not_end true is other = absurd (other (ends (sym is)))
  not_end false is other = refl

  -- any other point is, where the box holds it and the line meets its pixel
  pub inside_where : ¬ (IsEndOf e v) → (is_in_box (ends_of e) v && line_meets (ends_of e) v) ≡ meets_inside e v
  inside_where other = by is_end (is_in_box (ends_of e) v && line_meets (ends_of e) v) (not_end is_end refl other)

  -- and not where the box does not hold it
  pub outside : is_in_box (ends_of e) v ≡ false → false ≡ meets_inside e v
  outside is = ⊎_elim end_not_inside
      (λ other. sym (ap (λ s. s && line_meets (ends_of e) v) is) ∙ inside_where other) (is_end_or_not e v)
