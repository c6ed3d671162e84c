-- Tests by which a whole point's sectors are told.
use Rattle.std.proofs.Common.{◌≡◌, Bool, true, false, cond, not, ◌&&◌, ◌||◌, ℕ, ℤ, pos, ◌+ℤ◌, ◌-ℤ◌, ◌*ℤ◌, ◌<ℤ◌, ◌≤ℤ◌}
use Rattle.std.proofs.Common.{int_lt, int_le, refl, sym, ap, ap₂, ◌∙◌, arith}
use Rattle.std.specs.Ordering.{int_eq, int_cmp, is_lt, is_gt, is_eq}
use Rattle.std.specs.declared.cmp.Ordering.TheVariants.{Less, Equal, Greater}
use Rattle.std.proofs.lemmas.Bool.{and_parts, false_from_ne_true}
use Rattle.std.proofs.lemmas.Bool.Decides.{Decides-int_eq}
use Rattle.std.proofs.lemmas.Int.{ints, by_lt_z}
use Rattle.overlay_geom.specs.Plane.{Point, Edge, side, in_plane}
use Rattle.overlay_geom.proofs.AlongEdge.{sideE}
use Rattle.overlay_geom.proofs.Comparisons.{is_gt-int_cmp, is_lt-int_cmp}
use Rattle.overlay_geom.proofs.Identities.{solve, number, ◌⊕◌, ◌⊗◌, ◌⊖◌, ◌≗◌}
use Rattle.overlay_geom.proofs.Signs.{linear, mul-pos, mul-neg, mul-nonneg, mul-nonpos}
use Rattle.overlay_plane.proofs.Tests.{lt_from_test, le_from_test, ge_from_test, test_from_lt, test_from_ge, int_le-not}
use Rattle.overlay_geom.specs.Points.{InRange}
use Rattle.overlay_geom.specs.Resolved.{IsLongEdge}
use Rattle.overlay_sectors.specs.Sectors.{spans_beside, far_end}
use Rattle.overlay_sectors.specs.declared.flank.Flank.{Flank}
use Rattle.overlay_sectors.specs.declared.flank.Flank.TheVariants.{Left, Right}

pub once : (z : ℤ) → z *ℤ pos 1 ≡ z
once z = omega (arith, ints)

-- what it is to have points beside a whole point
pub span_right : (f : Edge) (v : Point) →
    spans_beside Right f (in_plane v) ≡ (int_le f.a.x v.x && int_lt v.x f.b.x)
span_right f v = ap₂ (λ a b. int_le a v.x && int_lt v.x b) (once f.a.x) (once f.b.x)

pub span_left : (f : Edge) (v : Point) →
    spans_beside Left f (in_plane v) ≡ (int_lt f.a.x v.x && int_le v.x f.b.x)
span_left f v = ap₂ (λ a b. int_lt a v.x && int_le v.x b) (once f.a.x) (once f.b.x)

pub record IsSpanned (f : Edge) (v : Point) : Type 0 where
  pub from : f.a.x ≤ℤ v.x
  pub to : v.x ≤ℤ f.b.x
  pub wide : f.a.x <ℤ f.b.x

pub spanned : (h : Flank) (f : Edge) (v : Point) → spans_beside h f (in_plane v) ≡ true → IsSpanned f v
spanned Right f v t =
    let parts = and_parts (int_le f.a.x v.x) (int_lt v.x f.b.x) (sym (span_right f v) ∙ t) in
    let one = le_from_test f.a.x v.x parts.0 in
    let two = lt_from_test v.x f.b.x parts.1 in
    record { from = one; to = omega linear; wide = omega linear }
spanned Left f v t =
    let parts = and_parts (int_lt f.a.x v.x) (int_le v.x f.b.x) (sym (span_left f v) ∙ t) in
    let one = lt_from_test f.a.x v.x parts.0 in
    let two = le_from_test v.x f.b.x parts.1 in
    record { from = omega linear; to = two; wide = omega linear }

-- ---- the test of one edge, by its parts

pub both_so : (s r u : Bool) → s ≡ true → r ≡ u → r ≡ (s && u)
both_so s r u is same = same ∙ sym (ap (λ b. b && u) is)

pub not_both_so : (s u : Bool) → s ≡ false → false ≡ (s && u)
not_both_so s u is = sym (ap (λ b. b && u) is)

pub above_is : (t u v : Bool) → t ≡ true → true ≡ (t || (u && v))
above_is t u v high = sym (ap (λ c. c || (u && v)) high)

pub level_is : (t u v w : Bool) → t ≡ false → u ≡ true → w ≡ v → w ≡ (t || (u && v))
level_is t u v w low level same = same ∙ sym (ap (λ c. c || (u && v)) low ∙ ap (λ c. c && v) level)

pub under_is_not : (t u v : Bool) → t ≡ false → u ≡ false → false ≡ (t || (u && v))
under_is_not t u v low level = sym (ap (λ c. c || (u && v)) low ∙ ap (λ c. c && v) level)

-- ---- over both ends and under both

side_split : (e : Edge) (v : Point) → side e (in_plane v) ≡ (e.b.x -ℤ v.x) *ℤ (v.y -ℤ e.a.y) +ℤ
    (v.x -ℤ e.a.x) *ℤ (v.y -ℤ e.b.y)
side_split e v = solve 6 (λ ax ay bx by x y. sideE ax ay bx by x y (number (pos 1)) ≗ (bx ⊖ x) ⊗ (y ⊖ ay) ⊕
    (x ⊖ ax) ⊗ (y ⊖ by)) tt e.a.x e.a.y e.b.x e.b.y v.x v.y

module _ (e : Edge) (v : Point) (from : e.a.x ≤ℤ v.x) (to : v.x ≤ℤ e.b.x) (wide : e.a.x <ℤ e.b.x) where
  pub over_both : e.a.y <ℤ v.y → e.b.y <ℤ v.y → pos 0 <ℤ side e (in_plane v)
  over_both over_a over_b =
      let is = side_split e v in
      by_lt_z v.x e.b.x
      (λ less.
      let one = mul-pos (e.b.x -ℤ v.x) (v.y -ℤ e.a.y) (omega linear) (omega linear) in
      let two = mul-nonneg (v.x -ℤ e.a.x) (v.y -ℤ e.b.y) (omega linear) (omega linear) in
      omega linear)
      (λ ge.
      let one = mul-nonneg (e.b.x -ℤ v.x) (v.y -ℤ e.a.y) (omega linear) (omega linear) in
      let two = mul-pos (v.x -ℤ e.a.x) (v.y -ℤ e.b.y) (omega linear) (omega linear) in
      omega linear)

  pub under_both : v.y <ℤ e.a.y → v.y <ℤ e.b.y → side e (in_plane v) <ℤ pos 0
  under_both under_a under_b =
      let is = side_split e v in
      by_lt_z v.x e.b.x
      (λ less.
      let one = mul-neg (e.b.x -ℤ v.x) (v.y -ℤ e.a.y) (omega linear) (omega linear) in
      let two = mul-nonpos (v.x -ℤ e.a.x) (v.y -ℤ e.b.y) (omega linear) (omega linear) in
      omega linear)
      (λ ge.
      let one = mul-nonpos (e.b.x -ℤ v.x) (v.y -ℤ e.a.y) (omega linear) (omega linear) in
      let two = mul-neg (v.x -ℤ e.a.x) (v.y -ℤ e.b.y) (omega linear) (omega linear) in
      omega linear)

-- the tests of a side by its sign
pub is_high : (z : ℤ) → pos 0 <ℤ z → int_lt (pos 0) z ≡ true
is_high z h = test_from_lt (pos 0) z h

pub not_high : (z : ℤ) → z ≤ℤ pos 0 → int_lt (pos 0) z ≡ false
not_high z h = test_from_ge (pos 0) z h

pub not_level : (z : ℤ) → ¬ (z ≡ pos 0) → int_eq z (pos 0) ≡ false
not_level z apart = false_from_ne_true (int_eq z (pos 0)) (λ t. apart ((Decides-int_eq z (pos 0)).0 t))

module _ (e : Edge) (v : Point) (from : e.a.x ≤ℤ v.x) (to : v.x ≤ℤ e.b.x) (wide : e.a.x <ℤ e.b.x) where
  pub over_is_high : (int_lt e.a.y v.y && int_lt e.b.y v.y) ≡ true → true ≡ int_lt (pos 0) (side e (in_plane v))
  over_is_high t =
      let both = and_parts (int_lt e.a.y v.y) (int_lt e.b.y v.y) t in
      sym (is_high (side e (in_plane v))
      (over_both e v from to wide (lt_from_test e.a.y v.y both.0) (lt_from_test e.b.y v.y both.1)))

  pub over_is_apart : (int_lt e.a.y v.y && int_lt e.b.y v.y) ≡ true → false ≡ int_eq (side e (in_plane v)) (pos 0)
  over_is_apart t =
      let both = and_parts (int_lt e.a.y v.y) (int_lt e.b.y v.y) t in
      let high = over_both e v from to wide (lt_from_test e.a.y v.y both.0) (lt_from_test e.b.y v.y both.1) in
      sym (not_level (side e (in_plane v)) (λ zero. omega linear))

  pub under_is_low : (int_lt v.y e.a.y && int_lt v.y e.b.y) ≡ true → false ≡ int_lt (pos 0) (side e (in_plane v))
  under_is_low t =
      let both = and_parts (int_lt v.y e.a.y) (int_lt v.y e.b.y) t in
      let low = under_both e v from to wide (lt_from_test v.y e.a.y both.0) (lt_from_test v.y e.b.y both.1) in
      sym (not_high (side e (in_plane v)) (omega linear))

  pub under_is_apart : (int_lt v.y e.a.y && int_lt v.y e.b.y) ≡ true → false ≡ int_eq (side e (in_plane v)) (pos 0)
  under_is_apart t =
      let both = and_parts (int_lt v.y e.a.y) (int_lt v.y e.b.y) t in
      let low = under_both e v from to wide (lt_from_test v.y e.a.y both.0) (lt_from_test v.y e.b.y both.1) in
      sym (not_level (side e (in_plane v)) (λ zero. omega linear))

-- a comparison with 0 is equal where the number is 0
is_eq-int_cmp : (x y : ℤ) → is_eq (int_cmp x y) ≡ int_eq x y
is_eq-int_cmp x y = by_cases (int_lt x y) (int_lt y x) refl refl
  where
    by_cases : (b c : Bool) → int_lt x y ≡ b → int_lt y x ≡ c → is_eq (cond b Less (cond c Greater Equal)) ≡ int_eq x y
    by_cases true c less more = sym (false_from_ne_true (int_eq x y)
        (λ t. let is = (Decides-int_eq x y).0 t in let lt = lt_from_test x y less in omega linear))
    by_cases false true less more = sym (false_from_ne_true (int_eq x y)
        (λ t. let is = (Decides-int_eq x y).0 t in let lt = lt_from_test y x more in omega linear))
    by_cases false false less more =
        let one = ge_from_test x y less in
        let two = ge_from_test y x more in
        sym ((Decides-int_eq x y).1 (omega linear))

-- the sign of a number that is the side
pub sign_is_high : (w z : ℤ) → w ≡ z → is_gt (int_cmp w (pos 0)) ≡ int_lt (pos 0) z
sign_is_high w z is = is_gt-int_cmp w (pos 0) ∙ ap (int_lt (pos 0)) is

pub sign_is_level : (w z : ℤ) → w ≡ z → is_eq (int_cmp w (pos 0)) ≡ int_eq z (pos 0)
sign_is_level w z is = is_eq-int_cmp w (pos 0) ∙ ap (λ k. int_eq k (pos 0)) is

pub sign_is_up : (w z : ℤ) → w ≡ z → not (is_lt (int_cmp w (pos 0))) ≡ int_le (pos 0) z
sign_is_up w z is = ap not (is_lt-int_cmp w (pos 0)) ∙ ap (λ k. not (int_lt k (pos 0))) is ∙ sym (int_le-not (pos 0) z)

-- an end of an edge in range is in range
pub far_end_in_range : (limit : ℕ) (h : Flank) (e : Edge) → IsLongEdge limit e → InRange limit (far_end h e)
far_end_in_range limit Left e long = long.a_in_range
far_end_in_range limit Right e long = long.b_in_range
