-- Of two edges over an x-coordinate, the lower there, by height and then by slope, is under the other just right of it.
use Rattle.std.proofs.Common.{◌≡◌, inl, inr, true, false, ◌&&◌, ◌||◌, ℤ, pos, ◌+ℤ◌, ◌<ℤ◌, int_lt, sym, ap, ap₂, ◌∙◌}
use Rattle.std.proofs.Common.{subst, arith}
use Rattle.std.proofs.lemmas.Int.{ints, by_lt_z}
use Rattle.std.proofs.lemmas.Bool.Decides.{Decides-int_eq}
use Rattle.std.proofs.lemmas.Bool.{false_from_ne_true}
use Rattle.std.specs.Ordering.{int_eq}
use Rattle.overlay_geom.specs.Plane.{Edge}
use Rattle.overlay_geom.specs.Settled.{MeetInEnds}
use Rattle.overlay_geom.proofs.Signs.{linear, by_sign}
use Rattle.overlay_geom.proofs.Marks.{or_false}
use Rattle.overlay_geom.proofs.OneLine.{meet_in_ends_exchanged}
use Rattle.overlay_geom.proofs.Orders.{edge_eq-same}
use Rattle.overlay_plane.specs.Heights.{width, gap, covers, is_under}
use Rattle.overlay_plane.specs.Nodes.{turns_left}
use Rattle.overlay_plane.specs.Anchors.{is_lower_at, LowerAtIsUnder}
use Rattle.overlay_plane.proofs.LineForms.{gap-same}
use Rattle.overlay_plane.proofs.Crossing.{apart_inside, same_starts}
use Rattle.overlay_plane.proofs.EdgeTurns.{edge_turn_same}
use Rattle.overlay_plane.proofs.NearAbscissas.{near_same}
use Rattle.overlay_plane.proofs.NodeForms.{under_beside_a_node}
use Rattle.overlay_plane.proofs.Tests.{test_from_ge}
use Rattle.overlay_plane.proofs.Under.{covers_from, covers_to, covers_wide, shared_just_right, under_irreflexive}
use Rattle.overlay_plane.proofs.WhereEdgesStart.{covers_spans}

-- where the heights are one, the slopes decide
lower_level : (f g : Edge) (x : ℤ) → gap f g x (pos 1) ≡ pos 0 → is_lower_at x f g ≡ turns_left f g
lower_level f g x level = ap₂ (λ s t. s || (t && turns_left f g))
    (test_from_ge (pos 0) (gap f g x (pos 1)) (omega linear))
    ((Decides-int_eq (gap f g x (pos 1)) (pos 0)).1 level)

-- where they are not, the heights do
lower_apart : (f g : Edge) (x : ℤ) → ¬ (gap f g x (pos 1) ≡ pos 0) →
    is_lower_at x f g ≡ int_lt (pos 0) (gap f g x (pos 1))
lower_apart f g x off = ap (λ t. int_lt (pos 0) (gap f g x (pos 1)) || (t && turns_left f g))
    (false_from_ne_true (int_eq (gap f g x (pos 1)) (pos 0))
    (λ same. off ((Decides-int_eq (gap f g x (pos 1)) (pos 0)).0 same)))
    ∙ or_false (int_lt (pos 0) (gap f g x (pos 1)))

-- no edge is lower than itself
lower_irreflexive : (f : Edge) (x : ℤ) → is_lower_at x f f ≡ false
lower_irreflexive f x = lower_level f f x (gap-same f x (pos 1)) ∙ ap (λ z. int_lt (pos 0) z) (edge_turn_same f)

module _ (f g : Edge) (meet : MeetInEnds g f) (x : ℤ) (over_f : covers f x (pos 1) ≡ true)
    (over_g : covers g x (pos 1) ≡ true) where
  -- neither edge is vertical
  wide_f : pos 0 <ℤ width f
  wide_f = covers_wide f x (pos 1) (record { lt = tt }) over_f

  wide_g : pos 0 <ℤ width g
  wide_g = covers_wide g x (pos 1) (record { lt = tt }) over_g

  -- where the heights are one, the edges start there
  level_at_start : gap f g x (pos 1) ≡ pos 0 → g.a.x ≡ x
  level_at_start level = by_lt_z g.a.x x
      (λ lt. absurd (apart_inside f g x (pos 1) (record { lt = tt }) wide_f wide_g meet
      (record { after = omega (arith, ints); before = covers_to g x (pos 1) over_g })
      (covers_spans f x (pos 1) over_f) level))
      (λ ge. let l = covers_from g x (pos 1) over_g in omega (arith, ints))

  -- the slopes decide beside it
  level_under : gap f g x (pos 1) ≡ pos 0 → is_lower_at x f g ≡ is_under f g x (pos 1)
  level_under level = lower_level f g x level
      ∙ subst (λ (z : ℤ). turns_left f g ≡ is_under f g z (pos 1)) (level_at_start level)
      ((under_beside_a_node g f).start (sym starts))
    where
      starts : g.a ≡ f.a
      starts = same_starts f g x (pos 1) (record { lt = tt }) wide_f wide_g meet (covers_spans g x (pos 1) over_g)
          (covers_spans f x (pos 1) over_f) level
          (covers_to g x (pos 1) over_g) (covers_to f x (pos 1) over_f)

  -- the heights decide elsewhere
  apart_under : ¬ (gap f g x (pos 1) ≡ pos 0) → is_lower_at x f g ≡ is_under f g x (pos 1)
  apart_under off = lower_apart f g x off
      ∙ sym (near_same f g x (pos 1) (x +ℤ x +ℤ pos 1) (pos 1 +ℤ pos 1) wide_f wide_g meet (record { lt = tt })
      (covers_spans g x (pos 1) over_g) (covers_spans f x (pos 1) over_f)
      (shared_just_right f g x (pos 1) (record { lt = tt }) over_f over_g)
      (shared_just_right g f x (pos 1) (record { lt = tt }) over_g over_f) off)

  -- either way, lower is under
  lower_under : is_lower_at x f g ≡ is_under f g x (pos 1)
  lower_under = by_sign (gap f g x (pos 1)) (λ low. apart_under (λ level. omega linear)) level_under
      (λ high. apart_under (λ level. omega linear))

-- for two edges that are one, or meet in ends alone
pub lower_at_is_under : LowerAtIsUnder
lower_at_is_under f g (inl same) x over_f over_g = subst (λ (h : Edge). is_lower_at x f h ≡ is_under f h x (pos 1))
    (edge_eq-same f g same)
    (lower_irreflexive f x ∙ sym (under_irreflexive f x (pos 1)))
lower_at_is_under f g (inr meet) x over_f over_g = lower_under f g (meet_in_ends_exchanged g f meet) x over_f over_g
