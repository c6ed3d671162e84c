-- Two edges meet in ends alone if one lies wholly below the other, or starts right of the other's end.
use Rattle.std.proofs.Common.{◌⊎◌, inl, inr, ℕ, cond, ℤ, ◌≤ℤ◌, int_lt, arith}
use Rattle.std.proofs.lemmas.Int.{ints}
use Rattle.overlay_geom.specs.Edges.{CountedEdge, ends_of}
use Rattle.overlay_geom.proofs.Signs.{linear}
use Rattle.overlay_plane.proofs.MetInBox.{AreApartInY, IsBelow, apart_in_y_have_no_common}
use Rattle.overlay_order.specs.Content.{IsHeld}
use Rattle.overlay_pairs.specs.Extents.{extent_of}
use Rattle.overlay_pairs.specs.Near.{IsFar, IsUnder}
use Rattle.overlay_pairs.specs.Settle.{AreSettled}
use Rattle.overlay_pairs.proofs.SettledLists.{starting_right}

-- the lesser of two numbers is at most both, and the greater at least
pub lesser_up_to : (y z : ℤ) → (cond (int_lt y z) y z ≤ℤ y) × (cond (int_lt y z) y z ≤ℤ z)
lesser_up_to y z = (grind (arith, ints), grind (arith, ints))

pub greater_from : (y z : ℤ) → (y ≤ℤ cond (int_lt y z) z y) × (z ≤ℤ cond (int_lt y z) z y)
greater_from y z = (grind (arith, ints), grind (arith, ints))

-- the heights of an edge's ends are in its box
pub record IsSpan (e : CountedEdge) : Type 0 where
  pub a_from : (extent_of e 0).low ≤ℤ e.a.y
  pub b_from : (extent_of e 0).low ≤ℤ e.b.y
  pub a_to : e.a.y ≤ℤ (extent_of e 0).high
  pub b_to : e.b.y ≤ℤ (extent_of e 0).high

pub span : (e : CountedEdge) → IsSpan e
span e = let low = lesser_up_to e.a.y e.b.y in let high = greater_from e.a.y e.b.y in
    record { a_from = low.0; b_from = low.1; a_to = high.0; b_to = high.1 }

-- an edge whose heights are less than the other's is below it
below_where_under : (e f : CountedEdge) → IsUnder e f → IsBelow (ends_of e) (ends_of f)
below_where_under e f less =
    let of_e = span e in
    let of_f = span f in
    let ea = of_e.a_to in let eb = of_e.b_to in let fa = of_f.a_from in let fb = of_f.b_from in
    record { a_below_a = omega linear; a_below_b = omega linear; b_below_a = omega linear; b_below_b = omega linear }

-- edges at heights apart lie so
apart_where_under : (e f : CountedEdge) → IsUnder e f ⊎ IsUnder f e → AreApartInY (ends_of e) (ends_of f)
apart_where_under e f (inl under) = inl (below_where_under e f under)
apart_where_under e f (inr above) = inr (below_where_under f e above)

-- edges far from each other meet in ends alone
pub settled_where_far : (limit : ℕ) (e f : CountedEdge) → IsHeld limit e → IsHeld limit f → IsFar e f → AreSettled e f
settled_where_far limit e f e_held f_held (inl right) = starting_right limit e f e_held f_held right
settled_where_far limit e f e_held f_held (inr apart) = λ p common.
    absurd (apart_in_y_have_no_common (ends_of e) (ends_of f) p (apart_where_under e f apart) common)
