-- A closed contour winds round each point as it does with its neighbours joined.
use Rattle.std.proofs.Common.{◌≡◌, Bool, true, false, cond, ℤ, pos, negsuc, ◌+ℤ◌, List, [], ◌∷◌, ◌++◌, map, refl, sym}
use Rattle.std.proofs.Common.{ap}
use Rattle.std.proofs.Common.{◌∙◌, subst}
use Rattle.std.proofs.lemmas.List.{map-append}
use lib.IntN.{+ℤ_idr}
use Rattle.overlay_geom.specs.Plane.{Point, PlanePoint, point_eq, point_lt, is_strictly_below}
use Rattle.overlay_geom.specs.Plane.{total}
use Rattle.overlay_geom.proofs.Orders.{point_eq-same}
use Rattle.overlay_geom.proofs.Signs.{linear}
use Rattle.overlay_plane.proofs.AlongLines.{winding_part, vertical_below}
use Rattle.overlay_plane.proofs.JoinedLists.{total-append}
use Rattle.overlay_plane.proofs.StraightOn.{alike_on_one_line, part_between}
use Rattle.overlay_vector.specs.DataVectors.{DataVector}
use Rattle.overlay_vector.specs.Joining.{AreJoinable, joined, Becomes, stays, begins_later, joins}
use Rattle.overlay_vector.specs.VectorShapes.{step_along}

module _ (p : PlanePoint) where
  -- a step to where it begins winds round nothing
  part_of_none : (u : Point) → winding_part p (record { from = u; to = u }) ≡ pos 0
  part_of_none u = by (point_lt u u)
    where
      by : (t : Bool) → cond (is_strictly_below (cond t (record { a = u; b = u }) (record { a = u; b = u })) p)
          (cond t (pos 1) (negsuc 0)) (pos 0) ≡ pos 0
      by true = ap (λ t. cond t (pos 1) (pos 0)) (vertical_below p u u refl)
      by false = ap (λ t. cond t (negsuc 0) (pos 0)) (vertical_below p u u refl)

  -- what a step adds, even where it leads nowhere
  part_of_step : (u v : Point) → part_between p u v ≡ winding_part p (record { from = u; to = v })
  part_of_step u v = by (point_eq u v) refl
    where
      by : (t : Bool) → point_eq u v ≡ t →
          total (winding_part p) (cond t [] (record { from = u; to = v } ∷ []))
          ≡ winding_part p (record { from = u; to = v })
      by true same = sym (subst (λ (w : Point). winding_part p (record { from = u; to = w }) ≡ pos 0)
          (point_eq-same u v same) (part_of_none u))
      by false apart = +ℤ_idr (winding_part p (record { from = u; to = v }))

  module _ {D : Type 0} (eq : D → D → Bool) where
    -- what an edge adds to the winding, and what the edges of a list add
    abbrev part : DataVector D → ℤ
    part v = winding_part p (step_along v)

    abbrev pub winding_along : List (DataVector D) → ℤ
    winding_along vs = total (winding_part p) (map step_along vs)

    -- two edges that can be joined add what the joined one does
    part_joined : (v w : DataVector D) → AreJoinable eq v w → part v +ℤ part w ≡ part (joined v w)
    part_joined v w can =
        ap (λ z. z +ℤ part w) (sym (part_of_step v.a v.b))
        ∙ ap (λ z. part_between p v.a v.b +ℤ z) (ap (λ (u : Point). winding_part p (record { from = u; to = w.b }))
        can.follows ∙ sym (part_of_step v.b w.b))
        ∙ alike_on_one_line p v.a v.b w.b can.straight
        ∙ part_of_step v.a w.b

    pub becomes_winds : (vs ws : List (DataVector D)) → Becomes eq vs ws → winding_along ws ≡ winding_along vs
    becomes_winds vs ws stays = refl
    becomes_winds (v ∷ vs) ws (begins_later rest) =
        let later = becomes_winds (vs ++ v ∷ []) ws rest in
        let parted = ap (total (winding_part p)) (map-append step_along vs (v ∷ []))
        ∙ total-append (winding_part p) (map step_along vs) (step_along v ∷ []) in
        omega linear
    becomes_winds (v ∷ w ∷ vs) ws (joins can rest) =
        let later = becomes_winds (joined v w ∷ vs) ws rest in
        let one = part_joined v w can in
        omega linear
