-- A contour reversed winds round each point as often back as it winds given.
use Rattle.std.proofs.Common.{◌≡◌, Bool, true, false, cond, not, ℤ, pos, negsuc, ◌+ℤ◌, neg_ℤ, List, [], ◌∷◌, ◌++◌}
use Rattle.std.proofs.Common.{append_assoc, refl, sym, ap, ◌∙◌}
use lib.IntN.{+ℤ_idr}
use Rattle.std.proofs.lemmas.List.{reverse-append}
use Rattle.std.specs.Prelude.{reverse}
use Rattle.overlay_geom.specs.Plane.{Point, PlanePoint, Step, point_eq, is_forward, is_strictly_below, reversed_step}
use Rattle.overlay_geom.specs.Plane.{steps_of, total, winding}
use Rattle.overlay_geom.proofs.Orders.{point_eq-same, point_eq-of_same}
use Rattle.overlay_geom.proofs.Signs.{linear}
use Rattle.overlay_plane.proofs.AlongLines.{winding_part}
use Rattle.overlay_plane.proofs.EdgesOfSteps.{edge_by}
use Rattle.overlay_plane.proofs.StepsAlong.{turns_round}
use Rattle.overlay_plane.proofs.StraightOn.{part_between, winding-around}
use Rattle.overlay_plane.proofs.Walks.{along, around, along-parts, around-rotated}
use Rattle.overlay_walk.proofs.OnceSorted.{differ_back}

module _ (f : Point → Point → ℤ) (back : (u v : Point) → f v u ≡ neg_ℤ (f u v)) where
  -- a walk back through points
  along-back : (u : Point) (xs : List Point) (w : Point) → along f w (reverse xs ++ u ∷ []) ≡ neg_ℤ
      (along f u (xs ++ w ∷ []))
  along-back u [] w = let turned = back u w in omega linear
  along-back u (x ∷ xs) w =
      let parts : along f w (reverse (x ∷ xs) ++ u ∷ []) ≡ along f w (reverse xs ++ x ∷ []) +ℤ (f x u +ℤ pos 0) =
      ap (λ l. along f w (l ++ u ∷ [])) (reverse-append (x ∷ []) xs)
      ∙ ap (along f w) (append_assoc (reverse xs) (x ∷ []) (u ∷ []))
      ∙ along-parts f w (reverse xs) x (u ∷ []) in
      let rest = along-back x xs w in
      let turned = back u x in
      omega linear

  -- and round a closed list
  around-back : (ps : List Point) → around f (reverse ps) ≡ neg_ℤ (around f ps)
  around-back [] = refl
  around-back (p ∷ ps) = ap (around f) (reverse-append (p ∷ []) ps) ∙ around-rotated f (p ∷ []) (reverse ps)
      ∙ along-back p ps p

module _ (p : PlanePoint) where
  -- what a step that leads forward, or back, adds to the winding
  abbrev part_by : Bool → Step → ℤ
  part_by t s = cond (is_strictly_below (edge_by t s) p) (cond t (pos 1) (negsuc 0)) (pos 0)

  -- the step back adds the opposite
  opposite_by : (t : Bool) (s : Step) → part_by (not t) (reversed_step s) ≡ neg_ℤ (part_by t s)
  opposite_by true s = by (is_strictly_below (edge_by true s) p)
    where
      by : (b : Bool) → cond b (negsuc 0) (pos 0) ≡ neg_ℤ (cond b (pos 1) (pos 0))
      by true = refl
      by false = refl
  opposite_by false s = by (is_strictly_below (edge_by false s) p)
    where
      by : (b : Bool) → cond b (pos 1) (pos 0) ≡ neg_ℤ (cond b (negsuc 0) (pos 0))
      by true = refl
      by false = refl

  -- and so what is between two points, there and back
  part-back : (u v : Point) → part_between p v u ≡ neg_ℤ (part_between p u v)
  part-back u v = by (point_eq u v) refl
    where
      by : (t : Bool) → point_eq u v ≡ t → part_between p v u ≡ neg_ℤ (part_between p u v)
      by true same =
          ap (λ t. total (winding_part p) (cond t [] (record { from = v; to = u } ∷ [])))
          (point_eq-of_same v u (sym (point_eq-same u v same)))
          ∙ sym (ap (λ t. neg_ℤ (total (winding_part p) (cond t [] (record { from = u; to = v } ∷ [])))) same)
      by false apart =
          ap (λ t. total (winding_part p) (cond t [] (record { from = v; to = u } ∷ []))) (differ_back u v apart)
          ∙ ap (λ t. part_by t (record { from = v; to = u }) +ℤ pos 0)
          (turns_round (record { from = u; to = v }) apart)
          ∙ +ℤ_idr (part_by (not (is_forward (record { from = u; to = v }))) (record { from = v; to = u }))
          ∙ opposite_by (is_forward (record { from = u; to = v })) (record { from = u; to = v })
          ∙ sym (ap neg_ℤ (+ℤ_idr (winding_part p (record { from = u; to = v }))))
          ∙ sym (ap (λ t. neg_ℤ (total (winding_part p) (cond t [] (record { from = u; to = v } ∷ [])))) apart)

  -- round a closed list
  pub winding-back : (ps : List Point) → winding (steps_of (reverse ps)) p ≡ neg_ℤ (winding (steps_of ps) p)
  winding-back ps = winding-around p (reverse ps) ∙ around-back (part_between p) part-back ps
      ∙ ap neg_ℤ (sym (winding-around p ps))
