-- Two collinear steps have the windings of the direct step, and a thinned closed list has those of the list before
-- thinning.
use Rattle.std.proofs.Common.{◌≡◌, ◌+◌, ◌-◌, ℤ, pos, ◌+ℤ◌, ◌-ℤ◌, neg_ℤ, ◌<ℤ◌, List, ◌++◌, length, refl, sym, ap₂, ◌∙◌}
use Rattle.std.specs.List.{remove}
use Rattle.overlay_geom.specs.Plane.{Point, PlanePoint, Edge, side, in_plane, cross_at, steps_between, steps_of}
use Rattle.overlay_geom.specs.Plane.{winding, total}
use Rattle.overlay_geom.specs.Thinned.{IsOnOneLine, thin, drop_one, point_round}
use Rattle.overlay_geom.proofs.Identities.{solve, number, ⊝◌, ◌≗◌}
use Rattle.overlay_geom.proofs.Cross.{crossE, cross_at_exchanged}
use Rattle.overlay_geom.proofs.Signs.{linear, by_sign}
use Rattle.overlay_plane.specs.Heights.{width}
use Rattle.overlay_plane.specs.Thinning.{StepsOnOneLineWindAlike, RotatingKeepsWindings, DroppingKeepsWindings}
use Rattle.overlay_plane.specs.Thinning.{ThinningKeepsWindings}
use Rattle.overlay_plane.proofs.AlongLines.{winding_part, IsOnLine, winding_part-on_line, winding_part-vertical}
use Rattle.overlay_plane.proofs.Dropping.{CountsAlike, around-remove}
use Rattle.overlay_plane.proofs.JoinedLists.{total-append}
use Rattle.overlay_plane.proofs.LineForms.{formE, side-start, side-end}
use Rattle.overlay_plane.proofs.Walks.{around, around-rotated, total-around}

-- the side of a third point from the edge between two others is the cross product of the three, but for its sign
side-ahead : (u v w : Point) → side (record { a = u; b = v }) (in_plane w) ≡ cross_at u v w
side-ahead u v w = solve 6 (λ ux uy vx vy wx wy. formE ux uy vx vy wx wy (number (pos 1)) ≗ crossE ux uy vx vy wx wy) tt
    u.x u.y v.x v.y w.x w.y

-- and from the edge the other way round it is the opposite
side-back : (u v w : Point) → side (record { a = v; b = u }) (in_plane w) ≡ neg_ℤ (cross_at u v w)
side-back u v w = solve 6 (λ ux uy vx vy wx wy. formE vx vy ux uy wx wy (number (pos 1)) ≗ ⊝ crossE ux uy vx vy wx wy)
    tt u.x u.y v.x v.y w.x w.y

module _ (p : PlanePoint) where
  -- the winding that the step from u to v, if there is one, adds at p
  abbrev pub part_between : Point → Point → ℤ
  part_between u v = total (winding_part p) (steps_between u v)

  -- points on the line of an edge that is not vertical
  alike_on_line : (e : Edge) → pos 0 <ℤ width e → (u v w : Point) → IsOnLine e u → IsOnLine e v → IsOnLine e w →
      CountsAlike part_between u v w
  alike_on_line e wide u v w on_u on_v on_w =
      let uv = winding_part-on_line e p wide u v on_u on_v in
      let vw = winding_part-on_line e p wide v w on_v on_w in
      let uw = winding_part-on_line e p wide u w on_u on_w in
      omega linear

  -- points with one x-coordinate
  alike_vertical : (u v w : Point) → u.x ≡ v.x → u.x ≡ w.x → CountsAlike part_between u v w
  alike_vertical u v w uv uw = ap₂ (λ a b. a +ℤ b) (winding_part-vertical p u v uv)
      (winding_part-vertical p v w (sym uv ∙ uw)) ∙ sym (winding_part-vertical p u w uw)

  -- three collinear points
  pub alike_on_one_line : (u v w : Point) → IsOnOneLine u v w → CountsAlike part_between u v w
  alike_on_one_line u v w straight = by_sign (v.x -ℤ u.x)
      (λ back. alike_on_line (record { a = v; b = u }) (omega linear) u v w (side-end (record { a = v; b = u }))
      (side-start (record { a = v; b = u })) (let s = side-back u v w in omega linear))
      (λ level. by_sign (w.x -ℤ u.x)
      (λ back. alike_on_line (record { a = w; b = u }) (omega linear) u v w (side-end (record { a = w; b = u }))
      (let s = side-back u w v in let c = cross_at_exchanged u v w in omega linear)
      (side-start (record { a = w; b = u })))
      (λ all. alike_vertical u v w (omega linear) (omega linear))
      (λ on. alike_on_line (record { a = u; b = w }) (omega linear) u v w (side-start (record { a = u; b = w }))
      (let s = side-ahead u w v in let c = cross_at_exchanged u v w in omega linear)
      (side-end (record { a = u; b = w }))))
      (λ on. alike_on_line (record { a = u; b = v }) (omega linear) u v w (side-start (record { a = u; b = v }))
      (side-end (record { a = u; b = v })) (side-ahead u v w ∙ straight))

  -- the winding of a closed list adds up round it
  pub winding-around : (ps : List Point) → winding (steps_of ps) p ≡ around part_between ps
  winding-around ps = total-around (winding_part p) part_between (λ u v. refl) ps

-- the law of two collinear steps
pub steps_on_one_line_wind_alike : StepsOnOneLineWindAlike
steps_on_one_line_wind_alike u v w straight p = total-append (winding_part p) (steps_between u v) (steps_between v w)
    ∙ alike_on_one_line p u v w straight

-- the law of a closed list begun elsewhere
pub rotating_keeps_windings : RotatingKeepsWindings
rotating_keeps_windings ps qs p = winding-around p (qs ++ ps) ∙ around-rotated (part_between p) ps qs
    ∙ sym (winding-around p (ps ++ qs))

-- the law of a point left out
pub dropping_keeps_windings : DroppingKeepsWindings
dropping_keeps_windings ps k within straight p = winding-around p (remove ps k)
    ∙ around-remove (part_between p) ps k within (alike_on_one_line p (point_round ps (k + length ps - 1))
    (point_round ps k) (point_round ps (k + 1)) straight)
    ∙ sym (winding-around p ps)

-- the law of a thinned list
pub thinning_keeps_windings : ThinningKeepsWindings
thinning_keeps_windings ps qs (thin none) p = refl
thinning_keeps_windings ps qs (drop_one k within straight rest) p = thinning_keeps_windings (remove ps k) qs rest p
    ∙ dropping_keeps_windings ps k within straight p
