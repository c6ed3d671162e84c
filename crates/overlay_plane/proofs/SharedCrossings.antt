-- Two edges across each other lead each other through one whole point. If an end of one lies on the other's line, it is
-- that point.
use Rattle.std.proofs.Common.{◌≡◌, ℤ, pos, nat_abs, ◌<ℤ◌, ◌∙◌, ap, ap₂}
use Rattle.overlay_geom.specs.Plane.{Point, Edge, cross_at}
use Rattle.overlay_geom.specs.Placed.{IsAcross}
use Rattle.overlay_geom.specs.Rounding.{nearest}
use Rattle.overlay_geom.proofs.Identities.{solve, number, ◌⊕◌, ◌⊗◌, ◌⊖◌, ◌≗◌}
use Rattle.overlay_geom.proofs.Rounded.{nearest-whole}
use Rattle.overlay_plane.specs.CutPoints.{part_way, to_line, across, crossing}
use Rattle.overlay_plane.proofs.CrossingPoints.{CrossAlike, cross_alike, part_way_across, whole_way_across}

-- the point in which e crosses f's line is that in which f crosses e's line
pub crossing_alike : (e f : Edge) → IsAcross e f → IsAcross f e → crossing e f ≡ crossing f e
crossing_alike e f forth back =
    let alike : CrossAlike e f = cross_alike e f forth back in
    at (ap₂ nearest alike.x alike.d) (ap₂ nearest alike.y alike.d)
  where
    at : {x z y w : ℤ} → x ≡ z → y ≡ w →
        (let p : Point = record { x = x; y = y } in let q : Point = record { x = z; y = w } in p ≡ q)
    at x_is y_is = ap₂ (λ x y. record { x = x; y = y }) x_is y_is

-- none of the way from u to v is u
none_of_the_way : (u v d : ℤ) → pos 0 <ℤ d → part_way u v (pos 0) d ≡ u
none_of_the_way u v d positive =
    ap (λ z. nearest z d) (solve 3 (λ u v d. u ⊗ d ⊕ (v ⊖ u) ⊗ number (pos 0) ≗ u ⊗ d) tt u v d)
    ∙ nearest-whole u d positive

-- and all of it is v
all_of_the_way : (u v d : ℤ) → pos 0 <ℤ d → part_way u v d d ≡ v
all_of_the_way u v d positive =
    ap (λ z. nearest z d) (solve 3 (λ u v d. u ⊗ d ⊕ (v ⊖ u) ⊗ d ≗ v ⊗ d) tt u v d)
    ∙ nearest-whole v d positive

-- where e begins on f's line, it crosses it there
pub crossing_at_start : (e f : Edge) → IsAcross f e → to_line e f ≡ pos 0 → crossing e f ≡ e.a
crossing_at_start e f across_f on_line =
    let positive = (part_way_across e f across_f).2 in
    ap₂ {C = Point} (λ x y. record { x = x; y = y })
    (ap (λ t. part_way e.a.x e.b.x t (across e f)) on_line ∙ none_of_the_way e.a.x e.b.x (across e f) positive)
    (ap (λ t. part_way e.a.y e.b.y t (across e f)) on_line ∙ none_of_the_way e.a.y e.b.y (across e f) positive)

-- and where e ends on f's line, there
pub crossing_at_end : (e f : Edge) → IsAcross f e → to_line e f ≡ across e f → crossing e f ≡ e.b
crossing_at_end e f across_f on_line =
    let positive = (part_way_across e f across_f).2 in
    ap₂ {C = Point} (λ x y. record { x = x; y = y })
    (ap (λ t. part_way e.a.x e.b.x t (across e f)) on_line ∙ all_of_the_way e.a.x e.b.x (across e f) positive)
    (ap (λ t. part_way e.a.y e.b.y t (across e f)) on_line ∙ all_of_the_way e.a.y e.b.y (across e f) positive)

-- where f begins on e's line, e crosses f's line there
pub crossing_at_other_start : (e f : Edge) → IsAcross e f → IsAcross f e → cross_at e.a e.b f.a ≡ pos 0 →
    crossing e f ≡ f.a
crossing_at_other_start e f forth back on_line =
    crossing_alike e f forth back ∙ crossing_at_start f e forth (ap (λ z. pos (nat_abs z)) on_line)

-- and where f ends on e's line, there
pub crossing_at_other_end : (e f : Edge) → IsAcross e f → IsAcross f e → cross_at e.a e.b f.b ≡ pos 0 →
    crossing e f ≡ f.b
crossing_at_other_end e f forth back on_line =
    crossing_alike e f forth back ∙ crossing_at_end f e forth (whole_way_across f e forth on_line)
