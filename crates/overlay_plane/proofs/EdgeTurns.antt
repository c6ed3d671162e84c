-- The turn from a forward edge to another: possible signs of the turns between three edges. Edges with no turn between
-- them lead in one direction.
use Rattle.std.proofs.Common.{◌≡◌, true, false, ℤ, pos, ◌+ℤ◌, ◌-ℤ◌, ◌*ℤ◌, neg_ℤ, ◌<ℤ◌, ◌≤ℤ◌}
use Rattle.std.proofs.lemmas.Int.{by_lt_z}
use lib.IntN.{*ℤ_comm}
use Rattle.overlay_geom.specs.Plane.{Edge, point_lt}
use Rattle.overlay_geom.proofs.Identities.{solve, number, ◌⊕◌, ◌⊗◌, ◌⊖◌, ⊝◌, ◌≗◌}
use Rattle.overlay_geom.proofs.Signs.{linear, by_sign, mul-pos, mul-zero, mul-nonneg, pos_of_mul-pos}
use Rattle.overlay_plane.specs.Heights.{width}
use Rattle.overlay_plane.specs.Nodes.{edge_turn, turns_left}
use Rattle.overlay_plane.proofs.Strip.{starts_first}
use Rattle.overlay_plane.proofs.Turning.{square_nonneg}
use Rattle.overlay_plane.proofs.NodeStarts.{rises_upright}
use Rattle.overlay_plane.proofs.Tests.{lt_from_test, ge_from_test, test_from_lt}

-- how far the edge rises
abbrev pub rise : Edge → ℤ
rise e = e.b.y -ℤ e.a.y

-- the inner product of the ways along two edges
abbrev pub edge_dot : Edge → Edge → ℤ
edge_dot e f = width e *ℤ width f +ℤ rise e *ℤ rise f

-- the edge leads from its smaller end to its larger
abbrev pub IsForward : Edge → Type 0
IsForward e = point_lt e.a e.b ≡ true

-- exchanging two edges changes the sign of their turn
pub edge_turn_exchanged : (e f : Edge) → edge_turn e f ≡ neg_ℤ (edge_turn f e)
edge_turn_exchanged e f = solve 4 (λ we re wf rf. we ⊗ rf ⊖ re ⊗ wf ≗ ⊝ (wf ⊗ re ⊖ rf ⊗ we)) tt (width e) (rise e)
    (width f) (rise f)

-- from an edge to itself there is no turn
pub edge_turn_same : (e : Edge) → edge_turn e e ≡ pos 0
edge_turn_same e = solve 2 (λ we re. we ⊗ re ⊖ re ⊗ we ≗ number (pos 0)) tt (width e) (rise e)

-- the turns of three edges, weighted by widths, and by rises
turns_by_width : (e f g : Edge) → width f *ℤ edge_turn e g ≡ width g *ℤ edge_turn e f +ℤ width e *ℤ edge_turn f g
turns_by_width e f g = solve 6 (λ we re wf rf wg rg. wf ⊗ (we ⊗ rg ⊖ re ⊗ wg) ≗ wg ⊗ (we ⊗ rf ⊖ re ⊗ wf) ⊕ we ⊗
    (wf ⊗ rg ⊖ rf ⊗ wg)) tt (width e) (rise e) (width f) (rise f) (width g) (rise g)

turns_by_rise : (e f g : Edge) → rise f *ℤ edge_turn e g ≡ rise g *ℤ edge_turn e f +ℤ rise e *ℤ edge_turn f g
turns_by_rise e f g = solve 6 (λ we re wf rf wg rg. rf ⊗ (we ⊗ rg ⊖ re ⊗ wg) ≗ rg ⊗ (we ⊗ rf ⊖ re ⊗ wf) ⊕ re ⊗
    (wf ⊗ rg ⊖ rf ⊗ wg)) tt (width e) (rise e) (width f) (rise f) (width g) (rise g)

-- a forward edge has no width below 0
pub not_narrower : (e : Edge) → IsForward e → pos 0 ≤ℤ width e
not_narrower e forward = let first = starts_first e forward in omega linear

-- an edge is not vertical if another edge leads to its left
pub wide_before_left : (e f : Edge) → IsForward e → IsForward f → pos 0 <ℤ edge_turn e f → pos 0 <ℤ width e
wide_before_left e f forward_e forward_f left = by_lt_z (pos 0) (width e) (λ lt. lt) (λ ge. absurd (against ge))
  where
    against : width e ≤ℤ pos 0 → ⊥
    against narrow =
        let n = not_narrower e forward_e in
        let m = not_narrower f forward_f in
        let up = rises_upright e forward_e narrow in
        let low = mul-nonneg (rise e) (width f) (omega linear) m in
        let none = mul-zero (rise f) (width e) (omega linear) in
        let exchanged = *ℤ_comm (rise f) (width e) in
        omega linear

-- turns to the left add up
pub left_after_left : (e f g : Edge) → IsForward e → IsForward f → IsForward g → pos 0 <ℤ edge_turn e f →
    pos 0 <ℤ edge_turn f g → pos 0 <ℤ edge_turn e g
left_after_left e f g forward_e forward_f forward_g ef fg =
    let first = mul-nonneg (width g) (edge_turn e f) (not_narrower g forward_g) (omega linear) in
    let second = mul-pos (width e) (edge_turn f g) (wide_before_left e f forward_e forward_f ef) fg in
    let sum = turns_by_width e f g in
    pos_of_mul-pos (width f) (edge_turn e g) (wide_before_left f g forward_f forward_g fg) (omega linear)

-- edges without a turn between them are both vertical, or neither is
pub both_wide : (e f : Edge) → IsForward e → IsForward f → edge_turn e f ≡ pos 0 → pos 0 <ℤ width f → pos 0 <ℤ width e
both_wide e f forward_e forward_f level wide = by_lt_z (pos 0) (width e) (λ lt. lt) (λ ge. absurd (against ge))
  where
    against : width e ≤ℤ pos 0 → ⊥
    against narrow =
        let n = not_narrower e forward_e in
        let high = mul-pos (rise e) (width f) (rises_upright e forward_e narrow) wide in
        let none = mul-zero (rise f) (width e) (omega linear) in
        let exchanged = *ℤ_comm (rise f) (width e) in
        omega linear

-- they lead one way
pub level_ahead : (e f : Edge) → IsForward e → IsForward f → edge_turn e f ≡ pos 0 → pos 0 <ℤ edge_dot e f
level_ahead e f forward_e forward_f level = by_lt_z (pos 0) (width e) wide upright
  where
    back : edge_turn f e ≡ pos 0
    back = let opposite = edge_turn_exchanged f e in omega linear

    wide : pos 0 <ℤ width e → pos 0 <ℤ edge_dot e f
    wide w =
        let wf = both_wide f e forward_f forward_e back w in
        let square = mul-pos (width e) (width e) w w in
        let rises = square_nonneg (rise e) in
        let product = mul-pos (width f) (width e *ℤ width e +ℤ rise e *ℤ rise e) wf (omega linear) in
        let i = framed in
        let none = mul-zero (rise e) (edge_turn e f) level in
        pos_of_mul-pos (width e) (edge_dot e f) w (omega linear)
      where
        framed : width e *ℤ edge_dot e f ≡ width f *ℤ (width e *ℤ width e +ℤ rise e *ℤ rise e) +ℤ rise e *ℤ edge_turn e
            f
        framed = solve 4 (λ we re wf rf. we ⊗ (we ⊗ wf ⊕ re ⊗ rf) ≗ wf ⊗ (we ⊗ we ⊕ re ⊗ re) ⊕ re ⊗ (we ⊗ rf ⊖ re ⊗ wf))
            tt (width e) (rise e) (width f) (rise f)

    upright : width e ≤ℤ pos 0 → pos 0 <ℤ edge_dot e f
    upright narrow =
        let narrow_f : width f ≤ℤ pos 0 = by_lt_z (pos 0) (width f)
        (λ w. let we = both_wide e f forward_e forward_f level w in absurd (omega linear)) (λ ge. ge) in
        let n = not_narrower e forward_e in
        let m = not_narrower f forward_f in
        let none = mul-zero (width e) (width f) (omega linear) in
        let high = mul-pos (rise e) (rise f) (rises_upright e forward_e narrow) (rises_upright f forward_f narrow_f) in
        omega linear

-- an edge leads to the left of one as of another, where there is no turn between these two
pub left_of_level : (e f g : Edge) → IsForward e → IsForward f → IsForward g → edge_turn e f ≡ pos 0 →
    pos 0 <ℤ edge_turn f g → pos 0 <ℤ edge_turn e g
left_of_level e f g forward_e forward_f forward_g level fg =
    let wide = wide_before_left f g forward_f forward_g fg in
    let sum = turns_by_width e f g in
    let none = mul-zero (width g) (edge_turn e f) level in
    let high = mul-pos (width e) (edge_turn f g) (both_wide e f forward_e forward_f level wide) fg in
    pos_of_mul-pos (width f) (edge_turn e g) wide (omega linear)

-- an edge leads to the left of e as another edge does, if there is no turn between these two
pub left_to_level : (e f g : Edge) → IsForward e → IsForward f → IsForward g → pos 0 <ℤ edge_turn e f →
    edge_turn f g ≡ pos 0 → pos 0 <ℤ edge_turn e g
left_to_level e f g forward_e forward_f forward_g ef level = by_lt_z (pos 0) (width f) wide upright
  where
    wide : pos 0 <ℤ width f → pos 0 <ℤ edge_turn e g
    wide w =
        let wg = both_wide g f forward_g forward_f (let opposite = edge_turn_exchanged g f in omega linear) w in
        let sum = turns_by_width e f g in
        let none = mul-zero (width e) (edge_turn f g) level in
        let high = mul-pos (width g) (edge_turn e f) wg ef in
        pos_of_mul-pos (width f) (edge_turn e g) w (omega linear)

    upright : width f ≤ℤ pos 0 → pos 0 <ℤ edge_turn e g
    upright narrow =
        let narrow_g : width g ≤ℤ pos 0 = by_lt_z (pos 0) (width g)
        (λ w. let wf = both_wide f g forward_f forward_g level w in absurd (omega linear)) (λ ge. ge) in
        let sum = turns_by_rise e f g in
        let none = mul-zero (rise e) (edge_turn f g) level in
        let high = mul-pos (rise g) (edge_turn e f) (rises_upright g forward_g narrow_g) ef in
        pos_of_mul-pos (rise f) (edge_turn e g) (rises_upright f forward_f narrow) (omega linear)

-- where there is no turn from e to f and none from f to g, there is none from e to g
pub level_after_level : (e f g : Edge) → IsForward e → IsForward f → IsForward g → edge_turn e f ≡ pos 0 →
    edge_turn f g ≡ pos 0 → edge_turn e g ≡ pos 0
level_after_level e f g forward_e forward_f forward_g ef fg = by_sign (edge_turn e g)
    (λ low. absurd (let opposite = edge_turn_exchanged e g in
    let more = left_to_level g e f forward_g forward_e forward_f (omega linear) ef in
    let back = edge_turn_exchanged f g in omega linear))
    (λ level. level)
    (λ high. absurd (let more = left_of_level f e g forward_f forward_e forward_g
    (let opposite = edge_turn_exchanged e f in omega linear) high in omega linear))

-- an edge to the left of an edge is to the left of all that are not
pub left_of_not_left : (e f g : Edge) → IsForward e → IsForward f → IsForward g → turns_left f e ≡ false →
    turns_left f g ≡ true → turns_left e g ≡ true
left_of_not_left e f g forward_e forward_f forward_g lowest left =
    let high = lt_from_test (pos 0) (edge_turn f g) left in
    let low = ge_from_test (pos 0) (edge_turn f e) lowest in
    let back = edge_turn_exchanged e f in
    test_from_lt (pos 0) (edge_turn e g)
    (by_lt_z (pos 0) (edge_turn e f) (λ lt. left_after_left e f g forward_e forward_f forward_g lt high)
    (λ ge. left_of_level e f g forward_e forward_f forward_g (omega linear) high))
