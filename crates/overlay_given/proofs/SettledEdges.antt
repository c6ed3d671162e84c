-- Edges that meet in ends alone do not cross: the point in which edges cross is an end of neither.
use Rattle.std.proofs.Common.{◌≡◌, ◌⊎◌, inl, inr, true, false, pos, ◌<ℤ◌, refl, sym, ◌∙◌}
use Rattle.std.proofs.lemmas.Bool.{and_parts, false_from_ne_true}
use Rattle.std.proofs.lemmas.Bool.Decides.{Decides-and, Decides-or}
use Rattle.overlay_geom.specs.Placed.{IsAcross}
use Rattle.overlay_geom.specs.Plane.{Point, PlanePoint, Edge, IsAt, IsOn, cross_at}
use Rattle.overlay_geom.specs.Settled.{MeetInEnds}
use Rattle.overlay_geom.proofs.Comparisons.{Decides-int_lt}
use Rattle.overlay_geom.proofs.PointOrder.{IsBefore}
use Rattle.overlay_geom.proofs.Signs.{linear, zero_of_mul-zero}
use Rattle.overlay_plane.specs.CutPoints.{to_line, across}
use Rattle.overlay_plane.proofs.WholeOnEdges.{side_at}
use Rattle.overlay_exact.specs.Parts.{ShareOneAt}
use Rattle.overlay_exact.proofs.CrossingParts.{shares_at}
use Rattle.overlay_given.specs.Crossing.{cross, crosses_line}

-- the ends of f lie on different sides of the line of e
abbrev pub AreOpposite : Edge → Edge → Type 0
AreOpposite e f = ((pos 0 <ℤ cross_at e.a e.b f.a) × (cross_at e.a e.b f.b <ℤ pos 0))
    ⊎ ((cross_at e.a e.b f.a <ℤ pos 0) × (pos 0 <ℤ cross_at e.a e.b f.b))

pub opposite_of_test : (e f : Edge) → crosses_line e f ≡ true → AreOpposite e f
opposite_of_test e f =
    let s = cross_at e.a e.b f.a in
    let t = cross_at e.a e.b f.b in
    (Decides-or _ _ (Decides-and _ _ (Decides-int_lt (pos 0) s) (Decides-int_lt t (pos 0)))
    (Decides-and _ _ (Decides-int_lt s (pos 0)) (Decides-int_lt (pos 0) t))).0

-- so f goes across the line
across_of_opposite : (e f : Edge) → AreOpposite e f → IsAcross e f
across_of_opposite e f (inl (a, b)) = inr (omega linear, omega linear, omega linear)
across_of_opposite e f (inr (a, b)) = inl (omega linear, omega linear, omega linear)

-- an end of f is not on it
on_line : (e : Edge) (v : Point) (p : PlanePoint) → IsOn e p → IsAt v p → cross_at e.a e.b v ≡ pos 0
on_line e v p on at = zero_of_mul-zero p.d (cross_at e.a e.b v) p.positive (sym (side_at e v p at) ∙ on.on_line)

off_ends : (e f : Edge) → AreOpposite e f → (p : PlanePoint) → IsOn e p → IsAt f.a p ⊎ IsAt f.b p → ⊥
off_ends e f (inl (a, b)) p on (inl at) = let zero = on_line e f.a p on at in omega linear
off_ends e f (inl (a, b)) p on (inr at) = let zero = on_line e f.b p on at in omega linear
off_ends e f (inr (a, b)) p on (inl at) = let zero = on_line e f.a p on at in omega linear
off_ends e f (inr (a, b)) p on (inr at) = let zero = on_line e f.b p on at in omega linear

-- edges that cross meet elsewhere than in ends
crossing_unsettled : (e f : Edge) → IsBefore e.a e.b → IsBefore f.a f.b → cross e f ≡ true → ¬ (MeetInEnds e f)
crossing_unsettled e f e_before f_before test settled =
    let tests = and_parts (crosses_line e f) (crosses_line f e) test in
    let forth = opposite_of_test e f tests.0 in
    let back = opposite_of_test f e tests.1 in
    let shared : ShareOneAt e f (record { n = to_line e f; d = across e f }) =
    shares_at e f e_before f_before (across_of_opposite e f forth) (across_of_opposite f e back) (to_line e f)
    (across e f) refl refl in
    off_ends e f forth shared.point shared.common.0 (settled shared.point shared.common).1

pub settled_uncrossed : (e f : Edge) → IsBefore e.a e.b → IsBefore f.a f.b → MeetInEnds e f → cross e f ≡ false
settled_uncrossed e f e_before f_before settled =
    false_from_ne_true (cross e f) (λ test. crossing_unsettled e f e_before f_before test settled)
