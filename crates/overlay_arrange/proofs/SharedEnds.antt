-- Edges that share an end, and do not lie on one line, meet in ends alone.
use Rattle.std.proofs.Common.{◌≡◌, inl, inr, true, pos}
use Rattle.std.proofs.lemmas.Int.{by_lt_z}
use Rattle.overlay_geom.specs.Plane.{Edge, cross_at}
use Rattle.overlay_geom.specs.Placed.{share_end, IsAcross, IsAlong, IsBeside}
use Rattle.overlay_geom.specs.Settled.{MeetInEnds}
use Rattle.overlay_geom.proofs.Beside.{beside_meet_in_ends}
use Rattle.overlay_geom.proofs.Meeting.{across_decides, across_not_along}
use Rattle.overlay_geom.proofs.OneLine.{meet_in_ends_exchanged}
use Rattle.overlay_geom.proofs.PointOrder.{IsBefore}
use Rattle.overlay_geom.proofs.Signs.{linear}

-- f lies along e's line, beside it or across it
by_place : (e f : Edge) (R : Type 0) → (IsAlong e f → R) → (IsBeside e f → R) → (IsAcross e f → R) → R
by_place e f R along beside across =
    let x = cross_at e.a e.b f.a in
    let y = cross_at e.a e.b f.b in
    by_lt_z x (pos 0)
    (λ x_right. by_lt_z y (pos 0) (λ y_right. beside (inr (x_right, y_right)))
    (λ y_left. across (inl (omega linear, y_left, omega linear))))
    (λ x_left. by_lt_z (pos 0) x
    (λ x_off. by_lt_z (pos 0) y (λ y_off. beside (inl (x_off, y_off)))
    (λ y_right. across (inr (y_right, x_left, omega linear))))
    (λ x_right. by_lt_z (pos 0) y (λ y_off. across (inl (x_right, omega linear, omega linear)))
    (λ y_right. by_lt_z y (pos 0) (λ y_off. across (inr (y_right, x_left, omega linear)))
    (λ y_left. along (omega linear, omega linear)))))

-- where f goes across e's line
pub settled_where_shared : (e f : Edge) → IsBefore e.a e.b → IsBefore f.a f.b → IsAcross e f →
    share_end e f ≡ true → MeetInEnds e f
settled_where_shared e f e_forward f_forward across shared = by_place f e (MeetInEnds e f)
    (λ along. absurd (across_not_along e f f_forward across along))
    (λ beside. meet_in_ends_exchanged e f (beside_meet_in_ends f e e_forward beside))
    (λ back. (across_decides e f across back).0 shared)
