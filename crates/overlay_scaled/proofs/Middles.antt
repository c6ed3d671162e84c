-- The midpoint of an edge is an inner point of it.
use Rattle.std.proofs.Common.{◌≡◌, inl, inr, ℤ, pos, ◌+ℤ◌, ◌*ℤ◌}
use Rattle.std.proofs.lemmas.Int.{by_lt_z}
use Rattle.overlay_geom.specs.Plane.{Edge, IsOn, IsEnd, midpoint, in_plane}
use Rattle.overlay_geom.proofs.AlongEdge.{on_of_order}
use Rattle.overlay_geom.proofs.Identities.{solve, number, ◌⊗◌, ◌≗◌}
use Rattle.overlay_geom.proofs.PointOrder.{IsBefore, before_is_other}
use Rattle.overlay_geom.proofs.Products.{doubled}
use Rattle.overlay_geom.proofs.Signs.{linear}
use Rattle.overlay_plane.specs.Rounds.{IsSmaller}
use Rattle.overlay_plane.proofs.LineForms.{side-midpoint}

times_one : (z : ℤ) → z *ℤ pos 1 ≡ z
times_one z = solve 1 (λ z. z ⊗ number (pos 1) ≗ z) tt z

module _ (e : Edge) (forward : IsBefore e.a e.b) where
  twice_ax : e.a.x *ℤ pos 2 ≡ e.a.x +ℤ e.a.x
  twice_ax = doubled e.a.x

  twice_ay : e.a.y *ℤ pos 2 ≡ e.a.y +ℤ e.a.y
  twice_ay = doubled e.a.y

  twice_bx : e.b.x *ℤ pos 2 ≡ e.b.x +ℤ e.b.x
  twice_bx = doubled e.b.x

  twice_by : e.b.y *ℤ pos 2 ≡ e.b.y +ℤ e.b.y
  twice_by = doubled e.b.y

  pub middle_on : IsOn e (midpoint e)
  middle_on = on_of_order e (midpoint e) forward (side-midpoint e)
      (record {
        x = let is = twice_ax in let le = forward.x in omega linear;
        y = λ back. let is = twice_ay in let same = twice_ax in
            let up = forward.y (omega linear) in omega linear;
      })
      (record {
        x = let is = twice_bx in let le = forward.x in omega linear;
        y = λ back. let is = twice_by in let same = twice_bx in
            let up = forward.y (omega linear) in omega linear;
      })

  pub middle_no_end : ¬ (IsEnd e (midpoint e))
  middle_no_end (inl (x, y)) = before_is_other e.a e.b forward (let is = twice_ax in omega linear)
      (let is = twice_ay in omega linear)
  middle_no_end (inr (x, y)) = before_is_other e.a e.b forward (let is = twice_bx in omega linear)
      (let is = twice_by in omega linear)

  -- it comes after the start, and before the end
  pub from_start : IsSmaller (in_plane e.a) (midpoint e)
  from_start = by_lt_z e.a.x e.b.x
      (λ less. inl (let is = twice_ax in let once = times_one (e.a.x +ℤ e.b.x) in omega linear))
      (λ ge. inr (
        let is = twice_ax in let once = times_one (e.a.x +ℤ e.b.x) in let le = forward.x in omega linear,
        let is = twice_ay in let once = times_one (e.a.y +ℤ e.b.y) in let less = forward.y ge in omega linear,
      ))

  pub to_end : IsSmaller (midpoint e) (in_plane e.b)
  to_end = by_lt_z e.a.x e.b.x
      (λ less. inl (let is = twice_bx in let once = times_one (e.a.x +ℤ e.b.x) in omega linear))
      (λ ge. inr (
        let is = twice_bx in let once = times_one (e.a.x +ℤ e.b.x) in let le = forward.x in omega linear,
        let is = twice_by in let once = times_one (e.a.y +ℤ e.b.y) in let less = forward.y ge in omega linear,
      ))
