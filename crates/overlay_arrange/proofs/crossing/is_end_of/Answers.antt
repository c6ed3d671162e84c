-- A point that is found the same as an end is that end.
use Rattle.std.proofs.Common.{inr, ⊎_elim}
use Rattle.std.proofs.lemmas.Bool.Decides.{Decides-at, not_from_Decides}
use Rattle.overlay_geom.specs.Points.{plain_point}
use Rattle.overlay_geom.proofs.Orders.{Decides-point_eq}
use Rattle.overlay_arrange.proofs.crossing.is_end_of.Goals as goal

pub returns-else-is_same : goal.returns-else-is_same
returns-else-is_same g c =
    let plain = plain_point g.I.IntNumber.whole in
    let v = plain c.args.v in
    let a = plain c.args.e.now.a in
    let b = plain c.args.e.now.b in
    let at_a = Decides-at _ _ c.is_same.ensures (Decides-point_eq v a) in
    let at_b = Decides-at _ _ c.is_same-else-is_same.ensures (Decides-point_eq v b) in (
      λ yes. inr (at_b.0 yes),
      λ end. ⊎_elim (λ is. absurd (not_from_Decides _ at_a c.if-is_same.false is)) (λ is. at_b.1 is) end,
    )
