-- A point that is found the same as an end is that end.
use Rattle.std.proofs.Common.{inr, sym}
use Rattle.std.proofs.lemmas.Bool.Decides.{Decides-at}
use Rattle.overlay_geom.specs.Points.{plain_point}
use Rattle.overlay_geom.proofs.Orders.{Decides-point_eq}
use Rattle.overlay_pairs.proofs.fans.stays_at.Goals as goal

pub returns-else-is_same-clause-ends : goal.returns-else-is_same-clause-ends
returns-else-is_same-clause-ends g c = λ yes.
    let plain = plain_point g.I.IntNumber.whole in
    let tells = Decides-at _ _ c.is_same-else-is_same.ensures
    (Decides-point_eq (plain c.args.e.now.b) (plain c.args.v)) in
    inr (sym (tells.0 yes))
