-- The end of a flank.
use Rattle.std.proofs.Common.{◌≡◌, refl, sym, subst}
use Rattle.overlay_geom.specs.Points.{plain_point}
use Rattle.overlay_geom.specs.Resolved.{plain_edge}
use Rattle.overlay_sectors.specs.Sectors.{far_end}
use Rattle.overlay_sectors.proofs.near.far_end.Goals as goal

pub returns-in-Left : goal.returns-in-Left
returns-in-Left g c =
    let whole = g.I.IntNumber.whole in
    subst (λ h. plain_point whole c.args.ray.a ≡ far_end h (plain_edge whole c.args.ray)) (sym c.in-Left.is) refl

pub returns-in-Right : goal.returns-in-Right
returns-in-Right g c =
    let whole = g.I.IntNumber.whole in
    subst (λ h. plain_point whole c.args.ray.b ≡ far_end h (plain_edge whole c.args.ray)) (sym c.in-Right.is) refl
