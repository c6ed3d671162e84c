-- The points are compared as whole points.
use Rattle.std.proofs.Common.{◌≡◌, ◌<◌, length, sym, ap, ◌∙◌, arith}
use Rattle.std.proofs.lemmas.List.{length-map}
use Rattle.overlay_geom.specs.Plane.{Step, point_eq}
use Rattle.overlay_geom.specs.Points.{plain_point}
use Rattle.overlay_geom.proofs.Mapped.{read_mapped}
use Rattle.overlay_geom.proofs.Orders.{point_eq-same}
use Rattle.overlay_plane.specs.Turn.{no_step}
use Rattle.overlay_walk.specs.Places.{step_at}
use Rattle.overlay_walk.specs.Steps.{plain_step, plain_steps}
use Rattle.overlay_extract.proofs.slicing.visits.leaves_at.Goals as goal

pub returns-clause-leaves : goal.returns-clause-leaves
returns-clause-leaves g c = λ same.
    let whole = g.I.IntNumber.whole in
    let path = c.args.path.now in
    let place = c.args.place in
    let v = plain_point whole c.args.point in
    let outside = c.if-place-path.false in
    let inside : place < length path = omega (arith, outside) in
    let is : c.is_same.result ≡ point_eq (step_at (plain_steps whole path) place).from v =
    c.is_same.ensures ∙ ap (λ t. point_eq (plain_step whole t).from v) (sym c.index-path-place.is)
    ∙ ap (λ (t : Step). point_eq t.from v) (sym (read_mapped (plain_step whole) path place c.index-path-place.result
    no_step inside c.index-path-place.is)) in
    (omega (arith, inside, length-map path (plain_step whole)), point_eq-same _ v (sym is ∙ same))

pub returns-clause-differs : goal.returns-clause-differs
returns-clause-differs g c = λ differs inside.
    let whole = g.I.IntNumber.whole in
    let path = c.args.path.now in
    let v = plain_point whole c.args.point in
    ap (λ (t : Step). point_eq t.from v) (read_mapped (plain_step whole) path c.args.place c.index-path-place.result
    no_step inside c.index-path-place.is) ∙ ap (λ t. point_eq (plain_step whole t).from v) c.index-path-place.is
    ∙ sym c.is_same.ensures ∙ differs
