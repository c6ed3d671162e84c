-- The walks that pass the test are added where the first does.
use Rattle.std.proofs.Common.{Bool, List, ◌++◌, sym, ap, ◌∙◌}
use Rattle.overlay_geom.specs.Plane.{Step}
use Rattle.overlay_geom.proofs.Mapped.{map-filter}
use Rattle.overlay_plane.specs.MinimumArea.{reaches}
use Rattle.overlay_walk.specs.GroupedContours.{plain_contours, first_reaches, contours_of_group}
use Rattle.overlay_walk.specs.Steps.{plain_steps}
use Rattle.overlay_walk.specs.Walks.{plain_walks}
use Rattle.overlay_walk.proofs.GroupContours.{group_kept}
use Rattle.overlay_walk.proofs.group_contours.push_group.Goals as goal

pub returns-in_ok-push_walks : goal.returns-in_ok-push_walks
returns-in_ok-push_walks g c =
    let whole = g.I.IntNumber.whole in
    let keeps : List Step → Bool = λ w. reaches g.I.Wide.WideIntNumber.width
    (g.I.WideUInt.UIntNumber.natural c.args.min_output_area) w in
    let walks = c.args.walks.items in
    let n = c.args.number in
    let told = c.first_reaches-is_kept.ensures
    ∙ ap (λ ws. first_reaches keeps (plain_walks whole ws)) c.deref.ensures.value in
    record {
      pushed = record {
        told = told;
        added = c.in_ok-push_walks.ensures.pushed
            ∙ ap (λ cs. plain_contours whole c.args.contours.now.items ++ cs)
            (ap (contours_of_group n) (ap (plain_walks whole) c.in_ok-large.ensures.ok
            ∙ map-filter (λ (w : _). plain_steps whole w.items) keeps walks)
            ∙ group_kept keeps n (plain_walks whole walks) (sym told ∙ c.if-is_kept.true));
      };
    }
