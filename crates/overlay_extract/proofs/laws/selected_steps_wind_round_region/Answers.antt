-- An arrangement is a ruled list under each of the rules.
use Rattle.overlay_geom.specs.Edges.{subj_of, clip_of}
use Rattle.overlay_geom.specs.Rules.{rules_hold}
use Rattle.overlay_plane.proofs.SelectedWindings.{selected_steps_wind}
use Rattle.overlay_order.proofs.RuledContents.{ruled_content}
use Rattle.overlay_walk.specs.Steps.{filled_hand}
use Rattle.overlay_extract.proofs.laws.selected_steps_wind_round_region.Goals as goal

pub returns : goal.returns
returns c = λ q limit solver old new balanced arranged content p.
    selected_steps_wind (rules_hold q.fill q.rule) subj_of clip_of new
    (ruled_content limit new content arranged.reached.merged.ascending arranged.reached.settled
    (arranged.balanced balanced) q.fill q.rule)
    (filled_hand q.output_direction) p
