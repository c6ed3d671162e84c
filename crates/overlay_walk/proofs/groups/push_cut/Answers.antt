-- A group that visits no point twice is its one walk.
use Rattle.std.proofs.Common.{[], ◌∷◌, subst, rules}
use Rattle.std.specs.Prelude.{IsTrue}
use Rattle.overlay_geom.specs.Plane.{points_of}
use Rattle.overlay_plane.specs.Groups.{HasEachPointOnce}
use Rattle.overlay_walk.specs.Steps.{plain_hand, plain_steps}
use Rattle.overlay_walk.proofs.OwnOrbits.{own_cut}
use Rattle.overlay_walk.proofs.groups.push_cut.Goals as goal

pub returns-then-is_simple : goal.returns-then-is_simple
returns-then-is_simple g c =
    let whole = g.I.IntNumber.whole in
    let is_told : IsTrue c.in_ok-is_simple.is_simple = search rules in
    let once = subst (λ ss. HasEachPointOnce (points_of (plain_steps whole ss))) c.deref.ensures.value
    (c.in_ok-is_simple.ensures.ok.0 is_told) in
    record {
      added = record {
        walks = plain_steps whole c.args.group.items ∷ [];
        cut = own_cut (plain_steps whole c.args.group.items) c.requires.own once (plain_hand c.args.hand);
        adds = c.in_ok-is_kept.ensures.pushed;
      };
    }
