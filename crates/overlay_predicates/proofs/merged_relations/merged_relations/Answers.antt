-- Merged edges that meet in ends alone are an arrangement of their own.
use Rattle.std.proofs.Common.{sym, subst}
use Rattle.overlay_geom.specs.Merged.{IsMerged}
use Rattle.overlay_geom.specs.Settled.{IsSettled}
use Rattle.overlay_plane.specs.Balance.{HasBalancedCounts}
use Rattle.overlay_plane.specs.Carried.{edges_in}
use Rattle.overlay_plane.specs.Meetings.{MeetInWholePoints}
use Rattle.overlay_scaled.proofs.ExactArrangements.{merging_keeps_points_off}
use Rattle.overlay_predicates.proofs.merged_relations.merged_relations.Goals as goal

pub settled_relations-requires-clause-settled : goal.settled_relations-requires-clause-settled
settled_relations-requires-clause-settled g c =
    subst IsSettled c.edges-edges.ensures.plain (c.in_ok-kind.ensures.ok.ends.0 c.in-InEnds.is)

pub returns-in-InEnds-clause-ok : goal.returns-in-InEnds-clause-ok
returns-in-InEnds-clause-ok g c = λ given merged.
    c.in_ok-settled_relations-in-InEnds.ensures.ok given
    (merging_keeps_points_off given (edges_in c.args.merged.now) merged)

pub whole_relations-requires-clause-whole : goal.whole_relations-requires-clause-whole
whole_relations-requires-clause-whole g c =
    subst MeetInWholePoints c.edges-edges.ensures.plain (c.in_ok-kind.ensures.ok.whole c.in-Uncrossed.is)

pub given_relations-requires-clause-balanced : goal.given_relations-requires-clause-balanced
given_relations-requires-clause-balanced g c =
    subst HasBalancedCounts (sym c.edges-edges.ensures.plain) c.requires.balanced

pub returns-clause-ok : goal.returns-clause-ok
returns-clause-ok g c = λ given merged.
    c.in_ok-given_relations.ensures.ok given (subst (IsMerged given) (sym c.edges-edges.ensures.plain) merged)
