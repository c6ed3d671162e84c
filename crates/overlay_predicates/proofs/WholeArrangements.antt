-- An arrangement of merged edges that meet in whole points alone keeps the points off the edges of the content.
use Rattle.std.proofs.Common.{List, ◌∙◌}
use Rattle.overlay_geom.specs.Edges.{CountedEdge}
use Rattle.overlay_geom.specs.Merged.{IsMerged}
use Rattle.overlay_geom.specs.declared.solver.Solver.{Solver}
use Rattle.overlay_plane.specs.GivenPredicates.{KeepsPointsOff}
use Rattle.overlay_plane.specs.Meetings.{MeetInWholePoints}
use Rattle.overlay_scaled.proofs.ExactArrangements.{merging_keeps_points_off}
use Rattle.overlay_graph.specs.Arranged.{IsArranged}
use Rattle.overlay_relate.proofs.GivenClosures.{kept}

-- one list after another
kept_on : (first second third : List CountedEdge) → KeepsPointsOff first second → KeepsPointsOff second third →
    KeepsPointsOff first third
kept_on first second third one two p off =
    let here = one p off in
    let there = two p here.off in
    record { off = there.off; subj = there.subj ∙ here.subj; clip = there.clip ∙ here.clip }

pub whole_kept : (solver : Solver) (given es new : List CountedEdge) → IsMerged given es → MeetInWholePoints es →
    IsArranged solver es new → KeepsPointsOff given new
whole_kept solver given es new merged whole arranged =
    kept_on given es new (merging_keeps_points_off given es merged) (kept solver es new arranged whole)
