-- Each case of the places is decided by a lemma of the plane.
use Rattle.std.proofs.Common.{not, refl, ap}
use Rattle.std.proofs.lemmas.Bool.Decides.{Decides-at}
use Rattle.overlay_geom.proofs.PointOrder.{Decides-point_lt}
use Rattle.overlay_geom.proofs.OneLine.{meet_in_ends_exchanged}
use Rattle.overlay_geom.proofs.Beside.{beside_meet_in_ends}
use Rattle.overlay_geom.proofs.Meeting.{along_decides, across_decides}
use Rattle.overlay_geom.proofs.Places.{across_where_not_beside}
use Rattle.overlay_geom.proofs.edge_pair.meet_in_ends.Goals as goal
use Rattle.overlay_geom.proofs.edge_pair.meet_in_ends.Goals.{in-Beside-matches, in_default}

pub returns-in-Along : goal.returns-in-Along
returns-in-Along g c = Decides-at _ _ (ap not c.overlaps.ensures)
    (along_decides _ _ ((Decides-point_lt _ _).0 c.requires.one.forward)
    ((Decides-point_lt _ _).0 c.requires.other.forward) (c.in-Along.ensures))

pub returns-in-Beside : goal.returns-in-Beside
returns-in-Beside g c = (
  λ _. beside_meet_in_ends _ _ ((Decides-point_lt _ _).0 c.requires.other.forward) (c.in-Beside.ensures),
  λ _. refl,
)

pub returns-then-matches : goal.returns-then-matches
returns-then-matches g c = elim c.match-matches.branch [
  | in-Beside-matches w ↦ (
    λ _. meet_in_ends_exchanged _ _
        (beside_meet_in_ends _ _ ((Decides-point_lt _ _).0 c.requires.one.forward) w.in-Beside-matches.ensures),
    λ _. c.if-matches.true,
  )
  | in_default w ↦ absurd (cc (w.matches-is, c.if-matches.true))
]

pub returns-else-matches : goal.returns-else-matches
returns-else-matches g c = elim c.match-matches.branch [
  | in-Beside-matches w ↦ absurd (cc (w.matches-is, c.if-matches.false))
  | in_default w ↦ Decides-at _ _ c.shares_end.ensures
      (across_decides _ _ c.in-Across.ensures
      (across_where_not_beside _ _ _ ((Decides-point_lt _ _).0 c.requires.other.forward) c.in-Across.ensures
      c.place_by-in-Across.ensures w.in_default.not-Beside))
]
