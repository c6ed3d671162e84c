-- The answer by the point held is the answer by all points seen.
use Rattle.std.proofs.Common.{◌≡◌, true, false, Some, [], ◌∷◌, ◌++◌, sym, ◌∙◌, subst, rules}
use Rattle.overlay_geom.specs.Plane.{Point}
use Rattle.overlay_geom.specs.Points.{plain_point}
use Rattle.overlay_walk.specs.Nearest.{HasSeen}
use Rattle.overlay_walk.proofs.NearestPoints.{is_nearer, nearer_of_all, seen_too}
use Rattle.overlay_walk.proofs.nearest.NearestVector.add.Goals as goal
use Rattle.overlay_walk.proofs.nearest.NearestVector.add.Goals.{in-None, in-Some}

pub returns-then-is_nearer : goal.returns-then-is_nearer
returns-then-is_nearer g c = record {
  nearer = nearer_of_all c.args.self.now p c.match-self.is_nearer answer;
  seen = λ seen h. subst (λ n. HasSeen (record n { nearest = Some p }) (seen ++ p ∷ [])) (sym c.self.view_is)
      (seen_too c.args.self.now p true (sym c.if-is_nearer.true ∙ answer) seen h);
  held = search rules steps 100000;
}
  where
    p : Point
    p = plain_point g.I.IntNumber.whole c.args.point

    answer : c.match-self.is_nearer ≡ is_nearer c.args.self.now p
    answer = elim c.match-self.branch [ in-None w ↦ search rules steps 100000 | in-Some w ↦ search rules steps 250000 ]

pub returns-else-is_nearer : goal.returns-else-is_nearer
returns-else-is_nearer g c = record {
  nearer = nearer_of_all c.args.self.now p c.match-self.is_nearer answer;
  seen = seen_too c.args.self.now p false (sym c.if-is_nearer.false ∙ answer);
  held = search rules steps 100000;
}
  where
    p : Point
    p = plain_point g.I.IntNumber.whole c.args.point

    answer : c.match-self.is_nearer ≡ is_nearer c.args.self.now p
    answer = elim c.match-self.branch [ in-None w ↦ search rules steps 100000 | in-Some w ↦ search rules steps 250000 ]
