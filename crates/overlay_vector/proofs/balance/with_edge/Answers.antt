-- The sums stay far from the ends of 64 bits.
use Rattle.std.proofs.Common.{cond, ℤ, pos, ◌+ℤ◌, ◌-ℤ◌, w32, ap, ◌∙◌}
use Rattle.std.proofs.lemmas.Int.{to_z-of_z}
use Rattle.overlay_geom.specs.Plane.{point_eq}
use Rattle.overlay_geom.specs.Points.{plain_point}
use Rattle.overlay_vector.proofs.Sums.{summed}
use Rattle.overlay_vector.proofs.balance.with_edge.Goals as goal

pub returns-clause-subj : goal.returns-clause-subj
returns-clause-subj g c =
    let at = plain_point g.I.IntNumber.whole in
    let edge = c.args.edge.now in
    let p = at c.args.point in
    let so_many : ℤ → ℤ = λ n. cond (point_eq (at edge.b) p) n (pos 0) -ℤ cond (point_eq (at edge.a) p) n (pos 0) in
    let count = to_z-of_z w32 c.subj.result (record { sfits = c.subj.type_inv }) ∙ c.subj.ensures in
    summed c.args.sums.subj c.along.result c.requires.subj c.along.ensures.small
    ∙ ap (λ z. c.args.sums.subj +ℤ z) (c.along.ensures.value ∙ ap so_many count)

pub returns-clause-clip : goal.returns-clause-clip
returns-clause-clip g c =
    let at = plain_point g.I.IntNumber.whole in
    let edge = c.args.edge.now in
    let p = at c.args.point in
    let so_many : ℤ → ℤ = λ n. cond (point_eq (at edge.b) p) n (pos 0) -ℤ cond (point_eq (at edge.a) p) n (pos 0) in
    let count = to_z-of_z w32 c.clip.result (record { sfits = c.clip.type_inv }) ∙ c.clip.ensures in
    summed c.args.sums.clip c.along-2.result c.requires.clip c.along-2.ensures.small
    ∙ ap (λ z. c.args.sums.clip +ℤ z) (c.along-2.ensures.value ∙ ap so_many count)
