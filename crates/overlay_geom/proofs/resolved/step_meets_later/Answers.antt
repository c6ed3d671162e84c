-- The step has one edge, or none.
use Rattle.std.proofs.Common.{◌↔◌, ◌++◌, ◌∷◌, [], IsTrue, All, refl, subst}
use Rattle.std.proofs.lemmas.List.Elements.{All-nil}
use Rattle.overlay_geom.specs.Plane.{Edge}
use Rattle.overlay_geom.specs.Points.{plain_point, plain_points}
use Rattle.overlay_geom.specs.Resolved.{plain_edge, edges_through}
use Rattle.overlay_geom.specs.Settled.{MeetInEnds}
use Rattle.overlay_geom.proofs.ResolvedSteps.{All-one}
use Rattle.overlay_geom.proofs.resolved.step_meets_later.Goals as goal

pub returns-in-Some : goal.returns-in-Some
returns-in-Some g c =
    let whole = g.I.IntNumber.whole in
    let es = edges_through (plain_point whole c.args.to)
    (plain_points whole c.args.later.now ++ plain_point whole c.args.last ∷ []) in
    let P = λ (e : Edge). All (MeetInEnds e) es in
    let one = All-one P (plain_edge whole c.in-Some.e) in
    subst (λ fs. IsTrue c.meets_steps.result ↔ All P fs) (c.in-Some.ensures).edge
    (λ t. one.0 (c.meets_steps.ensures.0 t), λ all. c.meets_steps.ensures.1 (one.1 all))

pub returns-in-None : goal.returns-in-None
returns-in-None g c =
    let whole = g.I.IntNumber.whole in
    let es = edges_through (plain_point whole c.args.to)
    (plain_points whole c.args.later.now ++ plain_point whole c.args.last ∷ []) in
    let P = λ (e : Edge). All (MeetInEnds e) es in
    (λ t. subst (All P) (c.in-None.ensures).edge (All-nil P), λ all. refl)
