-- The step has one edge, or none.
use Rattle.std.proofs.Common.{◌↔◌, IsTrue, All, refl, subst}
use Rattle.std.proofs.lemmas.List.Elements.{All-nil}
use Rattle.overlay_geom.specs.Resolved.{plain_edge}
use Rattle.overlay_geom.specs.Settled.{MeetInEnds}
use Rattle.overlay_geom.proofs.ResolvedSteps.{All-one}
use Rattle.overlay_geom.proofs.resolved.meets_step.Goals as goal

pub meet_in_ends-requires-clause-other : goal.meet_in_ends-requires-clause-other
meet_in_ends-requires-clause-other g c = (c.in-Some.ensures).long

pub returns-in-Some : goal.returns-in-Some
returns-in-Some g c =
    let plain = plain_edge g.I.IntNumber.whole in
    let P = MeetInEnds (plain c.args.e) in
    let one = All-one P (plain c.in-Some.f) in
    subst (λ es. IsTrue c.meet_in_ends.result ↔ All P es) (c.in-Some.ensures).edge
    (λ t. one.0 (c.meet_in_ends.ensures.0 t), λ all. c.meet_in_ends.ensures.1 (one.1 all))

pub returns-in-None : goal.returns-in-None
returns-in-None g c =
    let P = MeetInEnds (plain_edge g.I.IntNumber.whole c.args.e) in
    (λ t. subst (All P) (c.in-None.ensures).edge (All-nil P), λ all. refl)
