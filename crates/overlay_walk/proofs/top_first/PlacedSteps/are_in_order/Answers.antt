-- One place more is in order with the place before it.
use Rattle.std.proofs.Common.{◌≡◌, ⊎_elim, ℕ, ◌+◌, ◌<◌, false, length, slice_index_or, sym, ap, ◌∙◌, subst, arith}
use Rattle.std.proofs.lemmas.Bool.{cases_lt}
use Rattle.std.proofs.lemmas.List.{get_or_default}
use Rattle.overlay_geom.specs.Plane.{edge_of}
use Rattle.overlay_geom.specs.Resolved.{plain_edge}
use Rattle.overlay_walk.specs.Places.{comes_top_first}
use Rattle.overlay_walk.specs.Steps.{plain_step, plain_steps}
use Rattle.overlay_walk.proofs.top_first.PlacedSteps.are_in_order.Goals as goal

pub loop-i-preserved : goal.loop-i-preserved
loop-i-preserved g c =
    let whole = g.I.IntNumber.whole in
    let ss = plain_steps whole c.args.self.now.steps.now in
    let behind = plain_step whole c.args.self.now.behind in
    let places = c.args.places.now in
    let i = c.loop-i.i in
    let edge = plain_edge whole c.stepped_edge-edge.result in
    let last = plain_edge whole c.loop-i.last in
    let edge_at = λ (k : ℕ). edge_of (slice_index_or ss k behind) in
    let within : i < length places = omega (arith, c.loop-i-test.true) in
    let here = λ (d : ℕ).
    c.stepped_edge-edge.ensures.edge ∙ ap edge_of c.step_at-in-loop-i.ensures.is
    ∙ ap edge_at (get_or_default places i 0 d within) in (
      c.stepped_edge-edge.ensures.long,
      λ k d at. here d ∙ ap (λ n. edge_at (slice_index_or places n d)) (let same : i ≡ k = omega (arith, at) in same),
      λ k d from below. ⊎_elim
          (λ earlier. c.loop-i.invariant.2 k d from earlier)
          (λ late. let at : k + 1 ≡ i = omega (arith, late, below) in
          subst (λ e. comes_top_first e (edge_at (slice_index_or places k d)) ≡ false)
          (here d ∙ ap (λ n. edge_at (slice_index_or places n d)) (sym at))
          (subst (λ e. comes_top_first edge e ≡ false) (c.loop-i.invariant.1 k d at)
          (sym c.comes_before.ensures ∙ c.if-comes_before.false)))
          (cases_lt (k + 1) i),
    )
