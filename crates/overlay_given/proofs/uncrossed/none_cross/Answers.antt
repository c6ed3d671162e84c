-- Each edge crosses no later edge.
use Rattle.std.proofs.Common.{◌≡◌, ⊎_elim, ◌<◌, ◌≤◌, length, sym, subst, arith}
use Rattle.std.proofs.Math.Nat.{eq-or-lt_of_le}
use Rattle.std.proofs.lemmas.List.{length-map}
use Rattle.overlay_order.specs.Content.{plain_edge, plain_edges}
use Rattle.overlay_given.specs.Uncrossed.{CrossesNoneBehind}
use Rattle.overlay_given.proofs.UncrossedEdges.{none_behind_settled, none_cross}
use Rattle.overlay_given.proofs.uncrossed.none_cross.Goals as goal

pub loop-i-init : goal.loop-i-init
loop-i-init g c =
    none_behind_settled g.I.IntNumber.limit
    (plain_edges g.I.IntNumber.whole g.C.EdgeCount.counts c.args.edges.now) c.requires.held c.args.from
    c.requires.settled

pub loop-i-preserved : goal.loop-i-preserved
loop-i-preserved g c =
    let es = plain_edges g.I.IntNumber.whole g.C.EdgeCount.counts c.args.edges.now in
    λ k less. ⊎_elim (λ (same : k ≡ c.loop-i.i). subst (CrossesNoneBehind es) (sym same)
    (c.in_ok-none.ensures.none c.if-not-none.false))
    (λ (before : k < c.loop-i.i). c.loop-i.invariant k before)
    (eq-or-lt_of_le (let le : k ≤ c.loop-i.i = omega (arith, less) in le))

pub returns-clause-none : goal.returns-clause-none
returns-clause-none g c =
    let plain = plain_edge g.I.IntNumber.whole g.C.EdgeCount.counts in
    let es = plain_edges g.I.IntNumber.whole g.C.EdgeCount.counts c.args.edges.now in
    let ended = c.loop-i-test.false in
    let up = c.loop-i.auto.i-end in
    λ is. none_cross g.I.IntNumber.limit es c.requires.held (length c.args.edges.now)
    (length-map c.args.edges.now plain)
    (λ k less. c.loop-i.invariant k (omega (arith, less, ended, up)))
