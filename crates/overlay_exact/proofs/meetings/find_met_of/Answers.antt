-- Each edge before the one asked for is passed in its turn.
use Rattle.std.proofs.Common.{◌≡◌, ◌+◌, ◌∷◌, [], map, sym, ap, ◌∙◌, subst, arith}
use Rattle.std.proofs.lemmas.List.{map-append}
use Rattle.overlay_order.specs.Content.{plain_edge, plain_edges}
use Rattle.overlay_pairs.proofs.Entries.{placed_in_mapped}
use Rattle.overlay_exact.specs.Passed.{plain_passed, ArePassed}
use Rattle.overlay_exact.proofs.PassedEdges.{passed_none, passed_more}
use Rattle.overlay_exact.proofs.meetings.find_met_of.Goals as goal

pub loop-place-init : goal.loop-place-init
loop-place-init g c = λ x.
    let whole = g.I.IntNumber.whole in
    let es = plain_edges whole g.C.EdgeCount.counts c.args.edges.now in
    subst (λ ps. ArePassed es 0 x (map (plain_passed whole) ps)) (sym c.new-passed.ensures.items) (passed_none es x)

pub loop-place-preserved : goal.loop-place-preserved
loop-place-preserved g c = λ x.
    let whole = g.I.IntNumber.whole in
    let plain = plain_edge whole g.C.EdgeCount.counts in
    let es = plain_edges whole g.C.EdgeCount.counts c.args.edges.now in
    let i = c.loop-place.place in
    let edge = c.index-edges-place.result in
    let within = c.loop-place-test.true in
    let less = c.requires.within in
    let here = placed_in_mapped plain c.args.edges.now i edge (omega (arith, less, within)) c.index-edges-place.is in
    let old = c.loop-place.passed.items in
    subst (ArePassed es (i + 1) x)
    (sym (ap (map (plain_passed whole)) c.in_ok-push.ensures.items
    ∙ map-append (plain_passed whole) old (record { place = i; right = edge.b.x } ∷ [])))
    (passed_more es i x (map (plain_passed whole) old) (plain edge) here (c.loop-place.invariant x))

pub find_met-requires-clause-passed : goal.find_met-requires-clause-passed
find_met-requires-clause-passed g c = λ e at.
    let whole = g.I.IntNumber.whole in
    let es = plain_edges whole g.C.EdgeCount.counts c.args.edges.now in
    let ended = c.loop-place-test.false in
    let up = c.loop-place.auto.place-end in
    let same : c.loop-place.place ≡ c.args.i = omega (arith, ended, up) in
    subst (λ ps. ArePassed es c.args.i e.a.x (map (plain_passed whole) ps)) (sym c.deref.ensures.value)
    (subst (λ n. ArePassed es n e.a.x (map (plain_passed whole) c.loop-place.passed.items)) same
    (c.loop-place.invariant e.a.x))
