-- A further edge lies in the wider range.
use Rattle.std.proofs.Common.{⊎_elim, ◌≡◌, ◌+◌, ◌<◌, length, arith}
use Rattle.std.proofs.lemmas.List.{length-map}
use Rattle.overlay_order.specs.Content.{plain_edge, plain_edges}
use Rattle.overlay_pairs.proofs.Entries.{placed_in_mapped}
use Rattle.overlay_given.proofs.HeightBlocks.{lie_more}
use Rattle.overlay_given.proofs.heights.heights_from.Goals as goal

pub loop-k-init : goal.loop-k-init
loop-k-init g c = (omega arith, λ k f past less at_f. absurd (omega (arith, past, less)))

pub loop-k-preserved : goal.loop-k-preserved
loop-k-preserved g c =
    let whole = g.I.IntNumber.whole in
    let plain = plain_edge whole g.C.EdgeCount.counts in
    let edges = c.args.edges.now in
    let es = plain_edges whole g.C.EdgeCount.counts edges in
    let k = c.loop-k.k in
    let e = c.index-edges-k.result in
    let less = c.loop-k-test.true in
    let up_to = c.on_by-to.ensures.up_to in
    let past = c.loop-k.invariant.0 in (
      omega (arith, past),
      lie_more es c.args.at k (plain e) (whole c.loop-k.heights.low) (whole c.loop-k.heights.high)
          (whole c.heights_of-of_k.result.low) (whole c.heights_of-of_k.result.high)
          (whole c.joined-heights.result.low) (whole c.joined-heights.result.high)
          (placed_in_mapped plain edges k e (omega (arith, less, up_to)) c.index-edges-k.is) c.loop-k.invariant.1
          c.heights_of-of_k.ensures c.joined-heights.ensures.first_low c.joined-heights.ensures.second_low
          c.joined-heights.ensures.first_high c.joined-heights.ensures.second_high,
    )

pub returns : goal.returns
returns g c = λ k f past less at_f.
    let plain = plain_edge g.I.IntNumber.whole g.C.EdgeCount.counts in
    let l = length-map c.args.edges.now plain in
    let inside = at_f.0 in
    let ended = c.loop-k-test.false in
    c.loop-k.invariant.1 k f past
    (⊎_elim
    (λ (all : c.on_by-to.result ≡ length c.args.edges.now).
    let lt : k < c.loop-k.k = omega (arith, l, inside, ended, all) in lt)
    (λ (next : c.on_by-to.result ≡ c.args.at + 8).
    let lt : k < c.loop-k.k = omega (arith, less, ended, next) in lt)
    c.on_by-to.ensures.ends) at_f
