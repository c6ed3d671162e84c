-- One query more has what the chain tells.
use Rattle.std.proofs.Common.{rules}
use Rattle.overlay_located.specs.Slabs.{plain_slab, IsWithin}
use Rattle.overlay_located.specs.Chains.{plain_links, edges_of}
use Rattle.overlay_located.specs.Queries.{plain_query, IsOpen}
use Rattle.overlay_located.proofs.ChangedLists.{All-at, All-pushed}
use Rattle.overlay_located.proofs.OpenQueries.{open_after}
use Rattle.overlay_located.proofs.chain.with_chain.Goals as goal

pub loop-q-preserved : goal.loop-q-preserved
loop-q-preserved g c =
    let whole = g.I.IntNumber.whole in
    let counts = g.C.EdgeCount.counts in
    let plain = plain_query whole counts in
    let q = c.q-item.result in record {
      counted = search rules;
      left = λ es rest kept split left.
          All-pushed (λ a. IsOpen es kept (plain a)) c.loop-q.rest.items c.push.new.self.items c.passed.result
          c.in_ok-push.ensures.items (c.loop-q.invariant.left es rest kept split left)
          (open_after (IsWithin (plain_slab whole c.args.slab)) es rest
          (edges_of (plain_links whole counts c.args.chain.now)) kept (plain q) (plain c.passed.result)
          (All-at (λ a. IsOpen es rest (plain a)) c.args.queries.now c.loop-q.q-index q c.loop-q-test.true
          c.q-item.is left)
          split c.passed.ensures.adds c.passed.ensures.within);
    }
