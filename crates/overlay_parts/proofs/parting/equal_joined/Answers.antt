-- Each part is joined with the last, or follows.
use Rattle.std.proofs.Common.{◌<◌, drop, length, List, sym, subst, ◌+◌, arith}
use Rattle.overlay_geom.proofs.Mapped.{All-mapped_at}
use Rattle.overlay_parts.specs.Parts.{plain_part, plain_parts, IsHeldPart}
use Rattle.overlay_parts.specs.Stores.IsStoreReached.{unwritten}
use Rattle.overlay_parts.specs.declared.parts.Part.{Part as HeldPart}
use Rattle.overlay_parts.proofs.EqualParts.{follow_next, joined_begin, next_light, next_up_to, parted_next}
use Rattle.overlay_parts.proofs.EqualParts.{AreJoinedTo}
use Rattle.overlay_parts.proofs.ReachedStores.{reached_on}
use Rattle.overlay_parts.proofs.parting.equal_joined.Goals as goal

pub returns-in_err-joined-clause-store : goal.returns-in_err-joined-clause-store
returns-in_err-joined-clause-store g c = unwritten _

pub loop-i-init : goal.loop-i-init
loop-i-init g c =
    let whole = g.I.IntNumber.whole in
    let counts = g.C.EdgeCount.counts in
    let begin = subst (λ (ps : List (HeldPart _ _)). AreJoinedTo whole counts g.C.EdgeCount.merges g.I.IntNumber.limit
    c.args.parts.now (plain_parts whole counts ps) 0) (sym c.in_ok-joined.ensures.items)
    (joined_begin whole counts g.C.EdgeCount.merges g.I.IntNumber.limit c.args.parts.now) in
    (begin.0, begin.1, begin.2, begin.3, unwritten _)

pub push_joined-requires-clause-part : goal.push_joined-requires-clause-part
push_joined-requires-clause-part g c =
    All-mapped_at (IsHeldPart g.I.IntNumber.limit) (plain_part g.I.IntNumber.whole g.C.EdgeCount.counts)
    c.args.parts.now c.loop-i.i c.index-parts-i.result (omega (arith, c.loop-i-test.true)) c.index-parts-i.is
    c.requires.held

pub push_joined-requires-clause-light : goal.push_joined-requires-clause-light
push_joined-requires-clause-light g c =
    let whole = g.I.IntNumber.whole in
    let counts = g.C.EdgeCount.counts in
    let parts = c.args.parts.now in
    let i = c.loop-i.i in (
      plain_parts whole counts (drop (i + 1) parts),
      next_light whole counts parts i c.index-parts-i.result (omega (arith, c.loop-i-test.true)) c.index-parts-i.is
          g.C.EdgeCount.merges (plain_parts whole counts parts) (plain_parts whole counts c.loop-i.joined.items)
          c.loop-i.invariant.0 c.requires.light,
    )

pub returns-in_err-push_joined-clause-store : goal.returns-in_err-push_joined-clause-store
returns-in_err-push_joined-clause-store g c =
    reached_on g.C.EdgeCount.writes _ _ _ c.loop-i.invariant.4 c.in_err-push_joined.ensures.store

pub loop-i-preserved : goal.loop-i-preserved
loop-i-preserved g c =
    let whole = g.I.IntNumber.whole in
    let counts = g.C.EdgeCount.counts in
    let parts = c.args.parts.now in
    let i = c.loop-i.i in
    let part = c.index-parts-i.result in
    let within : i < length parts = omega (arith, c.loop-i-test.true) in
    let made = plain_parts whole counts c.loop-i.joined.items in
    let new = plain_parts whole counts c.push_joined.new.joined.items in
    let step = c.in_ok-push_joined.ensures in
    let up_to = next_up_to whole counts parts i part within c.index-parts-i.is made c.loop-i.invariant.3 in (
      parted_next whole counts parts i part within c.index-parts-i.is g.C.EdgeCount.merges
          (plain_parts whole counts parts) made c.loop-i.invariant.0 new step.parted,
      step.held,
      step.ascending c.loop-i.invariant.2 up_to,
      follow_next whole counts parts i part within c.index-parts-i.is new c.requires.order (step.up_to up_to),
      reached_on g.C.EdgeCount.writes _ _ _ c.loop-i.invariant.4 step.store,
    )
