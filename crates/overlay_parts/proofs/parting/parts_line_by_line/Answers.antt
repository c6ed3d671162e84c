-- Each line's edges are parted, and the others follow.
use Rattle.std.proofs.Common.{◌++◌, ◌≤◌, All, drop, List, sym, subst, arith}
use Rattle.std.proofs.lemmas.List.Elements.{All-nil}
use Rattle.overlay_geom.proofs.Mapped.{All-mapped_range}
use Rattle.overlay_order.specs.Content.{plain_edge, IsHeld}
use Rattle.overlay_parts.specs.Parts.{plain_parts, AreParted, IsHeldPart}
use Rattle.overlay_parts.specs.Stores.IsStoreReached.{unwritten}
use Rattle.overlay_parts.specs.declared.parts.Part.{Part as HeldPart}
use Rattle.overlay_parts.proofs.EdgesByLines.{lines_begin, lines_next, lone, slice_weight}
use Rattle.overlay_parts.proofs.ReachedStores.{reached_on}
use Rattle.overlay_parts.proofs.parting.parts_line_by_line.Goals as goal

pub returns-in_err-clone-clause-store : goal.returns-in_err-clone-clause-store
returns-in_err-clone-clause-store g c = unwritten _

pub returns-in_err-parts-clause-store : goal.returns-in_err-parts-clause-store
returns-in_err-parts-clause-store g c = unwritten _

pub loop-from-init : goal.loop-from-init
loop-from-init g c =
    let whole = g.I.IntNumber.whole in
    let counts = g.C.EdgeCount.counts in
    let es = c.args.edges.now in (
      omega arith,
      subst (λ (ps : List (HeldPart _ _)). AreParted g.C.EdgeCount.merges (lone whole counts es)
          (plain_parts whole counts ps ++ lone whole counts (drop 0 es))) (sym c.in_ok-parts.ensures.items)
          (lines_begin whole counts g.C.EdgeCount.merges es),
      subst (λ (ps : List (HeldPart _ _)). All (IsHeldPart g.I.IntNumber.limit) (plain_parts whole counts ps))
          (sym c.in_ok-parts.ensures.items) (All-nil (IsHeldPart g.I.IntNumber.limit)),
      unwritten _,
    )

pub push_parts-requires-clause-held : goal.push_parts-requires-clause-held
push_parts-requires-clause-held g c =
    All-mapped_range (IsHeld g.I.IntNumber.limit) (plain_edge g.I.IntNumber.whole g.C.EdgeCount.counts)
    c.args.edges.now c.loop-from.from c.line_end-to.result c.requires.held

pub push_parts-requires-clause-light : goal.push_parts-requires-clause-light
push_parts-requires-clause-light g c =
    let less = slice_weight g.I.IntNumber.whole g.C.EdgeCount.counts c.args.edges.now c.loop-from.from
    c.line_end-to.result in
    let light = c.requires.light in
    omega (arith, less, light)

pub returns-in_err-push_parts-clause-store : goal.returns-in_err-push_parts-clause-store
returns-in_err-push_parts-clause-store g c =
    reached_on g.C.EdgeCount.writes _ _ _ c.loop-from.invariant.3 c.in_err-push_parts.ensures.store

pub loop-from-preserved : goal.loop-from-preserved
loop-from-preserved g c =
    let whole = g.I.IntNumber.whole in
    let counts = g.C.EdgeCount.counts in
    let up : c.loop-from.from ≤ c.line_end-to.result = (let after = c.line_end-to.ensures.after in
    omega (arith, after)) in (
      c.line_end-to.ensures.within,
      lines_next whole counts g.C.EdgeCount.merges c.args.edges.now c.loop-from.from c.line_end-to.result
          (plain_parts whole counts c.loop-from.parts.items) (plain_parts whole counts c.push_parts.new.parts.items) up
          c.loop-from.invariant.1 c.in_ok-push_parts.ensures.parted,
      c.in_ok-push_parts.ensures.held c.loop-from.invariant.2,
      reached_on g.C.EdgeCount.writes _ _ _ c.loop-from.invariant.3 c.in_ok-push_parts.ensures.store,
    )
