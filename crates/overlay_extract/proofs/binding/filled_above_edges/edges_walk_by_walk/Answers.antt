-- The filled-above edges of a further walk.
use Rattle.std.proofs.Common.{◌+◌, All, map, sym, ap, ◌∙◌, subst}
use Rattle.std.proofs.lemmas.Option.{get_or_from_slice_get, slice_get_within}
use Rattle.overlay_geom.proofs.Mapped.{All-mapped_at}
use Rattle.overlay_walk.specs.GroupedContours.{walk_of}
use Rattle.overlay_walk.specs.Steps.{plain_steps, filled_hand, IsLong}
use Rattle.overlay_walk.specs.WalkEdges.{numbered_entries}
use Rattle.overlay_extract.proofs.FilledEntries.{HaveFilled, filled_added}
use Rattle.overlay_walk.proofs.WalksRead.{mapped_at}
use Rattle.overlay_extract.proofs.binding.filled_above_edges.edges_walk_by_walk.Goals as goal

pub push_filled-requires : goal.push_filled-requires
push_filled-requires g c =
    let read = c.deref.ensures.value ∙ ap (λ (k : _). k.steps.items) (sym c.index-contours-i.is) in
    subst (All (IsLong g.I.IntNumber.limit)) (sym (ap (plain_steps g.I.IntNumber.whole) read))
    (All-mapped_at (All (IsLong g.I.IntNumber.limit)) (walk_of g.I.IntNumber.whole) c.args.contours.now c.loop-i.i
    c.index-contours-i.result c.loop-i-test.true c.index-contours-i.is c.requires.long)

pub loop-i-preserved : goal.loop-i-preserved
loop-i-preserved g c =
    let whole = g.I.IntNumber.whole in
    let walks = map (walk_of g.I.IntNumber.whole) c.args.contours.now in
    let w = plain_steps whole c.deref.result.now in
    let read = c.deref.ensures.value ∙ ap (λ (k : _). k.steps.items) (sym c.index-contours-i.is) in
    let at = mapped_at (walk_of whole) c.args.contours.now c.loop-i.i c.index-contours-i.result w c.loop-i-test.true
    c.index-contours-i.is (ap (plain_steps whole) read) in
    subst (HaveFilled (filled_hand c.args.direction) walks (c.loop-i.i + 1)) (sym c.in_ok-push_filled.ensures.ok)
    (filled_added (filled_hand c.args.direction) walks c.loop-i.i (numbered_entries whole c.loop-i.edges.items) w
    c.loop-i.invariant
    (slice_get_within walks c.loop-i.i w at) (get_or_from_slice_get walks c.loop-i.i w w at) at)
