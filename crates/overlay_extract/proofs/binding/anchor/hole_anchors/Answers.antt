-- The anchor of a walk that stands in no shape is added, and at last all are sorted.
use Rattle.std.proofs.Common.{◌+◌, ◌∷◌, [], All, None, map, not, get_or, sym, ap, ◌∙◌, subst, arith}
use Rattle.std.proofs.lemmas.List.{length-map, map-append}
use Rattle.std.proofs.lemmas.List.Sorted.{IsPermutation-map}
use Rattle.overlay_plane.specs.Contours.{IsContour}
use Rattle.overlay_geom.proofs.Mapped.{All-mapped_at}
use Rattle.overlay_walk.specs.GroupedContours.{walk_of}
use Rattle.overlay_walk.specs.Steps.{plain_step, plain_steps, IsLong}
use Rattle.overlay_walk.specs.WalkEdges.{numbered_entry, numbered_entries}
use Rattle.overlay_extract.proofs.HoleEntries.{none_from_test, some_from_test, HaveHoles, hole_pushed, known_passed}
use Rattle.overlay_extract.proofs.HoleEntries.{holes_sorted}
use Rattle.overlay_walk.proofs.WalksRead.{mapped_at}
use Rattle.overlay_extract.proofs.binding.anchor.hole_anchors.Goals as goal
use Rattle.overlay_extract.proofs.binding.anchor.hole_anchors.Goals.{then-is_none+in_ok-push, else-is_none}

pub anchor_of-requires-clause-some : goal.anchor_of-requires-clause-some
anchor_of-requires-clause-some g c =
    let whole = g.I.IntNumber.whole in
    let read = c.deref.ensures.value ∙ ap (λ (k : _). k.steps.items) (sym c.index-contours-i.is) in
    let contour : IsContour (plain_steps whole c.deref.result.now) = subst IsContour (sym (ap (plain_steps whole) read))
    (All-mapped_at IsContour (walk_of whole) c.args.contours.now c.loop-i.i c.index-contours-i.result
    c.loop-i-test.true c.index-contours-i.is c.requires.contours) in
    let three = contour.three in omega (arith, three, length-map c.deref.result.now (plain_step whole))

pub anchor_of-requires-clause-long : goal.anchor_of-requires-clause-long
anchor_of-requires-clause-long g c =
    let read = c.deref.ensures.value ∙ ap (λ (k : _). k.steps.items) (sym c.index-contours-i.is) in
    subst (All (IsLong g.I.IntNumber.limit)) (sym (ap (plain_steps g.I.IntNumber.whole) read))
    (All-mapped_at (All (IsLong g.I.IntNumber.limit)) (walk_of g.I.IntNumber.whole) c.args.contours.now c.loop-i.i
    c.index-contours-i.result c.loop-i-test.true c.index-contours-i.is c.requires.long)

pub loop-i-preserved : goal.loop-i-preserved
loop-i-preserved g c =
    let whole = g.I.IntNumber.whole in
    let known = c.args.known.now in
    let walks = map (walk_of whole) c.args.contours.now in
    let i = c.loop-i.i in
    let hs = numbered_entries whole c.loop-i.anchors.items in
    elim c.if-is_none.branch [
      | then-is_none+in_ok-push w ↦
          let h = numbered_entry whole w.anchor_of.result in
          let items = ap (λ (v : _). numbered_entries whole v.items) w.anchors-is
          ∙ ap (numbered_entries whole) w.in_ok-push.ensures.items
          ∙ map-append (numbered_entry whole) c.loop-i.anchors.items (w.anchor_of.result ∷ []) in
          subst (HaveHoles walks known (i + 1)) (sym items)
          (hole_pushed walks known i hs _ h c.loop-i.invariant
          (mapped_at (walk_of whole) c.args.contours.now i w.index-contours-i.result
          (plain_steps whole w.deref.result.now) c.loop-i-test.true w.index-contours-i.is (ap (plain_steps whole)
          (w.deref.ensures.value ∙ ap (λ (k : _). k.steps.items) (sym w.index-contours-i.is))))
          (none_from_test (get_or known i None) (c.is_none.ensures ∙ ap not w.if-is_none.true))
          w.anchor_of.ensures.index w.anchor_of.ensures.anchor)
      | else-is_none w ↦
          subst (HaveHoles walks known (i + 1)) (sym (ap (λ (v : _). numbered_entries whole v.items) w.anchors-is))
          (known_passed walks known i hs c.loop-i.invariant
          (some_from_test (get_or known i None) (c.is_none.ensures ∙ ap not w.if-is_none.false)))
    ]

pub returns : goal.returns
returns g c = record {
  ok = let whole = g.I.IntNumber.whole in
      holes_sorted (map (walk_of g.I.IntNumber.whole) c.args.contours.now) c.args.known.now c.loop-i.i
      (numbered_entries whole c.loop-i.anchors.items)
      (numbered_entries whole c.sort_by_start.new.edges.items)
      (let past = c.loop-i-test.false in let end = c.loop-i.auto.i-end in
      omega (arith, length-map c.args.contours.now (walk_of g.I.IntNumber.whole)))
      c.loop-i.invariant
      (IsPermutation-map (numbered_entry whole) c.loop-i.anchors.items c.sort_by_start.new.edges.items
      c.in_ok-sort_by_start.ensures.permutation)
      c.in_ok-sort_by_start.ensures.order;
}
