-- The edges found are the changes, so they are held and ascend as the list does.
use Rattle.std.proofs.Common.{All, length, sym, subst, arith}
use Rattle.std.proofs.lemmas.List.{length-map}
use Rattle.overlay_order.specs.Content.{plain_edge, plain_edges, IsAscending, IsHeld}
use Rattle.overlay_pairs.specs.Changed.{AreChangedBefore, AreOpenIn, StandAt}
use Rattle.overlay_pairs.proofs.ChangedEdges.{changes_found}
use Rattle.overlay_pairs.proofs.NearChanged.{changes_ascend, changes_held}
use Rattle.overlay_pairs.proofs.changed.changes_between.Goals as goal

pub strips_of-requires-clause-held : goal.strips_of-requires-clause-held
strips_of-requires-clause-held g c =
    let whole = g.I.IntNumber.whole in
    let counts = g.C.EdgeCount.counts in
    let es = plain_edges whole counts c.args.edges.now in
    let before = plain_edges whole counts c.args.before.now in
    let opens = c.args.is_open.now in
    let places = c.in_ok-places.places.items in
    let cs = plain_edges whole counts c.in_ok-changed.changed.items in
    let l = length-map c.args.edges.now (plain_edge whole counts) in
    let known : AreOpenIn before opens = c.requires.before in
    let found : AreChangedBefore es before opens (length c.args.edges.now) places = c.in_ok-places.ensures.ok in
    let stand : StandAt es places cs = rw (← c.deref.ensures.value) c.in_ok-changed.ensures.ok in
    let changes = changes_found es c.requires.ascending before opens known (length c.args.edges.now) places cs
    (omega (arith, l)) found stand in
    subst (λ fs. All (IsHeld g.I.IntNumber.limit) (plain_edges whole counts fs)) (sym c.deref-2.ensures.value)
    (changes_held es places cs changes g.I.IntNumber.limit c.requires.held)

pub strips_of-requires-clause-ascending : goal.strips_of-requires-clause-ascending
strips_of-requires-clause-ascending g c =
    let whole = g.I.IntNumber.whole in
    let counts = g.C.EdgeCount.counts in
    let es = plain_edges whole counts c.args.edges.now in
    let before = plain_edges whole counts c.args.before.now in
    let opens = c.args.is_open.now in
    let places = c.in_ok-places.places.items in
    let cs = plain_edges whole counts c.in_ok-changed.changed.items in
    let l = length-map c.args.edges.now (plain_edge whole counts) in
    let known : AreOpenIn before opens = c.requires.before in
    let found : AreChangedBefore es before opens (length c.args.edges.now) places = c.in_ok-places.ensures.ok in
    let stand : StandAt es places cs = rw (← c.deref.ensures.value) c.in_ok-changed.ensures.ok in
    let changes = changes_found es c.requires.ascending before opens known (length c.args.edges.now) places cs
    (omega (arith, l)) found stand in
    subst (λ fs. IsAscending (plain_edges whole counts fs)) (sym c.deref-2.ensures.value)
    (changes_ascend es places cs changes c.requires.ascending)

pub returns : goal.returns
returns g c = record {
  ok = let whole = g.I.IntNumber.whole in
      let counts = g.C.EdgeCount.counts in
      let es = plain_edges whole counts c.args.edges.now in
      let before = plain_edges whole counts c.args.before.now in
      let opens = c.args.is_open.now in
      let places = c.in_ok-places.places.items in
      let cs = plain_edges whole counts c.in_ok-changed.changed.items in
      let l = length-map c.args.edges.now (plain_edge whole counts) in
      let known : AreOpenIn before opens = c.requires.before in
      let found : AreChangedBefore es before opens (length c.args.edges.now) places = c.in_ok-places.ensures.ok in
      let stand : StandAt es places cs = rw (← c.deref.ensures.value) c.in_ok-changed.ensures.ok in
      let changes = changes_found es c.requires.ascending before opens known (length c.args.edges.now) places cs
      (omega (arith, l)) found stand in
      record { changes = changes; strips = rw (← c.deref-2.ensures.value) c.in_ok-strips.ensures.ok };
}
