-- One more piece is among them, and at last all are.
use Rattle.std.proofs.Common.{◌≡◌, ◌+◌, length, sym, ap, ◌∙◌, subst, arith, rules}
use Rattle.std.proofs.lemmas.List.{length-map}
use Rattle.overlay_geom.proofs.Mapped.{read_mapped}
use Rattle.overlay_string.specs.OpenPlaces.{piece_at}
use Rattle.overlay_string.specs.PieceOrder.{AreNumbered}
use Rattle.overlay_string.specs.Pieces.{plain_piece, plain_pieces, turned}
use Rattle.overlay_string.proofs.PieceOrder.{none_numbered, one_more_numbered}
use Rattle.overlay_string.proofs.by_start.numbered_steps.Goals as goal

pub loop-place-init : goal.loop-place-init
loop-place-init g c =
    let whole = g.I.IntNumber.whole in (
      subst (AreNumbered whole c.args.way (plain_pieces whole c.args.pieces.now) 0) (sym c.in_ok-steps.ensures.items)
          (none_numbered whole c.args.way (plain_pieces whole c.args.pieces.now)),
      search rules,
      search rules,
    )

pub loop-place-preserved : goal.loop-place-preserved
loop-place-preserved g c =
    let whole = g.I.IntNumber.whole in
    let pieces = c.args.pieces.now in
    let ss = plain_pieces whole pieces in
    let place = c.loop-place.place in
    let step = c.numbered_step.result in
    let is = c.numbered_step.ensures.number in
    let within = c.loop-place-test.true in
    let stands = read_mapped (plain_piece whole) pieces place c.index-pieces-place.result _ within
    c.index-pieces-place.is in (
      subst (AreNumbered whole c.args.way ss (place + 1)) (sym c.push_reserved.ensures.items)
          (one_more_numbered whole c.args.way ss place c.loop-place.steps.items step c.loop-place.invariant.0
          (record {
            below = let l = length-map pieces (plain_piece whole) in omega arith;
            along = c.numbered_step.ensures.along ∙ ap (turned c.args.way) (sym stands)
                ∙ ap (λ k. turned c.args.way (piece_at ss k)) (sym is);
          }) is),
      search rules,
      search rules,
    )

pub returns : goal.returns
returns g c = record {
  ok = let whole = g.I.IntNumber.whole in
      let past = c.loop-place-test.false in
      let end = c.loop-place.auto.place-end in
      let all : c.loop-place.place ≡ length c.args.pieces.now = omega arith in
      subst (λ n. AreNumbered whole c.args.way (plain_pieces whole c.args.pieces.now) n c.loop-place.steps.items) all
      c.loop-place.invariant.0;
}
