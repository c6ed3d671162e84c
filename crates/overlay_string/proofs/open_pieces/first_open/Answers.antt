-- One more place is not open.
use Rattle.std.proofs.Common.{sym, ◌∙◌, arith, rules}
use Rattle.std.proofs.lemmas.List.{length-map}
use Rattle.overlay_string.specs.Pieces.{plain_piece, plain_pieces}
use Rattle.overlay_string.proofs.TakenPieces.{shut_passed}
use Rattle.overlay_string.proofs.open_pieces.first_open.Goals as goal

pub loop-place-preserved : goal.loop-place-preserved
loop-place-preserved g c =
    let whole = g.I.IntNumber.whole in
    let many = length-map c.args.pieces.now (plain_piece whole) in
    let within = c.loop-place-test.true in
    shut_passed (plain_pieces whole c.args.pieces.now) c.args.taken.now (c.requires.marks ∙ sym many) c.loop-place.place
    (omega (arith, within, many)) (search rules) c.loop-place.invariant

pub loop-place-init : goal.loop-place-init
loop-place-init g c = c.requires.passed
