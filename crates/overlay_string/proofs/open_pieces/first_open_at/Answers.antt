-- The first open one of the steps from the point tells the place.
use Rattle.std.proofs.Common.{◌∙◌, sym}
use Rattle.std.proofs.lemmas.List.{length-map}
use Rattle.overlay_geom.specs.Points.{plain_point}
use Rattle.overlay_string.specs.Pieces.{plain_piece, plain_pieces}
use Rattle.overlay_string.proofs.FirstPieces.{first_place_from}
use Rattle.overlay_string.proofs.open_pieces.first_open_at.Goals as goal

pub returns-clause-ok : goal.returns-clause-ok
returns-clause-ok g c =
    let whole = g.I.IntNumber.whole in
    let pieces = c.args.pieces.now in
    let sought = c.args.sought in
    first_place_from whole sought.way (plain_point whole sought.point) (plain_pieces whole pieces) c.args.taken.now
    (c.requires.marks ∙ sym (length-map pieces (plain_piece whole))) c.make_by_start.new.sorted.steps.items
    c.in_ok-make_by_start.ensures.ok c.first_open_from.result
    (rw (c.deref-2.ensures.value) at c.first_open_from.ensures)
