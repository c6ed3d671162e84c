-- The piece at the first open place is taken.
use Rattle.std.proofs.Common.{length, sym, ap, ◌∙◌, arith}
use Rattle.std.proofs.lemmas.List.{length-map, length-set}
use Rattle.overlay_geom.proofs.Mapped.{read_mapped}
use Rattle.overlay_string.specs.Pieces.{plain_piece, plain_pieces}
use Rattle.overlay_string.proofs.OpenLists.{none_still}
use Rattle.overlay_string.proofs.TakenPieces.{first_taken}
use Rattle.overlay_string.proofs.open_pieces.OpenPieces.take_first.Goals as goal

pub first_open-requires-clause-marks : goal.first_open-requires-clause-marks
first_open-requires-clause-marks g c =
    ap length c.deref-2.ensures.value ∙ c.self.invariant.marked
    ∙ length-map c.self.inside.pieces.items (plain_piece g.I.IntNumber.whole) ∙ sym (ap length c.deref.ensures.value)

pub first_open-requires-clause-passed : goal.first_open-requires-clause-passed
first_open-requires-clause-passed g c = rw (c.deref.ensures.value, c.deref-2.ensures.value) c.self.invariant.passing

pub invariant_of-self : goal.invariant_of-self
invariant_of-self g c =
    let first = rw (c.deref.ensures.value, c.deref-2.ensures.value) at c.in_ok-place.ensures in
    record {
      marked = length-set _ _ _ ∙ c.self.invariant.marked;
      passing = none_still (plain_pieces g.I.IntNumber.whole c.self.inside.pieces.items) c.self.inside.taken.items
          c.in_ok-place.place c.in_ok-place.place first.first;
      leaving = c.self.invariant.leaving;
      arriving = c.self.invariant.arriving;
    }

pub returns : goal.returns
returns g c =
    let whole = g.I.IntNumber.whole in
    let items = c.self.inside.pieces.items in
    let first = rw (c.deref.ensures.value, c.deref-2.ensures.value) at c.in_ok-place.ensures in
    let many = length-map items (plain_piece whole) in
    let within = first.place.within in
    rw (← c.self.view_is)
    (first_taken (plain_pieces whole items) c.self.inside.taken.items c.self.invariant.marked c.in_ok-place.place
    first (plain_piece whole c.index.result.now)
    (read_mapped (plain_piece whole) items c.in_ok-place.place c.index.result.now _ (omega (arith, within, many))
    c.index.ensures))
