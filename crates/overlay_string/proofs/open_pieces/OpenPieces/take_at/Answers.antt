-- The piece at the first open place where one begins is taken.
use Rattle.std.proofs.Common.{◌∙◌, refl, arith}
use Rattle.std.proofs.lemmas.List.{length-map, length-set}
use Rattle.overlay_geom.specs.Points.{plain_point}
use Rattle.overlay_geom.proofs.Mapped.{read_mapped}
use Rattle.overlay_string.specs.Pieces.{plain_piece, plain_pieces}
use Rattle.overlay_string.proofs.OpenLists.{none_still}
use Rattle.overlay_string.proofs.TakenPieces.{first_at_taken, none_at_taken}
use Rattle.overlay_string.proofs.open_pieces.OpenPieces.take_at.Goals as goal

pub invariant_of-self-in-Some : goal.invariant_of-self-in-Some
invariant_of-self-in-Some g c =
    record {
      marked = length-set _ _ _ ∙ c.self.invariant.marked;
      passing = none_still (plain_pieces g.I.IntNumber.whole c.self.inside.pieces.items) c.self.inside.taken.items
          c.self.inside.passed c.in-Some.place c.self.invariant.passing;
      leaving = rw (c.deref.ensures.value) at c.in_ok-found.ensures.onward;
      arriving = rw (c.deref.ensures.value) at c.in_ok-found.ensures.back;
    }

pub returns-in-Some : goal.returns-in-Some
returns-in-Some g c = record {
  ok = let whole = g.I.IntNumber.whole in
      let items = c.self.inside.pieces.items in
      let first = rw (c.deref.ensures.value, c.deref-2.ensures.value, c.in-Some.is) at c.in_ok-found.ensures.ok in
      let many = length-map items (plain_piece whole) in
      let within = first.place.within in
      rw (← c.self.view_is)
      (first_at_taken (plain_pieces whole items) c.self.inside.taken.items c.self.invariant.marked c.args.way
      (plain_point whole c.args.point) c.in-Some.place first (plain_piece whole c.index.result.now)
      (read_mapped (plain_piece whole) items c.in-Some.place c.index.result.now _ (omega (arith, within, many))
      c.index.ensures));
}

pub returns-in-None : goal.returns-in-None
returns-in-None g c = record {
  ok = let whole = g.I.IntNumber.whole in
      let none = rw (c.deref.ensures.value, c.deref-2.ensures.value, c.in-None.is) at c.in_ok-found.ensures.ok in
      rw (← c.self.view_is)
      (none_at_taken (plain_pieces whole c.self.inside.pieces.items) c.self.inside.taken.items c.self.invariant.marked
      c.args.way (plain_point whole c.args.point) none _ refl);
}
