-- No mark is set, none is passed, and no piece was looked up.
use Rattle.std.proofs.Common.{◌≡◌, length, refl, sym, ◌∙◌, rules, inl}
use Rattle.std.proofs.lemmas.List.{length-map}
use Rattle.overlay_walk.proofs.OpenPlaces.{unmarked-cleared}
use Rattle.overlay_string.specs.Pieces.{plain_piece, plain_pieces}
use Rattle.overlay_string.proofs.open_pieces.OpenPieces.new.Goals as goal

pub invariant_of-result : goal.invariant_of-result
invariant_of-result g c =
    let whole = g.I.IntNumber.whole in
    let all : length c.resize.new.self.items ≡ length c.args.pieces.items = search rules in
    record {
      marked = all ∙ sym (length-map c.args.pieces.items (plain_piece whole));
      passing = refl;
      leaving = inl c.in_ok-onward.ensures;
      arriving = inl c.in_ok-back.ensures;
    }

pub returns : goal.returns
returns g c = record {
  ok = unmarked-cleared (plain_pieces g.I.IntNumber.whole c.args.pieces.items) c.new-taken.result.items
      c.resize.new.self.items c.len.result _ c.new-taken.ensures.len c.new-taken.ensures.items
      c.in_ok-resize.ensures.items;
}
