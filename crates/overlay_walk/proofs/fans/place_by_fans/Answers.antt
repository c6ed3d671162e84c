-- The notes of the fans that are added are right.
use Rattle.std.proofs.Common.{length, sym, ap, ◌∙◌, subst}
use Rattle.std.proofs.lemmas.List.{with_items_is}
use Rattle.overlay_walk.specs.Fans.{AreTakenAhead}
use Rattle.overlay_walk.proofs.fans.place_by_fans.Goals as goal

pub returns-then-is_found_in_fans-clause-fans : goal.returns-then-is_found_in_fans-clause-fans
returns-then-is_found_in_fans-clause-fans g c =
    let fans = c.args.fans.now in
    let marks = c.args.taken.now in
    let noted = c.place_in_fans.new.ahead in
    let each = c.place_in_fans.ensures.each ∙ ap length c.deref.ensures.value in
    let is = with_items_is fans.ahead noted (each ∙ sym c.requires.fans.each ∙ sym fans.ahead.ok.0) in
    record {
      placed = c.requires.fans.placed;
      each = ap length is ∙ each;
      noted = subst (AreTakenAhead marks fans.places.items) (sym is)
          (subst (λ places. AreTakenAhead marks places noted) c.deref.ensures.value c.place_in_fans.ensures.noted);
    }
