-- The places of all steps are sorted.
use Rattle.std.proofs.Common.{sym, subst}
use Rattle.std.proofs.lemmas.List.{length-map}
use Rattle.overlay_walk.specs.Places.{HasPlaces}
use Rattle.overlay_walk.specs.Steps.{plain_step, plain_steps}
use Rattle.overlay_walk.proofs.StartPlaces.{places_sorted}
use Rattle.overlay_walk.proofs.leftmost.places_top_first.Goals as goal

pub returns : goal.returns
returns g c = record {
  ok = let ss = plain_steps g.I.IntNumber.whole c.args.steps.now in
      places_sorted ss c.in_ok-places.places.items c.sort_top_first.new.places.items
      (subst (λ n. HasPlaces n c.in_ok-places.places.items)
      (sym (length-map c.args.steps.now (plain_step g.I.IntNumber.whole))) c.in_ok-places.ensures.ok)
      c.sort_top_first.ensures.permutation c.in_ok-sort_top_first.ensures.order;
}
