-- The places of all steps are sorted.
use Rattle.std.proofs.Common.{length, sym, subst, ◌<◌}
use Rattle.std.proofs.lemmas.List.{length-map}
use Rattle.std.proofs.lemmas.List.Sorted.{All-permutation, Contains-permutation}
use Rattle.overlay_walk.specs.Places.{HasPlaces}
use Rattle.overlay_walk.specs.Steps.{plain_step, plain_steps}
use Rattle.overlay_walk.proofs.fan_order.fanned_places.Goals as goal

pub returns : goal.returns
returns g c = record {
  ok =
      let ss = plain_steps g.I.IntNumber.whole c.args.steps.now in
      let pushed = c.push_places.new.places.items in
      let sorted = c.sort_fanned.new.places.items in
      let moved = c.sort_fanned.ensures.permutation in
      let has = subst (λ n. HasPlaces n pushed) (sym (length-map c.args.steps.now (plain_step g.I.IntNumber.whole)))
      c.in_ok-push_places.ensures.ok in
      record {
        within = All-permutation (λ k. k < length ss) pushed sorted moved has.within;
        all = λ k h. Contains-permutation pushed sorted k moved (has.all k h);
        order = c.in_ok-sort_fanned.ensures.order;
      };
}
