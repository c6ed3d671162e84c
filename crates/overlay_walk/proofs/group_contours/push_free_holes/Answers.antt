-- The holes are added at the end.
use Rattle.std.proofs.Common.{◌≡◌, ◌++◌, map, sym, ap, ◌∙◌}
use Rattle.std.proofs.lemmas.List.{append-nil, map-append}
use Rattle.overlay_plane.specs.RoledContours.{hole_to_bind}
use Rattle.overlay_walk.specs.declared.contour.Role.TheVariants.{FreeHole}
use Rattle.overlay_walk.specs.GroupedContours.{plain_contour, plain_contours}
use Rattle.overlay_walk.specs.Walks.{plain_walks}
use Rattle.overlay_walk.proofs.GroupContours.{none_left, as_contour, free_plain}
use Rattle.overlay_walk.proofs.group_contours.push_free_holes.Goals as goal

pub returns : goal.returns
returns g c = record {
  pushed = let whole = g.I.IntNumber.whole in
      let old = c.args.contours.now.items in
      let done = c.loop-steps.yielded in
      let all : c.args.walks.items ≡ done =
      c.loop-steps.invariant.2 ∙ ap (λ ws. done ++ ws)
      (none_left _ (sym c.loop-steps.steps-iterator.rest.ok.0 ∙ c.in-None.ensures.steps.0)) ∙ append-nil done in
      ap (plain_contours whole) c.loop-steps.invariant.3
      ∙ map-append (plain_contour whole) old (map (as_contour whole FreeHole) done)
      ∙ ap (λ cs. plain_contours whole old ++ cs) (free_plain whole done
      ∙ ap (λ ws. map hole_to_bind (plain_walks whole ws)) (sym all));
}
