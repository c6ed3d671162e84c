-- The outline is added, and then the holes.
use Rattle.std.proofs.Common.{◌≡◌, ◌++◌, [], ◌∷◌, sym, ap, ◌∙◌}
use Rattle.std.proofs.lemmas.List.{append-nil, append_assoc, map-append}
use Rattle.overlay_walk.specs.GroupedContours.{plain_contour, plain_contours, contours_of_group}
use Rattle.overlay_walk.specs.Walks.{plain_walks}
use Rattle.overlay_walk.proofs.GroupContours.{none_left, as_contour, as_group, group_more, group_plain, role_later}
use Rattle.overlay_walk.proofs.group_contours.push_walks.Goals as goal

pub loop-steps-preserved : goal.loop-steps-preserved
loop-steps-preserved g c =
    let whole = g.I.IntNumber.whole in
    let l = c.loop-steps in
    let n = c.args.number in
    let old = c.args.contours.now.items in
    let w = c.in-Some.steps in (
      tt,
      tt,
      l.invariant.2 ∙ ap (λ ws. l.yielded ++ ws) c.in-Some.ensures.steps.0 ∙ sym (append_assoc l.yielded (w ∷ []) _),
      c.in_ok-push.ensures.items
          ∙ ap (λ cs. cs ++ as_contour whole l.role w ∷ []) l.invariant.3
          ∙ append_assoc old (as_group whole n l.yielded) (as_contour whole l.role w ∷ [])
          ∙ ap (λ cs. old ++ cs) (ap (λ r. as_group whole n l.yielded ++ as_contour whole r w ∷ []) l.invariant.4
          ∙ sym (group_more whole n l.yielded w)),
      role_later n l.yielded w,
    )

pub returns : goal.returns
returns g c = record {
  pushed = let whole = g.I.IntNumber.whole in
      let old = c.args.contours.now.items in
      let n = c.args.number in
      let done = c.loop-steps.yielded in
      let all : c.args.walks.items ≡ done =
      c.loop-steps.invariant.2 ∙ ap (λ ws. done ++ ws)
      (none_left _ (sym c.loop-steps.steps-iterator.rest.ok.0 ∙ c.in-None.ensures.steps.0)) ∙ append-nil done in
      ap (plain_contours whole) c.loop-steps.invariant.3
      ∙ map-append (plain_contour whole) old (as_group whole n done)
      ∙ ap (λ cs. plain_contours whole old ++ cs) (group_plain whole n done
      ∙ ap (λ ws. contours_of_group n (plain_walks whole ws)) (sym all));
}
