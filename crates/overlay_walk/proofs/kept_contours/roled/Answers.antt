-- The next outline is added.
use Rattle.std.proofs.Common.{◌≡◌, ◌+◌, ◌++◌, [], ◌∷◌, map, sym, ap, ◌∙◌, arith}
use Rattle.std.specs.Vec.Iter.{into_iter_items}
use Rattle.std.proofs.lemmas.List.{append_assoc, length-append, map-append}
use Rattle.overlay_plane.specs.Binding.{is_hole}
use Rattle.overlay_plane.specs.RoledContours.{contours_from, outline_of}
use Rattle.overlay_walk.specs.GroupedContours.{plain_contour, plain_contours}
use Rattle.overlay_walk.specs.Steps.{plain_steps, filled_hand}
use Rattle.overlay_walk.specs.Walks.{plain_walks}
use Rattle.overlay_walk.proofs.RoledWalks.{outline_first}
use Rattle.overlay_walk.proofs.kept_contours.roled.Goals as goal

pub loop-steps-preserved : goal.loop-steps-preserved
loop-steps-preserved g c =
    let whole = g.I.IntNumber.whole in
    let filled = filled_hand c.args.direction in
    let l = c.loop-steps in
    let w = plain_steps whole c.in-Some.steps.items in
    let so_far = plain_contours whole l.contours.items in
    let rest = plain_walks whole (into_iter_items c.next.new.self) in
    let few = l.invariant.4 in
    let longer = length-append l.yielded (c.in-Some.steps ∷ []) in
    let told : is_hole filled w ≡ c.is_hole.result =
    ap (λ ss. is_hole filled (plain_steps whole ss)) (sym c.deref.ensures.value) ∙ sym c.is_hole.ensures in (
      tt,
      tt,
      l.invariant.2 ∙ ap (λ ws. l.yielded ++ ws) c.in-Some.ensures.steps.0
          ∙ sym (append_assoc l.yielded (c.in-Some.steps ∷ []) _),
      ap (λ cs. plain_contours whole cs ++ contours_from filled (l.number + 1) rest) c.in_ok-push-2.ensures.items
          ∙ ap (λ cs. cs ++ contours_from filled (l.number + 1) rest)
          (map-append (plain_contour whole) l.contours.items _)
          ∙ append_assoc so_far (outline_of l.number w ∷ []) (contours_from filled (l.number + 1) rest)
          ∙ ap (λ cs. so_far ++ cs) (sym (outline_first filled l.number w rest (told ∙ c.if-is_hole.false)))
          ∙ ap (λ ws. so_far ++ contours_from filled l.number (plain_walks whole ws)) (sym c.in-Some.ensures.steps.0)
          ∙ l.invariant.3,
      omega (arith, few, longer),
      ap (λ (ks : _). map (λ (k : _). k.steps) ks) c.in_ok-push-2.ensures.items
          ∙ map-append (λ (k : _). k.steps) l.contours.items _
          ∙ ap (λ ws. ws ++ c.in-Some.steps ∷ []) l.invariant.5,
    )
