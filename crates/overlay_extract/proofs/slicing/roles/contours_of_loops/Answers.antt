-- The next contour has its role, and the others come after it.
use Rattle.std.proofs.Common.{◌≡◌, ◌+◌, suc, ◌++◌, [], ◌∷◌, length, All, sym, ap, ◌∙◌, subst, arith}
use Rattle.std.proofs.lemmas.List.{append_assoc, append-nil, length-append, length-map, map-append}
use Rattle.overlay_plane.specs.BoundContours.{walks_in}
use Rattle.overlay_plane.specs.Groups.{IsSimpleContour}
use Rattle.overlay_plane.specs.RoledContours.{Contour, outline_of, hole_to_bind}
use Rattle.overlay_extract.specs.Bound.{HaveRoles, PassesAnchor, none, an_outline, a_hole}
use Rattle.overlay_walk.specs.GroupedContours.{plain_contour, plain_contours}
use Rattle.overlay_walk.specs.Steps.{plain_step, plain_steps, IsLong}
use Rattle.overlay_walk.proofs.WalksRead.{walk_among}
use Rattle.overlay_extract.proofs.slicing.roles.contours_of_loops.Goals as goal

pub is_filled_above_anchor-requires-clause-some : goal.is_filled_above_anchor-requires-clause-some
is_filled_above_anchor-requires-clause-some g c =
    let whole = g.I.IntNumber.whole in
    let steps = c.in-Some.steps.items in
    let simple = walk_among whole c.args.loops.items c.loop-steps.yielded c.in-Some.steps _
    (c.loop-steps.invariant.2 ∙ ap (λ rest. c.loop-steps.yielded ++ rest) c.in-Some.ensures.steps.0)
    IsSimpleContour c.requires.simple in
    let three = simple.contour.three in
    let same = length-map steps (plain_step whole) in
    let told = ap length c.deref.ensures.value in
    omega (arith, three, same, told)

pub is_filled_above_anchor-requires-clause-long : goal.is_filled_above_anchor-requires-clause-long
is_filled_above_anchor-requires-clause-long g c =
    let whole = g.I.IntNumber.whole in
    subst (λ ss. All (IsLong g.I.IntNumber.limit) (plain_steps whole ss)) (sym c.deref.ensures.value)
    (walk_among whole c.args.loops.items c.loop-steps.yielded c.in-Some.steps _
    (c.loop-steps.invariant.2 ∙ ap (λ rest. c.loop-steps.yielded ++ rest) c.in-Some.ensures.steps.0)
    (All (IsLong g.I.IntNumber.limit)) c.requires.long)

pub loop-steps-preserved-then-is_filled_above_anchor : goal.loop-steps-preserved-then-is_filled_above_anchor
loop-steps-preserved-then-is_filled_above_anchor g c =
    let whole = g.I.IntNumber.whole in
    let l = c.loop-steps in
    let w = plain_steps whole c.in-Some.steps.items in
    let old = plain_contours whole l.contours.items in
    let number = l.number in
    let few = l.invariant.5 in
    let longer = length-append l.yielded (c.in-Some.steps ∷ []) in
    let one_more : number + 1 ≡ suc number = omega arith in
    let pushed = ap (plain_contours whole) c.in_ok-push.ensures.items
    ∙ map-append (plain_contour whole) l.contours.items _ in
    let told = subst (λ ss. PassesAnchor c.is_filled_above_anchor.result (plain_steps whole ss)) c.deref.ensures.value
    c.is_filled_above_anchor.ensures in
    let passes = subst (λ t. PassesAnchor t w) c.if-is_filled_above_anchor.true told in (
      tt,
      tt,
      l.invariant.2 ∙ ap (λ ws. l.yielded ++ ws) c.in-Some.ensures.steps.0
          ∙ sym (append_assoc l.yielded (c.in-Some.steps ∷ []) _),
      ap walks_in pushed ∙ map-append (λ (d : Contour). d.steps) old (outline_of number w ∷ [])
          ∙ ap (λ ws. ws ++ w ∷ []) l.invariant.3
          ∙ sym (map-append (λ (v : _). plain_steps whole v.items) l.yielded (c.in-Some.steps ∷ [])),
      λ rest has. subst (HaveRoles 0) (sym (ap (λ cs. cs ++ rest) pushed
          ∙ append_assoc old (outline_of number w ∷ []) rest))
          (l.invariant.4 (outline_of number w ∷ rest) (an_outline passes (subst (λ n. HaveRoles n rest) one_more has))),
      omega (arith, few, longer),
    )

pub loop-steps-preserved : goal.loop-steps-preserved
loop-steps-preserved g c =
    let whole = g.I.IntNumber.whole in
    let l = c.loop-steps in
    let w = plain_steps whole c.in-Some.steps.items in
    let old = plain_contours whole l.contours.items in
    let few = l.invariant.5 in
    let longer = length-append l.yielded (c.in-Some.steps ∷ []) in
    let pushed = ap (plain_contours whole) c.in_ok-push-2.ensures.items
    ∙ map-append (plain_contour whole) l.contours.items _ in
    let told = subst (λ ss. PassesAnchor c.is_filled_above_anchor.result (plain_steps whole ss)) c.deref.ensures.value
    c.is_filled_above_anchor.ensures in
    let passes = subst (λ t. PassesAnchor t w) c.if-is_filled_above_anchor.false told in (
      tt,
      tt,
      l.invariant.2 ∙ ap (λ ws. l.yielded ++ ws) c.in-Some.ensures.steps.0
          ∙ sym (append_assoc l.yielded (c.in-Some.steps ∷ []) _),
      ap walks_in pushed ∙ map-append (λ (d : Contour). d.steps) old (hole_to_bind w ∷ [])
          ∙ ap (λ ws. ws ++ w ∷ []) l.invariant.3
          ∙ sym (map-append (λ (v : _). plain_steps whole v.items) l.yielded (c.in-Some.steps ∷ [])),
      λ rest has. subst (HaveRoles 0) (sym (ap (λ cs. cs ++ rest) pushed ∙ append_assoc old (hole_to_bind w ∷ []) rest))
          (l.invariant.4 (hole_to_bind w ∷ rest) (a_hole passes has)),
      omega (arith, few, longer),
    )

pub returns-clause-roles : goal.returns-clause-roles
returns-clause-roles g c =
    let whole = g.I.IntNumber.whole in
    let l = c.loop-steps in
    subst (HaveRoles 0) (append-nil (plain_contours whole l.contours.items)) (l.invariant.4 [] none)
