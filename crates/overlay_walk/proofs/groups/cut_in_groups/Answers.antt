-- The groups that are outlines are cut each, the steps of the others together.
use Rattle.std.proofs.Common.{◌++◌, Bool, not, List, map, filter, All, sym, ap, ap₂, ◌∙◌, subst}
use Rattle.std.specs.List.{AllZip}
use Rattle.std.proofs.lemmas.List.Elements.{All-weaker}
use Rattle.overlay_geom.specs.Plane.{Step}
use Rattle.overlay_geom.proofs.Mapped.{map-filter}
use Rattle.overlay_plane.specs.Alternates.{Alternates}
use Rattle.overlay_plane.specs.BesideOrbits.{HasEachOnce}
use Rattle.overlay_plane.specs.Binding.{is_hole}
use Rattle.overlay_plane.specs.Contours.{IsCutInto, all_steps}
use Rattle.overlay_plane.specs.MinimumArea.{reaches}
use Rattle.overlay_plane.specs.RoledContours.{hole_to_bind}
use Rattle.overlay_walk.specs.GroupedContours.{plain_contours, AreCutFromGroups}
use Rattle.overlay_walk.specs.Steps.{filled_hand, plain_hand, plain_steps, IsLong}
use Rattle.overlay_walk.specs.Walks.{plain_walks, IsOwnOrbit}
use Rattle.overlay_walk.proofs.SplitGroups.{outlines_plain, holes_plain, AreGood, outlines_good, holes_good}
use Rattle.overlay_walk.proofs.SplitGroups.{outlines_own}
use Rattle.overlay_walk.proofs.groups.cut_in_groups.Goals as goal

pub cut_outlines-requires-clause-alternate : goal.cut_outlines-requires-clause-alternate
cut_outlines-requires-clause-alternate g c =
    let whole = g.I.IntNumber.whole in
    let filled = filled_hand c.args.direction in
    let grouped = subst (λ h. IsCutInto (λ s. h) (plain_steps whole c.args.steps)
    (plain_walks whole c.in_ok-groups.groups.items)) c.filled_hand.ensures c.in_ok-groups.ensures.cut in
    subst (λ gs. All Alternates gs)
    (sym (outlines_plain whole filled c.in_ok-groups.groups.items c.in_ok-outline_groups.outline_groups.items
    c.in_ok-outline_groups.ensures.outlines))
    (All-weaker (AreGood g.I.IntNumber.limit) Alternates (λ h good. good.alternate) _
    (outlines_good g.I.IntNumber.limit (plain_steps whole c.args.steps)
    (record { alternate = c.requires.alternate; once = c.requires.once; long = c.requires.long }) filled
    (plain_walks whole c.in_ok-groups.groups.items) grouped))

pub cut_outlines-requires-clause-once : goal.cut_outlines-requires-clause-once
cut_outlines-requires-clause-once g c =
    let whole = g.I.IntNumber.whole in
    let filled = filled_hand c.args.direction in
    let grouped = subst (λ h. IsCutInto (λ s. h) (plain_steps whole c.args.steps)
    (plain_walks whole c.in_ok-groups.groups.items)) c.filled_hand.ensures c.in_ok-groups.ensures.cut in
    subst (λ gs. All HasEachOnce gs)
    (sym (outlines_plain whole filled c.in_ok-groups.groups.items c.in_ok-outline_groups.outline_groups.items
    c.in_ok-outline_groups.ensures.outlines))
    (All-weaker (AreGood g.I.IntNumber.limit) HasEachOnce (λ h good. good.once) _
    (outlines_good g.I.IntNumber.limit (plain_steps whole c.args.steps)
    (record { alternate = c.requires.alternate; once = c.requires.once; long = c.requires.long }) filled
    (plain_walks whole c.in_ok-groups.groups.items) grouped))

pub cut_outlines-requires-clause-long : goal.cut_outlines-requires-clause-long
cut_outlines-requires-clause-long g c =
    let whole = g.I.IntNumber.whole in
    let filled = filled_hand c.args.direction in
    let grouped = subst (λ h. IsCutInto (λ s. h) (plain_steps whole c.args.steps)
    (plain_walks whole c.in_ok-groups.groups.items)) c.filled_hand.ensures c.in_ok-groups.ensures.cut in
    subst (λ gs. All (All (IsLong g.I.IntNumber.limit)) gs)
    (sym (outlines_plain whole filled c.in_ok-groups.groups.items c.in_ok-outline_groups.outline_groups.items
    c.in_ok-outline_groups.ensures.outlines))
    (All-weaker (AreGood g.I.IntNumber.limit) (All (IsLong g.I.IntNumber.limit)) (λ h good. good.long) _
    (outlines_good g.I.IntNumber.limit (plain_steps whole c.args.steps)
    (record { alternate = c.requires.alternate; once = c.requires.once; long = c.requires.long }) filled
    (plain_walks whole c.in_ok-groups.groups.items) grouped))

pub cut_outlines-requires-clause-own : goal.cut_outlines-requires-clause-own
cut_outlines-requires-clause-own g c =
    let whole = g.I.IntNumber.whole in
    let filled = filled_hand c.args.direction in
    let grouped = subst (λ h. IsCutInto (λ s. h) (plain_steps whole c.args.steps)
    (plain_walks whole c.in_ok-groups.groups.items)) c.filled_hand.ensures c.in_ok-groups.ensures.cut in
    subst (λ gs. All IsOwnOrbit gs)
    (sym (outlines_plain whole filled c.in_ok-groups.groups.items c.in_ok-outline_groups.outline_groups.items
    c.in_ok-outline_groups.ensures.outlines))
    (outlines_own g.I.IntNumber.limit (plain_steps whole c.args.steps)
    (record { alternate = c.requires.alternate; once = c.requires.once; long = c.requires.long }) filled
    (plain_walks whole c.in_ok-groups.groups.items) grouped)

pub cut_again-requires-clause-alternate : goal.cut_again-requires-clause-alternate
cut_again-requires-clause-alternate g c =
    let whole = g.I.IntNumber.whole in
    let filled = filled_hand c.args.direction in
    let grouped = subst (λ h. IsCutInto (λ s. h) (plain_steps whole c.args.steps)
    (plain_walks whole c.in_ok-groups.groups.items)) c.filled_hand.ensures c.in_ok-groups.ensures.cut in
    subst (λ ss. Alternates ss) (sym
    (holes_plain whole filled c.in_ok-groups.groups.items c.in_ok-outline_groups.hole_steps.items
    c.in_ok-outline_groups.ensures.holes))
    (holes_good g.I.IntNumber.limit (plain_steps whole c.args.steps)
    (record { alternate = c.requires.alternate; once = c.requires.once; long = c.requires.long }) filled
    (plain_walks whole c.in_ok-groups.groups.items) grouped).alternate

pub cut_again-requires-clause-once : goal.cut_again-requires-clause-once
cut_again-requires-clause-once g c =
    let whole = g.I.IntNumber.whole in
    let filled = filled_hand c.args.direction in
    let grouped = subst (λ h. IsCutInto (λ s. h) (plain_steps whole c.args.steps)
    (plain_walks whole c.in_ok-groups.groups.items)) c.filled_hand.ensures c.in_ok-groups.ensures.cut in
    subst (λ ss. HasEachOnce ss) (sym
    (holes_plain whole filled c.in_ok-groups.groups.items c.in_ok-outline_groups.hole_steps.items
    c.in_ok-outline_groups.ensures.holes))
    (holes_good g.I.IntNumber.limit (plain_steps whole c.args.steps)
    (record { alternate = c.requires.alternate; once = c.requires.once; long = c.requires.long }) filled
    (plain_walks whole c.in_ok-groups.groups.items) grouped).once

pub cut_again-requires-clause-long : goal.cut_again-requires-clause-long
cut_again-requires-clause-long g c =
    let whole = g.I.IntNumber.whole in
    let filled = filled_hand c.args.direction in
    let grouped = subst (λ h. IsCutInto (λ s. h) (plain_steps whole c.args.steps)
    (plain_walks whole c.in_ok-groups.groups.items)) c.filled_hand.ensures c.in_ok-groups.ensures.cut in
    subst (λ ss. All (IsLong g.I.IntNumber.limit) ss)
    (sym (holes_plain whole filled c.in_ok-groups.groups.items c.in_ok-outline_groups.hole_steps.items
    c.in_ok-outline_groups.ensures.holes))
    (holes_good g.I.IntNumber.limit (plain_steps whole c.args.steps)
    (record { alternate = c.requires.alternate; once = c.requires.once; long = c.requires.long }) filled
    (plain_walks whole c.in_ok-groups.groups.items) grouped).long

pub returns : goal.returns
returns g c = record {
  cut = let whole = g.I.IntNumber.whole in
      let filled = filled_hand c.args.direction in
      let keeps : List Step → Bool = λ w. reaches g.I.Wide.WideIntNumber.width
      (g.I.WideUInt.UIntNumber.natural c.args.min_output_area) w in
      let groups = c.in_ok-groups.groups.items in
      let others = c.in_ok-others.others.items in
      let outlines_are = outlines_plain whole filled groups c.in_ok-outline_groups.outline_groups.items
      c.in_ok-outline_groups.ensures.outlines in
      let holes_are = holes_plain whole filled groups c.in_ok-outline_groups.hole_steps.items
      c.in_ok-outline_groups.ensures.holes in
      let own = subst (λ gs. AreCutFromGroups (plain_hand c.empty_hand-empty.result) keeps gs
      (plain_contours whole c.in_ok-contours.contours.items)) outlines_are c.in_ok-contours.ensures.cut in
      record {
        groups = plain_walks whole groups;
        grouped = subst (λ h. IsCutInto (λ s. h) (plain_steps whole c.args.steps) (plain_walks whole groups))
            c.filled_hand.ensures c.in_ok-groups.ensures.cut;
        inside = own.inside;
        cut_inside = subst (λ h. AllZip (λ v ws. IsCutInto (λ s. h) v ws)
            (filter (λ v. not (is_hole filled v)) (plain_walks whole groups)) own.inside)
            c.empty_hand-empty.ensures own.cut_inside;
        others = plain_walks whole others;
        cut_others = subst (λ h. IsCutInto (λ s. h) (all_steps (filter (is_hole filled) (plain_walks whole groups)))
            (plain_walks whole others)) c.empty_hand-empty.ensures
            (subst (λ ss. IsCutInto (λ s. plain_hand c.empty_hand-empty.result) ss (plain_walks whole others)) holes_are
            c.in_ok-others.ensures.cut);
        are = c.in_ok-push_free_holes.ensures.pushed
            ∙ ap₂ (λ cs ws. cs ++ map hole_to_bind ws) own.are
            (ap (plain_walks whole) c.in_ok-large_walks.ensures.ok
            ∙ map-filter (λ (w : _). plain_steps whole w.items) keeps others);
      };
  room = c.into_room-room.ensures;
}
