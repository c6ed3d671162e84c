-- A fact of all groups holds of the next, whose contours are added.
use Rattle.std.proofs.Common.{◌≡◌, ◌+◌, Bool, cond, List, ◌++◌, [], ◌∷◌, All, sym, ap, ◌∙◌, subst, arith, rules}
use Rattle.std.specs.Vec.Iter.{into_iter_items}
use Rattle.std.proofs.lemmas.List.{append-nil, append_assoc, length-append}
use Rattle.overlay_geom.specs.Plane.{Step}
use Rattle.overlay_plane.specs.Alternates.{Alternates}
use Rattle.overlay_plane.specs.BesideOrbits.{HasEachOnce}
use Rattle.overlay_plane.specs.MinimumArea.{reaches}
use Rattle.overlay_walk.specs.GroupedContours.{plain_contours, AreCutFromGroups}
use Rattle.overlay_walk.specs.Steps.{plain_hand, IsLong}
use Rattle.overlay_walk.specs.Walks.{plain_walks, IsOwnOrbit}
use Rattle.overlay_walk.proofs.GroupContours.{none_left, none_cut, group_cut, all_cut}
use Rattle.overlay_walk.proofs.WalksRead.{walk_among}
use Rattle.overlay_walk.proofs.groups.cut_outlines.Goals as goal

pub push_cut-requires-clause-alternate : goal.push_cut-requires-clause-alternate
push_cut-requires-clause-alternate g c = walk_among g.I.IntNumber.whole c.args.groups.items c.loop-group.yielded
    c.in-Some.group _
    (c.loop-group.invariant.2 ∙ ap (λ rest. c.loop-group.yielded ++ rest) c.in-Some.ensures.steps.0) Alternates
    c.requires.alternate

pub push_cut-requires-clause-once : goal.push_cut-requires-clause-once
push_cut-requires-clause-once g c = walk_among g.I.IntNumber.whole c.args.groups.items c.loop-group.yielded
    c.in-Some.group _
    (c.loop-group.invariant.2 ∙ ap (λ rest. c.loop-group.yielded ++ rest) c.in-Some.ensures.steps.0) HasEachOnce
    c.requires.once

pub push_cut-requires-clause-long : goal.push_cut-requires-clause-long
push_cut-requires-clause-long g c = walk_among g.I.IntNumber.whole c.args.groups.items c.loop-group.yielded
    c.in-Some.group _
    (c.loop-group.invariant.2 ∙ ap (λ rest. c.loop-group.yielded ++ rest) c.in-Some.ensures.steps.0)
    (All (IsLong g.I.IntNumber.limit)) c.requires.long

pub push_cut-requires-clause-own : goal.push_cut-requires-clause-own
push_cut-requires-clause-own g c = walk_among g.I.IntNumber.whole c.args.groups.items c.loop-group.yielded
    c.in-Some.group _
    (c.loop-group.invariant.2 ∙ ap (λ rest. c.loop-group.yielded ++ rest) c.in-Some.ensures.steps.0) IsOwnOrbit
    c.requires.own

pub loop-group-init : goal.loop-group-init
loop-group-init g c =
    let keeps : List Step → Bool = λ w. reaches g.I.Wide.WideIntNumber.width
    (g.I.WideUInt.UIntNumber.natural c.args.min_output_area) w in
    let gives : c.args.groups.items ≡ into_iter_items c.into_iter-group-iterator.result = search rules in
    rw c.new-contours.ensures.items (
      tt,
      tt,
      gives,
      none_cut (plain_hand c.args.hand) keeps,
      omega arith,
    )

pub loop-group-preserved-then-is_kept : goal.loop-group-preserved-then-is_kept
loop-group-preserved-then-is_kept g c =
    let whole = g.I.IntNumber.whole in
    let keeps : List Step → Bool = λ w. reaches g.I.Wide.WideIntNumber.width
    (g.I.WideUInt.UIntNumber.natural c.args.min_output_area) w in
    let l = c.loop-group in
    let few = l.invariant.4 in (
      tt,
      tt,
      l.invariant.2 ∙ ap (λ ws. l.yielded ++ ws) c.in-Some.ensures.steps.0
          ∙ sym (append_assoc l.yielded (c.in-Some.group ∷ []) _),
      group_cut (plain_hand c.args.hand) keeps whole l.yielded l.number (plain_contours whole l.contours.items)
          l.invariant.3 c.in-Some.group c.in_ok-is_kept.is_kept (plain_contours whole c.push_cut.new.contours.items)
          c.in_ok-is_kept.ensures.added (l.number + 1) (ap (λ t. cond t (l.number + 1) l.number) c.if-is_kept.true),
      omega (arith, few, length-append l.yielded (c.in-Some.group ∷ [])),
    )

pub loop-group-preserved : goal.loop-group-preserved
loop-group-preserved g c =
    let whole = g.I.IntNumber.whole in
    let keeps : List Step → Bool = λ w. reaches g.I.Wide.WideIntNumber.width
    (g.I.WideUInt.UIntNumber.natural c.args.min_output_area) w in
    let l = c.loop-group in
    let few = l.invariant.4 in (
      tt,
      tt,
      l.invariant.2 ∙ ap (λ ws. l.yielded ++ ws) c.in-Some.ensures.steps.0
          ∙ sym (append_assoc l.yielded (c.in-Some.group ∷ []) _),
      group_cut (plain_hand c.args.hand) keeps whole l.yielded l.number (plain_contours whole l.contours.items)
          l.invariant.3 c.in-Some.group c.in_ok-is_kept.is_kept (plain_contours whole c.push_cut.new.contours.items)
          c.in_ok-is_kept.ensures.added l.number (ap (λ t. cond t (l.number + 1) l.number) c.if-is_kept.false),
      omega (arith, few, length-append l.yielded (c.in-Some.group ∷ [])),
    )

pub returns : goal.returns
returns g c = record {
  cut = let l = c.loop-group in
      let whole = g.I.IntNumber.whole in
      let hand = plain_hand c.args.hand in
      let keeps : List Step → Bool = λ w. reaches g.I.Wide.WideIntNumber.width
      (g.I.WideUInt.UIntNumber.natural c.args.min_output_area) w in
      let contours = plain_contours whole l.contours.items in
      let all : c.args.groups.items ≡ l.yielded =
      l.invariant.2 ∙ ap (λ ws. l.yielded ++ ws)
      (none_left _ (sym l.group-iterator.rest.ok.0 ∙ c.in-None.ensures.steps.0)) ∙ append-nil l.yielded in
      subst (λ gs. AreCutFromGroups hand keeps (plain_walks whole gs) contours) (sym all)
      (all_cut hand keeps (plain_walks whole l.yielded) l.number contours l.invariant.3);
}
