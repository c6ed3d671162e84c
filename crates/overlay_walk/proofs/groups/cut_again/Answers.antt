-- The steps are cut in another order, and so into the same walks.
use Rattle.std.proofs.Common.{All, Contains}
use Rattle.std.proofs.lemmas.List.Sorted.{All-permutation, IsPermutation-map}
use Rattle.std.proofs.lemmas.Result.{IfOk-weaker}
use Rattle.overlay_geom.specs.Plane.{Step}
use Rattle.overlay_plane.specs.Turn.{Hand}
use Rattle.overlay_plane.specs.Contours.{IsCutInto, alternating}
use Rattle.overlay_plane.proofs.ShuffledCuts.{same_shuffled, alternate_alike, cut_alike}
use Rattle.overlay_plane.proofs.ShuffledPairs.{once_shuffled}
use Rattle.overlay_walk.specs.Steps.{plain_hand, plain_step, plain_steps, IsLong}
use Rattle.overlay_walk.specs.Walks.{plain_walks}
use Rattle.overlay_walk.proofs.GroupContours.{long_within}
use Rattle.overlay_walk.proofs.groups.cut_again.Goals as goal

pub cut_into_contours-requires-clause-cuttable : goal.cut_into_contours-requires-clause-cuttable
cut_into_contours-requires-clause-cuttable g c =
    let whole = g.I.IntNumber.whole in
    let moved = IsPermutation-map (plain_step whole) c.args.steps.items c.in_ok-open.open c.in_ok-open.ensures.all in
    alternating (alternate_alike (plain_steps whole c.args.steps.items) (plain_steps whole c.in_ok-open.open)
    (same_shuffled (plain_steps whole c.args.steps.items) (plain_steps whole c.in_ok-open.open) moved)
    c.requires.alternate)

pub cut_into_contours-requires-clause-once : goal.cut_into_contours-requires-clause-once
cut_into_contours-requires-clause-once g c =
    let whole = g.I.IntNumber.whole in
    once_shuffled (plain_steps whole c.args.steps.items) (plain_steps whole c.in_ok-open.open)
    (IsPermutation-map (plain_step whole) c.args.steps.items c.in_ok-open.open c.in_ok-open.ensures.all) c.requires.once

pub returns-clause-cut : goal.returns-clause-cut
returns-clause-cut g c =
    let whole = g.I.IntNumber.whole in
    let hand_of : Step → Hand = λ s. plain_hand c.args.hand in
    let moved = IsPermutation-map (plain_step whole) c.args.steps.items c.in_ok-open.open c.in_ok-open.ensures.all in
    let same = same_shuffled (plain_steps whole c.args.steps.items) (plain_steps whole c.in_ok-open.open) moved in
    IfOk-weaker c.cut_into_contours.result (λ (ws : _). IsCutInto hand_of (plain_steps whole c.in_ok-open.open)
    (plain_walks whole ws.items)) _
    (λ ws cut. cut_alike hand_of (plain_steps whole c.in_ok-open.open) (plain_steps whole c.args.steps.items)
    (same.1, same.0) (plain_walks whole ws.items) cut)
    c.cut_into_contours.ensures.cut

pub returns-clause-long : goal.returns-clause-long
returns-clause-long g c =
    let whole = g.I.IntNumber.whole in
    let limit = g.I.IntNumber.limit in
    let moved = IsPermutation-map (plain_step whole) c.args.steps.items c.in_ok-open.open c.in_ok-open.ensures.all in
    let long = All-permutation (IsLong limit) (plain_steps whole c.args.steps.items)
    (plain_steps whole c.in_ok-open.open) moved c.requires.long in
    IfOk-weaker c.cut_into_contours.result
    (λ (ws : _). All (λ (w : _). All (Contains c.in_ok-open.open) w.items) ws.items) _
    (λ ws within. long_within whole limit c.in_ok-open.open long ws.items within)
    c.cut_into_contours.ensures.among
