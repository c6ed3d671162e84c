-- Where the point was visited the path is cut at its place, and else it stays.
use Rattle.std.proofs.Common.{◌≡◌, take, sym, ◌∙◌, subst, arith}
use Rattle.std.proofs.lemmas.List.{length-map}
use Rattle.overlay_geom.specs.Points.{plain_point}
use Rattle.overlay_extract.specs.ClosedWalks.{IsCutSoFar, IsPlaceLeft, NoneLeaves}
use Rattle.overlay_extract.specs.Visits.{path_before}
use Rattle.overlay_extract.proofs.CutPlaces.{none_in_front}
use Rattle.overlay_extract.proofs.CutsInOrder.{none_in_front as none_in_front_of}
use Rattle.overlay_walk.specs.Steps.{plain_step, plain_steps}
use Rattle.overlay_walk.specs.Walks.{plain_walks}
use Rattle.overlay_extract.proofs.slicing.cutter.LoopCutter.cut_at.Goals as goal

pub returns-clause-path : goal.returns-clause-path
returns-clause-path g c =
    let path = c.args.self.now.path.items in
    subst (λ l. c.cut_from.new.self.path.items ≡ path_before l path) (sym c.in-Some.is) c.in_ok-cut_from.ensures.path

pub returns-clause-cut : goal.returns-clause-cut
returns-clause-cut g c start walked so_far =
    let whole = g.I.IntNumber.whole in
    let path = c.args.self.now.path.items in
    let loops = plain_walks whole c.args.self.now.loops.items in
    let place = c.in-Some.place in
    let found = subst (IsPlaceLeft (plain_steps whole path) (plain_point whole c.args.point)) c.in-Some.is c.requires in
    let inside = found.0 in
    let same = length-map path (plain_step whole) in
    let here = subst (λ p. IsCutSoFar start p walked (plain_steps whole path) loops) (sym found.1) so_far in (
      subst (λ p. IsCutSoFar start p walked (plain_steps whole c.cut_from.new.self.path.items)
          (plain_walks whole c.cut_from.new.self.loops.items)) found.1
          (c.in_ok-cut_from.ensures.cut start walked here),
      rw c.in_ok-cut_from.ensures.path (subst (λ p. NoneLeaves p (plain_steps whole (take place path))) found.1
          (none_in_front whole start walked path loops place (omega (arith, inside, same)) here)),
    )

pub returns-clause-order : goal.returns-clause-order
returns-clause-order g c walk t rest at way =
    let whole = g.I.IntNumber.whole in
    let path = c.args.self.now.path.items in
    let loops = plain_walks whole c.args.self.now.loops.items in
    let place = c.in-Some.place in
    let found = subst (IsPlaceLeft (plain_steps whole path) (plain_point whole c.args.point)) c.in-Some.is c.requires in
    let inside = found.0 in
    let same = length-map path (plain_step whole) in
    let repeated = at ∙ sym found.1 in (
      c.in_ok-cut_from.ensures.order walk t rest repeated way,
      rw c.in_ok-cut_from.ensures.path (subst (λ p. NoneLeaves p (plain_steps whole (take place path))) at
          (none_in_front_of whole walk rest path loops t place (omega (arith, inside, same)) repeated way)),
    )
