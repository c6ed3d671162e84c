-- The point was not visited before on what is left of the path, so it goes on.
use Rattle.std.proofs.Common.{[], ◌∷◌, ◌++◌, refl, ap, ◌∙◌}
use Rattle.std.proofs.lemmas.List.{map-append}
use Rattle.overlay_extract.proofs.CutLoops.{cut_goes_on}
use Rattle.overlay_extract.proofs.CutsInOrder.{path_goes_on}
use Rattle.overlay_walk.specs.Steps.{plain_step, plain_steps}
use Rattle.overlay_walk.specs.Walks.{plain_walks}
use Rattle.overlay_extract.proofs.slicing.cutter.LoopCutter.visit.Goals as goal

pub returns-clause-path : goal.returns-clause-path
returns-clause-path g c = c.in_ok-push.ensures.items ∙ ap (λ p. p ++ c.args.step ∷ []) c.in_ok-cut_at.ensures.path

pub returns-clause-on : goal.returns-clause-on
returns-clause-on g c start walked so_far =
    let whole = g.I.IntNumber.whole in
    let cut = c.in_ok-cut_at.ensures.cut start walked so_far in
    rw (c.in_ok-push.ensures.items, map-append)
    (cut_goes_on start walked (plain_steps whole c.cut_at.new.self.path.items)
    (plain_walks whole c.cut_at.new.self.loops.items) (plain_step whole c.args.step) c.requires.long cut.0 cut.1)

pub returns-clause-order : goal.returns-clause-order
returns-clause-order g c walk rest way =
    let whole = g.I.IntNumber.whole in
    let step = plain_step whole c.args.step in
    let cut = c.in_ok-cut_at.ensures.order walk step rest refl way in
    rw (c.in_ok-push.ensures.items, map-append)
    (path_goes_on walk (plain_steps whole c.cut_at.new.self.path.items) rest
    (plain_walks whole c.cut_at.new.self.loops.items) step cut.1 cut.0)
