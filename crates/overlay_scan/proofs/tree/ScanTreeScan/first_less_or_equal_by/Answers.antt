-- The entries for which the order does not answer Greater.
use Rattle.std.proofs.Common.{subst, ◌∙◌}
use Rattle.overlay_scan.specs.Scan.{IsCallableOn}
use Rattle.overlay_scan.proofs.Asked.{live_is, moved, value_is_up_to}
use Rattle.overlay_scan.proofs.Moving.{sweep_moved}
use Rattle.overlay_scan.specs.HeldEdges.{held_sweep}
use Rattle.overlay_scan.proofs.tree.ScanTreeScan.first_less_or_equal_by.Goals as goal

pub look_up-value-requires : goal.look_up-value-requires
look_up-value-requires g c =
    let whole = g.I.IntNumber.whole in
    let old = c.args.self.now in
    subst (IsCallableOn whole (goal.F-pre g c.args.order))
    (live_is whole c.args.x old.entries old.reached c.requires.moves) c.requires.callable

pub returns-clause-value : goal.returns-clause-value
returns-clause-value g c answer answered rise =
    let old = c.args.self.now in
    c.unwrap_or.ensures
    ∙ value_is_up_to g.I.IntNumber.whole c.args.x old.entries old.reached c.requires.moves (goal.F-post g c.args.order)
    c.look_up-value.new.self.entries c.look_up-value.result c.look_up-value.ensures.found answer answered rise
    c.args.default

pub returns-clause-content : goal.returns-clause-content
returns-clause-content g c =
    let old = c.args.self.now in
    let new = c.look_up-value.new.self in
    moved g.I.IntNumber.whole c.args.x old.entries old.reached c.requires.moves new.entries new.reached
    c.look_up-value.ensures.reached (goal.F-post g c.args.order) c.look_up-value.result c.look_up-value.ensures.found

pub returns-clause-state : goal.returns-clause-state
returns-clause-state g c =
    let whole = g.I.IntNumber.whole in
    sweep_moved g.I.IntNumber.limit (whole c.args.x) (held_sweep whole c.args.self.now)
    (held_sweep whole c.look_up-value.new.self) c.requires.state c.requires.moves (returns-clause-content g c)
