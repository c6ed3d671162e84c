-- The edges that are left are live.
use Rattle.std.proofs.Common.{sym, ap, subst, ◌∙◌}
use Rattle.overlay_scan.specs.HeldEntries.{plain_sweep}
use Rattle.overlay_scan.specs.Lists.{plain_entries}
use Rattle.overlay_scan.specs.Scan.{AreLive}
use Rattle.overlay_scan.proofs.Moving.{sweep_after_move}
use Rattle.overlay_scan.proofs.tree.turning.tree_if_many.Goals as goal

pub tree_of-requires : goal.tree_of-requires
tree_of-requires g c =
    let whole = g.I.IntNumber.whole in
    let limit = g.I.IntNumber.limit in
    let x = whole c.args.x in
    subst (AreLive limit x)
    (sym (ap (λ s. s.entries) c.drop_ended.ensures.content) ∙ c.drop_ended.ensures.entries
    ∙ ap (plain_entries whole) (sym c.held.ensures))
    (sweep_after_move limit x (plain_sweep whole c.args.list.now) c.requires.state c.requires.moves)
