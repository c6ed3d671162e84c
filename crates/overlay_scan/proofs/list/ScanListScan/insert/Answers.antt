-- The entry goes in above those under it.
use Rattle.std.proofs.Common.{◌≡◌, not, rules, List, [], ◌∷◌, pos, ap, arith}
use Rattle.std.proofs.lemmas.Int.{ints}
use Rattle.std.specs.Ordering.{is_gt}
use Rattle.overlay_geom.specs.Lines.{plain_line}
use Rattle.overlay_geom.specs.declared.point.IntPoint.{IntPoint}
use Rattle.overlay_plane.proofs.Under.{covers_from}
use Rattle.overlay_scan.specs.HeldEntries.{plain_sweep}
use Rattle.overlay_scan.specs.Lists.{plain_entry, IsComparable, is_lower}
use Rattle.overlay_scan.proofs.Asked.{only_moved, is_put_in, sweep_with, ends_after, may_compare, on_err}
use Rattle.overlay_scan.proofs.Moving.{sweep_moved}
use Rattle.overlay_scan.proofs.list.ScanListScan.insert.Goals as goal

pub put_in-requires-clause-live : goal.put_in-requires-clause-live
put_in-requires-clause-live g c =
    let whole = g.I.IntNumber.whole in
    ends_after g.I.IntNumber.limit (whole c.args.x) (plain_line whole c.args.edge)
    (plain_entry whole c.live_edge-entry.result).edge (ap (λ n. n.edge) c.live_edge-entry.ensures) c.requires.over

pub put_in-requires-clause-callable : goal.put_in-requires-clause-callable
put_in-requires-clause-callable g c k d lt a b at_a at_b =
    let whole = g.I.IntNumber.whole in
    let limit = g.I.IntNumber.limit in
    let old = c.args.self.now in
    let asked = (plain_entry whole c.live_edge-entry.result).edge in
    let comparable : IsComparable limit (plain_line whole (a ∷ b ∷ [])) asked =
    may_compare whole limit c.args.x old.live old.reached asked (plain_line whole c.args.edge)
    (ap (λ n. n.edge) c.live_edge-entry.ensures) c.requires.state c.requires.moves
    (record { a = c.requires.over.a_in_range; b = c.requires.over.b_in_range })
    (let from = covers_from (plain_line whole c.args.edge) (whole c.args.x) (pos 1) c.requires.over.over in
    omega (arith, ints))
    k d lt a b at_a at_b in
    search rules

pub returns-in_err-put_in-clause-err : goal.returns-in_err-put_in-clause-err
returns-in_err-put_in-clause-err g c =
    let old = c.args.self.now in
    let new = c.put_in.new.self in
    on_err c.from_residual.result (only_moved g.I.IntNumber.whole c.args.x old.live old.reached c.requires.moves
    new.live new.reached c.put_in.ensures.reached c.in_err-put_in.ensures.err)

pub returns-in_err-put_in-clause-state : goal.returns-in_err-put_in-clause-state
returns-in_err-put_in-clause-state g c =
    let whole = g.I.IntNumber.whole in
    let old = c.args.self.now in
    let new = c.put_in.new.self in
    sweep_moved g.I.IntNumber.limit (whole c.args.x) (plain_sweep whole old) (plain_sweep whole new) c.requires.state
    c.requires.moves (only_moved whole c.args.x old.live old.reached c.requires.moves new.live new.reached
    c.put_in.ensures.reached c.in_err-put_in.ensures.err)

pub returns-clause-ok : goal.returns-clause-ok
returns-clause-ok g c =
    let whole = g.I.IntNumber.whole in
    let old = c.args.self.now in
    let new = c.put_in.new.self in
    let found = c.in_ok-put_in.ensures.ok in
    let asked = (plain_entry whole c.live_edge-entry.result).edge in
    is_put_in whole g.I.IntNumber.limit c.args.x old.live new.live old.reached new.reached c.requires.state
    c.requires.moves (plain_line whole c.args.edge) c.requires.meets
    (λ line o. List (IntPoint g.row.I.Denot) × (not (is_gt o) ≡ is_lower (plain_line whole line) asked))
    found.0 asked (ap (λ n. n.edge) c.live_edge-entry.ensures) (λ line o answered. answered.1)
    c.put_in.ensures.reached c.requires.over c.requires.fresh c.args.value (plain_entry whole c.live_edge-entry.result)
    c.live_edge-entry.ensures found.1

pub returns-clause-state : goal.returns-clause-state
returns-clause-state g c =
    let old = c.args.self.now in
    let new = c.put_in.new.self in
    sweep_with g.I.IntNumber.whole g.I.IntNumber.limit c.args.x old.live new.live old.reached new.reached
    c.requires.state c.requires.moves (plain_line g.I.IntNumber.whole c.args.edge) c.requires.meets
    c.put_in.ensures.reached c.requires.over c.requires.fresh c.args.value (returns-clause-ok g c)
