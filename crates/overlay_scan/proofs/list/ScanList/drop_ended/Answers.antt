-- Dropped edges are not live, and the others are.
use Rattle.std.proofs.Common.{Some, ◌≤◌, int_lt, length, refl, sym, ap, subst, ◌∙◌}
use Rattle.overlay_geom.proofs.Mapped.{map-filter}
use Rattle.overlay_scan.specs.HeldEntries.{live_of}
use Rattle.overlay_scan.specs.Lists.{plain_entry, plain_entries}
use Rattle.overlay_scan.proofs.Asked.{only_moved}
use Rattle.overlay_scan.proofs.LiveParts.{live_kept, no_more}
use Rattle.overlay_scan.proofs.list.ScanList.drop_ended.Goals as goal

pub returns-clause-content : goal.returns-clause-content
returns-clause-content g c =
    let whole = g.I.IntNumber.whole in
    let x = c.args.x in
    let old = c.args.self.now in
    only_moved whole x old.live old.reached c.requires c.drop_ended.new.self (Some x) refl
    (ap (live_of whole (whole x)) c.drop_ended.ensures ∙ live_kept whole (whole x) old.live)

pub returns-clause-entries : goal.returns-clause-entries
returns-clause-entries g c =
    let whole = g.I.IntNumber.whole in
    let x = c.args.x in
    let old = c.args.self.now in
    ap (live_of whole (whole x)) c.drop_ended.ensures ∙ live_kept whole (whole x) old.live
    ∙ sym (ap (plain_entries whole) c.drop_ended.ensures
    ∙ map-filter (plain_entry whole) (λ f. int_lt (whole x) f.edge.b.x) old.live)

pub returns-clause-no_more : goal.returns-clause-no_more
returns-clause-no_more g c =
    let whole = g.I.IntNumber.whole in
    subst (λ es. length es ≤ length c.args.self.now.live) (sym c.drop_ended.ensures)
    (no_more (λ f. int_lt (whole c.args.x) (whole f.b.x)) c.args.self.now.live)
