-- Dropped edges are not live.
use Rattle.std.proofs.Common.{◌≤◌, int_lt, length, sym, ap, subst, ◌∙◌}
use Rattle.overlay_scan.specs.HeldEntries.{live_of}
use Rattle.overlay_scan.specs.Scan.{IsCallableOn}
use Rattle.overlay_scan.proofs.LiveParts.{live_kept, no_more}
use Rattle.overlay_scan.proofs.live.LiveEdges.find_among_live.Goals as goal

pub search-requires : goal.search-requires
search-requires g c =
    let whole = g.I.IntNumber.whole in
    let x = whole c.args.x in
    subst (IsCallableOn whole (goal.F-pre g c.args.order.now))
    (sym (ap (live_of whole x) (c.deref.ensures.value ∙ c.self.view_is ∙ c.drop_ended.ensures)
    ∙ live_kept whole x c.args.self.now)) c.requires

pub returns-clause-kept : goal.returns-clause-kept
returns-clause-kept g c =
    let whole = g.I.IntNumber.whole in
    ap (live_of whole (whole c.args.x)) c.drop_ended.ensures ∙ live_kept whole (whole c.args.x) c.args.self.now

pub returns-clause-no_more : goal.returns-clause-no_more
returns-clause-no_more g c =
    let x = g.I.IntNumber.whole c.args.x in
    subst (λ es. length es ≤ length c.args.self.now) (sym c.drop_ended.ensures)
    (no_more (λ f. int_lt x (g.I.IntNumber.whole f.b.x)) c.args.self.now)
