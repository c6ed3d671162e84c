-- A new edge replaces an ended edge.
use Rattle.std.proofs.Common.{◌≡◌, ◌<◌, length, get_or, slice_set, int_lt, sym, ap, subst, ◌∙◌}
use Rattle.std.proofs.lemmas.Bool.{not-true}
use Rattle.overlay_scan.specs.HeldEntries.{live_of}
use Rattle.overlay_scan.proofs.LiveParts.{live_replaced}
use Rattle.overlay_scan.proofs.live.LiveEdges.put.Goals as goal

pub returns-then-has_ended-clause-ok : goal.returns-then-has_ended-clause-ok
returns-then-has_ended-clause-ok g c =
    let whole = g.I.IntNumber.whole in
    let x = whole c.args.x in
    let f = c.index.result.now in
    let place = c.args.place in
    ap (λ es. live_of whole x (slice_set es place c.args.edge)) c.self.view_is
    ∙ live_replaced whole x c.args.self.now place f
    (subst (λ es. place < length es) c.self.view_is (subst (λ n. place < n)
    (c.len.ensures ∙ c.self.inside.entries.ok.0) c.if-place-len.true))
    (subst (λ es. f ≡ get_or es place f) c.self.view_is c.index.ensures) c.args.edge
    (not-true (int_lt x (whole f.b.x)) (sym c.has_ended.ensures ∙ c.if-has_ended.true)) c.requires.live
