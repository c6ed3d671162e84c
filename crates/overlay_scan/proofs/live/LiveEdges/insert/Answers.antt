-- Dropped edges are not live.
use Rattle.std.proofs.Common.{◌≤◌, ◌+◌, int_lt, length, sym, ap, subst, ◌∙◌, arith}
use Rattle.std.specs.List.{filter, insert}
use Rattle.std.proofs.lemmas.List.Edits.{length-insert}
use Rattle.overlay_scan.specs.HeldEntries.{live_of}
use Rattle.overlay_scan.proofs.LiveParts.{live_kept, live_inserted, no_more}
use Rattle.overlay_scan.proofs.live.LiveEdges.insert.Goals as goal

pub returns-then-self-eq0-clause-ok : goal.returns-then-self-eq0-clause-ok
returns-then-self-eq0-clause-ok g c =
    let whole = g.I.IntNumber.whole in
    let x = whole c.args.x in
    ap (live_of whole x) (c.drop_ended.ensures
    ∙ ap (filter (λ f. int_lt x (whole f.b.x))) (c.in_ok-insert.ensures.items
    ∙ ap (λ es. insert es c.args.place c.args.edge) c.self.view_is))
    ∙ live_kept whole x (insert c.args.self.now c.args.place c.args.edge)
    ∙ live_inserted whole x c.args.self.now c.args.place c.args.edge c.requires.live

pub returns-then-self-eq0-clause-one_more : goal.returns-then-self-eq0-clause-one_more
returns-then-self-eq0-clause-one_more g c =
    let whole = g.I.IntNumber.whole in
    let x = whole c.args.x in
    let more = insert c.args.self.now c.args.place c.args.edge in
    let long = length-insert c.args.self.now c.args.place c.args.edge c.requires.within in
    let fewer = no_more (λ f. int_lt x (whole f.b.x)) more in
    subst (λ es. length es ≤ length c.args.self.now + 1) (sym (c.drop_ended.ensures
    ∙ ap (filter (λ f. int_lt x (whole f.b.x))) (c.in_ok-insert.ensures.items
    ∙ ap (λ es. insert es c.args.place c.args.edge) c.self.view_is))) (omega arith)
