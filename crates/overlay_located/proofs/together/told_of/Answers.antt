-- The queries are open at first, with all edges.
use Rattle.std.proofs.Common.{map, length, drop, sym, ap, subst, ◌∙◌}
use Rattle.std.specs.List.{All}
use Rattle.std.proofs.lemmas.List.Elements.{All-append, All-take, All-drop}
use Rattle.overlay_order.specs.Content.{plain_edges}
use Rattle.overlay_located.specs.Slabs.{plain_lines}
use Rattle.overlay_located.specs.Queries.{plain_query, IsOpen, IsTold}
use Rattle.overlay_located.proofs.together.told_of.Goals as goal

pub returns : goal.returns
returns g c =
    let whole = g.I.IntNumber.whole in
    let counts = g.C.EdgeCount.counts in
    let lines = plain_lines whole counts in
    let es = plain_edges whole counts (map g.E.EdgeForm.meant c.args.edges.now) in
    let untold = c.in_ok-told.ensures es in
    let left = subst (λ qs. All (λ q. IsOpen es (lines c.deref.result.now) (plain_query whole counts q)) qs)
    (sym c.deref-2.ensures.value)
    (subst (λ ls. All (λ q. IsOpen es ls (plain_query whole counts q)) c.in_ok-queries.queries.items)
    (sym (ap lines c.deref.ensures.value ∙ c.in_ok-lines.ensures)) (c.in_ok-queries.ensures es)) in
    let told = c.ask.ensures es left (subst (λ qs. All (λ q. IsTold es (plain_query whole counts q)) qs)
    (sym c.deref_mut.ensures.value) untold) in
    All-take (λ q. IsTold es (plain_query whole counts q)) c.in_ok-told.told.len _
    (All-append (λ q. IsTold es (plain_query whole counts q)) c.ask.new.told
    (drop (length c.ask.new.told) c.in_ok-told.told.items) told
    (All-drop (λ q. IsTold es (plain_query whole counts q)) (length c.ask.new.told) c.in_ok-told.told.items untold))
