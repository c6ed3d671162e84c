-- One line more.
use Rattle.std.proofs.Common.{◌∷◌, [], subst, sym, take}
use Rattle.overlay_geom.proofs.Mapped.{mapped_more, mapped_whole}
use Rattle.overlay_located.specs.Slabs.{plain_line, plain_lines}
use Rattle.overlay_located.specs.Queries.{plain_query, Adds}
use Rattle.overlay_located.proofs.OpenQueries.{adds_none, adds_more}
use Rattle.overlay_located.proofs.query.with_lines.Goals as goal

pub loop-line-init : goal.loop-line-init
loop-line-init g c = adds_none (plain_query g.I.IntNumber.whole g.C.EdgeCount.counts c.args.q)

pub loop-line-preserved : goal.loop-line-preserved
loop-line-preserved g c =
    let whole = g.I.IntNumber.whole in
    let counts = g.C.EdgeCount.counts in
    let plain = plain_line whole counts in
    let i = c.loop-line.line-index in
    let q = plain_query whole counts c.args.q in
    subst (λ es. Adds es q (plain_query whole counts c.with_line-r.result))
    (sym (mapped_more plain c.args.lines.now i c.line-item.result c.loop-line-test.true c.line-item.is))
    (adds_more (plain_lines whole counts (take i c.args.lines.now)) (plain c.line-item.result ∷ []) q
    (plain_query whole counts c.loop-line.r) (plain_query whole counts c.with_line-r.result) c.loop-line.invariant
    c.with_line-r.ensures)

pub returns : goal.returns
returns g c =
    let whole = g.I.IntNumber.whole in
    let counts = g.C.EdgeCount.counts in
    subst (λ es. Adds es (plain_query whole counts c.args.q) (plain_query whole counts c.loop-line.r))
    (mapped_whole (plain_line whole counts) c.args.lines.now c.loop-line.line-index c.loop-line-test.false)
    c.loop-line.invariant
