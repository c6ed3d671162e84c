-- The edge leads from the point, or its count is added where it is below.
use Rattle.std.proofs.Common.{◌≡◌, ◌∷◌, [], ◌∙◌, false, sym, rules, w64, to_z, of_z, to_z-of_z}
use Rattle.overlay_geom.specs.Edges.{subj_of}
use Rattle.overlay_geom.specs.Points.{plain_point}
use Rattle.overlay_order.specs.Content.{plain_edge}
use Rattle.overlay_located.specs.Queries.{plain_query}
use Rattle.overlay_sectors.specs.declared.flank.Flank.TheVariants.{Left, Right}
use Rattle.overlay_located.proofs.OpenQueries.{adds_of_sums}
use Rattle.overlay_located.proofs.TellsMore.{added, added_if, added_not, passes_both, tells_passed}
use Rattle.overlay_located.proofs.query.with_line.Goals.{then-is_below_near, else-is_below_near}
use Rattle.overlay_located.proofs.query.with_line.Goals.{then-is_below_near-2, else-is_below_near-2}
use Rattle.overlay_located.proofs.query.with_line.Goals as goal

pub returns : goal.returns
returns g c =
    let whole = g.I.IntNumber.whole in
    let counts = g.C.EdgeCount.counts in
    let e = plain_edge whole counts c.args.line.now.edge in
    let v = plain_point whole c.args.q.point in
    let subj = c.subj.ensures in
    let from = c.from-count.ensures in
    let count : to_z w64 (of_z w64 c.from-count.result) ≡ subj_of e = search (rules, to_z-of_z) in
    let left : added Left v (λ f. false) e ≡ to_z w64 c.if-is_below_near.left-bits =
    elim c.if-is_below_near.branch [
      | then-is_below_near w ↦ added_if Left v e c.is_below_near.result (to_z w64 c.if-is_below_near.left-bits)
          c.is_below_near.ensures w.if-is_below_near.true (w.left-is ∙ count)
      | else-is_below_near w ↦ added_not Left v e c.is_below_near.result (to_z w64 c.if-is_below_near.left-bits)
          c.is_below_near.ensures w.if-is_below_near.false w.left-is
    ] in
    let right : added Right v (λ f. false) e ≡ to_z w64 c.if-is_below_near-2.right-bits =
    elim c.if-is_below_near-2.branch [
      | then-is_below_near-2 w ↦ added_if Right v e c.is_below_near-2.result
          (to_z w64 c.if-is_below_near-2.right-bits) c.is_below_near-2.ensures w.if-is_below_near-2.true
          (w.right-is ∙ count)
      | else-is_below_near-2 w ↦ added_not Right v e c.is_below_near-2.result
          (to_z w64 c.if-is_below_near-2.right-bits) c.is_below_near-2.ensures w.if-is_below_near-2.false
          w.right-is
    ] in
    adds_of_sums (e ∷ []) (to_z w64 c.if-is_below_near.left-bits) (to_z w64 c.if-is_below_near-2.right-bits)
    (λ h. added h v (λ f. false) e) (plain_query whole counts c.args.q) (plain_query whole counts c.with_sums.result)
    left right
    (tells_passed v e (passes_both v e (sym c.leads_from.ensures ∙ c.if-leads_from.false)
    (sym c.leads_from-else-leads_from.ensures ∙ c.if-leads_from-2.false)))
    c.with_sums.ensures
