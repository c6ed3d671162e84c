-- The count is added, or none.
use Rattle.std.proofs.Common.{◌≡◌, true, cond, pos, ◌+ℤ◌, sym, ap, ap₂, ◌∙◌, rules, w64, to_z, of_z, to_z-of_z}
use Rattle.std.proofs.lemmas.Option.{IfSome_then}
use lib.IntN.{+ℤ_idr}
use Rattle.overlay_geom.specs.Edges.{subj_of}
use Rattle.overlay_geom.specs.Points.{plain_point}
use Rattle.overlay_order.specs.Content.{plain_edge}
use Rattle.overlay_sectors.specs.Rays.{plain_ray}
use Rattle.overlay_sectors.specs.Sectors.{is_low}
use Rattle.overlay_located.proofs.QuerySums.{sum_of_some}
use Rattle.overlay_located.proofs.told.sum_with.Goals as goal

pub returns-then-is_below_near : goal.returns-then-is_below_near
returns-then-is_below_near g c =
    let whole = g.I.IntNumber.whole in
    let subj = c.subj.ensures in
    let from = c.from.ensures in
    let so_far : to_z w64 (of_z w64 c.args.so_far) ≡ c.args.so_far = search (rules, to_z-of_z) in
    let count : to_z w64 (of_z w64 c.from.result) ≡ subj_of (plain_edge whole g.C.EdgeCount.counts c.in-Some.e) =
    search (rules, to_z-of_z) in
    IfSome_then c.sum.result c.sum.ensures (λ y is.
    sum_of_some (plain_edge whole g.C.EdgeCount.counts) c.args.flank c.args.e (plain_point whole c.args.p)
    (is_low c.args.flank (plain_ray whole c.args.ray)) c.args.so_far c.in-Some.e true y c.in-Some.is
    (sym c.if-is_below_near.true ∙ c.is_below_near.ensures)
    (is ∙ ap₂ (λ a b. a +ℤ b) so_far count))

pub returns-else-is_below_near : goal.returns-else-is_below_near
returns-else-is_below_near g c =
    let whole = g.I.IntNumber.whole in
    let e = plain_edge whole g.C.EdgeCount.counts c.in-Some.e in
    let so_far : to_z w64 (of_z w64 c.args.so_far) ≡ c.args.so_far = search (rules, to_z-of_z) in
    so_far ∙ sum_of_some (plain_edge whole g.C.EdgeCount.counts) c.args.flank c.args.e (plain_point whole c.args.p)
    (is_low c.args.flank (plain_ray whole c.args.ray)) c.args.so_far c.in-Some.e c.is_below_near.result c.args.so_far
    c.in-Some.is c.is_below_near.ensures
    (sym (+ℤ_idr c.args.so_far)
    ∙ ap (λ t. c.args.so_far +ℤ cond t (subj_of e) (pos 0)) (sym c.if-is_below_near.false))
