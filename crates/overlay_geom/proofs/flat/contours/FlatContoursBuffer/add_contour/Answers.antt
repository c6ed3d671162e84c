-- The points and the ranges that are left are those of an added contour.
use Rattle.std.proofs.Common.{◌++◌, ◌∷◌, [], length, sym, ap, ap₂, subst₂, ◌∙◌, arith}
use Rattle.std.proofs.lemmas.Grind.{common_steps}
use Rattle.std.proofs.lemmas.List.{length-append}
use Rattle.overlay_geom.specs.Flat.{paths_in, AreInside}
use Rattle.overlay_geom.proofs.FlatPaths.{inside_added, paths_added}
use Rattle.overlay_geom.proofs.flat.contours.FlatContoursBuffer.add_contour.Goals as goal

pub returns-clause-inside : goal.returns-clause-inside
returns-clause-inside g c = λ all.
    let old = c.args.self.now in
    let points = c.in_ok-extend_from_slice.ensures.items in
    let start = c.len-start.ensures ∙ old.points.ok.0 in
    let end = c.len.ensures ∙ c.extend_from_slice.new.self.ok.0 ∙ ap length points
    ∙ length-append old.points.items c.args.contour.now in
    let ranges = c.in_default.ensures.items
    ∙ ap₂ (λ a b. old.ranges.items ++ (record { start = a; end = b }) ∷ []) start end in
    subst₂ (λ ps rs. AreInside (length ps) rs) (sym points) (sym ranges)
    (inside_added g.I.IntNumber.whole old.points.items c.args.contour.now old.ranges.items all)

pub returns-clause-paths : goal.returns-clause-paths
returns-clause-paths g c = λ all.
    let whole = g.I.IntNumber.whole in
    let old = c.args.self.now in
    let points = c.in_ok-extend_from_slice.ensures.items in
    let start = c.len-start.ensures ∙ old.points.ok.0 in
    let end = c.len.ensures ∙ c.extend_from_slice.new.self.ok.0 ∙ ap length points
    ∙ length-append old.points.items c.args.contour.now in
    let ranges = c.in_default.ensures.items
    ∙ ap₂ (λ a b. old.ranges.items ++ (record { start = a; end = b }) ∷ []) start end in
    ap₂ (paths_in whole) points ranges ∙ paths_added whole old.points.items c.args.contour.now old.ranges.items all

pub returns-clause-points : goal.returns-clause-points
returns-clause-points g c = grind (arith, common_steps)

pub returns-clause-ranges : goal.returns-clause-ranges
returns-clause-ranges g c = grind (arith, common_steps)
