-- The upright lines, and then the level ones, at the places that were found.
use Rattle.std.proofs.Common.{◌≡◌, ◌++◌, map, append-nil, sym, subst, ◌∙◌, All}
use Rattle.std.proofs.lemmas.List.{take_all}
use Rattle.overlay_geom.specs.Points.{AllInRange}
use Rattle.overlay_string.specs.StringPaths.{paths_of_lines}
use Rattle.overlay_tiles.specs.Grids.{upright, level}
use Rattle.overlay_tiles.specs.Spans.{plain_bounds}
use Rattle.overlay_tiles.proofs.LinesAcross.{one_after_another, lines_in_range}
use Rattle.overlay_tiles.proofs.lines.lines_across.Goals as goal

pub loop-y-init : goal.loop-y-init
loop-y-init g c =
    let whole = g.I.IntNumber.whole in
    let b = plain_bounds whole c.args.bounds in
    subst (λ l. paths_of_lines whole c.loop-x.lines.items ≡ map (λ x. upright b (whole x)) l)
    (take_all c.loop-x.x-index c.deref-x-items.result.now c.loop-x-test.false ∙ c.deref-x-items.ensures.value)
    c.loop-x.invariant ∙ sym (append-nil (map (λ x. upright b (whole x)) c.in_ok-xs.xs.items))

pub returns-clause-lines : goal.returns-clause-lines
returns-clause-lines g c =
    let whole = g.I.IntNumber.whole in
    let b = plain_bounds whole c.args.bounds in
    let xs = c.in_ok-xs.xs.items in
    let ys = c.in_ok-ys.ys.items in
    let lines = paths_of_lines whole c.loop-y.lines.items in record {
      xs = map whole xs;
      ys = map whole ys;
      at_xs = c.in_ok-xs.ensures.ok;
      at_ys = c.in_ok-ys.ensures.ok;
      are = one_after_another whole b xs ys lines
          (subst (λ l. lines ≡ map (λ x. upright b (whole x)) xs ++ map (λ y. level b (whole y)) l)
          (take_all c.loop-y.y-index c.deref-y-items.result.now c.loop-y-test.false ∙ c.deref-y-items.ensures.value)
          c.loop-y.invariant);
    }

pub returns-clause-in_range : goal.returns-clause-in_range
returns-clause-in_range g c =
    let whole = g.I.IntNumber.whole in
    let across = returns-clause-lines g c in
    subst (All (AllInRange g.I.IntNumber.limit)) (sym across.are)
    (lines_in_range g.I.IntNumber.limit (whole c.args.grid.width) (whole c.args.grid.height)
    (plain_bounds whole c.args.bounds) across.xs across.ys across.at_xs across.at_ys c.requires.bounds)
