-- The lines so far are those at the places so far.
use Rattle.std.proofs.Common.{◌≡◌, ◌++◌, map, take}
use Rattle.overlay_string.specs.StringPaths.{paths_of_lines}
use Rattle.overlay_tiles.specs.Grids.{level, upright}
use Rattle.overlay_tiles.specs.Spans.{plain_bounds}
use Rattle.overlay_tiles.proofs.lines.lines_across.Given as goal

abbrev pub invariant-loop-x : goal.invariant-loop-x
invariant-loop-x g l =
    let whole = g.I.IntNumber.whole in
    paths_of_lines whole l.lines.items
    ≡ map (λ x. upright (plain_bounds whole l.bounds) (whole x)) (take l.x-index l.x-items)

abbrev pub invariant-loop-y : goal.invariant-loop-y
invariant-loop-y g l =
    let whole = g.I.IntNumber.whole in
    let b = plain_bounds whole l.bounds in
    paths_of_lines whole l.lines.items ≡ map (λ x. upright b (whole x)) l.xs.items
    ++ map (λ y. level b (whole y)) (take l.y-index l.y-items)
