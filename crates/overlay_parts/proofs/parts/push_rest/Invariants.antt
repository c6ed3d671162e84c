-- The parts so far, and those to come.
use Rattle.std.proofs.Common.{◌≡◌, ◌++◌}
use Rattle.overlay_geom.specs.Points.{plain_point}
use Rattle.overlay_parts.specs.Parts.{plain_parts}
use Rattle.overlay_parts.proofs.JoinedParts.{left_behind}
use Rattle.overlay_parts.proofs.parts.push_rest.Given as goal

abbrev pub invariant-loop-k : goal.invariant-loop-k
invariant-loop-k g l =
    let whole = g.I.IntNumber.whole in
    let counts = g.C.EdgeCount.counts in
    let v = plain_point whole l.done in
    plain_parts whole counts l.parts.items ++ left_behind whole counts v l.k l.more
    ≡ plain_parts whole counts l.initial.parts.items ++ left_behind whole counts v l.i l.more
