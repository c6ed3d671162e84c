-- Whether some sides pass is whether some of those to come do.
use Rattle.std.proofs.Common.{◌≡◌, drop}
use Rattle.std.specs.List.{list_any}
use Rattle.overlay_given.specs.Sides.{sides_pass}
use Rattle.overlay_given.proofs.sides.some_pass.Given as goal

abbrev pub invariant-loop-piece : goal.invariant-loop-piece
invariant-loop-piece l = list_any (sides_pass l.test) (drop l.piece-index l.sides) ≡ list_any (sides_pass l.test)
    l.sides
