-- The edges that are held and those to come are all of them.
use Rattle.std.proofs.Common.{◌≡◌, ◌++◌, drop, map}
use Rattle.overlay_traced.specs.Given.{held_edges, held_from, plain_given}
use Rattle.overlay_traced.proofs.given.add_given.Given as goal

abbrev pub invariant-loop-number : goal.invariant-loop-number
invariant-loop-number g l =
    l.content ++ held_from g.D.GivenData.given l.number (map (plain_given g.I.IntNumber.whole) (drop l.number l.edges))
    ≡ held_edges g.D.GivenData.given (map (plain_given g.I.IntNumber.whole) l.edges)
