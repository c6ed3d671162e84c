-- The list begins with the given edges so far.
use Rattle.std.proofs.Common.{◌≡◌, ◌++◌, map, take}
use Rattle.overlay_traced.specs.Marks.{passed_on}
use Rattle.overlay_traced.proofs.matching.rest_after_all.Given as goal

abbrev pub invariant-loop-source : goal.invariant-loop-source
invariant-loop-source l =
    l.list ≡ map (passed_on l.passage) (take l.source-index l.sources) ++ l.rest
