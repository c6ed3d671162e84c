-- The given edges so far were added.
use Rattle.std.proofs.Common.{◌≡◌, ◌++◌, map, take}
use Rattle.overlay_traced.specs.Marks.{passed_on}
use Rattle.overlay_traced.proofs.naming.push_all.Given as goal

abbrev pub invariant-loop-source : goal.invariant-loop-source
invariant-loop-source l =
    l.sources.items ≡ l.initial.sources.items ++ map (passed_on l.passage) (take l.source-index l.list)
