-- A few edges, as a list.
use Rattle.std.specs.Prelude.{Option, Some, None, List, [], ◌∷◌, ◌++◌}
use Rattle.overlay_order.specs.declared.edge.CountedEdge.{CountedEdge}
use Rattle.overlay_located.specs.declared.few.Few.{Few}

abbrev pub if_some : {X : Type 0} → Option X → List X
if_some None = []
if_some (Some x) = x ∷ []

-- the last that was added comes first
abbrev pub few_edges : {I C : Type 0} → Few I C → List (CountedEdge I C)
few_edges f = if_some f.first ++ if_some f.second ++ if_some f.third ++ if_some f.fourth
