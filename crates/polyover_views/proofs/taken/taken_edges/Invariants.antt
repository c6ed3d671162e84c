-- The edges so far are taken out of their forms.
use Rattle.std.proofs.Common.{◌≡◌, map, take}
use Rattle.polyover_views.proofs.taken.taken_edges.Given as goal

abbrev pub invariant-loop-edge : goal.invariant-loop-edge
invariant-loop-edge g l = l.edges.items ≡ map g.E.FormOf.meant (take l.edge-index l.held)
