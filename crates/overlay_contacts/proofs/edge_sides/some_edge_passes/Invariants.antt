-- Whether some edge passes is whether one of those to come does.
use Rattle.std.proofs.Common.{◌≡◌, map, drop}
use Rattle.std.specs.List.{list_any}
use Rattle.overlay_contacts.specs.EdgeSides.{bits_pass}
use Rattle.overlay_contacts.proofs.edge_sides.some_edge_passes.Given as goal

abbrev pub invariant-loop-edge : goal.invariant-loop-edge
invariant-loop-edge g l = list_any (bits_pass l.test) (map (λ v. v.fill) (drop l.edge-index l.edges)) ≡ list_any
    (bits_pass l.test) (map (λ v. v.fill) l.edges)
