-- Parts are their edges, each with its hidden weight.
use Rattle.std.proofs.Common.{◌≡◌, ℕ, ◌+◌, ◌-◌, ◌≤◌, List, [], ◌∷◌, map, All, refl, ap, ◌∙◌, arith}
use Rattle.std.proofs.lemmas.List.Elements.{All-head, All-tail}
use Rattle.std.proofs.lemmas.List.Sums.{sum_by-cons}
use Rattle.overlay_geom.specs.Counts.{weight_of_counts}
use Rattle.overlay_geom.specs.Edges.{weight}
use Rattle.overlay_geom.proofs.Weights.{weight-cons}
use Rattle.overlay_plane.specs.Carried.{Carried}
use Rattle.overlay_parts.specs.Parts.{Part, IsHeldPart}
use Rattle.overlay_parts.specs.PartedContents.{cover_of, hidden_weight}
use Rattle.overlay_parts.specs.PartedContents.{carried_parts, covered, edges_in_parts}

-- an edge as a part of edges that weigh this much
abbrev part_with : {C : Type 0} → Carried C → ℕ → Part C
part_with x n = record { edge = x; cover = n }

-- a number is a smaller number and what it is more
difference_on : (n m : ℕ) → n ≤ m → n + (m - n) ≡ m
difference_on n m le = omega arith

-- the edges of parts, with their hidden weights, are the parts
pub covered_again : {C : Type 0} (limit : ℕ) (parts : List (Part C)) → All (IsHeldPart limit) parts →
    covered (carried_parts parts) (map hidden_weight parts) ≡ parts
covered_again limit [] held = refl
covered_again limit (p ∷ ps) held =
    let light : weight_of_counts p.edge.edge.counts ≤ p.cover = (All-head (IsHeldPart limit) p ps held).light in
    ap (λ qs. part_with p.edge (weight_of_counts p.edge.edge.counts + hidden_weight p) ∷ qs)
    (covered_again limit ps (All-tail (IsHeldPart limit) p ps held))
    ∙ ap (λ n. part_with p.edge n ∷ ps) (difference_on (weight_of_counts p.edge.edge.counts) p.cover light)

-- parts weigh no more than the edges over them
pub weight_of_parts : {C : Type 0} (limit : ℕ) (parts : List (Part C)) → All (IsHeldPart limit) parts →
    weight (edges_in_parts parts) ≤ cover_of parts
weight_of_parts limit [] held = omega arith
weight_of_parts limit (p ∷ ps) held =
    let light = (All-head (IsHeldPart limit) p ps held).light in
    let rest = weight_of_parts limit ps (All-tail (IsHeldPart limit) p ps held) in
    let first = weight-cons p.edge.edge (edges_in_parts ps) in
    let all = sum_by-cons (λ q. q.cover) p ps in
    omega (arith, light, rest, first, all)
