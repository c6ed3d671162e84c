-- Parts of light edges are light, each by itself.
use Rattle.std.proofs.Common.{◌≡◌, ℕ, ◌+◌, ◌^◌, ◌<◌, ◌≤◌, ℤ, List, [], ◌∷◌, ◌++◌, map, All, length, get_or, take}
use Rattle.std.proofs.Common.{sym, ap, ◌∙◌, subst, arith}
use Rattle.std.specs.List.{sum_by}
use Rattle.std.proofs.lemmas.List.{map-append, take-map}
use Rattle.std.proofs.lemmas.List.Elements.{All-take}
use Rattle.std.proofs.lemmas.List.Sums.{sum_by-take-le, sum_by_more_le}
use Rattle.overlay_geom.specs.Counts.{Counts}
use Rattle.overlay_geom.specs.Edges.{weight}
use Rattle.overlay_geom.proofs.Mapped.{mapped_more}
use Rattle.overlay_plane.specs.Carried.{Carried, edges_in}
use Rattle.overlay_order.specs.Content.{plain_edge}
use Rattle.overlay_parts.specs.PartedContents.{cover_of, AreLightParts}
use Rattle.overlay_parts.specs.PartedContents.{carried_parts, edges_in_parts}
use Rattle.overlay_parts.specs.Parts.{ends_of_part, lone_part, plain_part, plain_parts, IsHeldPart, Part}
use Rattle.overlay_parts.specs.declared.parts.Part.{Part as HeldPart}
use Rattle.overlay_parts.proofs.CoveredParts.{weight_of_parts}
use Rattle.overlay_parts.proofs.PartsOfEdges.{cover_at, cover_kept, cover_start, lone_cover}

-- each part covers no more than the edges weigh
pub each_light : {C : Type 0} (merges : C → C → C → Type 0) (limit : ℕ) (parts : List (Part C)) →
    AreLightParts merges parts → All (IsHeldPart limit) parts → All (λ part. part.cover < 2 ^ 31) parts
each_light merges limit parts light held = λ i d within.
    let p = get_or parts i d in
    let u = (ends_of_part p).a in
    let kept = cover_kept merges u light.parted in
    let lone = lone_cover u light.edges in
    let some = sum_by_more_le (cover_at u) parts i d within in
    let here = cover_start p (held i d within).held.forward in
    let all = light.light in
    together (sum_by (cover_at u) (take i parts)) (cover_at u p) (sum_by (cover_at u) parts)
    (sum_by (cover_at u) (map lone_part light.edges)) (weight (edges_in light.edges)) p.cover some kept lone all here
  where
    together : (a b c d w n : ℕ) → a + b ≤ c → c ≡ d → d ≤ w → w < 2 ^ 31 → b ≡ n → n < 2 ^ 31
    together a b c d w n le same lone all here = omega (arith, le, same, lone, all, here)

-- the first parts weigh no more than the edges of all
pub first_weigh : {I C : Type 0} (whole : I → ℤ) (counts : C → Counts) (limit : ℕ) (ps : List (HeldPart I C)) (n : ℕ) →
    All (IsHeldPart limit) (plain_parts whole counts ps) →
    weight (edges_in_parts (plain_parts whole counts (take n ps))) ≤ cover_of (plain_parts whole counts ps)
first_weigh whole counts limit ps n held =
    let all = plain_parts whole counts ps in
    let same : take n all ≡ plain_parts whole counts (take n ps) = take-map (plain_part whole counts) n ps in
    let first = weight_of_parts limit (take n all) (All-take (IsHeldPart limit) n all held) in
    let rest = sum_by-take-le (λ (p : Part _). p.cover) all n in
    let le : weight (edges_in_parts (take n all)) ≤ cover_of all = omega (arith, first, rest) in
    subst (λ qs. weight (edges_in_parts qs) ≤ cover_of all) same le

-- where a content of the first parts gets too heavy with the next, all edges weigh too much
pub heavy_next : {I C : Type 0} (whole : I → ℤ) (counts : C → Counts) (limit n : ℕ) (ps : List (HeldPart I C)) (i : ℕ)
    (p : HeldPart I C) → i < length ps → p ≡ get_or ps i p → All (IsHeldPart limit) (plain_parts whole counts ps) →
    (content : List (Carried C)) → content ≡ carried_parts (plain_parts whole counts (take i ps)) →
    n ≤ weight (edges_in content ++ plain_edge whole counts p.edge ∷ []) →
    n ≤ cover_of (plain_parts whole counts ps)
heavy_next whole counts limit n ps i p within at held content is heavy =
    let plain = plain_part whole counts in
    let next : edges_in_parts (map plain (take (i + 1) ps)) ≡ edges_in content ++ plain_edge whole counts p.edge ∷ [] =
    ap edges_in_parts (mapped_more plain ps i p within at)
    ∙ ap edges_in (map-append (λ (q : Part _). q.edge) (map plain (take i ps)) (plain p ∷ []))
    ∙ map-append (λ (x : Carried _). x.edge) (carried_parts (map plain (take i ps))) ((plain p).edge ∷ [])
    ∙ ap (λ xs. edges_in xs ++ plain_edge whole counts p.edge ∷ []) (sym is) in
    let all = first_weigh whole counts limit ps (i + 1) held in
    let same = ap weight next in
    omega (arith, heavy, all, same)
