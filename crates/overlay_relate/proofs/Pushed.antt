-- Edges pushed one by one.
use Rattle.std.proofs.Common.{◌≡◌, List, [], ◌∷◌, ◌++◌, map, All, sym, ap, ◌∙◌, subst, append_assoc}
use Rattle.std.proofs.lemmas.List.{map-append}
use Rattle.std.proofs.lemmas.List.Elements.{All-push}
use Rattle.overlay_geom.specs.Plane.{Point, Edge}
use Rattle.overlay_geom.specs.Resolved.{edges_between, edges_through}
use Rattle.overlay_geom.proofs.ResolvedSteps.{edges_through-more}

-- what holds of each item, mapped, holds of one more
pub All-map_pushed : {X Y : Type 0} (P : Y → Type 0) (f : X → Y) (xs : List X) (x : X) → All P (map f xs) → P (f x) →
    All P (map f (xs ++ x ∷ []))
All-map_pushed P f xs x all here = subst (All P) (sym (map-append f xs (x ∷ []))) (All-push P (map f xs) (f x) all here)

-- the next edge moves from what is to come to what stands
pub edges_next : (from to : Point) (rest : List Point) (old new whole : List Edge) →
    old ++ edges_through from (to ∷ rest) ≡ whole → new ≡ old ++ edges_between from to →
    new ++ edges_through to rest ≡ whole
edges_next from to rest old new whole h e =
    ap (λ es. es ++ edges_through to rest) e ∙ append_assoc old (edges_between from to) (edges_through to rest)
    ∙ ap (λ es. old ++ es) (sym (edges_through-more from to rest)) ∙ h
