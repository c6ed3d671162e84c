-- The roles of contours, read one by one.
use Rattle.std.proofs.Common.{◌≡◌, ℕ, suc, ◌+◌, Bool, true, false, cond, ℤ, List, [], ◌∷◌, ◌++◌, map, length}
use Rattle.std.proofs.Common.{refl}
use Rattle.std.proofs.Common.{filter, Option, ap, ◌∙◌, arith}
use Rattle.overlay_plane.specs.RoledContours.{Contour, stands_in, is_outline}
use Rattle.overlay_plane.specs.BoundContours.{walks_in, known_in}
use Rattle.overlay_walk.specs.declared.contour.Contour.{Contour as ContourTaken}
use Rattle.overlay_walk.specs.GroupedContours.{plain_role, plain_contours, walk_of}
use Rattle.overlay_plane.specs.Islands.{place_if, hole_places}
use Rattle.overlay_extract.specs.HolePlaces.{at_outlines}

-- the number of the shape in which a contour stands from the start
abbrev pub number_of : {I A : Type 0} → ContourTaken I A → Option ℕ
number_of c = stands_in (plain_role c.role)

module _ {I A : Type 0} (whole : I → ℤ) where
  pub walks_alike : (cs : List (ContourTaken I A)) → walks_in (plain_contours whole cs) ≡ map (walk_of whole) cs
  walks_alike [] = refl
  walks_alike (c ∷ cs) = ap (λ ws. walk_of whole c ∷ ws) (walks_alike cs)

  pub numbers_alike : (cs : List (ContourTaken I A)) → known_in (plain_contours whole cs) ≡ map number_of cs
  numbers_alike [] = refl
  numbers_alike (c ∷ cs) = ap (λ ns. number_of c ∷ ns) (numbers_alike cs)

-- the number of outlines
abbrev pub outline_count : List Contour → ℕ
outline_count cs = length (filter (λ (c : Contour). is_outline c.role) cs)

-- one contour more
pub count_more : (cs : List Contour) (c : Contour) (t : Bool) → is_outline c.role ≡ t →
    outline_count (cs ++ c ∷ []) ≡ outline_count cs + cond t 1 0
count_more [] c t is = ap (λ b. length (cond b (c ∷ []) [])) is ∙ by t
  where
    by : (b : Bool) → length (cond b (c ∷ []) []) ≡ 0 + cond b 1 0
    by true = omega arith
    by false = omega arith
count_more (d ∷ ds) c t is = by (is_outline d.role) (count_more ds c t is)
  where
    by : (b : Bool) → outline_count (ds ++ c ∷ []) ≡ outline_count ds + cond t 1 0 →
        length (cond b (d ∷ filter (λ (e : Contour). is_outline e.role) (ds ++ c ∷ []))
        (filter (λ (e : Contour). is_outline e.role) (ds ++ c ∷ [])))
        ≡ length (cond b (d ∷ filter (λ (e : Contour). is_outline e.role) ds)
        (filter (λ (e : Contour). is_outline e.role) ds)) + cond t 1 0
    by true rest = omega (arith, rest)
    by false rest = rest

pub places_more : (n : ℕ) (cs : List Contour) (c : Contour) →
    hole_places n (cs ++ c ∷ []) ≡ hole_places n cs ++ place_if (is_outline c.role) (n + length cs) ∷ []
places_more n [] c = let here : n ≡ n + 0 = omega arith in ap (λ k. place_if (is_outline c.role) k ∷ []) here
places_more n (d ∷ ds) c = ap (λ ps. place_if (is_outline d.role) n ∷ ps) (places_more (suc n) ds c
    ∙ ap (λ k. hole_places (suc n) ds ++ place_if (is_outline c.role) k ∷ []) after)
  where
    after : suc n + length ds ≡ n + length (d ∷ ds)
    after = omega arith

pub outlines_more : (cs : List Contour) (fs : List (Option ℕ)) (c : Contour) (f : Option ℕ) → length fs ≡ length cs →
    at_outlines (cs ++ c ∷ []) (fs ++ f ∷ []) ≡ at_outlines cs fs ++ cond (is_outline c.role) (f ∷ []) []
outlines_more [] [] c f counted = refl
outlines_more [] (g ∷ gs) c f counted = absurd (omega (arith, counted))
outlines_more (d ∷ ds) [] c f counted = absurd (omega (arith, counted))
outlines_more (d ∷ ds) (g ∷ gs) c f counted = by (is_outline d.role) (outlines_more ds gs c f (omega (arith, counted)))
  where
    by : (b : Bool) → at_outlines (ds ++ c ∷ []) (gs ++ f ∷ []) ≡ at_outlines ds gs ++ cond (is_outline c.role)
        (f ∷ []) [] →
        cond b (g ∷ at_outlines (ds ++ c ∷ []) (gs ++ f ∷ [])) (at_outlines (ds ++ c ∷ []) (gs ++ f ∷ []))
        ≡ cond b (g ∷ at_outlines ds gs) (at_outlines ds gs) ++ cond (is_outline c.role) (f ∷ []) []
    by true rest = ap (λ ps. g ∷ ps) rest
    by false rest = rest
