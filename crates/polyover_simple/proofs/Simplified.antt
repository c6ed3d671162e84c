-- What new builders answer of paths that are simplified.
use Rattle.std.proofs.Common.{◌≡◌, ◌≢◌, ℕ, zero, suc, Bool, false, List, [], ◌∷◌, length, refl, sym, ap, subst, arith}
use Rattle.std.proofs.lemmas.Bool.{false≢true}
use Rattle.std.specs.Prelude.{◌↔◌, IsTrue}
use Rattle.overlay_builder.specs.GivenPaths.{paths_for}
use Rattle.overlay_extract.specs.Results.{Asked, WindsRoundRegion}
use Rattle.overlay_geom.specs.Edges.{CountedEdge}
use Rattle.overlay_geom.specs.Plane.{Point}
use Rattle.overlay_geom.specs.declared.options.ShapeType.TheVariants.{Subject}
use Rattle.overlay_geom.specs.declared.solver.Solver.{Solver}
use Rattle.overlay_plane.specs.ShapeWindings.{steps_of_shapes}
use Rattle.i_overlay.specs.Alone.{IsArrangedAlone}
use Rattle.i_overlay.specs.Simplified.{IsSimplified, IsSimplifiedSource, StayAsGiven}
use Rattle.i_overlay.proofs.FarPaths.{winds_of_paths}
use Rattle.polyover_simple.specs.Simplified.{AreSimplifiedSo}

-- simplified shapes wind as asked
simplified_winds : (q : Asked) (keep : Bool) (paths : List (List Point)) (es : List CountedEdge)
    (shapes : List (List (List Point))) → IsSimplified q keep paths es shapes → q.min_output_area ≡ 0 →
    WindsRoundRegion q es (steps_of_shapes shapes)
simplified_winds q keep [] es shapes is = is.winds
simplified_winds q keep (ps ∷ []) es shapes is = is.winds
simplified_winds q keep (ps ∷ qs ∷ paths) es shapes is = is.winds

module _ (solver : Solver) (q : Asked) (keep : Bool) (paths : List (List Point)) (edges : List CountedEdge)
    (arranged : IsArrangedAlone keep solver (paths_for Subject paths) edges) (shapes : List (List (List Point))) where
  pub simplified_so : IsSimplified q keep paths edges shapes → (stay : Bool) →
      (IsTrue stay ↔ StayAsGiven q keep paths edges) → AreSimplifiedSo solver q keep paths shapes stay
  simplified_so is stay told = record {
    edges = edges;
    arranged = arranged;
    simplified = is;
    as_given = told;
    winds = λ none. winds_of_paths keep solver (paths_for Subject paths) q arranged.content edges arranged.holds
        arranged.arranged (steps_of_shapes shapes) (simplified_winds q keep paths edges shapes is none);
  }

  -- a source is simplified as its paths are, but for one path with a positive minimum area
  as_paths : length paths ≢ 1 → IsSimplifiedSource q keep paths edges shapes → IsSimplified q keep paths edges shapes
  as_paths not_one is = by q.min_output_area refl paths refl
    where
      by : (n : ℕ) → q.min_output_area ≡ n → (all : List (List Point)) → paths ≡ all →
          IsSimplified q keep paths edges shapes
      by zero none all same = is.without_minimum none
      by (suc n) some [] same = subst (λ ps. IsSimplified q keep ps edges shapes) (sym same)
          (is.with_minimum (λ none. omega (arith, some, none)))
      by (suc n) some (ps ∷ []) same = absurd (not_one (ap length same))
      by (suc n) some (ps ∷ qs ∷ all) same = subst (λ ps. IsSimplified q keep ps edges shapes) (sym same)
          (is.with_minimum (λ none. omega (arith, some, none)))

  -- of several paths, or of none, it is not said that they stay
  never_stay : (all : List (List Point)) → length all ≢ 1 → IsTrue false ↔ StayAsGiven q keep all edges
  never_stay [] not_one = (λ no. absurd (false≢true no), λ no. absurd no)
  never_stay (ps ∷ []) not_one = absurd (not_one refl)
  never_stay (ps ∷ qs ∷ all) not_one = (λ no. absurd (false≢true no), λ no. absurd no)

  pub source_simplified_so : length paths ≢ 1 → IsSimplifiedSource q keep paths edges shapes →
      AreSimplifiedSo solver q keep paths shapes false
  source_simplified_so not_one is = simplified_so (as_paths not_one is) false (never_stay paths not_one)
