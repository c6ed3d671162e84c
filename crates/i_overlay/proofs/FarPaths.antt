-- An arrangement of the edges of paths winds as they do, far from them. So contours that wind as asked off its edges
-- wind as asked of the paths.
use Rattle.std.proofs.Common.{◌≡◌, ℕ, Bool, cond, pos, List, [], ◌∷◌, ap₂, ◌∙◌}
use Rattle.std.specs.Prelude.{Result, Ok, Err, IfOk}
use Rattle.overlay_geom.specs.Edges.{CountedEdge}
use Rattle.overlay_geom.specs.Plane.{Point, PlanePoint, Step}
use Rattle.overlay_geom.specs.declared.error.OverlayError.{OverlayError}
use Rattle.overlay_geom.specs.declared.solver.Solver.{Solver}
use Rattle.overlay_geom.specs.declared.options.ShapeType.TheVariants.{Subject}
use Rattle.overlay_plane.specs.ContourWindings.{once_round}
use Rattle.overlay_plane.specs.ShapeWindings.{steps_of_shapes}
use Rattle.overlay_graph.specs.Arranged.{IsArranged}
use Rattle.overlay_builder.specs.GivenPaths.{GivenPath, added_paths, paths_for}
use Rattle.overlay_builder.specs.Held.{Held}
use Rattle.overlay_builder.specs.PathLists.{HoldsPaths}
use Rattle.overlay_builder.specs.PathWindings.{IsFarFromPaths}
use Rattle.overlay_builder.proofs.PathWindings.{contents_wind_as_paths, far_from_paths_is_far}
use Rattle.overlay_extract.specs.Results.{Asked, WindsRoundRegion, region_asked, filled_asked}
use Rattle.i_overlay.specs.Alone.{AnswersAlone, IsArrangedAlone, WindAsPaths}
use Rattle.i_overlay.specs.OneShot.{WindsRoundFarPaths}
use Rattle.i_overlay.specs.Simplified.{IsSimplified, IsSimplifiedSource, IsSimplifiedAlone}

module _ (keep : Bool) (solver : Solver) (paths : List GivenPath) where
  wind_as_paths : (content es : List CountedEdge) (holds : HoldsPaths (added_paths keep paths) content)
      (arranged : IsArranged solver content es) (p : PlanePoint) → IsFarFromPaths arranged.moving paths p →
      WindAsPaths paths es p
  wind_as_paths content es holds arranged p far =
      let given = arranged.far p (far_from_paths_is_far keep paths content holds arranged.moving p far) in
      let held = contents_wind_as_paths keep paths content holds p in record {
        off = given.off;
        wind = record { subj = given.subj ∙ held.subj; clip = given.clip ∙ held.clip };
      }

  -- an arrangement of the paths alone
  pub arranged_alone : (content es : List CountedEdge) → HoldsPaths (added_paths keep paths) content →
      IsArranged solver content es → IsArrangedAlone keep solver paths es
  arranged_alone content es holds arranged = record {
    content = content;
    holds = holds;
    arranged = arranged;
    far = wind_as_paths content es holds arranged;
  }

  -- what winds as asked off its edges winds as asked of the paths
  pub winds_of_paths : (q : Asked) (content es : List CountedEdge) (holds : HoldsPaths (added_paths keep paths) content)
      (arranged : IsArranged solver content es) (steps : List Step) → WindsRoundRegion q es steps →
      WindsRoundFarPaths arranged.moving q paths steps
  winds_of_paths q content es holds arranged steps winds p far =
      let there = wind_as_paths content es holds arranged p far in
      winds p there.off
      ∙ ap₂ (λ s c. cond (region_asked q s c) (once_round (filled_asked q)) (pos 0)) there.wind.subj there.wind.clip

-- simplified shapes wind as asked
simplified_winds : (q : Asked) (keep : Bool) (paths : List (List Point)) (es : List CountedEdge)
    (shapes : List (List (List Point))) → IsSimplified q keep paths es shapes → q.min_output_area ≡ 0 →
    WindsRoundRegion q es (steps_of_shapes shapes)
simplified_winds q keep [] es shapes is = is.winds
simplified_winds q keep (ps ∷ []) es shapes is = is.winds
simplified_winds q keep (ps ∷ qs ∷ paths) es shapes is = is.winds

-- so what a source is simplified to over an arrangement of its paths winds as asked of these
pub simplified_alone : {V : Type 0} (limit : ℕ) (solver : Solver) (q : Asked) (keep : Bool) (paths : List (List Point))
    (new : Held CountedEdge) (r : Result V OverlayError) (shapes : V → List (List (List Point))) →
    AnswersAlone limit solver keep (paths_for Subject paths) new r →
    IfOk r (λ v. IsSimplifiedSource q keep paths new.edges (shapes v)) →
    IfOk r (λ v. IsSimplifiedAlone solver q keep paths (shapes v))
simplified_alone limit solver q keep paths new (Ok v) shapes answers simplified = record {
  edges = new.edges;
  arranged = answers.arranged;
  simplified = simplified;
  winds = λ zero. winds_of_paths keep solver (paths_for Subject paths) q answers.arranged.content new.edges
      answers.arranged.holds answers.arranged.arranged (steps_of_shapes (shapes v))
      (simplified_winds q keep paths new.edges (shapes v) (simplified.without_minimum zero) zero);
}
simplified_alone limit solver q keep paths new (Err e) shapes answers simplified = tt
