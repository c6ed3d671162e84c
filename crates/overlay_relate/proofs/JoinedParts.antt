-- One contour more of a shape, or one shape more, by a run over it: the points of the run are asked, and the others lie
-- outside it, which leaves where they lie.
use Rattle.std.proofs.Common.{◌≡◌, ◌++◌, ◌∷◌, [], ℕ, ◌+◌, List, length, refl, ap, ◌∙◌, get_or}
use Rattle.std.specs.List.{slice_range}
use Rattle.overlay_geom.specs.Plane.{Point, in_plane}
use Rattle.overlay_relate.specs.Answers.{AnswersWhere}
use Rattle.overlay_relate.specs.Joined.{joined_by, AreJoined}
use Rattle.overlay_relate.specs.Locations.{IsLocatedIn, IsLocatedAmong, joined_contours, joined_shapes}
use Rattle.overlay_relate.specs.Runs.{IsRunOver}
use Rattle.overlay_relate.specs.declared.joined.Parts.TheVariants.{Contours, Shapes}
use Rattle.overlay_relate.specs.declared.location.PointLocation.{PointLocation}
use Rattle.overlay_relate.specs.declared.location.PointLocation.TheVariants.{Inside, Boundary, Outside}
use Rattle.overlay_relate.proofs.Beside.{outside_beside}
use Rattle.overlay_relate.proofs.JoinedRuns.{answers_with_run, answers_without_run, run_length}
use Rattle.overlay_relate.proofs.Located.{more_contours, one_shape_more}

outside_leaves : (l : PointLocation) → joined_contours l Outside ≡ l
outside_leaves Inside = refl
outside_leaves Boundary = refl
outside_leaves Outside = refl

outside_leaves_shapes : (l : PointLocation) → joined_shapes l Outside ≡ l
outside_leaves_shapes Inside = refl
outside_leaves_shapes Boundary = refl
outside_leaves_shapes Outside = refl

module _ (ps qs : List Point) (start end : ℕ) (run : IsRunOver (ps ∷ []) qs start end) (seen : List (List Point))
    (old : List PointLocation) (so_far : AnswersWhere (IsLocatedIn seen) qs old) where
  pub contour_joined : (new here : List PointLocation) → AnswersWhere (IsLocatedIn (ps ∷ [])) (slice_range qs start end)
      here → AreJoined (joined_by Contours) start (length here) here old new →
      AnswersWhere (IsLocatedIn (seen ++ ps ∷ [])) qs new
  contour_joined new here told are = answers_with_run
      (λ (q : Point) (l : PointLocation). IsLocatedIn seen (in_plane q) l)
      (λ (q : Point) (l : PointLocation). IsLocatedIn (seen ++ ps ∷ []) (in_plane q) l)
      (λ (q : Point) (l : PointLocation). IsLocatedIn (ps ∷ []) (in_plane q) l)
      (joined_by Contours) Outside (λ q l m. more_contours seen (ps ∷ []) (in_plane q) l m) outside_leaves
      qs start end run.ordered run.within (λ n d lt past. outside_beside (ps ∷ []) (get_or qs n d)
      (run.beside n d lt past))
      old new here so_far told
      (ap (λ n. start + n) told.counted ∙ run_length qs start end run.ordered run.within) are

  pub contour_apart : start ≡ end → AnswersWhere (IsLocatedIn (seen ++ ps ∷ [])) qs old
  contour_apart empty = answers_without_run
      (λ (q : Point) (l : PointLocation). IsLocatedIn seen (in_plane q) l)
      (λ (q : Point) (l : PointLocation). IsLocatedIn (seen ++ ps ∷ []) (in_plane q) l)
      (λ (q : Point) (l : PointLocation). IsLocatedIn (ps ∷ []) (in_plane q) l)
      (joined_by Contours) Outside (λ q l m. more_contours seen (ps ∷ []) (in_plane q) l m) outside_leaves
      qs start end run.ordered run.within (λ n d lt past. outside_beside (ps ∷ []) (get_or qs n d)
      (run.beside n d lt past))
      old so_far empty

module _ (shape : List (List Point)) (qs : List Point) (start end : ℕ) (run : IsRunOver shape qs start end)
    (seen : List (List (List Point))) (old : List PointLocation)
    (so_far : AnswersWhere (IsLocatedAmong seen) qs old) where
  pub shape_joined : (new here : List PointLocation) → AnswersWhere (IsLocatedIn shape) (slice_range qs start end)
      here → AreJoined (joined_by Shapes) start (length here) here old new →
      AnswersWhere (IsLocatedAmong (seen ++ shape ∷ [])) qs new
  shape_joined new here told are = answers_with_run
      (λ (q : Point) (l : PointLocation). IsLocatedAmong seen (in_plane q) l)
      (λ (q : Point) (l : PointLocation). IsLocatedAmong (seen ++ shape ∷ []) (in_plane q) l)
      (λ (q : Point) (l : PointLocation). IsLocatedIn shape (in_plane q) l)
      (joined_by Shapes) Outside (λ q l m. one_shape_more seen shape (in_plane q) l m) outside_leaves_shapes
      qs start end run.ordered run.within (λ n d lt past. outside_beside shape (get_or qs n d) (run.beside n d lt past))
      old new here so_far told
      (ap (λ n. start + n) told.counted ∙ run_length qs start end run.ordered run.within) are

  pub shape_apart : start ≡ end → AnswersWhere (IsLocatedAmong (seen ++ shape ∷ [])) qs old
  shape_apart empty = answers_without_run
      (λ (q : Point) (l : PointLocation). IsLocatedAmong seen (in_plane q) l)
      (λ (q : Point) (l : PointLocation). IsLocatedAmong (seen ++ shape ∷ []) (in_plane q) l)
      (λ (q : Point) (l : PointLocation). IsLocatedIn shape (in_plane q) l)
      (joined_by Shapes) Outside (λ q l m. one_shape_more seen shape (in_plane q) l m) outside_leaves_shapes
      qs start end run.ordered run.within (λ n d lt past. outside_beside shape (get_or qs n d) (run.beside n d lt past))
      old so_far empty
