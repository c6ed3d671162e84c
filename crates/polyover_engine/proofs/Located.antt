-- What is told of the points of an input, and why nothing is.
use Rattle.std.proofs.Common.{◌≡◌, ℕ, Bool, List, [], ◌∷◌, inl, subst}
use Rattle.overlay_geom.specs.Plane.{Point}
use Rattle.overlay_geom.specs.Resolved.{IsResolved}
use Rattle.overlay_relate.specs.Answers.{AnswersWhere, AnswersWhether}
use Rattle.overlay_relate.specs.Locations.{shapes_edges, is_in_shapes, IsLocatedAmong}
use Rattle.overlay_relate.specs.declared.location.PointLocation.{PointLocation}
use Rattle.std.specs.Prelude.{All}
use Rattle.polyover_text.specs.Grammar.{GivenContour, GivenFigures}
use Rattle.polyover_text.specs.declared.query.Query.TheVariants.{Contains, Locate}
use Rattle.polyover_engine.specs.Answers.{TellInside, TellWhere, EndsUnanswered}
use Rattle.polyover_engine.specs.Subjects.{subject_of, IsSubject, HasNoSubject}
use Rattle.polyover_engine.specs.declared.exit.Exit.{Exit}
use Rattle.polyover_engine.specs.declared.exit.Exit.TheVariants.{Answered, Refused, BadInput, Io}

module _ (fs : GivenFigures) (contours : List GivenContour) (points : List Point) (shape : List (List Point))
    (same : contours ≡ fs.contours)
    (asked : points ≡ fs.points) (h : IsSubject contours shape) where
  shown : shape ≡ subject_of fs.contours
  shown = subst (λ cs. shape ≡ subject_of cs) same h.shown

  pub tells_inside : (answers : List Bool) → AnswersWhether (shapes_edges (shape ∷ [])) (is_in_shapes (shape ∷ []))
      points answers → TellInside fs answers
  tells_inside answers told = record {
    resolved = subst (All IsResolved) shown h.resolved;
    inside = subst (λ ps. AnswersWhether (shapes_edges (subject_of fs.contours ∷ []))
        (is_in_shapes (subject_of fs.contours ∷ [])) ps answers) asked
        (subst (λ s. AnswersWhether (shapes_edges (s ∷ [])) (is_in_shapes (s ∷ [])) points answers) shown told);
  }

  pub tells_where : (answers : List PointLocation) → AnswersWhere (IsLocatedAmong (shape ∷ [])) points answers →
      TellWhere fs answers
  tells_where answers told = record {
    resolved = subst (All IsResolved) shown h.resolved;
    located = subst (λ ps. AnswersWhere (IsLocatedAmong (subject_of fs.contours ∷ [])) ps answers) asked
        (subst (λ s. AnswersWhere (IsLocatedAmong (s ∷ [])) points answers) shown told);
  }

-- why nothing is told of them does not depend on where the command stands
module _ (fs : GivenFigures) (line : ℕ) where
  pub nothing_inside : (exit : Exit) → HasNoSubject fs.contours exit → EndsUnanswered fs line Contains exit
  nothing_inside Answered h = absurd h
  nothing_inside (Refused e) h = h
  nothing_inside (BadInput n) h = inl (tt, h)
  nothing_inside Io h = absurd h

  pub nothing_located : (exit : Exit) → HasNoSubject fs.contours exit → EndsUnanswered fs line Locate exit
  nothing_located Answered h = absurd h
  nothing_located (Refused e) h = h
  nothing_located (BadInput n) h = inl (tt, h)
  nothing_located Io h = absurd h
