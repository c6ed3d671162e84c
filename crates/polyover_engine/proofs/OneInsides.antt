-- Of points on no edge it is told in one way whether each is inside.
use Rattle.std.proofs.Common.{◌≡◌, ◌<◌, Bool, true, List, [], ◌∷◌, sym, ap, subst, ◌∙◌, arith}
use Rattle.std.proofs.lemmas.List.{ext_get_or}
use Rattle.std.specs.List.{flat_map}
use Rattle.std.specs.Prelude.{All}
use Rattle.overlay_geom.specs.Plane.{PlanePoint, Point, Edge, IsOff, in_plane}
use Rattle.overlay_relate.specs.Answers.{AnswersWhether}
use Rattle.overlay_relate.specs.Locations.{shapes_edges, is_in_shapes}
use Rattle.polyover_text.specs.Printed.{truth_line}
use Rattle.polyover_engine.specs.OneText.{OneTextOfInsides}
use Rattle.polyover_engine.specs.Subjects.{subject_of}

module _ (es : List Edge) (is_inside : PlanePoint → Bool) where
  -- two lists of answers about points off the edges are one
  one_list : (queries : List Point) (first second : List Bool) → All (λ p. IsOff es (in_plane p)) queries →
      AnswersWhether es is_inside queries first → AnswersWhether es is_inside queries second → first ≡ second
  one_list [] first second off a b = ext_get_or true first second (a.counted ∙ sym b.counted)
      (λ n h. absurd (let l = a.counted in omega (arith, l, h)))
  one_list (q ∷ qs) first second off a b = ext_get_or true first second (a.counted ∙ sym b.counted)
      (λ n h. let below = subst (λ k. n < k) a.counted h in
      a.each n q true below (off n q below) ∙ sym (b.each n q true below (off n q below)))

pub one_text_of_insides : OneTextOfInsides
one_text_of_insides fs first second off a b = a.2
    ∙ ap (flat_map truth_line) (one_list (shapes_edges (subject_of fs.contours ∷ []))
    (is_in_shapes (subject_of fs.contours ∷ [])) fs.points a.0 b.0 off a.1.inside b.1.inside)
    ∙ sym b.2
