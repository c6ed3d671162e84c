-- The subject of an input, sliced along its open paths.
use Rattle.std.proofs.Common.{◌≡◌, List, [], ◌∷◌, subst}
use Rattle.std.proofs.lemmas.List.Elements.{All-nil, All-cons, All-head, All-tail, All-append}
use Rattle.std.specs.Int.{w128}
use Rattle.std.specs.Prelude.{Result, Ok, Err, IfOk, IfErr, MatchResult, All}
use Rattle.overlay_geom.specs.Edges.{CountedEdge}
use Rattle.overlay_geom.specs.Plane.{Point}
use Rattle.overlay_geom.specs.Points.{AllInRange}
use Rattle.overlay_geom.specs.declared.error.OverlayError.{OverlayError}
use Rattle.overlay_geom.specs.Numbers.{greatest_of_64_bits}
use Rattle.overlay_geom.specs.declared.solver.Solver.TheVariants.{Rounds}
use Rattle.overlay_geom.specs.declared.fill_rule.FillRule.{FillRule}
use Rattle.overlay_geom.specs.declared.options.ShapeType.{ShapeType}
use Rattle.overlay_geom.specs.declared.options.ShapeType.TheVariants.{Subject, Clip}
use Rattle.overlay_order.specs.Paths.{GivenPath}
use Rattle.overlay_builder.specs.PathLists.{AddedPath}
use Rattle.overlay_string.specs.OneShot.{MayRefusePaths}
use Rattle.overlay_string.specs.StringSlices.{AreSlicedOfPaths}
use Rattle.polyover_text.specs.Grammar.{GivenContour, contour_paths}
use Rattle.polyover_engine.specs.Subjects.{subject_part, subject_of}

part_in_range : (shape_type : ShapeType) (ps : List Point) → AllInRange greatest_of_64_bits ps
    → All (AllInRange greatest_of_64_bits) (subject_part shape_type ps)
part_in_range Subject ps h =
    All-cons (AllInRange greatest_of_64_bits) ps [] h (All-nil (AllInRange greatest_of_64_bits))
part_in_range Clip ps h = All-nil (AllInRange greatest_of_64_bits)

-- where the contours are in the coordinate range, so is the subject
pub subject_in_range : (cs : List GivenContour)
    → All (λ (c : GivenPath). AllInRange greatest_of_64_bits c.points) (contour_paths cs)
    → All (AllInRange greatest_of_64_bits) (subject_of cs)
subject_in_range [] h = All-nil (AllInRange greatest_of_64_bits)
subject_in_range (c ∷ cs) h =
    All-append (AllInRange greatest_of_64_bits) (subject_part c.path.shape_type c.path.points) (subject_of cs)
    (part_in_range c.path.shape_type c.path.points
    (All-head (λ (d : GivenPath). AllInRange greatest_of_64_bits d.points) c.path (contour_paths cs) h))
    (subject_in_range cs (All-tail (λ (d : GivenPath). AllInRange greatest_of_64_bits d.points) c.path
    (contour_paths cs) h))

-- what slicing answers of some paths, it answers of the same paths
pub slices_answered : {V : Type 0} (shown : V → List (List (List Point))) (fill : FillRule)
    (given paths : List (AddedPath CountedEdge)) → given ≡ paths → (r : Result V OverlayError)
    → IfOk r (λ v. AreSlicedOfPaths Rounds w128 fill given (shown v)) → IfErr r (MayRefusePaths Rounds given)
    → MatchResult r (λ v. AreSlicedOfPaths Rounds w128 fill paths (shown v)) (λ e. MayRefusePaths Rounds paths e)
slices_answered shown fill given paths same (Ok v) sliced refused =
    subst (λ l. AreSlicedOfPaths Rounds w128 fill l (shown v)) same sliced
slices_answered shown fill given paths same (Err e) sliced refused = subst (λ l. MayRefusePaths Rounds l e) same refused
