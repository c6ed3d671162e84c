-- What the program answers: the edges of the arrangement, the shapes of an overlay, how the subject and the clip lie to
-- each other, what a clip leaves of open paths, what these or a grid slice the subject into, or where points lie; and
-- the text of it.
use Rattle.std.specs.Prelude.{◌≡◌, ◌⊎◌, ℕ, Bool, List, [], ◌∷◌, ◌++◌, All}
use Rattle.std.specs.Int.{w128}
use Rattle.std.specs.List.{flat_map}
use Rattle.overlay_geom.specs.Numbers.{greatest_of_64_bits}
use Rattle.overlay_geom.specs.Resolved.{IsResolved}
use Rattle.overlay_geom.specs.declared.error.OverlayError.{OverlayError}
use Rattle.overlay_geom.specs.declared.error.OverlayError.TheVariants.{Memory}
use Rattle.overlay_geom.specs.Plane.{Point}
use Rattle.overlay_geom.specs.declared.solver.Solver.TheVariants.{Rounds}
use Rattle.overlay_relate.specs.Answers.{AnswersWhere, AnswersWhether}
use Rattle.overlay_relate.specs.Locations.{shapes_edges, is_in_shapes, IsLocatedAmong}
use Rattle.overlay_relate.specs.Exchanged.{exchanged_paths}
use Rattle.overlay_relate.specs.declared.location.PointLocation.{PointLocation}
use Rattle.overlay_relate.specs.declared.relations.Relations.{Relations}
use Rattle.overlay_order.specs.Vectors.{Vector}
use Rattle.i_overlay.specs.OneShot.{AreEdgesOfPaths, IsHierarchyOfPaths, IsResultOfPaths, MayRefusePaths}
use Rattle.i_overlay.specs.Relations.{AreRelationsOfPaths}
use Rattle.overlay_plane.specs.Islands.{ChildLink}
use Rattle.polyover_engine.specs.Builders.{asked_by}
use Rattle.polyover_text.specs.declared.query.Query.{Query}
use Rattle.polyover_text.specs.declared.query.TilesQuery.{TilesQuery}
use Rattle.polyover_text.specs.declared.query.Query.TheVariants.{Edges, Overlay, Hierarchy, Relate, ClipLines}
use Rattle.polyover_text.specs.declared.query.Query.TheVariants.{Slice, Tiles, Contains, Locate}
use Rattle.polyover_text.specs.Grammar.{GivenFigures, paths_of, Asks, input_lines}
use Rattle.polyover_text.specs.Printed.{edge_lines, lines_of_shapes, link_line, relation_lines, truth_line}
use Rattle.polyover_text.specs.Printed.{location_line, lines_of_paths}
use Rattle.polyover_engine.specs.declared.exit.Exit.{Exit}
use Rattle.polyover_engine.specs.declared.exit.Exit.TheVariants.{Answered, Refused, BadInput, Io}
use Rattle.overlay_string.specs.OneShot.{AreClippedOfPaths, MayRefusePaths as MayRefuseStrings}
use Rattle.overlay_string.specs.StringSlices.{AreSlicedOfPaths}
use Rattle.overlay_tiles.specs.Grids.{FitsGrid}
use Rattle.overlay_tiles.specs.Spans.{points_of_paths}
use Rattle.overlay_tiles.specs.Tiles.{AreTiles, MayRefuseTiles}
use Rattle.polyover_engine.specs.Clips.{clip_rule_of, shape_and_lines}
use Rattle.polyover_engine.specs.Subjects.{subject_of, IsFirstUnresolved}

-- a line for each link
abbrev pub link_lines : List ChildLink → List ℕ
link_lines links = flat_map (λ l. link_line l.parent_shape l.parent_contour l.child_shape) links

-- ---- points

-- the contours of the subject are resolved, and the answers tell of each point on none of their edges whether it is
-- inside them, as one shape
pub record TellInside (fs : GivenFigures) (answers : List Bool) : Type 0 where
  pub resolved : All IsResolved (subject_of fs.contours)
  pub inside : AnswersWhether (shapes_edges (subject_of fs.contours ∷ [])) (is_in_shapes (subject_of fs.contours ∷ []))
      fs.points answers

-- the contours of the subject are resolved, and the answers tell where each point lies in them, as one shape
pub record TellWhere (fs : GivenFigures) (answers : List PointLocation) : Type 0 where
  pub resolved : All IsResolved (subject_of fs.contours)
  pub located : AnswersWhere (IsLocatedAmong (subject_of fs.contours ∷ [])) fs.points answers

-- the grid that is asked for fits the subject
abbrev pub FitsSubject : GivenFigures → TilesQuery → Type 0
FitsSubject fs query = FitsGrid greatest_of_64_bits query.width query.height (points_of_paths (subject_of fs.contours))

-- ---- the answer

-- the text answers the query on the figures
abbrev pub Answers : GivenFigures → Query → List ℕ → Type 0
Answers fs (Edges fill) text = (vs : List Vector) × AreEdgesOfPaths Rounds fill (paths_of fs) vs ×
    (text ≡ edge_lines vs)
Answers fs (Overlay query) text = (shapes : List (List (List Point))) × IsResultOfPaths Rounds (asked_by query)
    (paths_of fs) shapes × (text ≡ lines_of_shapes shapes)
Answers fs (Hierarchy query) text = (shapes : List (List (List Point))) × (links : List ChildLink)
    × IsHierarchyOfPaths Rounds (asked_by query) (paths_of fs) shapes links
    × (text ≡ lines_of_shapes shapes ++ link_lines links)
Answers fs (Relate fill) text = (answers : Relations)
    × AreRelationsOfPaths Rounds fill (paths_of fs) (exchanged_paths (paths_of fs)) answers ×
    (text ≡ relation_lines answers)
Answers fs (ClipLines query) text = (paths : List (List Point))
    × AreClippedOfPaths Rounds query.fill_rule (clip_rule_of query.options) (shape_and_lines fs) paths
    × (text ≡ lines_of_paths paths)
Answers fs (Slice fill) text = (shapes : List (List (List Point)))
    × AreSlicedOfPaths Rounds w128 fill (shape_and_lines fs) shapes × (text ≡ lines_of_shapes shapes)
Answers fs (Tiles query) text = (shapes : List (List (List Point))) × FitsSubject fs query
    × AreTiles Rounds w128 query.fill_rule query.width query.height (subject_of fs.contours) shapes
    × (text ≡ lines_of_shapes shapes)
Answers fs Contains text = (answers : List Bool) × TellInside fs answers × (text ≡ flat_map truth_line answers)
Answers fs Locate text = (answers : List PointLocation) × TellWhere fs answers × (text ≡ flat_map location_line answers)

-- the query may be refused so: as the builder is, or for want of memory alone
abbrev pub MayRefuseQuery : GivenFigures → Query → OverlayError → Type 0
MayRefuseQuery fs (Edges fill) e = MayRefusePaths Rounds (paths_of fs) e
MayRefuseQuery fs (Overlay query) e = MayRefusePaths Rounds (paths_of fs) e
MayRefuseQuery fs (Hierarchy query) e = MayRefusePaths Rounds (paths_of fs) e
MayRefuseQuery fs (Relate fill) e = MayRefusePaths Rounds (paths_of fs) e
MayRefuseQuery fs (ClipLines query) e = MayRefuseStrings Rounds (shape_and_lines fs) e
MayRefuseQuery fs (Slice fill) e = MayRefuseStrings Rounds (shape_and_lines fs) e
MayRefuseQuery fs (Tiles query) e = (e ≡ Memory)
    ⊎ (FitsSubject fs query × MayRefuseTiles Rounds query.width query.height (subject_of fs.contours) e)
MayRefuseQuery fs Contains e = e ≡ Memory
MayRefuseQuery fs Locate e = e ≡ Memory

-- the query asks about points
abbrev pub AsksAboutPoints : Query → Type 0
AsksAboutPoints (Edges fill) = ⊥
AsksAboutPoints (Overlay query) = ⊥
AsksAboutPoints (Hierarchy query) = ⊥
AsksAboutPoints (Relate fill) = ⊥
AsksAboutPoints (ClipLines query) = ⊥
AsksAboutPoints (Slice fill) = ⊥
AsksAboutPoints (Tiles query) = ⊥
AsksAboutPoints Contains = Unit {0}
AsksAboutPoints Locate = Unit {0}

-- the query asks for tiles, of a grid that does not fit the subject
abbrev pub AsksForMisfit : GivenFigures → Query → Type 0
AsksForMisfit fs (Edges fill) = ⊥
AsksForMisfit fs (Overlay query) = ⊥
AsksForMisfit fs (Hierarchy query) = ⊥
AsksForMisfit fs (Relate fill) = ⊥
AsksForMisfit fs (ClipLines query) = ⊥
AsksForMisfit fs (Slice fill) = ⊥
AsksForMisfit fs (Tiles query) = ¬ (FitsSubject fs query)
AsksForMisfit fs Contains = ⊥
AsksForMisfit fs Locate = ⊥

-- why there is no answer, where the command stands in this line
abbrev pub EndsUnanswered : GivenFigures → ℕ → Query → Exit → Type 0
EndsUnanswered fs line query Answered = ⊥
EndsUnanswered fs line query (Refused e) = MayRefuseQuery fs query e
EndsUnanswered fs line query (BadInput n) = (AsksAboutPoints query × IsFirstUnresolved fs.contours n)
    ⊎ (AsksForMisfit fs query × (n ≡ line))
EndsUnanswered fs line query Io = ⊥

-- the text answers the input
pub record IsAnswer (bytes text : List ℕ) : Type 0 where
  pub figures : GivenFigures
  pub query : Query
  pub asks : Asks (input_lines bytes) figures query
  pub answers : Answers figures query text
