-- What a line says, as the program holds it.
use Rattle.std.specs.Prelude.{◌≡◌, ◌⊎◌, List, [], ◌∷◌, map, codes}
use Rattle.overlay_order.specs.Paths.{GivenPath}
use Rattle.overlay_geom.specs.declared.options.ShapeType.{ShapeType}
use Rattle.overlay_geom.specs.Plane.{Point as WholePoint}
use Rattle.overlay_geom.specs.Points.{plain_point}
use Rattle.polyover_text.specs.declared.query.Query.{Query}
use Rattle.polyover_text.specs.declared.contour.HeldContour.{HeldContour}
use Rattle.polyover_text.specs.declared.figures.Figures.{Figures}
use Rattle.polyover_text.specs.declared.figures.NumberedContour.{NumberedContour}
use Rattle.polyover_text.specs.declared.statement.Statement.{Statement}
use Rattle.polyover_text.specs.declared.statement.Statement.TheVariants.{Blank, Contour, OpenPath, Point, Run}
use Rattle.polyover_text.specs.Grammar.{Line, GivesContour, GivesOpenPath, GivesPoint, IsCommand, shape_name}
use Rattle.polyover_text.specs.Grammar.{GivenContour, GivenFigures}
use Rattle.polyover_text.specs.Points.{points_at}
use Rattle.polyover_text.specs.declared.line_error.LineError.{LineError}
use Rattle.polyover_text.specs.declared.line_error.LineError.TheVariants.{Memory, Bad}

-- the closed path of a contour that the program holds
abbrev pub path_at : {A : Type 0} → HeldContour A → GivenPath
path_at c = record { shape_type = c.shape_type; points = points_at c.points.items }

-- a contour with the number of its line
abbrev pub contour_at : {A : Type 0} → NumberedContour A → GivenContour
contour_at c = record { line = c.line; path = path_at c.contour }

abbrev pub contours_at : {A : Type 0} → List (NumberedContour A) → List GivenContour
contours_at cs = map contour_at cs

-- the figures that the program holds
abbrev pub figures_at : {A : Type 0} → Figures A → GivenFigures
figures_at fs = record {
  contours = contours_at fs.contours.items;
  lines = map (λ ps. points_at ps.items)
      fs.lines.items;
  points = points_at fs.points.items;
}

-- the line says this
abbrev pub Says : {A : Type 0} → Line → Statement A → Type 0
Says l Blank = l ≡ []
Says l (Contour c) = GivesContour l (path_at c)
Says l (OpenPath ps) = GivesOpenPath l (points_at ps.items)
Says l (Point p) = GivesPoint l (plain_point (λ z. z) p)
Says l (Run query) = IsCommand l query

-- the line is not blank, no contour, no open path, no point and no command
pub record SaysNothing (l : Line) : Type 0 where
  pub some_word : ¬ (l ≡ [])
  pub no_contour : (c : GivenPath) → ¬ (GivesContour l c)
  pub no_path : (ps : List WholePoint) → ¬ (GivesOpenPath l ps)
  pub no_point : (p : WholePoint) → ¬ (GivesPoint l p)
  pub no_command : (query : Query) → ¬ (IsCommand l query)

-- the line begins with the name of a shape
pub record BeginsAsContour (l : Line) : Type 0 where
  pub shape_type : ShapeType
  pub rest : Line
  pub begins : l ≡ shape_name shape_type ∷ rest

-- it begins as an open path does
pub record BeginsAsOpenPath (l : Line) : Type 0 where
  pub rest : Line
  pub begins : l ≡ codes "line" ∷ rest

-- memory for the points of the line may have been refused
abbrev pub MayNotFit : Line → Type 0
MayNotFit l = BeginsAsContour l ⊎ BeginsAsOpenPath l

-- why the line was not read: memory was refused for its points, or it says nothing
abbrev pub IsFaultOf : Line → LineError → Type 0
IsFaultOf l Memory = MayNotFit l
IsFaultOf l Bad = SaysNothing l
