-- The points of an input are in the coordinate range.
use Rattle.std.proofs.Common.{ℕ, List}
use Rattle.std.proofs.lemmas.List.Elements.{All-nil, All-cons}
use Rattle.overlay_order.specs.Paths.{GivenPath}
use Rattle.polyover_text.specs.declared.query.Query.{Query}
use Rattle.overlay_geom.specs.Plane.{Point}
use Rattle.overlay_geom.specs.Points.{InRange, AllInRange}
use Rattle.polyover_text.specs.Points.{FiguresInRange}
use Rattle.polyover_text.specs.Grammar.{Word, Line, GivesContour, contour, GivesPoint, point, ArePoints, none, more}
use Rattle.polyover_text.specs.Grammar.{GivesOpenPath, open_path}
use Rattle.polyover_text.specs.Grammar.{GivenFigures, AreFigures, blank, Asks}

points_in_range : (ws : List Word) (ps : List Point) → ArePoints ws ps → AllInRange 4611686018427387903 ps
points_in_range ws ps none = All-nil (InRange 4611686018427387903)
points_in_range ws ps (more x y h) = All-cons (InRange 4611686018427387903) _ _
    (record { x = x.in_range; y = y.in_range }) (points_in_range _ _ h)

contour_in_range : (l : Line) (c : GivenPath) → GivesContour l c → AllInRange 4611686018427387903 c.points
contour_in_range l c (contour h) = points_in_range _ _ h

path_in_range : (l : Line) (ps : List Point) → GivesOpenPath l ps → AllInRange 4611686018427387903 ps
path_in_range l ps (open_path h) = points_in_range _ _ h

point_in_range : (l : Line) (p : Point) → GivesPoint l p → InRange 4611686018427387903 p
point_in_range l p (point x y) = record { x = x.in_range; y = y.in_range }

figures_in_range : (n : ℕ) (ls : List Line) (fs : GivenFigures) → AreFigures n ls fs → FiguresInRange fs
figures_in_range n ls fs none =
    record {
      contours = All-nil (λ (c : GivenPath). AllInRange 4611686018427387903 c.points);
      lines = All-nil (AllInRange 4611686018427387903);
      points = All-nil (InRange 4611686018427387903);
    }
figures_in_range n ls fs (blank h) = figures_in_range _ _ _ h
figures_in_range n ls fs (contour first h) =
    let rest = figures_in_range _ _ _ h in
    record {
      contours = All-cons (λ (c : GivenPath). AllInRange 4611686018427387903 c.points) _ _ (contour_in_range _ _ first)
          rest.contours;
      lines = rest.lines;
      points = rest.points;
    }
figures_in_range n ls fs (open_path first h) =
    let rest = figures_in_range _ _ _ h in
    record {
      contours = rest.contours;
      lines = All-cons (AllInRange 4611686018427387903) _ _ (path_in_range _ _ first) rest.lines;
      points = rest.points;
    }
figures_in_range n ls fs (point first h) =
    let rest = figures_in_range _ _ _ h in
    record {
      contours = rest.contours;
      lines = rest.lines;
      points = All-cons (InRange 4611686018427387903) _ _ (point_in_range _ _ first)
          rest.points;
    }

pub asked_in_range : (ls : List Line) (fs : GivenFigures) (query : Query) → Asks ls fs query → FiguresInRange fs
asked_in_range ls fs query h = figures_in_range 1 h.before fs h.figures
