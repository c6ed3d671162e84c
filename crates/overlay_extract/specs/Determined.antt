-- Each answer of an overlay is the only answer over the edges of an arrangement: where collinear points stay, and where
-- they are dropped, in whatever order.
use Rattle.std.specs.Prelude.{◌≡◌, List}
use Rattle.overlay_geom.specs.Plane.{Point}
use Rattle.overlay_geom.specs.Edges.{CountedEdge, ends_of}
use Rattle.overlay_geom.specs.declared.solver.Solver.{Solver}
use Rattle.overlay_plane.specs.Balance.{HasBalancedCounts}
use Rattle.overlay_plane.specs.EdgeLists.{IsForwardBy}
use Rattle.overlay_plane.specs.Islands.{ChildLink}
use Rattle.overlay_graph.specs.Arranged.{IsArranged}
use Rattle.overlay_extract.specs.PlacedResults.{IsHierarchy}
use Rattle.overlay_extract.specs.Results.{Asked, IsResult, IsContoursResult}

-- the edges are an arrangement of edges with balanced counts, each from its smaller end to its larger one
pub record AreArrangedWithBalance (es : List CountedEdge) : Type 0 where
  pub solver : Solver
  pub old : List CountedEdge
  pub forward : IsForwardBy ends_of old
  pub balanced : HasBalancedCounts old
  pub arranged : IsArranged solver old es

-- two results asked for alike are equal
abbrev pub OneResult : Type 0
OneResult = (q : Asked) (es : List CountedEdge) → AreArrangedWithBalance es →
    (first second : List (List (List Point))) → IsResult q es first → IsResult q es second → first ≡ second

-- so are two lists of contours
abbrev pub OneListOfContours : Type 0
OneListOfContours = (q : Asked) (es : List CountedEdge) → AreArrangedWithBalance es →
    (first second : List (List Point)) → IsContoursResult q es first → IsContoursResult q es second → first ≡ second

-- two hierarchies asked for alike have equal links
abbrev pub OneListOfLinks : Type 0
OneListOfLinks = (q : Asked) (es : List CountedEdge) → AreArrangedWithBalance es →
    (first second : List (List (List Point))) (links others : List ChildLink) → IsHierarchy q es first links →
    IsHierarchy q es second others → links ≡ others
