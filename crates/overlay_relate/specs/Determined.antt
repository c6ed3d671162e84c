-- Locations and relations are the only ones.
use Rattle.std.specs.Prelude.{◌≡◌, ◌↔◌, ℤ, Bool, List, All, IsTrue}
use Rattle.overlay_geom.specs.Plane.{Point, PlanePoint, Edge, in_plane, IsOff}
use Rattle.overlay_geom.specs.Edges.{CountedEdge}
use Rattle.overlay_plane.specs.Predicates.{IsDisjoint}
use Rattle.overlay_relate.specs.Answers.{AnswersWhere, AnswersWhether}
use Rattle.overlay_relate.specs.Bounded.{IsLocatedUnder}
use Rattle.overlay_relate.specs.Locations.{IsLocatedIn, IsLocatedAmong, IsLocatedBy}
use Rattle.overlay_relate.specs.PredicateQueries.{AreRelations, Holds}
use Rattle.overlay_relate.specs.declared.location.PointLocation.{PointLocation}
use Rattle.overlay_relate.specs.declared.predicate.Predicate.{Predicate}
use Rattle.overlay_relate.specs.declared.relations.Relations.{Relations}

-- two lists of locations of the same points, in one shape, are one
abbrev pub OneLocationIn : Type 0
OneLocationIn = (shape : List (List Point)) (queries : List Point) (first second : List PointLocation) →
    AnswersWhere (IsLocatedIn shape) queries first → AnswersWhere (IsLocatedIn shape) queries second → first ≡ second

-- and among shapes
abbrev pub OneLocationAmong : Type 0
OneLocationAmong = (shapes : List (List (List Point))) (queries : List Point) (first second : List PointLocation) →
    AnswersWhere (IsLocatedAmong shapes) queries first → AnswersWhere (IsLocatedAmong shapes) queries second →
    first ≡ second

-- and two locations of a point in the shape of an arrangement
abbrev pub OneLocationUnder : Type 0
OneLocationUnder = (filled : ℤ → Bool) (es : List CountedEdge) (p : PlanePoint) (l m : PointLocation) →
    IsLocatedUnder filled es p l → IsLocatedUnder filled es p m → l ≡ m

-- and two by the same edges
abbrev pub OneLocationBy : Type 0
OneLocationBy = (es : List Edge) (p : PlanePoint) (l m : PointLocation) → IsLocatedBy es p l → IsLocatedBy es p m →
    l ≡ m

-- two answers that tell of one arrangement are one
abbrev pub OneAnswerOfRelations : Type 0
OneAnswerOfRelations = (filled : ℤ → Bool) (es : List CountedEdge) (first second : Relations) →
    AreRelations filled es first → AreRelations filled es second → first ≡ second

-- two answers that tell of one predicate of one arrangement are one
abbrev pub OneAnswerOfPredicate : Type 0
OneAnswerOfPredicate = (p : Predicate) (filled : ℤ → Bool) (es : List CountedEdge) (first second : Bool) →
    IsTrue first ↔ Holds p filled es → IsTrue second ↔ Holds p filled es → first ≡ second

-- and two that tell whether subject and clip are disjoint
abbrev pub OneAnswerOfDisjoint : Type 0
OneAnswerOfDisjoint = (filled : ℤ → Bool) (es : List CountedEdge) (first second : Bool) →
    IsTrue first ↔ IsDisjoint filled es → IsTrue second ↔ IsDisjoint filled es → first ≡ second

-- two lists that tell of points off all edges whether they are inside are one
abbrev pub OneListOfInsides : Type 0
OneListOfInsides = (es : List Edge) (is_inside : PlanePoint → Bool) (queries : List Point) (first second : List Bool) →
    All (λ q. IsOff es (in_plane q)) queries → AnswersWhether es is_inside queries first →
    AnswersWhether es is_inside queries second → first ≡ second
