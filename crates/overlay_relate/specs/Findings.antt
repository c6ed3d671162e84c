-- What a query finds of an arrangement, which its builder keeps: the answer of one predicate, or those of all.
use Rattle.std.specs.Prelude.{◌≡◌, ◌↔◌, ℕ, Bool, true, false, List, Option, IsTrue, IfSome}
use Rattle.overlay_geom.specs.Edges.{CountedEdge}
use Rattle.overlay_geom.specs.Rules.{is_filled}
use Rattle.overlay_geom.specs.declared.fill_rule.FillRule.{FillRule}
use Rattle.overlay_plane.specs.Predicates.{IsFillable}
use Rattle.overlay_order.specs.Content.{IsContent}
use Rattle.overlay_graph.specs.Arranged.{WasArranged}
use Rattle.overlay_builder.specs.GivenPaths.{IsBalancedUnlessFailed}
use Rattle.overlay_relate.specs.Found.{IsFoundUnder, answer_by}
use Rattle.overlay_relate.specs.PredicateQueries.{Holds}
use Rattle.overlay_relate.specs.declared.edge_test.EdgeTest.{EdgeTest}
use Rattle.overlay_relate.specs.declared.edge_test.EdgeTest.TheVariants.{BothShapes, CommonSide}
use Rattle.overlay_relate.specs.declared.edge_test.EdgeTest.TheVariants.{SubjectOutside, ClipOutside}
use Rattle.overlay_relate.specs.declared.finding.Finding.{Finding}
use Rattle.overlay_relate.specs.declared.finding.Finding.TheVariants.{One, All}
use Rattle.overlay_relate.specs.declared.predicate.Predicate.{Predicate}
use Rattle.overlay_relate.specs.declared.predicate.Predicate.TheVariants.{Intersect, InteriorsIntersect as Interiors}
use Rattle.overlay_relate.specs.declared.predicate.Predicate.TheVariants.{Touch, PointIntersect, Within, Cover}

-- an edge that passes this test tells the predicate
abbrev pub telling_test : Predicate → EdgeTest
telling_test Intersect = BothShapes
telling_test Interiors = CommonSide
telling_test Touch = CommonSide
telling_test PointIntersect = BothShapes
telling_test Within = SubjectOutside
telling_test Cover = ClipOutside

-- and this is its answer then
abbrev pub is_told : Predicate → Bool
is_told Intersect = true
is_told Interiors = true
is_told Touch = false
is_told PointIntersect = false
is_told Within = false
is_told Cover = false

-- the answer tells whether the predicate holds under the rule, of a planar list with balanced counts
pub record Tells (rule : FillRule) (es : List CountedEdge) (p : Predicate) (answer : Bool) : Type 0 where
  pub fillable : IsFillable (is_filled rule) es
  pub right : IsTrue answer ↔ Holds p (is_filled rule) es

-- a finding answers the predicate that was asked so
abbrev pub finding_answer : Finding → Predicate → Bool
finding_answer (One told) p = told.answer
finding_answer (All found) p = answer_by found p

-- a finding is right of a list, under its own rule
abbrev pub IsRight : List CountedEdge → Finding → Type 0
IsRight es (One told) = Tells told.fill_rule es told.predicate told.answer
IsRight es (All found) = IsFoundUnder found.fill_rule es found

-- and answers the predicate under the rule
pub record IsAnswering (rule : FillRule) (es : List CountedEdge) (p : Predicate) (f : Finding) : Type 0 where
  pub right : IsRight es f
  pub tells : Tells rule es p (finding_answer f p)

-- a builder that has not failed keeps a finding that is right of the edges that it holds, which are an arrangement
pub record IsKept (limit : ℕ) (failed : Bool) (es : List CountedEdge) (f : Finding) : Type 0 where
  pub usable : failed ≡ false
  pub content : IsContent limit es
  pub arranged : WasArranged es
  pub found : IsRight es f

-- what is always so of a builder for predicates: its counts are balanced, unless it has failed, and what it keeps, if
-- it does, is right of its edges
pub record IsSound (limit : ℕ) (failed : Bool) (es : List CountedEdge) (kept : Option Finding) : Type 0 where
  pub balanced : IsBalancedUnlessFailed failed es
  pub right : IfSome kept (IsKept limit failed es)
