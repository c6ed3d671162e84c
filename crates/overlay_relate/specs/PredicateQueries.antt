-- What a query of a predicate asks, by the kind of predicate, and what it answers.
use Rattle.std.specs.Prelude.{◌≡◌, ◌↔◌, ℕ, ℤ, Bool, List, Result, IsTrue, IfOk, OnOk, IsErrOf}
use Rattle.overlay_geom.specs.Edges.{CountedEdge}
use Rattle.overlay_geom.specs.declared.error.OverlayError.{OverlayError}
use Rattle.overlay_geom.specs.declared.error.OverlayError.TheVariants.{Failed}
use Rattle.overlay_geom.specs.Rules.{is_filled}
use Rattle.overlay_plane.specs.Predicates.{Intersects, InteriorsIntersect, Touches, PointIntersects, IsWithin, Covers}
use Rattle.overlay_plane.specs.Predicates.{IsDisjoint, IsFillable}
use Rattle.overlay_builder.specs.Held.{AnswersQuery}
use Rattle.overlay_relate.specs.PredicateBuilder.{PredicateBuilder, held_by}
use Rattle.overlay_relate.specs.declared.predicate.Predicate.{Predicate}
use Rattle.overlay_relate.specs.declared.predicate.Predicate.TheVariants.{Intersect, InteriorsIntersect as Interiors}
use Rattle.overlay_relate.specs.declared.predicate.Predicate.TheVariants.{Touch, PointIntersect, Within, Cover}
use Rattle.overlay_relate.specs.declared.relations.Relations.{Relations}

-- the predicate holds of the subject and the clip of an arrangement, as a statement on points of the plane
abbrev pub Holds : Predicate → (ℤ → Bool) → List CountedEdge → Type 0
Holds Intersect filled es = Intersects filled es
Holds Interiors filled es = InteriorsIntersect filled es
Holds Touch filled es = Touches filled es
Holds PointIntersect filled es = PointIntersects filled es
Holds Within filled es = IsWithin filled es
Holds Cover filled es = Covers filled es

-- the answers tell of each relation whether it holds of the subject and the clip of an arrangement
pub record AreRelations (filled : ℤ → Bool) (es : List CountedEdge) (r : Relations) : Type 0 where
  pub intersects : IsTrue r.intersects ↔ Intersects filled es
  pub interiors_intersect : IsTrue r.interiors_intersect ↔ InteriorsIntersect filled es
  pub touches : IsTrue r.touches ↔ Touches filled es
  pub point_intersects : IsTrue r.point_intersects ↔ PointIntersects filled es
  pub within : IsTrue r.within ↔ IsWithin filled es
  pub disjoint : IsTrue r.disjoint ↔ IsDisjoint filled es
  pub covers : IsTrue r.covers ↔ Covers filled es

-- a query of the two shapes answers so, of the builder before and of the one afterwards
pub record TellsOfShapes {V : Type 0} (limit : ℕ) (IsRight : (ℤ → Bool) → List CountedEdge → V → Type 0)
    (old new : PredicateBuilder) (result : Result V OverlayError) : Type 0 where
  pub query : AnswersQuery limit old.solver (held_by old) (held_by new) result
  -- the answer is right of what is held afterwards, which is planar, with balanced counts
  pub answer : IfOk result (IsRight (is_filled old.fill_rule) new.edges)
  pub fillable : OnOk result (IsFillable (is_filled old.fill_rule) new.edges)
  -- nothing but the edges changes, and whether it has failed; of a builder that had failed nothing
  pub kept : new ≡ record old { edges = new.edges; failed = new.failed }
  pub untouched : IsErrOf result Failed → new ≡ old

-- so a query of a relation tells whether it holds
abbrev pub TellsRelation : ℕ → ((ℤ → Bool) → List CountedEdge → Type 0) → (old new : PredicateBuilder) →
    Result Bool OverlayError → Type 0
TellsRelation limit relation = TellsOfShapes limit (λ filled es b. IsTrue b ↔ relation filled es)

-- and one of all of them which ones hold
abbrev pub TellsRelations : ℕ → (old new : PredicateBuilder) → Result Relations OverlayError → Type 0
TellsRelations limit = TellsOfShapes limit AreRelations
