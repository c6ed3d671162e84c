-- What queries of a builder for exact predicates answer: the relations of its content.
use Rattle.std.specs.Prelude.{◌↔◌, ℤ, Bool, List, Option, Result, IsTrue, IfOk, IsOkUnless, MatchOption}
use Rattle.overlay_geom.specs.Edges.{CountedEdge, ends_of, subj_of, clip_of}
use Rattle.overlay_geom.specs.Merged.{IsMerged}
use Rattle.overlay_geom.specs.Rules.{is_filled}
use Rattle.overlay_geom.specs.declared.error.OverlayError.{OverlayError}
use Rattle.overlay_geom.specs.declared.error.OverlayError.TheVariants.{Memory}
use Rattle.overlay_plane.specs.Balance.{HasBalancedCounts}
use Rattle.overlay_plane.specs.EdgeLists.{IsForwardBy}
use Rattle.overlay_scaled.specs.PlainContacts.{passes_at}
use Rattle.overlay_scaled.specs.PlainPoints.{SomePlain}
use Rattle.overlay_given.specs.Sides.{passing}
use Rattle.overlay_given.specs.declared.sides.SideTest.{SideTest}
use Rattle.overlay_contacts.specs.ExactRelations.{AreExactRelations}
use Rattle.overlay_predicates.specs.ExactBuilder.{ExactBuilder}
use Rattle.overlay_relate.specs.Closures.{IsInInterior, ClosuresMeet, ClosuresTouch, ClosuresMeetInPoints}
use Rattle.overlay_relate.specs.Closures.{AreClosuresApart}
use Rattle.overlay_relate.specs.declared.relations.Relations.{Relations}

-- the closures of the interiors of subject and clip meet
abbrev pub ContentsMeet : (ℤ → Bool) → List CountedEdge → Type 0
ContentsMeet filled es = ClosuresMeet (IsInInterior filled es subj_of) (IsInInterior filled es clip_of)

-- they meet, but the interiors have no point in common
abbrev pub ContentsTouch : (ℤ → Bool) → List CountedEdge → Type 0
ContentsTouch filled es = ClosuresTouch (IsInInterior filled es subj_of) (IsInInterior filled es clip_of)

-- they meet, and near each point of both there is no other
abbrev pub ContentsMeetInPoints : (ℤ → Bool) → List CountedEdge → Type 0
ContentsMeetInPoints filled es = ClosuresMeetInPoints (IsInInterior filled es subj_of) (IsInInterior filled es clip_of)

-- they do not meet
abbrev pub AreContentsApart : (ℤ → Bool) → List CountedEdge → Type 0
AreContentsApart filled es = AreClosuresApart (IsInInterior filled es subj_of) (IsInInterior filled es clip_of)

-- a query answers so: it is right of the edges that the builder holds, under its rule, and memory alone refuses
pub record TellsOfContent {V : Type 0} (IsRight : (ℤ → Bool) → List CountedEdge → V → Type 0) (b : ExactBuilder)
    (result : Result V OverlayError) : Type 0 where
  pub answer : IfOk result (IsRight (is_filled b.fill_rule) b.edges)
  pub err : IsOkUnless result Memory

-- so a query of a relation tells whether it holds
abbrev pub TellsRelation : ((ℤ → Bool) → List CountedEdge → Type 0) → ExactBuilder → Result Bool OverlayError → Type 0
TellsRelation relation = TellsOfContent (λ filled es b. IsTrue b ↔ relation filled es)

-- and a query of all relations tells each of them
abbrev pub TellsRelations : ExactBuilder → Result Relations OverlayError → Type 0
TellsRelations = TellsOfContent AreExactRelations

-- ---- early answers

-- the edges to which the content merges have a piece whose sides pass the test
pub record SomePiecePasses (test : SideTest) (filled : ℤ → Bool) (content : List CountedEdge) : Type 0 where
  pub merged : List CountedEdge
  pub merges : IsMerged content merged
  pub forward : IsForwardBy ends_of merged
  pub balanced : HasBalancedCounts merged
  pub some : SomePlain (passes_at (passing test) filled merged) merged

-- either such a piece was seen, or all relations are told
abbrev pub TellsUnlessEarly : SideTest → ExactBuilder → Result (Option Relations) OverlayError → Type 0
TellsUnlessEarly test = TellsOfContent (λ filled es told.
    MatchOption told (SomePiecePasses test filled es) (AreExactRelations filled es))
