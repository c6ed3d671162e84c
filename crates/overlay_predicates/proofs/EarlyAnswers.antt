-- What a piece tells of a content whose merged edges have it.
use Rattle.std.proofs.Common.{◌≡◌, ◌↔◌, inl, Bool, true, false, ℕ, ℤ, pos, List, All, Option, Some, None, refl}
use Rattle.std.proofs.Common.{subst}
use Rattle.std.specs.Prelude.{IsTrue, MatchOption}
use Rattle.std.proofs.lemmas.Bool.{false≢true}
use Rattle.overlay_geom.specs.Edges.{CountedEdge}
use Rattle.overlay_geom.specs.Merged.{IsMerged}
use Rattle.overlay_plane.specs.Balance.{HasBalancedCounts}
use Rattle.overlay_plane.specs.Predicates.{InteriorsIntersect, IsWithin, Covers}
use Rattle.overlay_order.specs.Content.{IsHeld}
use Rattle.overlay_scaled.specs.PlainRelations.{TellRelations}
use Rattle.overlay_scaled.proofs.PlainRelations.{plain_points_tell_relations}
use Rattle.overlay_given.specs.First.{SomeFirstPasses}
use Rattle.overlay_given.proofs.ToldRelations.{forward_of_held}
use Rattle.overlay_given.specs.declared.sides.SideTest.{SideTest}
use Rattle.overlay_given.specs.declared.sides.SideTest.TheVariants.{BothShapes, CommonSide, SubjectOutside, ClipOutside}
use Rattle.overlay_contacts.specs.ExactRelations.{AreExactRelations}
use Rattle.overlay_contacts.specs.GivenContacts.{TellContacts}
use Rattle.overlay_contacts.proofs.GivenContacts.{given_contacts}
use Rattle.overlay_predicates.specs.ExactQueries.{ContentsMeet, ContentsTouch, ContentsMeetInPoints, AreContentsApart}
use Rattle.overlay_predicates.specs.ExactQueries.{SomePiecePasses}
use Rattle.overlay_relate.specs.declared.relations.Relations.{Relations}

-- answers of a fact, and of one that fails
pub yes : {P : Type 0} → P → IsTrue true ↔ P
yes p = (λ t. p, λ h. refl)

pub no : {P : Type 0} → ¬ P → IsTrue false ↔ P
no fails = (λ t. absurd (false≢true t), λ p. absurd (fails p))

-- ---- what a search tells, which ends where a piece passes the test

module _ (test : SideTest) (filled : ℤ → Bool) (content : List CountedEdge) (told : Option Relations) where
  pub piece_seen : told ≡ None →
      MatchOption told (SomePiecePasses test filled content) (AreExactRelations filled content) →
      SomePiecePasses test filled content
  piece_seen is = subst (λ t. MatchOption t (SomePiecePasses test filled content) (AreExactRelations filled content)) is

  pub relations_told : (r : Relations) → told ≡ Some r →
      MatchOption told (SomePiecePasses test filled content) (AreExactRelations filled content) →
      AreExactRelations filled content r
  relations_told r is =
      subst (λ t. MatchOption t (SomePiecePasses test filled content) (AreExactRelations filled content)) is

-- ---- what the piece tells

module _ (filled : ℤ → Bool) (content : List CountedEdge) (none : filled (pos 0) ≡ false) where
  contacts : (test : SideTest) (piece : SomePiecePasses test filled content) →
      TellContacts filled content piece.merged
  contacts test piece = given_contacts filled content piece.merged piece.merges piece.forward piece.balanced none

  relations : (test : SideTest) (piece : SomePiecePasses test filled content) →
      TellRelations filled content piece.merged
  relations test piece =
      plain_points_tell_relations filled content piece.merged piece.merges piece.forward piece.balanced none

  -- both shapes fill a side
  pub do_meet : SomePiecePasses BothShapes filled content → ContentsMeet filled content
  do_meet piece = (contacts BothShapes piece).intersects.1 (inl piece.some)

  pub not_in_points : SomePiecePasses BothShapes filled content → ¬ (ContentsMeetInPoints filled content)
  not_in_points piece in_points = ((contacts BothShapes piece).point_intersects.0 in_points).1 piece.some

  pub not_apart : SomePiecePasses BothShapes filled content → ¬ (AreContentsApart filled content)
  not_apart piece apart = (contacts BothShapes piece).disjoint.0 apart (inl piece.some)

  -- both fill one side
  pub interiors_do : SomePiecePasses CommonSide filled content → InteriorsIntersect filled content
  interiors_do piece = (relations CommonSide piece).interiors_intersect.1 piece.some

  pub not_touching : SomePiecePasses CommonSide filled content → ¬ (ContentsTouch filled content)
  not_touching piece touch = ((contacts CommonSide piece).touches.0 touch).1 piece.some

  -- the subject fills a side that the clip does not fill
  pub not_within : SomePiecePasses SubjectOutside filled content → ¬ (IsWithin filled content)
  not_within piece within = ((relations SubjectOutside piece).within.0 within).1 piece.some

  -- the clip fills one that the subject does not fill
  pub not_covering : SomePiecePasses ClipOutside filled content → ¬ (Covers filled content)
  not_covering piece covers = ((relations ClipOutside piece).covers.0 covers).1 piece.some

-- ---- the piece that was seen

-- the first edge of a shape has such a piece
pub piece_of : (limit : ℕ) (test : SideTest) (filled : ℤ → Bool) (content es : List CountedEdge) →
    IsMerged content es → All (IsHeld limit) es → HasBalancedCounts es → SomeFirstPasses test filled es →
    SomePiecePasses test filled content
piece_of limit test filled content es merged held balanced found =
    let passes = found.3 in
    record {
      merged = es;
      merges = merged;
      forward = forward_of_held limit es held;
      balanced = balanced;
      some = (passes.0, passes.1, passes.3, passes.4);
    }
