-- What the answer of one exact relation tells of the arrays, and why none is told.
use Rattle.std.proofs.Common.{◌≡◌, ◌↔◌, ◌<◌, ℕ, ℤ, Bool, false, List, inl, inr, refl, sym, ap, ap₂, subst}
use Rattle.std.specs.Prelude.{Result, Ok, Err, MatchResult, IsTrue}
use Rattle.overlay_geom.specs.Edges.{CountedEdge, subj_of, clip_of}
use Rattle.overlay_geom.specs.Plane.{Point}
use Rattle.overlay_geom.specs.Rules.{bit, is_filled}
use Rattle.overlay_geom.specs.declared.error.OverlayError.{OverlayError}
use Rattle.overlay_geom.specs.declared.error.OverlayError.TheVariants as error
use Rattle.overlay_geom.specs.declared.fill_rule.FillRule.{FillRule}
use Rattle.overlay_geom.specs.declared.options.ShapeType.TheVariants.{Subject, Clip}
use Rattle.overlay_plane.specs.Predicates.{InteriorsIntersect, IsWithin, Covers}
use Rattle.overlay_builder.specs.GivenPaths.{GivenPath, added_paths, subject_and_clip}
use Rattle.overlay_builder.specs.PathLists.{HoldsPaths, MayRefuseBuilder}
use Rattle.overlay_relate.proofs.GivenClosures.{answer_of}
use Rattle.overlay_relate.proofs.PathClosures.{path_meeting, path_touch, path_points, path_apart}
use Rattle.overlay_relate.proofs.PathRelations.{winds, interiors}
use Rattle.overlay_predicates.specs.ExactBuilder.{ExactBuilder, empty_builder}
use Rattle.overlay_predicates.specs.ExactQueries.{TellsRelation, ContentsMeet, ContentsTouch, ContentsMeetInPoints}
use Rattle.overlay_predicates.specs.ExactQueries.{AreContentsApart}
use Rattle.overlay_predicates.proofs.ExactPaths.{one_within}
use Rattle.polyover_calls.specs.Asked.{fill_of}
use Rattle.polyover_calls.specs.Given.{Contours, paths_of, paths_given, AreGiven, AreUnread}
use Rattle.polyover_calls.specs.RelatedOne.{IsRelation, bit_of}
use Rattle.polyover_calls.specs.Statuses.{status_of_fault, status_of_error}
use Rattle.polyover_calls.specs.declared.fault.Fault.{Fault}
use Rattle.polyover_calls.specs.declared.relation.Relation.{Relation}
use Rattle.polyover_calls.specs.declared.relation.Relation.TheVariants as relation
use Rattle.polyover_calls.specs.declared.status.Status.{Status}
use Rattle.polyover_calls.specs.declared.status.Status.TheVariants.{Done, BadOption}
use Rattle.polyover_calls.proofs.Refusals.{unread, unanswered}
use Rattle.polyover_exact.specs.One.{AreExactNumbers, HoldsOfPaths, IsExactlySo, IsRelationRefusedExactly}
use Rattle.polyover_exact.specs.One.{IsUnknownExact, RelatingOneExactlyEnds, TellsOfHeld}

-- ---- the edges of a builder

-- that the relation holds of the subject and the clip among the edges
abbrev pub HoldsOfContent : Relation → (ℤ → Bool) → List CountedEdge → Type 0
HoldsOfContent relation.Intersects filled es = ContentsMeet filled es
HoldsOfContent relation.InteriorsIntersect filled es = InteriorsIntersect filled es
HoldsOfContent relation.Touches filled es = ContentsTouch filled es
HoldsOfContent relation.PointIntersects filled es = ContentsMeetInPoints filled es
HoldsOfContent relation.Within filled es = IsWithin filled es
HoldsOfContent relation.Disjoint filled es = AreContentsApart filled es
HoldsOfContent relation.Covers filled es = Covers filled es

module _ (paths : List GivenPath) (content : List CountedEdge) (holds : HoldsPaths (added_paths false paths) content)
    (filled : ℤ → Bool) where
  -- of the edges of paths a relation holds exactly where it holds of the paths
  same_relation : (one : Relation) → HoldsOfPaths one filled paths ↔ HoldsOfContent one filled content
  same_relation relation.Intersects = path_meeting false paths content holds filled
  same_relation relation.InteriorsIntersect = interiors false paths content holds filled
  same_relation relation.Touches = path_touch false paths content holds filled
  same_relation relation.PointIntersects = path_points false paths content holds filled
  same_relation relation.Within = one_within false paths content holds filled subj_of clip_of Subject Clip
      (λ p. (winds false paths content holds filled p).subj) (λ p. (winds false paths content holds filled p).clip)
  same_relation relation.Disjoint = path_apart false paths content holds filled
  same_relation relation.Covers = one_within false paths content holds filled clip_of subj_of Clip Subject
      (λ p. (winds false paths content holds filled p).clip) (λ p. (winds false paths content holds filled p).subj)

-- a new builder that holds the paths tells of them, or memory is refused
pub told_of_one : (one : Relation) (fill : FillRule) (paths : List GivenPath) (b : ExactBuilder)
    (r : Result Bool OverlayError) → HoldsPaths (added_paths false paths) b.edges →
    b ≡ record (empty_builder fill) { edges = b.edges } → TellsRelation (HoldsOfContent one) b r →
    MatchResult r (TellsOfHeld one (is_filled fill) paths) (MayRefuseBuilder (added_paths false paths))
told_of_one one fill paths b (Ok answer) holds made told = record {
  content = b.edges;
  holds = holds;
  tells = answer_of (HoldsOfPaths one (is_filled fill) paths) (HoldsOfContent one (is_filled fill) b.edges) answer
      (subst (λ f. IsTrue answer ↔ HoldsOfContent one (is_filled f) b.edges) (ap (λ o. o.fill_rule) made) told.answer)
      (same_relation paths b.edges holds (is_filled fill) one);
}
told_of_one one fill paths b (Err e) holds made told =
    subst (MayRefuseBuilder (added_paths false paths)) (sym told.err) tt

-- ---- the arrays

module _ {I : Type 0} (whole : I → ℤ) (limit number fill : ℕ) (subject clip : Contours I) where
  pub told_ends : (old new : ℕ) → IsExactlySo whole limit number fill subject clip new →
      RelatingOneExactlyEnds whole limit number fill subject clip old new Done
  told_ends old new told = inl (refl, told)

  pub untold_ends : (old : ℕ) (s : Status) → IsRelationRefusedExactly whole limit number fill subject clip s →
      RelatingOneExactlyEnds whole limit number fill subject clip old old s
  untold_ends old s refused = inr (refl, refused)

  -- why the relation is not told
  abbrev may : OverlayError → Type 0
  may = MayRefuseBuilder (added_paths false (paths_given whole subject clip))

  never_failed : ¬ (may error.Failed)
  never_failed failed = failed

  -- the relation with the number
  abbrev are_known : (one : Relation) → fill < 4 → number ≡ bit_of one → AreExactNumbers number fill
  are_known one known is = (known, record { relation = one; number = is })

  pub relation_unknown : (s : Status) → fill < 4 → s ≡ BadOption → ¬ (IsRelation number) →
      IsRelationRefusedExactly whole limit number fill subject clip s
  relation_unknown s known same none = subst (IsRelationRefusedExactly whole limit number fill subject clip)
      (sym same) (inr (refl, (known, none)))

  pub contours_untold : (one : Relation) (f : Fault) → fill < 4 → number ≡ bit_of one →
      AreUnread whole limit subject clip f →
      IsRelationRefusedExactly whole limit number fill subject clip (status_of_fault f)
  contours_untold one f known is = unread whole limit (IsUnknownExact number fill) (AreExactNumbers number fill)
      subject clip may tt f (are_known one known is)

  pub relation_refused : (e : OverlayError) (one : Relation) (p q : List (List Point)) → fill < 4 →
      number ≡ bit_of one → AreGiven whole limit subject → AreGiven whole limit clip → p ≡ paths_of whole subject →
      q ≡ paths_of whole clip → MayRefuseBuilder (added_paths false (subject_and_clip p q)) e →
      IsRelationRefusedExactly whole limit number fill subject clip (status_of_error e)
  relation_refused e one p q known is s c same_p same_q refused =
      unanswered whole limit (IsUnknownExact number fill) (AreExactNumbers number fill) subject clip may never_failed
      e (are_known one known is) s c
      (subst (λ paths. MayRefuseBuilder (added_paths false paths) e) (ap₂ subject_and_clip same_p same_q) refused)

  pub answer_told : (f : FillRule) (one : Relation) (p q : List (List Point)) (holds : Bool) (answer : ℕ) → fill < 4 →
      number ≡ bit_of one → AreGiven whole limit subject → AreGiven whole limit clip → f ≡ fill_of fill →
      p ≡ paths_of whole subject → q ≡ paths_of whole clip →
      TellsOfHeld one (is_filled f) (subject_and_clip p q) holds → answer ≡ bit holds 1 →
      IsExactlySo whole limit number fill subject clip answer
  answer_told f one p q holds answer known is s c same_f same_p same_q tells told = record {
    known = are_known one known is;
    subject_given = s;
    clip_given = c;
    holds = holds;
    tells = subst (λ y. TellsOfHeld one (is_filled y) (paths_given whole subject clip) holds) same_f
        (subst (λ paths. TellsOfHeld one (is_filled f) paths holds) (ap₂ subject_and_clip same_p same_q) tells);
    told = told;
  }
