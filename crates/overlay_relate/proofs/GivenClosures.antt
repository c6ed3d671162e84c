-- What answers about relations of closed regions of an arrangement tell of the edges as given.
use Rattle.std.proofs.Common.{◌≡◌, ◌↔◌, inl, ℕ, ℤ, Bool, List, sym, ap, ◌∙◌, subst}
use Rattle.std.specs.Prelude.{IsTrue}
use Rattle.std.proofs.lemmas.Bool.{both_ways}
use Rattle.overlay_geom.specs.Edges.{CountedEdge, all_ends, subj_of, clip_of, winding_by}
use Rattle.overlay_geom.specs.Plane.{PlanePoint, IsOff}
use Rattle.overlay_geom.specs.declared.solver.Solver.{Solver}
use Rattle.overlay_plane.specs.FarPoints.{KeepsFarPoints}
use Rattle.overlay_plane.specs.GivenPredicates.{KeepsPointsOff, TellOfFarPoints}
use Rattle.overlay_plane.specs.Meetings.{MeetInWholePoints}
use Rattle.overlay_plane.specs.Predicates.{Intersects, InteriorsIntersect, Touches, PointIntersects}
use Rattle.overlay_plane.specs.Predicates.{IsDisjoint, IsFillable}
use Rattle.overlay_plane.proofs.GivenPredicates.{off_is_far_by_nothing, kept_points_keep_relations}
use Rattle.overlay_plane.proofs.GivenPredicates.{far_points_tell_relations}
use Rattle.overlay_graph.specs.Arranged.{IsArranged}
use Rattle.overlay_relate.specs.Closures.{IsInClosure, IsInInterior, ClosuresMeet, ClosuresTouch, ClosuresMeetInPoints}
use Rattle.overlay_relate.specs.Closures.{AreClosuresApart, ClosuresTell}
use Rattle.overlay_relate.specs.GivenRelations.{TellsOfGivenMeeting, TellsOfGivenApart}
use Rattle.overlay_relate.proofs.Closures.{closures_tell, same_closure, same_meeting, same_apart, same_points}
use Rattle.overlay_relate.proofs.Closures.{same_touch, not_both_fill}
use Rattle.overlay_relate.proofs.SteepPoints.{HasPointNear, point_near}

-- an answer that is that of P is that of Q, where one of these holds exactly where the other does
pub answer_of : (P Q : Type 0) (answer : Bool) → IsTrue answer ↔ Q → P ↔ Q → IsTrue answer ↔ P
answer_of P Q answer tells same = (λ t. same.1 (tells.0 t), λ h. tells.1 (same.0 h))

-- one fact after another
pub joined : (P Q R : Type 0) → P ↔ Q → Q ↔ R → P ↔ R
joined P Q R first second = (λ p. second.0 (first.0 p), λ r. first.1 (second.1 r))

-- ---- lists that keep the points off the edges

module _ (filled : ℤ → Bool) (old new : List CountedEdge) (keeps : KeepsPointsOff old new) where
  -- a shape that winds alike has one closure
  module _ (shape : CountedEdge → ℤ)
      (kept_shape : (p : PlanePoint) → IsOff (all_ends old) p → winding_by shape new p ≡ winding_by shape old p) where
    into : (p : PlanePoint) → IsInInterior filled old shape p → IsInInterior filled new shape p
    into p at = ((keeps p at.0).off, ap filled (kept_shape p at.0) ∙ at.1)

    near : (p : PlanePoint) → IsInInterior filled new shape p → IsInClosure (IsInInterior filled old shape) p
    near p at n =
        let close : HasPointNear n new old p = point_near n new old p in
        let q = close.near in
        (q, (close.off_more, ap filled (sym (kept_shape q close.off_more) ∙ close.same shape) ∙ at.1), close.close)

    one_closure : (p : PlanePoint) →
        IsInClosure (IsInInterior filled old shape) p ↔ IsInClosure (IsInInterior filled new shape) p
    one_closure = same_closure (IsInInterior filled old shape) (IsInInterior filled new shape) into near

  abbrev OldSubj : PlanePoint → Type 0
  OldSubj p = IsInInterior filled old subj_of p

  abbrev OldClip : PlanePoint → Type 0
  OldClip p = IsInInterior filled old clip_of p

  abbrev NewSubj : PlanePoint → Type 0
  NewSubj p = IsInInterior filled new subj_of p

  abbrev NewClip : PlanePoint → Type 0
  NewClip p = IsInInterior filled new clip_of p

  subj : (p : PlanePoint) → IsInClosure OldSubj p ↔ IsInClosure NewSubj p
  subj = one_closure subj_of (λ p off. (keeps p off).subj)

  clip : (p : PlanePoint) → IsInClosure OldClip p ↔ IsInClosure NewClip p
  clip = one_closure clip_of (λ p off. (keeps p off).clip)

  inner : ((p : PlanePoint) → OldSubj p → OldClip p → ⊥) ↔ ((p : PlanePoint) → NewSubj p → NewClip p → ⊥)
  inner =
      let same = (kept_points_keep_relations.relations filled old new keeps).interiors_intersect in (
        λ none p s c. let at = same.1 (p, s.0, s.1, c.1) in none at.0 (at.1, at.2) (at.1, at.3),
        λ none p s c. let at = same.0 (p, s.0, s.1, c.1) in none at.0 (at.1, at.2) (at.1, at.3),
      )

  pub kept_meeting : ClosuresMeet OldSubj OldClip ↔ ClosuresMeet NewSubj NewClip
  kept_meeting = same_meeting OldSubj OldClip NewSubj NewClip subj clip

  pub kept_touch : ClosuresTouch OldSubj OldClip ↔ ClosuresTouch NewSubj NewClip
  kept_touch = same_touch OldSubj OldClip NewSubj NewClip subj clip inner

  pub kept_points : ClosuresMeetInPoints OldSubj OldClip ↔ ClosuresMeetInPoints NewSubj NewClip
  kept_points = same_points OldSubj OldClip NewSubj NewClip subj clip

  pub kept_apart : AreClosuresApart OldSubj OldClip ↔ AreClosuresApart NewSubj NewClip
  kept_apart = same_apart OldSubj OldClip NewSubj NewClip subj clip

-- ---- answers

module _ (solver : Solver) (given edges : List CountedEdge) (arranged : IsArranged solver given edges) where
  -- where the edges meet only in whole points or overlap, no point off them moves
  pub kept : MeetInWholePoints given → KeepsPointsOff given edges
  kept whole p off = subst (λ (k : ℕ). KeepsFarPoints k given edges) (arranged.exact whole).none_moved arranged.far p
      ((off_is_far_by_nothing given p).0 off)

  module _ (filled : ℤ → Bool) (fillable : IsFillable filled edges) where
    abbrev OldSubject : PlanePoint → Type 0
    OldSubject p = IsInInterior filled given subj_of p

    abbrev OldClips : PlanePoint → Type 0
    OldClips p = IsInInterior filled given clip_of p

    abbrev NewSubject : PlanePoint → Type 0
    NewSubject p = IsInInterior filled edges subj_of p

    abbrev NewClips : PlanePoint → Type 0
    NewClips p = IsInInterior filled edges clip_of p

    told : TellOfFarPoints arranged.moving filled given edges
    told = far_points_tell_relations.relations filled arranged.moving given edges arranged.far

    tell : ClosuresTell filled edges
    tell = closures_tell filled edges fillable

    -- an answer to a relation that the arrangement has where the edges have its counterpart
    exactly : (P Q R : Type 0) (answer : Bool) → IsTrue answer ↔ P → P ↔ Q → R ↔ Q → IsTrue answer ↔ R
    exactly P Q R answer tells tell same = answer_of R Q answer (joined (IsTrue answer) P Q tells tell) same

    pub tells_of_given_meeting : (answer : Bool) → IsTrue answer ↔ Intersects filled edges →
        TellsOfGivenMeeting arranged.moving filled given answer
    tells_of_given_meeting answer tells = record {
      exact = λ whole. exactly (Intersects filled edges) (ClosuresMeet NewSubject NewClips)
          (ClosuresMeet OldSubject OldClips) answer tells tell.intersects
          (kept_meeting filled given edges (kept whole));
      both = λ p far s c. tells.1 (meets (told.interiors_intersect p far s c));
      apart = λ no p far. told.apart (λ h. both_ways answer no (tells.1 (meets h))) p far;
    }
      where
        meets : InteriorsIntersect filled edges → Intersects filled edges
        meets (p, off, s, c) = (p, inl s, inl c)

    pub tells_of_given_touch : (answer : Bool) → IsTrue answer ↔ Touches filled edges →
        TellsOfGivenApart arranged.moving filled given ClosuresTouch answer
    tells_of_given_touch answer tells = record {
      exact = λ whole. exactly (Touches filled edges) (ClosuresTouch NewSubject NewClips)
          (ClosuresTouch OldSubject OldClips) answer tells tell.touches (kept_touch filled given edges (kept whole));
      apart = λ t. told.apart (tells.0 t).1;
    }

    pub tells_of_given_points : (answer : Bool) → IsTrue answer ↔ PointIntersects filled edges →
        TellsOfGivenApart arranged.moving filled given ClosuresMeetInPoints answer
    tells_of_given_points answer tells = record {
      exact = λ whole. exactly (PointIntersects filled edges) (ClosuresMeetInPoints NewSubject NewClips)
          (ClosuresMeetInPoints OldSubject OldClips) answer tells tell.point_intersects
          (kept_points filled given edges (kept whole));
      apart = λ t. told.apart (λ (p, off, s, c). not_both_fill filled edges fillable (tells.0 t).1 p s c);
    }

    pub tells_of_given_disjoint : (answer : Bool) → IsTrue answer ↔ IsDisjoint filled edges →
        TellsOfGivenApart arranged.moving filled given AreClosuresApart answer
    tells_of_given_disjoint answer tells = record {
      exact = λ whole. exactly (IsDisjoint filled edges) (AreClosuresApart NewSubject NewClips)
          (AreClosuresApart OldSubject OldClips) answer tells tell.disjoint
          (kept_apart filled given edges (kept whole));
      apart = λ t. told.apart (λ (p, off, s, c). tells.0 t (p, inl s, inl c));
    }
