-- What answers about closed regions of an arrangement tell of the closed paths that give its edges.
use Rattle.std.proofs.Common.{◌≡◌, ◌↔◌, ℕ, ℤ, Bool, ◌&&◌, List, sym, ap, ap₂, ◌∙◌}
use Rattle.overlay_geom.specs.Edges.{CountedEdge, subj_of, clip_of, winding_by}
use Rattle.overlay_geom.specs.Plane.{PlanePoint}
use Rattle.overlay_geom.specs.declared.options.ShapeType.{ShapeType}
use Rattle.overlay_geom.specs.declared.options.ShapeType.TheVariants.{Subject, Clip}
use Rattle.overlay_builder.specs.GivenPaths.{GivenPath, added_paths}
use Rattle.overlay_builder.specs.PathLists.{HoldsPaths}
use Rattle.overlay_builder.specs.PathWindings.{winding_of_paths}
use Rattle.overlay_relate.specs.Closures.{IsInClosure, IsInInterior, ClosuresMeet, ClosuresTouch, ClosuresMeetInPoints}
use Rattle.overlay_relate.specs.Closures.{AreClosuresApart}
use Rattle.overlay_relate.specs.GivenRelations.{TellsOfGivenMeeting, TellsOfGivenApart}
use Rattle.overlay_relate.specs.PathRelations.{IsInPathInterior, TellsOfPathMeeting, TellsOfPathApart}
use Rattle.overlay_relate.specs.PathRelations.{ArrangementsTellOfPathClosures}
use Rattle.overlay_relate.proofs.Closures.{same_closure, same_meeting, same_apart, same_points, same_touch}
use Rattle.overlay_relate.proofs.GivenClosures.{answer_of, tells_of_given_meeting, tells_of_given_touch}
use Rattle.overlay_relate.proofs.GivenClosures.{tells_of_given_points, tells_of_given_disjoint}
use Rattle.overlay_relate.proofs.PathRelations.{edges_of_paths, off_paths, winds, far, off, interiors}
use Rattle.overlay_relate.proofs.SteepPoints.{HasPointNear, point_near}

module _ (keep : Bool) (paths : List GivenPath) (content : List CountedEdge)
    (holds : HoldsPaths (added_paths keep paths) content) (filled : ℤ → Bool) where
  -- a side that winds as a count has one closure
  module _ (side : ShapeType) (shape : CountedEdge → ℤ)
      (winds_so : (p : PlanePoint) → winding_by shape content p ≡ winding_of_paths side paths p) where
    into : (p : PlanePoint) → IsInPathInterior filled paths side p → IsInInterior filled content shape p
    into p at = (off keep paths content holds filled p at.0, ap filled (winds_so p) ∙ at.1)

    near : (p : PlanePoint) → IsInInterior filled content shape p → IsInClosure (IsInPathInterior filled paths side) p
    near p at n =
        let close : HasPointNear n content (edges_of_paths paths) p = point_near n content (edges_of_paths paths) p in (
          close.near,
          (
            off_paths paths close.near close.off_more,
            ap filled (sym (winds_so close.near) ∙ close.same shape) ∙ at.1,
          ),
          close.close,
        )

    one_closure : (p : PlanePoint) →
        IsInClosure (IsInPathInterior filled paths side) p ↔ IsInClosure (IsInInterior filled content shape) p
    one_closure = same_closure (IsInPathInterior filled paths side) (IsInInterior filled content shape) into near

  abbrev PathSubj : PlanePoint → Type 0
  PathSubj p = IsInPathInterior filled paths Subject p

  abbrev PathClip : PlanePoint → Type 0
  PathClip p = IsInPathInterior filled paths Clip p

  abbrev Subj : PlanePoint → Type 0
  Subj p = IsInInterior filled content subj_of p

  abbrev Clips : PlanePoint → Type 0
  Clips p = IsInInterior filled content clip_of p

  subj : (p : PlanePoint) → IsInClosure PathSubj p ↔ IsInClosure Subj p
  subj = one_closure Subject subj_of (λ p. (winds keep paths content holds filled p).subj)

  clip : (p : PlanePoint) → IsInClosure PathClip p ↔ IsInClosure Clips p
  clip = one_closure Clip clip_of (λ p. (winds keep paths content holds filled p).clip)

  inner : ((p : PlanePoint) → PathSubj p → PathClip p → ⊥) ↔ ((p : PlanePoint) → Subj p → Clips p → ⊥)
  inner =
      let same = interiors keep paths content holds filled in (
        λ none p s c. let at = same.1 (p, s.0, s.1, c.1) in none at.0 (at.1, at.2) (at.1, at.3),
        λ none p s c. let at = same.0 (p, s.0, s.1, c.1) in none at.0 (at.1, at.2) (at.1, at.3),
      )

  pub path_meeting : ClosuresMeet PathSubj PathClip ↔ ClosuresMeet Subj Clips
  path_meeting = same_meeting PathSubj PathClip Subj Clips subj clip

  pub path_touch : ClosuresTouch PathSubj PathClip ↔ ClosuresTouch Subj Clips
  path_touch = same_touch PathSubj PathClip Subj Clips subj clip inner

  pub path_points : ClosuresMeetInPoints PathSubj PathClip ↔ ClosuresMeetInPoints Subj Clips
  path_points = same_points PathSubj PathClip Subj Clips subj clip

  pub path_apart : AreClosuresApart PathSubj PathClip ↔ AreClosuresApart Subj Clips
  path_apart = same_apart PathSubj PathClip Subj Clips subj clip

  -- ---- answers

  module _ (k : ℕ) (answer : Bool) where
    pub of_meeting : TellsOfGivenMeeting k filled content answer → TellsOfPathMeeting k filled paths content answer
    of_meeting tells = record {
      exact = λ whole. answer_of (ClosuresMeet PathSubj PathClip) (ClosuresMeet Subj Clips) answer (tells.exact whole)
          path_meeting;
      both = λ p h s c. tells.both p (far keep paths content holds filled k p h)
          (ap filled (winds keep paths content holds filled p).subj ∙ s)
          (ap filled (winds keep paths content holds filled p).clip ∙ c);
      apart = λ no p h. ap₂ (λ s c. filled s && filled c) (sym (winds keep paths content holds filled p).subj)
          (sym (winds keep paths content holds filled p).clip)
          ∙ tells.apart no p (far keep paths content holds filled k p h);
    }

    pub of_apart : (relation : (first second : PlanePoint → Type 0) → Type 0) →
        relation PathSubj PathClip ↔ relation Subj Clips →
        TellsOfGivenApart k filled content relation answer → TellsOfPathApart k filled paths content relation answer
    of_apart relation same tells = record {
      exact = λ whole. answer_of (relation PathSubj PathClip) (relation Subj Clips) answer (tells.exact whole) same;
      apart = λ yes p h. ap₂ (λ s c. filled s && filled c) (sym (winds keep paths content holds filled p).subj)
          (sym (winds keep paths content holds filled p).clip)
          ∙ tells.apart yes p (far keep paths content holds filled k p h);
    }

pub arrangements_tell_of_path_closures : ArrangementsTellOfPathClosures
arrangements_tell_of_path_closures = record {
  intersects = λ keep paths solver content edges filled answer holds arranged fillable tells.
      of_meeting keep paths content holds filled arranged.moving answer
      (tells_of_given_meeting solver content edges arranged filled fillable answer tells);
  touches = λ keep paths solver content edges filled answer holds arranged fillable tells.
      of_apart keep paths content holds filled arranged.moving answer ClosuresTouch
      (path_touch keep paths content holds filled)
      (tells_of_given_touch solver content edges arranged filled fillable answer tells);
  point_intersects = λ keep paths solver content edges filled answer holds arranged fillable tells.
      of_apart keep paths content holds filled arranged.moving answer ClosuresMeetInPoints
      (path_points keep paths content holds filled)
      (tells_of_given_points solver content edges arranged filled fillable answer tells);
  disjoint = λ keep paths solver content edges filled answer holds arranged fillable tells.
      of_apart keep paths content holds filled arranged.moving answer AreClosuresApart
      (path_apart keep paths content holds filled)
      (tells_of_given_disjoint solver content edges arranged filled fillable answer tells);
}
