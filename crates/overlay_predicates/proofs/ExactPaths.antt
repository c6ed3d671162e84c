-- What is told of a content that closed paths give is told of the paths.
use Rattle.std.proofs.Common.{◌≡◌, ◌↔◌, ℤ, Bool, List, sym, ap, ◌∙◌}
use Rattle.overlay_geom.specs.Edges.{CountedEdge, all_ends, subj_of, clip_of, winding_by}
use Rattle.overlay_geom.specs.Plane.{PlanePoint, IsOff}
use Rattle.overlay_geom.specs.declared.options.ShapeType.{ShapeType}
use Rattle.overlay_geom.specs.declared.options.ShapeType.TheVariants.{Subject, Clip}
use Rattle.overlay_plane.specs.Predicates.{InteriorsIntersect, LiesWithin}
use Rattle.overlay_plane.proofs.NearOff.{IsNearOff, near_off}
use Rattle.overlay_builder.specs.GivenPaths.{GivenPath, added_paths}
use Rattle.overlay_builder.specs.PathLists.{HoldsPaths}
use Rattle.overlay_builder.specs.PathWindings.{winding_of_paths}
use Rattle.overlay_predicates.specs.ExactPaths.{PathsMeet, PathsTouch, PathsMeetInPoints, ArePathsApart}
use Rattle.overlay_predicates.specs.ExactPaths.{ContentsTellOfPaths}
use Rattle.overlay_predicates.specs.ExactQueries.{ContentsMeet, ContentsTouch, ContentsMeetInPoints, AreContentsApart}
use Rattle.overlay_relate.specs.PathRelations.{PathInteriorsIntersect, PathLiesWithin}
use Rattle.overlay_relate.proofs.GivenClosures.{answer_of}
use Rattle.overlay_relate.proofs.PathClosures.{path_meeting, path_touch, path_points, path_apart}
use Rattle.overlay_relate.proofs.PathRelations.{edges_of_paths, off_paths, winds, off, interiors}

module _ (keep : Bool) (paths : List GivenPath) (content : List CountedEdge)
    (holds : HoldsPaths (added_paths keep paths) content) (filled : ℤ → Bool) where
  -- near a point off the edges held there is one off the paths
  near : (p : PlanePoint) → IsOff (all_ends content) p → IsNearOff content (edges_of_paths paths) p
  near p h = near_off content (edges_of_paths paths) p h

  -- of two counts that wind as two sides do
  module _ (inner outer : CountedEdge → ℤ) (inner_side outer_side : ShapeType)
      (inner_winds : (p : PlanePoint) → winding_by inner content p ≡ winding_of_paths inner_side paths p)
      (outer_winds : (p : PlanePoint) → winding_by outer content p ≡ winding_of_paths outer_side paths p) where
    pub one_within : PathLiesWithin filled paths inner_side outer_side ↔ LiesWithin filled content inner outer
    one_within = (
      λ lies. record {
        some = let (p, h, t) = lies.some in
            (p, off keep paths content holds filled p h, ap filled (inner_winds p) ∙ t);
        each = λ p h t.
            let close = near p h in
            let q = close.near in
            ap filled (sym (close.same outer) ∙ outer_winds q)
            ∙ lies.each q (off_paths paths q close.off_more)
            (ap filled (sym (inner_winds q) ∙ close.same inner) ∙ t);
      },
      λ lies. record {
        some = let (p, h, t) = lies.some in
            let close = near p h in (
              close.near,
              off_paths paths close.near close.off_more,
              ap filled (sym (inner_winds close.near) ∙ close.same inner) ∙ t,
            );
        each = λ p h t. ap filled (sym (outer_winds p))
            ∙ lies.each p (off keep paths content holds filled p h) (ap filled (inner_winds p) ∙ t);
      },
    )

  -- ---- one side within the other

  pub subject_within : PathLiesWithin filled paths Subject Clip ↔ LiesWithin filled content subj_of clip_of
  subject_within = one_within subj_of clip_of Subject Clip
      (λ p. (winds keep paths content holds filled p).subj) (λ p. (winds keep paths content holds filled p).clip)

  pub clip_within : PathLiesWithin filled paths Clip Subject ↔ LiesWithin filled content clip_of subj_of
  clip_within = one_within clip_of subj_of Clip Subject
      (λ p. (winds keep paths content holds filled p).clip) (λ p. (winds keep paths content holds filled p).subj)

pub contents_tell_of_paths : ContentsTellOfPaths
contents_tell_of_paths keep paths content holds filled r told = record {
  intersects = answer_of (PathsMeet filled paths) (ContentsMeet filled content) r.intersects told.intersects
      (path_meeting keep paths content holds filled);
  interiors_intersect = answer_of (PathInteriorsIntersect filled paths) (InteriorsIntersect filled content)
      r.interiors_intersect told.interiors_intersect (interiors keep paths content holds filled);
  touches = answer_of (PathsTouch filled paths) (ContentsTouch filled content) r.touches told.touches
      (path_touch keep paths content holds filled);
  point_intersects = answer_of (PathsMeetInPoints filled paths) (ContentsMeetInPoints filled content)
      r.point_intersects told.point_intersects (path_points keep paths content holds filled);
  within = answer_of (PathLiesWithin filled paths Subject Clip) (LiesWithin filled content subj_of clip_of)
      r.within told.within (subject_within keep paths content holds filled);
  disjoint = answer_of (ArePathsApart filled paths) (AreContentsApart filled content) r.disjoint told.disjoint
      (path_apart keep paths content holds filled);
  covers = answer_of (PathLiesWithin filled paths Clip Subject) (LiesWithin filled content clip_of subj_of)
      r.covers told.covers (clip_within keep paths content holds filled);
}
