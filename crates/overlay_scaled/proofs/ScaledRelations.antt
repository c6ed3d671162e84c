-- Scaling keeps the relations that speak of points off the edges, since it keeps the windings of each point.
use Rattle.std.proofs.Common.{Bool, ℤ, pos, ◌<ℤ◌, List, sym, ap, ap₂, ◌∙◌}
use Rattle.overlay_geom.specs.Counts.{Counts}
use Rattle.overlay_geom.specs.Edges.{CountedEdge, subj_of, clip_of}
use Rattle.overlay_geom.specs.Plane.{PlanePoint}
use Rattle.overlay_plane.specs.GivenPredicates.{HaveSameInteriors}
use Rattle.overlay_plane.specs.Predicates.{HoldsSomewhere, InteriorsIntersect, LiesWithin}
use Rattle.overlay_scaled.specs.Scaled.{scaled}
use Rattle.overlay_scaled.specs.ScaledPoints.{LiesAlike}
use Rattle.overlay_scaled.specs.ScaledRelations.{ScalingKeepsRelations}
use Rattle.overlay_scaled.proofs.ScaledPoints.{further, is_further, nearer, is_nearer, lies_alike}

module _ (n : ℤ) (some : pos 0 <ℤ n) where
  -- of a point and the point n times as far, and of a point and the point n times nearer
  pub far : (p : PlanePoint) → LiesAlike n p (further n p)
  far p = lies_alike n some p (further n p) (is_further n p)

  pub near : (q : PlanePoint) → LiesAlike n (nearer n some q) q
  near q = lies_alike n some (nearer n some q) q (is_nearer n some q)

  module _ (es : List CountedEdge) where
    rule_forth : (holds : ℤ → ℤ → Bool) → HoldsSomewhere holds subj_of clip_of es →
        HoldsSomewhere holds subj_of clip_of (scaled n es)
    rule_forth holds (p, off, h) = (
      further n p,
      ((far p).off es).0 off,
      ap₂ holds ((far p).winding (λ c. c.subj) es) ((far p).winding (λ c. c.clip) es) ∙ h,
    )

    rule_back : (holds : ℤ → ℤ → Bool) → HoldsSomewhere holds subj_of clip_of (scaled n es) →
        HoldsSomewhere holds subj_of clip_of es
    rule_back holds (q, off, h) = (
      nearer n some q,
      ((near q).off es).1 off,
      ap₂ holds (sym ((near q).winding (λ c. c.subj) es)) (sym ((near q).winding (λ c. c.clip) es)) ∙ h,
    )

    module _ (filled : ℤ → Bool) where
      meet_forth : InteriorsIntersect filled es → InteriorsIntersect filled (scaled n es)
      meet_forth (p, off, s, c) = (
        further n p,
        ((far p).off es).0 off,
        ap filled ((far p).winding (λ c. c.subj) es) ∙ s,
        ap filled ((far p).winding (λ c. c.clip) es) ∙ c,
      )

      meet_back : InteriorsIntersect filled (scaled n es) → InteriorsIntersect filled es
      meet_back (q, off, s, c) = (
        nearer n some q,
        ((near q).off es).1 off,
        ap filled (sym ((near q).winding (λ c. c.subj) es)) ∙ s,
        ap filled (sym ((near q).winding (λ c. c.clip) es)) ∙ c,
      )

      -- of two sides
      module _ (inner outer : Counts → ℤ) where
        abbrev of_inner : CountedEdge → ℤ
        of_inner e = inner e.counts

        abbrev of_outer : CountedEdge → ℤ
        of_outer e = outer e.counts

        lies_forth : LiesWithin filled es of_inner of_outer → LiesWithin filled (scaled n es) of_inner of_outer
        lies_forth lies = record {
          some = let (p, off, h) = lies.some in
              (further n p, ((far p).off es).0 off, ap filled ((far p).winding inner es) ∙ h);
          each = λ q off h. ap filled ((near q).winding outer es)
              ∙ lies.each (nearer n some q) (((near q).off es).1 off)
              (ap filled (sym ((near q).winding inner es)) ∙ h);
        }

        lies_back : LiesWithin filled (scaled n es) of_inner of_outer → LiesWithin filled es of_inner of_outer
        lies_back lies = record {
          some = let (q, off, h) = lies.some in
              (nearer n some q, ((near q).off es).1 off, ap filled (sym ((near q).winding inner es)) ∙ h);
          each = λ p off h. ap filled (sym ((far p).winding outer es))
              ∙ lies.each (further n p) (((far p).off es).0 off) (ap filled ((far p).winding inner es) ∙ h);
        }

      pub same_interiors : HaveSameInteriors filled es (scaled n es)
      same_interiors = record {
        interiors_intersect = (meet_forth, meet_back);
        within = (lies_forth (λ c. c.subj) (λ c. c.clip), lies_back (λ c. c.subj) (λ c. c.clip));
        covers = (lies_forth (λ c. c.clip) (λ c. c.subj), lies_back (λ c. c.clip) (λ c. c.subj));
      }

pub scaling_keeps_relations : ScalingKeepsRelations
scaling_keeps_relations = record {
  relations = λ n some filled es. same_interiors n some es filled;
  rules = λ n some holds es. (rule_forth n some es holds, rule_back n some es holds);
}
