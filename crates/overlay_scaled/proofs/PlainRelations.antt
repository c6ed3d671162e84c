-- Relations that speak of points off the edges hold where rules hold somewhere, and so beside plain points.
use Rattle.std.proofs.Common.{◌≡◌, ◌↔◌, Bool, true, false, not, ◌&&◌, ℤ, pos, List, sym, ap, ap₂, ◌∙◌, refl}
use Rattle.std.proofs.lemmas.Bool.{and_parts, and_from, false≢true}
use Rattle.overlay_geom.specs.Edges.{CountedEdge, ends_of, all_ends, subj_of, clip_of}
use Rattle.overlay_geom.specs.Merged.{IsMerged}
use Rattle.overlay_geom.specs.Plane.{PlanePoint, IsOff}
use Rattle.overlay_plane.specs.Balance.{HasBalancedCounts}
use Rattle.overlay_plane.specs.EdgeLists.{IsForwardBy}
use Rattle.overlay_plane.specs.Predicates.{fills_at, HoldsSomewhere, InteriorsIntersect, LiesWithin}
use Rattle.overlay_scaled.specs.PlainPoints.{SomePlain, holds_beside}
use Rattle.overlay_scaled.specs.PlainRelations.{TellRelations, PlainPointsTellRelations}
use Rattle.overlay_scaled.proofs.PlainRules.{plain_points_tell_rules}

module _ (filled : ℤ → Bool) (content es : List CountedEdge) (merged : IsMerged content es)
    (forward : IsForwardBy ends_of es) (balanced : HasBalancedCounts es) (none : filled (pos 0) ≡ false) where
  -- a rule on two fillings that fails where neither shape is filled
  told : (rule : Bool → Bool → Bool) → rule false false ≡ false →
      HoldsSomewhere (λ s c. rule (filled s) (filled c)) subj_of clip_of content ↔
      SomePlain (holds_beside (λ s c. rule (filled s) (filled c)) es) es
  told rule empty = plain_points_tell_rules (λ s c. rule (filled s) (filled c)) content es merged forward balanced
      (ap₂ rule none none ∙ empty)

  both : InteriorsIntersect filled content ↔ HoldsSomewhere (λ s c. filled s && filled c) subj_of clip_of content
  both = (
    λ (p, off, s, c). (p, off, and_from (fills_at filled content subj_of p) (fills_at filled content clip_of p) s c),
    λ (p, off, t). let parts = and_parts (fills_at filled content subj_of p) (fills_at filled content clip_of p) t in
        (p, off, parts.0, parts.1),
  )

  -- a shape lies within the other where it fills some point, and none that the other does not fill
  module _ (inner outer : CountedEdge → ℤ) where
    abbrev Some : Type 0
    Some = (p : PlanePoint) × IsOff (all_ends content) p × (fills_at filled content inner p ≡ true)

    abbrev SomeOut : Type 0
    SomeOut = (p : PlanePoint) × IsOff (all_ends content) p
        × (fills_at filled content inner p && not (fills_at filled content outer p) ≡ true)

    lies : LiesWithin filled content inner outer → Some × (¬ SomeOut)
    lies within = (within.some, out)
      where
        out : SomeOut → ⊥
        out (p, off, t) =
            let parts = and_parts (fills_at filled content inner p) (not (fills_at filled content outer p)) t in
            false≢true (sym (ap not (within.each p off parts.0)) ∙ parts.1)

    lies_back : Some × (¬ SomeOut) → LiesWithin filled content inner outer
    lies_back (some, none_out) = record {
      some = some;
      each = λ p off fills. by p off fills (fills_at filled content outer p) refl;
    }
      where
        by : (p : PlanePoint) → IsOff (all_ends content) p → fills_at filled content inner p ≡ true → (t : Bool) →
            fills_at filled content outer p ≡ t → fills_at filled content outer p ≡ true
        by p off fills true is = is
        by p off fills false is = absurd (none_out (
          p,
          off,
          and_from (fills_at filled content inner p) (not (fills_at filled content outer p)) fills (ap not is),
        ))

  pub tells : TellRelations filled content es
  tells = record {
    interiors_intersect = (
      λ h. (told (λ s c. s && c) refl).0 (both.0 h),
      λ h. both.1 ((told (λ s c. s && c) refl).1 h),
    );
    within = (
      λ h. let at = lies subj_of clip_of h in (
        (told (λ s c. s) refl).0 at.0,
        λ some. at.1 ((told (λ s c. s && not c) refl).1 some),
      ),
      λ h. lies_back subj_of clip_of (
        (told (λ s c. s) refl).1 h.0,
        λ out. h.1 ((told (λ s c. s && not c) refl).0 out),
      ),
    );
    covers = (
      λ h. let at = lies clip_of subj_of h in (
        (told (λ s c. c) refl).0 at.0,
        λ some. at.1 ((told (λ s c. c && not s) refl).1 some),
      ),
      λ h. lies_back clip_of subj_of (
        (told (λ s c. c) refl).1 h.0,
        λ out. h.1 ((told (λ s c. c && not s) refl).0 out),
      ),
    );
  }

pub plain_points_tell_relations : PlainPointsTellRelations
plain_points_tell_relations filled content es merged forward balanced none =
    tells filled content es merged forward balanced none
