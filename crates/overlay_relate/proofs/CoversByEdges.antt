-- The subject covers the clip exactly where the clip fills a side of some edge, and none that the subject does not
-- fill.
use Rattle.std.proofs.Common.{◌≡◌, Bool, true, false, not, ◌&&◌, ℤ, List, refl, sym, ap, ap₂, ◌∙◌}
use Rattle.std.proofs.lemmas.Bool.{false≢true, and_parts, and_from}
use Rattle.std.specs.Prelude.{◌↔◌}
use Rattle.overlay_geom.specs.Plane.{PlanePoint, IsOff}
use Rattle.overlay_geom.specs.Edges.{CountedEdge, all_ends, subj_of, clip_of}
use Rattle.overlay_plane.specs.EdgePredicates.{SomeEdge}
use Rattle.overlay_plane.specs.Predicates.{fills_at, fills_a_side, Covers, IsFillable}
use Rattle.overlay_plane.specs.Regions.{IsRuled}
use Rattle.overlay_plane.proofs.ReachedEdges.{reached, reaching}
use Rattle.overlay_plane.proofs.SharedEnds.{ruled_by_clip}
use Rattle.overlay_relate.specs.EdgeTests.{clip_pokes_out}

module _ (filled : ℤ → Bool) (es : List CountedEdge) (fillable : IsFillable filled es) where
  -- what the clip fills and the subject does not
  abbrev outside : ℤ → ℤ → Bool
  outside c s = filled c && not (filled s)

  outside_rule : IsRuled outside clip_of subj_of es
  outside_rule = record {
    planar = fillable.planar;
    subj_balanced = fillable.balanced.clip;
    clip_balanced = fillable.balanced.subj;
    none = ap₂ (λ c s. c && not s) fillable.none fillable.none;
  }

  told : Covers filled es →
      SomeEdge (fills_a_side filled es clip_of) es × (¬ (SomeEdge (clip_pokes_out filled es) es))
  told lies = (reached (λ w z. filled w) clip_of clip_of es (ruled_by_clip filled es fillable) lies.some, out)
    where
      out : SomeEdge (clip_pokes_out filled es) es → ⊥
      out some =
          let at = reaching outside clip_of subj_of es outside_rule some in
          let parts = and_parts (fills_at filled es clip_of at.0) (not (fills_at filled es subj_of at.0)) at.2 in
          false≢true (sym (ap not (lies.each at.0 at.1 parts.0)) ∙ parts.1)

  told_back : SomeEdge (fills_a_side filled es clip_of) es × (¬ (SomeEdge (clip_pokes_out filled es) es)) →
      Covers filled es
  told_back (some, none) = record {
    some = reaching (λ w z. filled w) clip_of clip_of es (ruled_by_clip filled es fillable) some;
    each = λ p off c. each p off c (fills_at filled es subj_of p) refl;
  }
    where
      each : (p : PlanePoint) → IsOff (all_ends es) p → fills_at filled es clip_of p ≡ true →
          (t : Bool) → fills_at filled es subj_of p ≡ t → fills_at filled es subj_of p ≡ true
      each p off c true is = is
      each p off c false is = absurd (none (reached outside clip_of subj_of es outside_rule
          (p, off, and_from (fills_at filled es clip_of p) (not (fills_at filled es subj_of p)) c (ap not is))))

  pub covers_by_edges : Covers filled es
      ↔ (SomeEdge (fills_a_side filled es clip_of) es × (¬ (SomeEdge (clip_pokes_out filled es) es)))
  covers_by_edges = (told, told_back)
