-- Relations of the edges as given, told by an arrangement of them.
use Rattle.std.proofs.Common.{◌≡◌, inl, inr, ℕ, Bool, true, false, ◌&&◌, ℤ, pos, ◌-ℤ◌, ◌*ℤ◌, ◌≤ℤ◌, List}
use Rattle.std.proofs.Common.{refl, sym, ap, ap₂, ◌∙◌}
use Rattle.std.proofs.lemmas.List.Elements.{All-contains}
use Rattle.std.proofs.lemmas.Bool.{and_parts}
use Rattle.overlay_geom.specs.Plane.{PlanePoint, Edge, SamePlace, IsOn, IsOff, IsBetween, side}
use Rattle.overlay_geom.specs.Edges.{CountedEdge, ends_of, all_ends, subj_of, clip_of, winding_by}
use Rattle.overlay_geom.proofs.AlongEdge.{sideE}
use Rattle.overlay_geom.proofs.Identities.{solve, number, ◌⊕◌, ◌⊗◌, ◌⊖◌, ◌≗◌}
use Rattle.overlay_geom.proofs.Signs.{linear, mul-le, le_of_mul-le, zero_of_mul-zero, mul-zero}
use Rattle.overlay_plane.specs.FarPoints.{AreWithinHalves, IsFarFromEdge, IsFarFrom, KeepsFarPoints}
use Rattle.overlay_plane.specs.GivenPredicates.{KeepsPointsOff, HaveSameInteriors, TellOfFarPoints, OffIsFarByNothing}
use Rattle.overlay_plane.specs.GivenPredicates.{KeptPointsKeepRelations, FarPointsTellRelations}
use Rattle.overlay_plane.specs.Predicates.{fills_at, HoldsSomewhere, InteriorsIntersect, LiesWithin}
use Rattle.overlay_plane.proofs.Entries.{Contains-map, all_of_entries}
use Rattle.overlay_plane.proofs.FarPoints.{off_far}
use Rattle.overlay_plane.proofs.NearOff.{IsNearOff, near_off}

-- ---- points no half away are at one place

-- coordinates that no half keeps apart are equal
same_coordinate : (x d z c : ℤ) → (pos 2 *ℤ (x *ℤ c -ℤ z *ℤ d)) ≤ℤ (pos 0 *ℤ (d *ℤ c)) →
    (pos 2 *ℤ (z *ℤ d -ℤ x *ℤ c)) ≤ℤ (pos 0 *ℤ (d *ℤ c)) → x *ℤ c ≡ z *ℤ d
same_coordinate x d z c right left =
    let none = solve 1 (λ d. number (pos 0) ⊗ d ≗ number (pos 0)) tt (d *ℤ c) in
    let first = solve 2 (λ a b. number (pos 2) ⊗ (a ⊖ b) ≗ a ⊕ a ⊖ b ⊖ b) tt (x *ℤ c) (z *ℤ d) in
    let second = solve 2 (λ a b. number (pos 2) ⊗ (a ⊖ b) ≗ a ⊕ a ⊖ b ⊖ b) tt (z *ℤ d) (x *ℤ c) in
    omega linear

pub same_place : (q p : PlanePoint) → AreWithinHalves 0 q p → SamePlace q p
same_place q p h = (
  same_coordinate q.x q.d p.x p.d h.right h.left,
  same_coordinate q.y q.d p.y p.d h.up h.down,
)

-- the point p at the place of q
module _ (q p : PlanePoint) (same : SamePlace q p) where
  scaled : (a : ℤ) → q.d *ℤ (a *ℤ p.d) ≡ p.d *ℤ (a *ℤ q.d)
  scaled a = solve 3 (λ a d c. c ⊗ (a ⊗ d) ≗ d ⊗ (a ⊗ c)) tt a p.d q.d

  turned : (x z : ℤ) → x *ℤ p.d ≡ z *ℤ q.d → p.d *ℤ x ≡ q.d *ℤ z
  turned x z is =
      let left = solve 2 (λ x d. d ⊗ x ≗ x ⊗ d) tt x p.d in
      let right = solve 2 (λ z c. c ⊗ z ≗ z ⊗ c) tt z q.d in
      omega linear

  -- a coordinate of p is from a whole number on where that of q is, or up to it
  from : (x z : ℤ) → x *ℤ p.d ≡ z *ℤ q.d → (a : ℤ) → (a *ℤ q.d) ≤ℤ x → (a *ℤ p.d) ≤ℤ z
  from x z is a le =
      let more = mul-le p.d (a *ℤ q.d) x (let positive = p.positive in omega linear) le in
      let of_x = turned x z is in
      let of_a = scaled a in
      le_of_mul-le q.d (a *ℤ p.d) z q.positive (omega linear)

  to : (x z : ℤ) → x *ℤ p.d ≡ z *ℤ q.d → (b : ℤ) → x ≤ℤ (b *ℤ q.d) → z ≤ℤ (b *ℤ p.d)
  to x z is b le =
      let more = mul-le p.d x (b *ℤ q.d) (let positive = p.positive in omega linear) le in
      let of_x = turned x z is in
      let of_b = scaled b in
      le_of_mul-le q.d z (b *ℤ p.d) q.positive (omega linear)

  between : (x z a b : ℤ) → x *ℤ p.d ≡ z *ℤ q.d → IsBetween x (a *ℤ q.d) (b *ℤ q.d) →
      IsBetween z (a *ℤ p.d) (b *ℤ p.d)
  between x z a b is (inl (low, high)) = inl (from x z is a low, to x z is b high)
  between x z a b is (inr (low, high)) = inr (from x z is b low, to x z is a high)

  scaled_side : (e : Edge) → q.d *ℤ side e p ≡ p.d *ℤ side e q
  scaled_side e =
      solve 8 (λ ax ay bx by x y d c. c ⊗ sideE ax ay bx by x y d ≗
      (bx ⊖ ax) ⊗ (y ⊗ c ⊖ ay ⊗ d ⊗ c) ⊖ (by ⊖ ay) ⊗ (x ⊗ c ⊖ ax ⊗ d ⊗ c)) tt
      e.a.x e.a.y e.b.x e.b.y p.x p.y p.d q.d
      ∙ ap₂ (λ u v. (e.b.x -ℤ e.a.x) *ℤ (v -ℤ e.a.y *ℤ p.d *ℤ q.d) -ℤ (e.b.y -ℤ e.a.y) *ℤ (u -ℤ e.a.x *ℤ p.d *ℤ q.d))
      (sym same.0) (sym same.1)
      ∙ solve 8 (λ ax ay bx by x y d c. (bx ⊖ ax) ⊗ (y ⊗ d ⊖ ay ⊗ d ⊗ c) ⊖ (by ⊖ ay) ⊗ (x ⊗ d ⊖ ax ⊗ d ⊗ c) ≗
      d ⊗ sideE ax ay bx by x y c) tt
      e.a.x e.a.y e.b.x e.b.y q.x q.y p.d q.d

  -- p is on the edges that have q
  pub on_at_place : (e : Edge) → IsOn e q → IsOn e p
  on_at_place e on = record {
    on_line = zero_of_mul-zero q.d (side e p) q.positive (scaled_side e ∙ mul-zero p.d (side e q) on.on_line);
    in_x = between q.x p.x e.a.x e.b.x same.0 on.in_x;
    in_y = between q.y p.y e.a.y e.b.y same.1 on.in_y;
  }

pub off_is_far_by_nothing : OffIsFarByNothing
off_is_far_by_nothing es p = (
  λ off. all_of_entries (IsFarFromEdge 0 p) es (λ e c q on near.
      All-contains (λ f. ¬ (IsOn f p)) (all_ends es) (ends_of e) off (Contains-map ends_of es e c)
      (on_at_place q p (same_place q p near) (ends_of e) on)),
  off_far 0 es p,
)

-- ---- lists that keep the points off the edges

module _ (old new : List CountedEdge) (keeps : KeepsPointsOff old new) where
  -- a rule that holds of the first list holds of the second
  rule_forth : (holds : ℤ → ℤ → Bool) → HoldsSomewhere holds subj_of clip_of old →
      HoldsSomewhere holds subj_of clip_of new
  rule_forth holds (p, off, h) = let same = keeps p off in (p, same.off, ap₂ holds same.subj same.clip ∙ h)

  -- a point off the second edges, and a point near it that is off both
  module _ (p : PlanePoint) (off : IsOff (all_ends new) p) where
    at : IsNearOff new old p
    at = near_off new old p off

    subj_near : winding_by subj_of old at.near ≡ winding_by subj_of new p
    subj_near = sym (keeps at.near at.off_more).subj ∙ at.same subj_of

    clip_near : winding_by clip_of old at.near ≡ winding_by clip_of new p
    clip_near = sym (keeps at.near at.off_more).clip ∙ at.same clip_of

  rule_back : (holds : ℤ → ℤ → Bool) → HoldsSomewhere holds subj_of clip_of new →
      HoldsSomewhere holds subj_of clip_of old
  rule_back holds (p, off, h) =
      ((at p off).near, (at p off).off_more, ap₂ holds (subj_near p off) (clip_near p off) ∙ h)

  module _ (filled : ℤ → Bool) where
    meet_forth : InteriorsIntersect filled old → InteriorsIntersect filled new
    meet_forth (p, off, s, c) = let same = keeps p off in
        (p, same.off, ap filled same.subj ∙ s, ap filled same.clip ∙ c)

    meet_back : InteriorsIntersect filled new → InteriorsIntersect filled old
    meet_back (p, off, s, c) = (
      (at p off).near,
      (at p off).off_more,
      ap filled (subj_near p off) ∙ s,
      ap filled (clip_near p off) ∙ c,
    )

    -- of two sides that wind alike
    module _ (inner outer : CountedEdge → ℤ)
        (inner_kept : (p : PlanePoint) → IsOff (all_ends old) p → winding_by inner new p ≡ winding_by inner old p)
        (outer_kept : (p : PlanePoint) → IsOff (all_ends old) p → winding_by outer new p ≡ winding_by outer old p) where
      lies_forth : LiesWithin filled old inner outer → LiesWithin filled new inner outer
      lies_forth lies = record {
        some = let (p, off, h) = lies.some in (p, (keeps p off).off, ap filled (inner_kept p off) ∙ h);
        each = λ p off h.
            let q = (at p off).near in
            let q_off = (at p off).off_more in
            ap filled (sym ((at p off).same outer) ∙ outer_kept q q_off)
            ∙ lies.each q q_off (ap filled (sym (inner_kept q q_off) ∙ (at p off).same inner) ∙ h);
      }

      lies_back : LiesWithin filled new inner outer → LiesWithin filled old inner outer
      lies_back lies = record {
        some = let (p, off, h) = lies.some in (
          (at p off).near,
          (at p off).off_more,
          ap filled (sym (inner_kept (at p off).near (at p off).off_more) ∙ (at p off).same inner) ∙ h,
        );
        each = λ p off h. ap filled (sym (outer_kept p off))
            ∙ lies.each p (keeps p off).off (ap filled (inner_kept p off) ∙ h);
      }

    same_interiors : HaveSameInteriors filled old new
    same_interiors = record {
      interiors_intersect = (meet_forth, meet_back);
      within = (
        lies_forth subj_of clip_of (λ p off. (keeps p off).subj) (λ p off. (keeps p off).clip),
        lies_back subj_of clip_of (λ p off. (keeps p off).subj) (λ p off. (keeps p off).clip),
      );
      covers = (
        lies_forth clip_of subj_of (λ p off. (keeps p off).clip) (λ p off. (keeps p off).subj),
        lies_back clip_of subj_of (λ p off. (keeps p off).clip) (λ p off. (keeps p off).subj),
      );
    }

pub kept_points_keep_relations : KeptPointsKeepRelations
kept_points_keep_relations = record {
  relations = λ filled old new keeps. same_interiors old new keeps filled;
  rules = λ holds old new keeps. (rule_forth old new keeps holds, rule_back old new keeps holds);
}

-- ---- lists that keep far points

module _ (k : ℕ) (filled : ℤ → Bool) (old new : List CountedEdge) (keeps : KeepsFarPoints k old new) where
  both_fill : (p : PlanePoint) → IsFarFrom k old p → fills_at filled old subj_of p ≡ true →
      fills_at filled old clip_of p ≡ true → InteriorsIntersect filled new
  both_fill p far s c = let same = keeps p far in (p, same.off, ap filled same.subj ∙ s, ap filled same.clip ∙ c)

  tell_of_far_points : TellOfFarPoints k filled old new
  tell_of_far_points = record {
    interiors_intersect = both_fill;
    apart = λ none p far. by none p far (fills_at filled old subj_of p && fills_at filled old clip_of p) refl;
    within = λ lies p far h. let same = keeps p far in
        ap filled (sym same.clip) ∙ lies.each p same.off (ap filled same.subj ∙ h);
    covers = λ lies p far h. let same = keeps p far in
        ap filled (sym same.subj) ∙ lies.each p same.off (ap filled same.clip ∙ h);
  }
    where
      by : ¬ (InteriorsIntersect filled new) → (p : PlanePoint) → IsFarFrom k old p → (t : Bool) →
          (fills_at filled old subj_of p && fills_at filled old clip_of p) ≡ t →
          (fills_at filled old subj_of p && fills_at filled old clip_of p) ≡ false
      by none p far false is = is
      by none p far true is =
          let parts = and_parts (fills_at filled old subj_of p) (fills_at filled old clip_of p) is in
          absurd (none (both_fill p far parts.0 parts.1))

pub far_points_tell_relations : FarPointsTellRelations
far_points_tell_relations = record {
  relations = λ filled k old new keeps. tell_of_far_points k filled old new keeps;
  rules = λ holds k old new keeps p far h. let same = keeps p far in
      (p, same.off, ap₂ holds same.subj same.clip ∙ h);
}
