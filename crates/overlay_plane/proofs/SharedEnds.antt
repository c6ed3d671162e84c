-- A point where edges meet: a shape that fills something there fills a side of each edge, or exactly one side of some
-- edge.
use Rattle.std.proofs.Common.{◌≡◌, ◌⊎◌, inl, inr, ⊎_elim, Bool, true, false, cond, not, ◌&&◌, ◌||◌, ℤ, pos, ◌+ℤ◌, ◌-ℤ◌}
use Rattle.std.proofs.Common.{List, [], ◌∷◌, Contains, refl, sym, ap, ◌∙◌, subst}
use Rattle.std.proofs.lemmas.Bool.{false≢true, and_parts, and_from, or_cases, or_left, or_right, both_ways}
use Rattle.std.proofs.lemmas.Bool.{false_from_ne_true}
use lib.IntN.{+ℤ_idr}
use Rattle.overlay_geom.specs.Plane.{Point, in_plane, point_eq}
use Rattle.overlay_geom.specs.Edges.{CountedEdge, ends_of, winding_by, winding_below}
use Rattle.overlay_geom.proofs.Orders.{point_eq-same, point_eq-of_same}
use Rattle.overlay_geom.proofs.Signs.{linear}
use Rattle.overlay_plane.specs.EdgePredicates.{EndsAt, SomeEdge, HasSharedEnd, has_both}
use Rattle.overlay_plane.specs.Nodes.{turns_left}
use Rattle.overlay_plane.specs.Predicates.{fills_at, fills_above, fills_below, fills_a_side, IsFillable}
use Rattle.overlay_plane.specs.Regions.{one_if, selected_sign, IsRuled}
use Rattle.overlay_geom.specs.Edges.{subj_of, clip_of}
use Rattle.overlay_plane.proofs.BalancedSigns.{arranged_by_signs, signs_below}
use Rattle.overlay_plane.proofs.LaterEntries.{Contains-cases}
use Rattle.overlay_plane.proofs.NodeWindings.{winding_from_a_start, winding_from_an_end}
use Rattle.overlay_plane.proofs.RegionBelow.{region_from_selected_signs}
use Rattle.overlay_plane.proofs.RisesRound.{is_spoke}
use Rattle.overlay_plane.proofs.Totals.{Contains-head, Contains-later, total-zero}

-- some item of a list passes a test, or none does
some_or_none : {X : Type 0} (test : X → Bool) (xs : List X) →
    ((x : X) × Contains xs x × (test x ≡ true)) ⊎ ((x : X) → Contains xs x → test x ≡ false)
some_or_none test [] = inr (λ x c. elim c.1 [ ])
some_or_none {X} test (x ∷ xs) = by (test x) refl (some_or_none test xs)
  where
    by : (t : Bool) → test x ≡ t →
        ((y : X) × Contains xs y × (test y ≡ true)) ⊎ ((y : X) → Contains xs y → test y ≡ false) →
        ((y : X) × Contains (x ∷ xs) y × (test y ≡ true)) ⊎ ((y : X) → Contains (x ∷ xs) y → test y ≡ false)
    by true is rest = inl (x, Contains-head x xs, is)
    by false is (inl found) = inl (found.0, Contains-later x xs found.0 found.1, found.2)
    by false is (inr none) = inr (λ y c. ⊎_elim (λ same. subst (λ (z : X). test z ≡ false) same is)
        (λ later. none y later) (Contains-cases x xs y c))

-- one side, and not the other
abbrev pub one_side : Bool → Bool → Bool
one_side above below = cond above (not below) below

-- where not one side alone, both are alike, and the sign is 0
alike : (a b : Bool) → one_side a b ≡ false → a ≡ b
alike true true t = refl
alike true false t = absurd (false≢true (sym t))
alike false true t = absurd (false≢true (sym t))
alike false false t = refl

no_sign : (a b : Bool) → a ≡ b → one_if a -ℤ one_if b ≡ pos 0
no_sign true true t = refl
no_sign true false t = absurd (false≢true (sym t))
no_sign false true t = absurd (false≢true t)
no_sign false false t = refl

one_if-injective : (a b : Bool) → one_if a ≡ one_if b → a ≡ b
one_if-injective true true t = refl
one_if-injective true false t = absurd (let n : pos 1 ≡ pos 0 = t in omega linear)
one_if-injective false true t = absurd (let n : pos 0 ≡ pos 1 = t in omega linear)
one_if-injective false false t = refl

-- one side is a side
pub side_of_one : (a b : Bool) → one_side a b ≡ true → (a || b) ≡ true
side_of_one true b t = refl
side_of_one false b t = t

-- the edge has the point as an end where the test says so
ends_at : (v : Point) (e : CountedEdge) → is_spoke v e ≡ true → EndsAt v e
ends_at v e t = ⊎_elim (λ a. inl (point_eq-same e.a v a)) (λ b. inr (point_eq-same e.b v b))
    (or_cases (point_eq e.a v) (point_eq e.b v) t)

tested : (v : Point) (e : CountedEdge) → EndsAt v e → is_spoke v e ≡ true
tested v e (inl a) = or_left (point_eq e.a v) (point_eq e.b v) (point_eq-of_same e.a v a)
tested v e (inr b) = or_right (point_eq e.a v) (point_eq e.b v) (point_eq-of_same e.b v b)

module _ (filled : ℤ → Bool) (shape : CountedEdge → ℤ) (es : List CountedEdge)
    (ruled : IsRuled (λ w z. filled w) shape shape es) (v : Point) where
  -- the shape fills the point, or a side of an edge that ends there
  abbrev pub IsThere : Type 0
  IsThere = (fills_at filled es shape (in_plane v) ≡ true)
      ⊎ ((e : CountedEdge) × Contains es e × EndsAt v e × (fills_a_side filled es shape e ≡ true))

  abbrev sign : CountedEdge → ℤ
  sign e = selected_sign (λ w z. filled w) shape shape es e

  -- the shape fills one side of the edge alone
  abbrev changes : CountedEdge → Bool
  changes e = one_side (fills_above filled es shape e) (fills_below filled es shape e)

  module _ (none : (e : CountedEdge) → Contains es e → EndsAt v e → changes e ≡ false) where
    no_count : (t : Bool) (e : CountedEdge) → Contains es e → (t ≡ true → EndsAt v e) → cond t (sign e) (pos 0) ≡ pos 0
    no_count true e c at = no_sign (fills_above filled es shape e) (fills_below filled es shape e)
        (alike (fills_above filled es shape e) (fills_below filled es shape e) (none e c (at refl)))
    no_count false e c at = refl

    -- a shape that fills no side alone round the point fills the same there as at the point
    still : (e : CountedEdge) → Contains es e → EndsAt v e → fills_below filled es shape e ≡ fills_at filled es shape
        (in_plane v)
    still e c at = one_if-injective (fills_below filled es shape e) (fills_at filled es shape (in_plane v))
        (sym (signs_below (λ w z. filled w) shape shape es ruled e) ∙ level at
        ∙ region_from_selected_signs (λ w z. filled w) shape shape es ruled (in_plane v))
      where
        level : EndsAt v e → winding_below sign es e ≡ winding_by sign es (in_plane v)
        level (inl a) = winding_from_a_start sign es (arranged_by_signs (λ w z. filled w) shape shape es ruled) e c
            ∙ ap (λ z. winding_by sign es (in_plane e.a) +ℤ z)
            (total-zero (λ f. cond (point_eq f.a e.a && turns_left (ends_of f) (ends_of e)) (sign f) (pos 0)) es
            (λ f d. no_count (point_eq f.a e.a && turns_left (ends_of f) (ends_of e)) f d
            (λ t. inl (point_eq-same f.a e.a (and_parts (point_eq f.a e.a) (turns_left (ends_of f) (ends_of e)) t).0
            ∙ a))))
            ∙ +ℤ_idr (winding_by sign es (in_plane e.a)) ∙ ap (λ u. winding_by sign es (in_plane u)) a
        level (inr b) = winding_from_an_end sign es (arranged_by_signs (λ w z. filled w) shape shape es ruled) e c
            ∙ ap (λ z. winding_by sign es (in_plane e.b) +ℤ z)
            (total-zero (λ f. cond (point_eq f.b e.b && turns_left (ends_of e) (ends_of f)) (sign f) (pos 0)) es
            (λ f d. no_count (point_eq f.b e.b && turns_left (ends_of e) (ends_of f)) f d
            (λ t. inr (point_eq-same f.b e.b (and_parts (point_eq f.b e.b) (turns_left (ends_of e) (ends_of f)) t).0
            ∙ b))))
            ∙ +ℤ_idr (winding_by sign es (in_plane e.b)) ∙ ap (λ u. winding_by sign es (in_plane u)) b

    -- a shape that is there fills a side of each edge
    all_filled : IsThere → (e : CountedEdge) → Contains es e → EndsAt v e → fills_a_side filled es shape e ≡ true
    all_filled there e c at = or_right (fills_above filled es shape e) (fills_below filled es shape e)
        (still e c at ∙ here there)
      where
        here : IsThere → fills_at filled es shape (in_plane v) ≡ true
        here (inl is) = is
        here (inr (f, d, at_f, fills)) = ⊎_elim
            (λ above. sym (still f d at_f)
            ∙ sym (alike (fills_above filled es shape f) (fills_below filled es shape f) (none f d at_f)) ∙ above)
            (λ below. sym (still f d at_f) ∙ below)
            (or_cases (fills_above filled es shape f) (fills_below filled es shape f) fills)

  -- a shape that is there fills one side alone of some edge there, or a side of each
  pub around : IsThere → ((e : CountedEdge) × Contains es e × EndsAt v e × (changes e ≡ true)) ⊎
      ((e : CountedEdge) → Contains es e → EndsAt v e → fills_a_side filled es shape e ≡ true)
  around there = by (some_or_none (λ e. is_spoke v e && changes e) es)
    where
      by : ((e : CountedEdge) × Contains es e × ((is_spoke v e && changes e) ≡ true)) ⊎ ((e : CountedEdge) →
          Contains es e → (is_spoke v e && changes e) ≡ false) →
          ((e : CountedEdge) × Contains es e × EndsAt v e × (changes e ≡ true)) ⊎ ((e : CountedEdge) → Contains es e →
          EndsAt v e → fills_a_side filled es shape e ≡ true)
      by (inl (e, c, t)) = let parts = and_parts (is_spoke v e) (changes e) t in
          inl (e, c, ends_at v e parts.0, parts.1)
      by (inr none) = inr (all_filled (λ e c at. false_from_ne_true (changes e)
          (λ is. both_ways (is_spoke v e && changes e) (none e c)
          (and_from (is_spoke v e) (changes e) (tested v e at) is))) there)

-- ---- two shapes

module _ (filled : ℤ → Bool) (es : List CountedEdge) (fillable : IsFillable filled es) where
  -- the list is ruled by the subject's filling alone, and by the clip's
  pub ruled_by_subj : IsRuled (λ w z. filled w) subj_of subj_of es
  ruled_by_subj = record {
    planar = fillable.planar;
    subj_balanced = fillable.balanced.subj;
    clip_balanced = fillable.balanced.subj;
    none = fillable.none;
  }

  pub ruled_by_clip : IsRuled (λ w z. filled w) clip_of clip_of es
  ruled_by_clip = record {
    planar = fillable.planar;
    subj_balanced = fillable.balanced.clip;
    clip_balanced = fillable.balanced.clip;
    none = fillable.none;
  }

  -- where some edge ends, and both shapes are there, some edge has sides of both, or the point is a shared end
  pub both_there : (v : Point) (f : CountedEdge) → Contains es f → EndsAt v f →
      IsThere filled subj_of es ruled_by_subj v → IsThere filled clip_of es ruled_by_clip v →
      SomeEdge (has_both filled es) es ⊎ HasSharedEnd filled es
  both_there v f c at by_subj by_clip = ways (around filled subj_of es ruled_by_subj v by_subj)
      (around filled clip_of es ruled_by_clip v by_clip)
    where
      s : CountedEdge → Bool
      s e = fills_a_side filled es subj_of e

      k : CountedEdge → Bool
      k e = fills_a_side filled es clip_of e

      Changes : (CountedEdge → ℤ) → Type 0
      Changes shape = (e : CountedEdge) × Contains es e × EndsAt v e
          × (one_side (fills_above filled es shape e) (fills_below filled es shape e) ≡ true)

      both : (e : CountedEdge) → Contains es e → s e ≡ true → k e ≡ true →
          SomeEdge (has_both filled es) es ⊎ HasSharedEnd filled es
      both e d is_s is_k = inl (e, d, and_from (s e) (k e) is_s is_k)

      shared : (x : Changes subj_of × Changes clip_of) → (a b : Bool) → k x.0.0 ≡ a → s x.1.0 ≡ b →
          SomeEdge (has_both filled es) es ⊎ HasSharedEnd filled es
      shared x true b is_k is_s = both x.0.0 x.0.1
          (side_of_one (fills_above filled es subj_of x.0.0) (fills_below filled es subj_of x.0.0) x.0.3) is_k
      shared x false true is_k is_s = both x.1.0 x.1.1 is_s
          (side_of_one (fills_above filled es clip_of x.1.0) (fills_below filled es clip_of x.1.0) x.1.3)
      shared x false false is_k is_s = inr (record {
        end = v;
        of_subj = x.0.0;
        of_clip = x.1.0;
        subj_entry = x.0.1;
        clip_entry = x.1.1;
        subj_at = x.0.2;
        clip_at = x.1.2;
        subj_border = and_from _ (not (k x.0.0)) x.0.3 (ap not is_k);
        clip_border = and_from _ (not (s x.1.0)) x.1.3 (ap not is_s);
      })

      ways : Changes subj_of ⊎ ((e : CountedEdge) → Contains es e → EndsAt v e → s e ≡ true) →
          Changes clip_of ⊎ ((e : CountedEdge) → Contains es e → EndsAt v e → k e ≡ true) →
          SomeEdge (has_both filled es) es ⊎ HasSharedEnd filled es
      ways (inr all_s) (inr all_k) = both f c (all_s f c at) (all_k f c at)
      ways (inr all_s) (inl x) = both x.0 x.1 (all_s x.0 x.1 x.2)
          (side_of_one (fills_above filled es clip_of x.0) (fills_below filled es clip_of x.0) x.3)
      ways (inl x) (inr all_k) = both x.0 x.1
          (side_of_one (fills_above filled es subj_of x.0) (fills_below filled es subj_of x.0) x.3) (all_k x.0 x.1 x.2)
      ways (inl x) (inl y) = shared (x, y) (k x.0) (s y.0) refl refl
