-- The windings at the start of an edge, and what the edges met there add to them.
use Rattle.std.proofs.Common.{◌≡◌, ℕ, ◌+◌, ◌<◌, true, false, ℤ, pos, ◌+ℤ◌, ◌*ℤ◌, List, [], map, take, get_or}
use Rattle.std.proofs.Common.{length, refl, sym, subst, ap, ap₂, ◌∙◌}
use Rattle.overlay_geom.specs.Edges.{CountedEdge, ends_of, subj_of, clip_of, winding_by}
use Rattle.overlay_geom.specs.Plane.{PlanePoint, in_plane, is_strictly_below}
use Rattle.overlay_geom.proofs.Identities.{solve, number, ◌⊗◌, ◌≗◌}
use Rattle.overlay_geom.proofs.Signs.{linear}
use Rattle.overlay_geom.proofs.WindingSums.{winding_by-counted, winding_by-passed}
use Rattle.overlay_exact.specs.Along.{Met}
use Rattle.overlay_given.specs.Laws.{IsSum}
use Rattle.overlay_given.specs.Steps.{Rises}
use Rattle.overlay_given.specs.Walk.{WindsAtStart, WindsFromStart}
use Rattle.overlay_given.specs.declared.beside.Beside.{Beside}
use Rattle.overlay_given.specs.declared.steps.Stop.TheVariants.{First}
use Rattle.overlay_given.proofs.Sums.{nothing}

-- the windings at p by some edges, each twice
pub record WindTwice (es : List CountedEdge) (p : PlanePoint) (b : Beside) : Type 0 where
  pub subj_below : b.subj_below ≡ winding_by subj_of es p
  pub subj_above : b.subj_above ≡ winding_by subj_of es p
  pub clip_below : b.clip_below ≡ winding_by clip_of es p
  pub clip_above : b.clip_above ≡ winding_by clip_of es p

-- edges that wind alike at the start of an edge
pub starts_alike : (ds es : List CountedEdge) (e : CountedEdge) (b : Beside) →
    ((count : CountedEdge → ℤ) → winding_by count ds (in_plane e.a) ≡ winding_by count es (in_plane e.a)) →
    WindsAtStart ds e b → WindsAtStart es e b
starts_alike ds es e b alike winds = record {
  subj_below = winds.subj_below ∙ alike subj_of;
  subj_above = winds.subj_above ∙ ap (λ z. z +ℤ subj_of e) (alike subj_of);
  clip_below = winds.clip_below ∙ alike clip_of;
  clip_above = winds.clip_above ∙ ap (λ z. z +ℤ clip_of e) (alike clip_of);
}

-- the counts of an edge, taken so often
pub record Counted (f : CountedEdge) (below above : ℤ) (b : Beside) : Type 0 where
  pub subj_below : b.subj_below ≡ subj_of f *ℤ below
  pub subj_above : b.subj_above ≡ subj_of f *ℤ above
  pub clip_below : b.clip_below ≡ clip_of f *ℤ below
  pub clip_above : b.clip_above ≡ clip_of f *ℤ above

once : (z : ℤ) → z *ℤ pos 1 ≡ z
once = solve 1 (λ z. z ⊗ number (pos 1) ≗ z) tt

never : (z : ℤ) → z *ℤ pos 0 ≡ pos 0
never = solve 1 (λ z. z ⊗ number (pos 0) ≗ number (pos 0)) tt

module _ {X : Type 0} (h : X → CountedEdge) (xs : List X) (i : ℕ) (x : X) (p : PlanePoint) (within : i < length xs)
    (is : x ≡ get_or xs i x) (old : Beside) (so_far : WindTwice (map h (take i xs)) p old) where
  -- an edge below p adds its counts
  pub wind_more : is_strictly_below (ends_of (h x)) p ≡ true → (part new : Beside) →
      Counted (h x) (pos 1) (pos 1) part → IsSum old part new → WindTwice (map h (take (i + 1) xs)) p new
  wind_more below part new counted sum = record {
    subj_below = winding_by-counted subj_of h xs i x p old.subj_below new.subj_below within is below so_far.subj_below
        (sum.subj_below ∙ ap (λ z. old.subj_below +ℤ z) (counted.subj_below ∙ once (subj_of (h x))));
    subj_above = winding_by-counted subj_of h xs i x p old.subj_above new.subj_above within is below so_far.subj_above
        (sum.subj_above ∙ ap (λ z. old.subj_above +ℤ z) (counted.subj_above ∙ once (subj_of (h x))));
    clip_below = winding_by-counted clip_of h xs i x p old.clip_below new.clip_below within is below so_far.clip_below
        (sum.clip_below ∙ ap (λ z. old.clip_below +ℤ z) (counted.clip_below ∙ once (clip_of (h x))));
    clip_above = winding_by-counted clip_of h xs i x p old.clip_above new.clip_above within is below so_far.clip_above
        (sum.clip_above ∙ ap (λ z. old.clip_above +ℤ z) (counted.clip_above ∙ once (clip_of (h x))));
  }

  -- another adds nothing
  pub wind_past : is_strictly_below (ends_of (h x)) p ≡ false → (new : Beside) → new ≡ old →
      WindTwice (map h (take (i + 1) xs)) p new
  wind_past other new same = record {
    subj_below = winding_by-passed subj_of h xs i x p old.subj_below new.subj_below within is other so_far.subj_below
        (ap (λ (b : Beside). b.subj_below) same);
    subj_above = winding_by-passed subj_of h xs i x p old.subj_above new.subj_above within is other so_far.subj_above
        (ap (λ (b : Beside). b.subj_above) same);
    clip_below = winding_by-passed clip_of h xs i x p old.clip_below new.clip_below within is other so_far.clip_below
        (ap (λ (b : Beside). b.clip_below) same);
    clip_above = winding_by-passed clip_of h xs i x p old.clip_above new.clip_above within is other so_far.clip_above
        (ap (λ (b : Beside). b.clip_above) same);
  }

-- the counts of the edge itself come above it
pub wind_at_start : (es : List CountedEdge) (e : CountedEdge) (sum part b : Beside) →
    WindTwice es (in_plane e.a) sum → Counted e (pos 0) (pos 1) part → IsSum sum part b → WindsAtStart es e b
wind_at_start es e sum part b winds counted is = record {
  subj_below = is.subj_below ∙ ap₂ (λ y z. y +ℤ z) winds.subj_below (counted.subj_below ∙ never (subj_of e))
      ∙ none (winding_by subj_of es (in_plane e.a));
  subj_above = is.subj_above ∙ ap₂ (λ y z. y +ℤ z) winds.subj_above (counted.subj_above ∙ once (subj_of e));
  clip_below = is.clip_below ∙ ap₂ (λ y z. y +ℤ z) winds.clip_below (counted.clip_below ∙ never (clip_of e))
      ∙ none (winding_by clip_of es (in_plane e.a));
  clip_above = is.clip_above ∙ ap₂ (λ y z. y +ℤ z) winds.clip_above (counted.clip_above ∙ once (clip_of e));
}
  where
    none : (z : ℤ) → z +ℤ pos 0 ≡ z
    none z = omega linear

-- and what the edges met add
pub first_sums : (es : List CountedEdge) (e : CountedEdge) (met : List Met) (start sum b : Beside) →
    WindsAtStart es e start → Rises First es e met sum → IsSum start sum b → WindsFromStart es e met b
first_sums es e met start sum b winds rises is = record {
  subj_below = is.subj_below ∙ ap₂ (λ y z. y +ℤ z) winds.subj_below rises.subj_below;
  subj_above = is.subj_above ∙ ap₂ (λ y z. y +ℤ z) winds.subj_above rises.subj_above;
  clip_below = is.clip_below ∙ ap₂ (λ y z. y +ℤ z) winds.clip_below rises.clip_below;
  clip_above = is.clip_above ∙ ap₂ (λ y z. y +ℤ z) winds.clip_above rises.clip_above;
}

-- no edges wind nowhere
pub wind_none : (p : PlanePoint) (b : Beside) → b ≡ nothing → WindTwice [] p b
wind_none p b is = subst (WindTwice [] p) (sym is)
    (record { subj_below = refl; subj_above = refl; clip_below = refl; clip_above = refl })
