-- Points sorted by height. If an edge passes above a point, it passes above those before it; if below, below those
-- behind it. A run of them is added.
use Rattle.std.proofs.Common.{◌≡◌, ⊎_elim, inl, inr, ℕ, ◌+◌, ◌<◌, ◌≤◌, ℤ, pos, ◌*ℤ◌, ◌-ℤ◌, ◌≤ℤ◌}
use Rattle.std.proofs.Common.{List, ◌++◌, ◌∷◌, [], Contains, length, slice_range, sym, subst, arith}
use Rattle.std.proofs.lemmas.Bool.{cases_lt}
use Rattle.std.proofs.lemmas.List.Elements.{Contains-append_cases, Contains-append_left, Contains-append_right}
use Rattle.std.proofs.lemmas.List.Elements.{Contains-push, Contains-push_cases}
use Rattle.std.proofs.Math.Nat.{eq-or-lt_of_le}
use Rattle.overlay_geom.specs.Plane.{Point}
use Rattle.overlay_geom.specs.Edges.{CountedEdge}
use Rattle.overlay_geom.proofs.Signs.{linear}
use Rattle.overlay_pairs.specs.Places.{IsAt}
use Rattle.overlay_pairs.proofs.Entries.{one_entry}
use Rattle.overlay_arrange.specs.PixelRuns.{AddsPoints, AddsRun, ArePassedAbove, ArePassedBelow, AreUpwards, IsAmidX}
use Rattle.overlay_arrange.specs.PixelRuns.{IsAmong, PassesAbove, PassesBelow}
use Rattle.overlay_arrange.proofs.LedThrough.{from_ranged, ranged}
use Rattle.overlay_arrange.proofs.PassedCorners.{met_amid}

module _ (e : CountedEdge) (x : ℤ) (vs : List Point) (from to : ℕ) where
  -- at first nothing is passed
  pub none_above : ArePassedAbove e x vs from from
  none_above k v past less = absurd (omega (arith, past, less))

  pub none_below : ArePassedBelow e x vs to to
  none_below k v past less = absurd (omega (arith, past, less))

  module _ (up : AreUpwards vs from to) (at : ℕ) (v : Point) (at_v : IsAt vs at v) where
    -- an edge that passes above one passes above those before it
    pub above_to : at < to → PassesAbove e x v.y → ArePassedAbove e x vs from (at + 1)
    above_to less passes k w past lt at_w u under =
        passes u (let le = up k at w v past (omega (arith, lt)) less at_w at_v in omega (linear, le, under))

    -- an edge that passes below a point passes below those behind it
    pub below_from : from ≤ at → PassesBelow e x v.y → ArePassedBelow e x vs at to
    below_from past passes k w behind less at_w u over =
        passes u (let le = up at k v w past behind less at_v at_w in omega (linear, le, over))

-- ---- points

-- at first none is added
pub no_points : (vs : List Point) (from : ℕ) (us : List Point) → AddsPoints vs from from us us
no_points vs from us = record {
  kept = λ v has. has;
  given = λ v has. inl has;
  all = λ v (among : IsAmong vs from from v). absurd (let past = among.past in let less = among.less in
      omega (arith, past, less));
}

-- one point more before the others
pub one_point_before : (vs : List Point) (at to : ℕ) (v : Point) → IsAt vs at v → at < to → (old us : List Point) →
    AddsPoints vs (at + 1) to old us → AddsPoints vs at to old (us ++ v ∷ [])
one_point_before vs at to v at_v less old us adds = record {
  kept = λ w has. Contains-append_left us (v ∷ []) w (adds.kept w has);
  given = λ w has. ⊎_elim
      (λ before. ⊎_elim (λ one. inl one) (λ (p : IsAmong vs (at + 1) to w). inr (record {
        place = p.place;
        past = (let past = p.past in omega (arith, past));
        less = p.less;
        at = p.at;
      })) (adds.given w before))
      (λ (is : v ≡ w). inr (record {
        place = at;
        past = omega arith;
        less = less;
        at = subst (IsAt vs at) is at_v;
      }))
      (Contains-push_cases us v w has);
  all = λ w (p : IsAmong vs at to w). ⊎_elim
      (λ (same : at ≡ p.place). subst (Contains (us ++ v ∷ []))
      (one_entry vs at v w at_v (subst (λ n. IsAt vs n w) (sym same) p.at)) (Contains-push us v))
      (λ (behind : at < p.place). Contains-append_left us (v ∷ []) w (adds.all w (record {
        place = p.place;
        past = omega (arith, behind);
        less = p.less;
        at = p.at;
      })))
      (eq-or-lt_of_le p.past);
}

-- all of a range at once
pub range_added : (vs : List Point) (from to : ℕ) (us : List Point) → to ≤ length vs →
    AddsPoints vs from to us (us ++ slice_range vs from to)
range_added vs from to us within = record {
  kept = λ v has. Contains-append_left us (slice_range vs from to) v has;
  given = λ v has. ⊎_elim (λ before. inl before)
      (λ there. let place = from_ranged vs from to v within there in inr (record {
        place = place.0;
        past = place.1;
        less = place.2;
        at = place.3;
      }))
      (Contains-append_cases us (slice_range vs from to) v has);
  all = λ v (p : IsAmong vs from to v). Contains-append_right us (slice_range vs from to) v
      (ranged vs from to p.place v p.past p.less within p.at);
}

-- ---- the run

-- the points that are passed neither above nor below
pub run_added : (left right first last : ℤ) (e : CountedEdge) (vs : List Point) (from low high to : ℕ)
    (old new : List Point) → e.a.x ≤ℤ e.b.x → from ≤ low → high ≤ to →
    ((x : ℤ) → left ≤ℤ x → x ≤ℤ right → IsAmidX e x →
    (pos 0 ≤ℤ ((e.b.y -ℤ e.a.y) *ℤ (x -ℤ first))) × (pos 0 ≤ℤ ((e.b.y -ℤ e.a.y) *ℤ (last -ℤ x)))) →
    ArePassedAbove e first vs from low → ArePassedBelow e last vs high to → AddsPoints vs low high old new →
    AddsRun left right e vs from to old new
run_added left right first last e vs from low high to old new forward past short between above below adds = record {
  kept = adds.kept;
  given = λ v has. ⊎_elim (λ one. inl one) (λ (p : IsAmong vs low high v). inr (record {
    place = p.place;
    past = (let after = p.past in omega (arith, after, past));
    less = (let less = p.less in omega (arith, less, short));
    at = p.at;
  })) (adds.given v has);
  all = λ v (p : IsAmong vs from to v) l r meets.
      let sides = between v.x l r (met_amid e v forward meets) in
      ⊎_elim (λ (before : p.place < low).
      absurd (above p.place v p.past before p.at v (omega linear) sides.0 meets))
      (λ (behind : low ≤ p.place). ⊎_elim (λ (inside : p.place < high). adds.all v (record {
        place = p.place;
        past = behind;
        less = inside;
        at = p.at;
      }))
      (λ (over : high ≤ p.place). absurd (below p.place v over p.less p.at v (omega linear) sides.1 meets))
      (cases_lt p.place high)) (cases_lt p.place low);
}
