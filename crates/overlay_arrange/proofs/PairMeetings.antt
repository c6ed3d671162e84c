-- The meetings of two edges with each other: the points that pushing adds, and the points to add in each position of
-- the two.
use Rattle.std.proofs.Common.{◌≡◌, ⊎_elim, inl, inr, ℕ, Bool, List, [], ◌∷◌, ◌++◌, Contains, filter, sym, ap}
use Rattle.std.proofs.Common.{◌∙◌, subst, arith}
use Rattle.std.proofs.lemmas.List.Elements.{Contains-append_left, Contains-append_right, Contains-append_cases}
use Rattle.std.proofs.lemmas.List.Elements.{Contains-push, Contains-push_cases, filter-append}
use Rattle.overlay_geom.specs.Plane.{Point}
use Rattle.overlay_geom.specs.Edges.{CountedEdge, ends_of}
use Rattle.overlay_geom.specs.Placed.{IsAlong, IsAcross}
use Rattle.overlay_geom.proofs.Entries.{Contains-cases}
use Rattle.overlay_geom.proofs.OneLine.{along_exchanged}
use Rattle.overlay_geom.proofs.PointOrder.{IsBefore}
use Rattle.overlay_plane.specs.CutPoints.{crossing}
use Rattle.overlay_plane.proofs.Placements.{ends_between, met_along}
use Rattle.overlay_plane.proofs.SharedCrossings.{crossing_alike}
use Rattle.overlay_arrange.specs.Cut.{IsEndOf}
use Rattle.overlay_arrange.specs.Meetings.{AddsBoth, AddsPoints, Meeting}
use Rattle.overlay_arrange.proofs.Crossings.{met_where_both_across}

-- ---- meetings that pushing adds

-- a list of one point has no other one
pub only_entry : (v w : Point) → Contains (v ∷ []) w → v ≡ w
only_entry v w at = ⊎_elim (λ is. is) (λ none. absurd (omega (arith, none.1))) (Contains-cases v [] w at)

module _ (i : ℕ) (e : CountedEdge) where
  -- points that are ends of the edge may be left out
  pub ends_left_out : (vs : List Point) (ms : List Meeting) → ((v : Point) → Contains vs v → IsEndOf e v) →
      AddsPoints i e vs ms ms
  ends_left_out vs ms ends = record { kept = λ m at. at; led = λ m at. inl at; all = λ v at. inl (ends v at) }

  -- an end of the edge may be left out
  pub end_left_out : (v : Point) (ms : List Meeting) → IsEndOf e v → AddsPoints i e (v ∷ []) ms ms
  end_left_out v ms end = record {
    kept = λ m at. at;
    led = λ m at. inl at;
    all = λ w at. inl (subst (IsEndOf e) (only_entry v w at) end);
  }

  -- a point is pushed
  pub point_pushed : (v : Point) (old new : List Meeting) → new ≡ old ++ record { place = i; point = v } ∷ [] →
      AddsPoints i e (v ∷ []) old new
  point_pushed v old new is = record {
    kept = λ m at. subst (λ ms. Contains ms m) (sym is) (Contains-append_left old (pushed ∷ []) m at);
    led = λ m at. ⊎_elim (λ there. inl there)
        (λ same. inr (
          sym (ap (λ (n : Meeting). n.place) same),
          subst (Contains (v ∷ [])) (ap (λ (n : Meeting). n.point) same) (Contains-push [] v),
        ))
        (Contains-push_cases old pushed m (subst (λ ms. Contains ms m) is at));
    all = λ w at. inr (subst (λ ms. Contains ms (record { place = i; point = w })) (sym is)
        (subst (λ u. Contains (old ++ pushed ∷ []) (record { place = i; point = u })) (only_entry v w at)
        (Contains-push old pushed)));
  }
    where
      pushed : Meeting
      pushed = record { place = i; point = v }

  -- some points are added, and then others
  pub points_added : {us vs : List Point} {old mid new : List Meeting} → AddsPoints i e us old mid →
      AddsPoints i e vs mid new → AddsPoints i e (us ++ vs) old new
  points_added {us} {vs} first second = record {
    kept = λ m at. second.kept m (first.kept m at);
    led = λ m at. ⊎_elim
        (λ before. ⊎_elim (λ old_one. inl old_one) (λ led. inr (led.0, Contains-append_left us vs m.point led.1))
        (first.led m before))
        (λ led. inr (led.0, Contains-append_right us vs m.point led.1)) (second.led m at);
    all = λ v at. ⊎_elim
        (λ one. ⊎_elim (λ end. inl end) (λ there. inr (second.kept (record { place = i; point = v }) there))
        (first.all v one))
        (λ other. second.all v other) (Contains-append_cases us vs v at);
  }

  -- the points of two that pass a test
  pub two_added : (p : Point → Bool) (v w : Point) {old mid new : List Meeting} →
      AddsPoints i e (filter p (v ∷ [])) old mid → AddsPoints i e (filter p (w ∷ [])) mid new →
      AddsPoints i e (filter p (v ∷ w ∷ [])) old new
  two_added p v w {old} {mid} {new} first second =
      subst (λ vs. AddsPoints i e vs old new) (sym (filter-append p (v ∷ []) (w ∷ []))) (points_added first second)

-- ---- meetings to add

module _ (i : ℕ) (e : CountedEdge) (j : ℕ) (f : CountedEdge) where
  -- where they are collinear there are their ends
  pub ends_added : {old mid new : List Meeting} → IsBefore e.a e.b → IsAlong (ends_of e) (ends_of f) →
      AddsPoints i e (ends_between (ends_of e) (ends_of f)) old mid →
      AddsPoints j f (ends_between (ends_of f) (ends_of e)) mid new → AddsBoth i e j f old new
  ends_added {old} {mid} {new} e_forward along first second = record {
    between = mid;
    one = subst (λ vs. AddsPoints i e vs old mid) (sym (met_along (ends_of e) (ends_of f) along)) first;
    other = subst (λ vs. AddsPoints j f vs mid new)
        (sym (met_along (ends_of f) (ends_of e) (along_exchanged (ends_of e) (ends_of f) e_forward along))) second;
  }

  -- one point is added if each goes across the other's line
  pub crossing_added : (v : Point) {old mid new : List Meeting} → IsAcross (ends_of e) (ends_of f) →
      IsAcross (ends_of f) (ends_of e) → v ≡ crossing (ends_of e) (ends_of f) →
      AddsPoints i e (v ∷ []) old mid → AddsPoints j f (v ∷ []) mid new → AddsBoth i e j f old new
  crossing_added v {old} {mid} {new} forth back is first second = record {
    between = mid;
    one = subst (λ vs. AddsPoints i e vs old mid)
        (ap (λ u. u ∷ []) is ∙ sym (met_where_both_across (ends_of e) (ends_of f) forth back)) first;
    other = subst (λ vs. AddsPoints j f vs mid new)
        (ap (λ u. u ∷ []) (is ∙ crossing_alike (ends_of e) (ends_of f) forth back)
        ∙ sym (met_where_both_across (ends_of f) (ends_of e) back forth)) second;
  }
