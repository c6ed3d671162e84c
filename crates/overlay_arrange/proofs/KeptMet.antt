-- What a test leaves of a list of points: those whose pixels an edge meets.
use Rattle.std.proofs.Common.{◌≡◌, ⊎_elim, inl, inr, Bool, true, false, ◌&&◌, ℤ, List, Contains, filter}
use Rattle.std.proofs.Common.{refl, sym, ◌∙◌, subst}
use Rattle.overlay_geom.specs.Plane.{Point}
use Rattle.overlay_geom.specs.Edges.{CountedEdge, ends_of}
use Rattle.overlay_geom.specs.Points.{plain_point, plain_points}
use Rattle.overlay_geom.specs.declared.point.IntPoint.{IntPoint}
use Rattle.overlay_plane.specs.SnapPoints.{is_in_box, line_meets, meets_pixel}
use Rattle.overlay_plane.proofs.Entries.{Contains-filter, Contains-from_filter, Contains-from_map, Contains-map}
use Rattle.overlay_arrange.specs.Cut.{IsEndOf}
use Rattle.overlay_arrange.specs.HotPoints.{AreMetInside, meets_inside}
use Rattle.overlay_arrange.proofs.PixelBounds.{inside_where, is_end_or_not, met_at_end}

module _ (e : CountedEdge) where
  and_both : (s t : Bool) → (s && t) ≡ true → s ≡ true
  and_both true t is = refl
  and_both false t is = is

  inside_or_end : (v : Point) → meets_pixel (ends_of e) v ≡ true → ¬ (IsEndOf e v) → meets_inside e v ≡ true
  inside_or_end v meets other =
      sym (inside_where e v other) ∙ by (is_in_box (ends_of e) v && line_meets (ends_of e) v) refl
    where
      by : (s : Bool) → (is_in_box (ends_of e) v && line_meets (ends_of e) v) ≡ s → s ≡ true
      by true is = refl
      by false is = absurd (other (met_at_end e v is meets))

  -- the points left of a list are met
  pub met_left : {I : Type 0} (whole : I → ℤ) (vs us : List (IntPoint I)) →
      us ≡ filter (λ v. meets_inside e (plain_point whole v)) vs →
      AreMetInside e (plain_points whole vs) (plain_points whole us)
  met_left {I} whole vs us is = subst (λ (ws : List (IntPoint I)). AreMetInside e (plain_points whole vs)
      (plain_points whole ws)) (sym is) (record {
        within = λ v at. let from = Contains-from_map (plain_point whole) left v at in
            let r = Contains-from_filter tested vs from.0 from.1 in (
              subst (Contains (plain_points whole vs)) from.2 (Contains-map (plain_point whole) vs from.0 r.0),
              subst (λ (u : Point). meets_pixel (ends_of e) u ≡ true) from.2 (and_both _ _ r.1),
            );
        all = λ v at meets. ⊎_elim (λ end. inl end) (λ inside. inr (
            let from = Contains-from_map (plain_point whole) vs v at in
            subst (Contains (plain_points whole left)) from.2 (Contains-map (plain_point whole) left from.0
            (Contains-filter tested vs from.0 from.1 (subst (λ (u : Point). meets_inside e u ≡ true) (sym from.2)
            (inside_or_end v meets inside)))))) (is_end_or_not e v);
      })
    where
      tested : IntPoint I → Bool
      tested v = meets_inside e (plain_point whole v)

      left : List (IntPoint I)
      left = filter tested vs
