-- A rule holds beside a plain point of a merged list exactly where it holds beside an edge of its exact arrangement.
use lib.IntN.{+ℤ_idr}
use Rattle.std.proofs.Common.{◌≡◌, ◌⊎◌, ◌↔◌, inl, inr, ⊎_elim, Bool, true, false, cond, ◌||◌, ℤ, pos, ◌+ℤ◌, ◌<ℤ◌, List}
use Rattle.std.proofs.Common.{Contains}
use Rattle.std.proofs.Common.{sym, ap, ap₂, ◌∙◌, subst}
use Rattle.std.specs.List.{All}
use Rattle.std.proofs.lemmas.Bool.{or_cases}
use Rattle.std.proofs.lemmas.List.Elements.{All-contains, All-map}
use Rattle.overlay_geom.specs.Counts.{Counts}
use Rattle.overlay_geom.specs.Edges.{CountedEdge, ends_of, subj_of, clip_of, winding_by, winding_below, winding_above}
use Rattle.overlay_geom.specs.Merged.{IsMerged}
use Rattle.overlay_geom.specs.Plane.{PlanePoint, IsOn, IsEnd, midpoint, point_lt}
use Rattle.overlay_geom.proofs.PointOrder.{IsBefore}
use Rattle.overlay_plane.specs.Balance.{HasBalancedCounts}
use Rattle.overlay_plane.specs.EdgeLists.{IsForwardBy}
use Rattle.overlay_plane.specs.EdgePredicates.{SomeEdge}
use Rattle.overlay_plane.specs.Nodes.{IsBalancedArrangement}
use Rattle.overlay_plane.specs.Predicates.{HoldsSomewhere}
use Rattle.overlay_plane.specs.Regions.{IsRuled, holds_above, holds_below}
use Rattle.overlay_plane.specs.Rounds.{pieces_of}
use Rattle.overlay_plane.proofs.ChainStops.{IsLink}
use Rattle.overlay_plane.proofs.Entries.{all_or_any, Contains-from_any}
use Rattle.overlay_plane.proofs.GivenPredicates.{kept_points_keep_relations}
use Rattle.overlay_plane.proofs.InnerPoints.{winding_inside}
use Rattle.overlay_plane.proofs.JoinedLists.{total-map}
use Rattle.overlay_plane.proofs.ReachedEdges.{regions_reach_edges}
use Rattle.overlay_plane.proofs.Tests.{same_tests}
use Rattle.overlay_plane.proofs.Totals.{total-same}
use Rattle.overlay_plane.proofs.WholeCuts.{stops}
use Rattle.overlay_plane.proofs.WholeOnEdges.{forward_from_test}
use Rattle.overlay_scaled.specs.ExactArrangements.{IsExactArrangement, ArrangesExactly}
use Rattle.overlay_scaled.specs.PlainPoints.{IsPlain, SomePlain, holds_beside, PlainPointsTellRules}
use Rattle.overlay_scaled.specs.Scaled.{scaled_edge, scaled, IsTimes}
use Rattle.overlay_scaled.specs.Through.{is_on, total_through, winding_over}
use Rattle.overlay_scaled.proofs.ExactArrangements.{arranges, exact_arrangements_exist, link_of, whole_cut}
use Rattle.overlay_scaled.proofs.ExactArrangements.{merging_keeps_points_off}
use Rattle.overlay_scaled.proofs.Middles.{middle_on, middle_no_end}
use Rattle.overlay_scaled.proofs.OnTests.{on_from_test, test_from_on, on_or_off}
use Rattle.overlay_scaled.proofs.PlainPoints.{from_scaled, plain_of_link, stops_nowhere}
use Rattle.overlay_scaled.proofs.SameLinks.{on_of_link}
use Rattle.overlay_scaled.proofs.ScaledPoints.{further, is_further, nearer, is_nearer, lies_alike}
use Rattle.overlay_scaled.proofs.ScaledRelations.{scaling_keeps_relations}
use Rattle.overlay_scaled.proofs.ThroughRounds.{HaveSameThrough, through_again, through_merged, through_pieces}
use Rattle.overlay_scaled.proofs.ThroughRounds.{through_one, through_none}

-- the scaled edges through the point n times as far are those through the point
through_scaled : (n : ℤ) → pos 0 <ℤ n → (p q : PlanePoint) → IsTimes n p q → (count : Counts → ℤ)
    (es : List CountedEdge) → total_through (λ e. count e.counts) (scaled n es) q ≡
    total_through (λ e. count e.counts) es p
through_scaled n some p q at count es = total-map (λ e. cond (is_on (ends_of e) q) (count e.counts) (pos 0))
    (scaled_edge n) es
    ∙ total-same (λ e. cond (is_on (ends_of (scaled_edge n e)) q) (count e.counts) (pos 0))
    (λ e. cond (is_on (ends_of e) p) (count e.counts) (pos 0)) es
    (λ e c. ap (λ t. cond t (count e.counts) (pos 0)) (same_tests (is_on (ends_of (scaled_edge n e)) q)
    (is_on (ends_of e) p)
    (λ t. test_from_on (ends_of e) p
    (((lies_alike n some p q at).on e).1 (on_from_test (ends_of (scaled_edge n e)) q t)))
    (λ t. test_from_on (ends_of (scaled_edge n e)) q
    (((lies_alike n some p q at).on e).0 (on_from_test (ends_of e) p t)))))

module _ (n : ℤ) (content es new : List CountedEdge) (merged : IsMerged content es) (forward : IsForwardBy ends_of es)
    (balanced : HasBalancedCounts es) (arranged : IsExactArrangement n es new) where
  exact : ArrangesExactly n es new
  exact = arranges n es new forward arranged balanced

  pub by_subj : IsBalancedArrangement subj_of new
  by_subj = record { planar = exact.planar; balanced = exact.balanced.subj }

  pub by_clip : IsBalancedArrangement clip_of new
  by_clip = record { planar = exact.planar; balanced = exact.balanced.clip }

  -- ---- sides of a plain point, and of an edge of the arrangement

  module _ (e : CountedEdge) (p q : PlanePoint) (at : IsTimes n p q) (plain : IsPlain es e p) where
    through : HaveSameThrough (scaled n es) new q
    through = through_again (scaled n es) arranged.round.edges new q
        (through_merged (scaled n es) arranged.round.edges arranged.merged q)
        (through_again arranged.round.edges (pieces_of arranged.round) new q
        (through_pieces arranged.round (whole_cut n es new forward arranged) q
        (stops_nowhere n content es new merged forward arranged e p q at plain))
        (through_merged (pieces_of arranged.round) new arranged.pieces q))

    pub subj_at : winding_by subj_of new q ≡ winding_by subj_of es p
    subj_at = exact.windings.subj q ∙ (lies_alike n arranged.scale p q at).winding (λ c. c.subj) es

    pub clip_at : winding_by clip_of new q ≡ winding_by clip_of es p
    clip_at = exact.windings.clip q ∙ (lies_alike n arranged.scale p q at).winding (λ c. c.clip) es

    pub subj_over : winding_over subj_of new q ≡ winding_over subj_of es p
    subj_over = ap₂ (λ u v. u +ℤ v) subj_at
        (through.subj ∙ through_scaled n arranged.scale p q at (λ c. c.subj) es)

    pub clip_over : winding_over clip_of new q ≡ winding_over clip_of es p
    clip_over = ap₂ (λ u v. u +ℤ v) clip_at
        (through.clip ∙ through_scaled n arranged.scale p q at (λ c. c.clip) es)

  -- the sides of an edge of the arrangement at an inner point
  module _ (g : CountedEdge) (has : Contains new g) (q : PlanePoint) (on : IsOn (ends_of g) q)
      (no_end : ¬ (IsEnd (ends_of g) q)) where
    pub below_edge : (count : CountedEdge → ℤ) → IsBalancedArrangement count new →
        winding_by count new q ≡ winding_below count new g
    below_edge count by = winding_inside count new by g has q on no_end

    pub above_edge : (count : CountedEdge → ℤ) → IsBalancedArrangement count new →
        winding_over count new q ≡ winding_above count new g
    above_edge count by = ap₂ (λ u v. u +ℤ v) (below_edge count by)
        (through_one new exact.planar q count g has on no_end)

    -- q is n times as far as a plain point
    pub plain_under : (p : PlanePoint) → IsTimes n p q → (e : CountedEdge) × IsPlain es e p
    plain_under p at =
        let link = link_of n es new forward arranged g has in
        let from = from_scaled n content es new merged forward arranged link.0 link.1 in (
          from.0,
          plain_of_link n content es new merged forward arranged from.0 p q at from.1 (ends_of g)
              (subst (λ (x : CountedEdge). IsLink (stops arranged.round x) (ends_of g)) (sym from.2) link.2)
              (subst (λ (x : CountedEdge). IsOn (ends_of x) q) (sym from.2)
              (on_of_link arranged.round (whole_cut n es new forward arranged) link.0 link.1 (ends_of g) link.2 q on))
              on no_end,
        )

  -- an edge of the arrangement with the point n times as far as a plain point has it inside
  pub no_end_at_plain : (e : CountedEdge) (p q : PlanePoint) → IsTimes n p q → IsPlain es e p →
      (g : CountedEdge) → Contains new g → ¬ (IsEnd (ends_of g) q)
  no_end_at_plain e p q at plain g has end =
      let link = link_of n es new forward arranged g has in
      let nowhere = stops_nowhere n content es new merged forward arranged e p q at plain link.0 link.1 in
      ⊎_elim (nowhere g.a link.2.from) (nowhere g.b link.2.to) end

  -- an edge of the arrangement has the point, or it is off all
  pub edge_or_none : (q : PlanePoint) →
      All (λ g. ¬ (IsOn (ends_of g) q)) new ⊎ ((g : CountedEdge) × Contains new g × IsOn (ends_of g) q)
  edge_or_none q = ⊎_elim (λ all. inl all) (λ some. inr (Contains-from_any (λ g. IsOn (ends_of g) q) new some))
      (all_or_any (λ g. ¬ (IsOn (ends_of g) q)) (λ g. IsOn (ends_of g) q)
      (λ g. ⊎_elim (λ on. inr on) (λ off. inl off) (on_or_off (ends_of g) q)) new)

  -- ---- rules

  module _ (holds : ℤ → ℤ → Bool) (none : holds (pos 0) (pos 0) ≡ false) where
    ruled : IsRuled holds subj_of clip_of new
    ruled = record {
      planar = exact.planar;
      subj_balanced = exact.balanced.subj;
      clip_balanced = exact.balanced.clip;
      none = none;
    }

    -- ---- from an edge to a plain point

    abbrev beside : CountedEdge → Bool
    beside g = holds_above holds subj_of clip_of new g || holds_below holds subj_of clip_of new g

    module _ (g : CountedEdge) (has : Contains new g) where
      abbrev q : PlanePoint
      q = midpoint (ends_of g)

      abbrev p : PlanePoint
      p = nearer n arranged.scale q

      at : IsTimes n p q
      at = is_nearer n arranged.scale q

      before : IsBefore g.a g.b
      before = forward_from_test (ends_of g) (All-contains (λ f. point_lt f.a f.b ≡ true) new g exact.planar.forward
          has)

      on : IsOn (ends_of g) q
      on = middle_on (ends_of g) before

      no_end : ¬ (IsEnd (ends_of g) q)
      no_end = middle_no_end (ends_of g) before

      under : (e : CountedEdge) × IsPlain es e p
      under = plain_under g has q on no_end p at

      same_beside : holds_beside holds es p ≡ beside g
      same_beside = ap₂ (λ s t. s || t)
          (ap₂ holds (sym (subj_over under.0 p q at under.1) ∙ above_edge g has q on no_end subj_of by_subj)
          (sym (clip_over under.0 p q at under.1) ∙ above_edge g has q on no_end clip_of by_clip))
          (ap₂ holds (sym (subj_at under.0 p q at under.1)) (sym (clip_at under.0 p q at under.1)))

      plain_from_edge : beside g ≡ true → SomePlain (holds_beside holds es) es
      plain_from_edge t = (under.0, p, under.1, same_beside ∙ t)

    -- ---- from a plain point to an edge, or to a point off all edges

    module _ (e : CountedEdge) (r : PlanePoint) (plain : IsPlain es e r) (t : holds_beside holds es r ≡ true) where
      abbrev s : PlanePoint
      s = further n r

      far : IsTimes n r s
      far = is_further n r

      at_edge : (g : CountedEdge) → Contains new g → IsOn (ends_of g) s → HoldsSomewhere holds subj_of clip_of new
      at_edge g has on = (regions_reach_edges holds subj_of clip_of new ruled).1 (g, has, same ∙ t)
        where
          no_end : ¬ (IsEnd (ends_of g) s)
          no_end = no_end_at_plain e r s far plain g has

          same : beside g ≡ holds_beside holds es r
          same = ap₂ (λ u v. u || v)
              (ap₂ holds (sym (above_edge g has s on no_end subj_of by_subj) ∙ subj_over e r s far plain)
              (sym (above_edge g has s on no_end clip_of by_clip) ∙ clip_over e r s far plain))
              (ap₂ holds (sym (below_edge g has s on no_end subj_of by_subj) ∙ subj_at e r s far plain)
              (sym (below_edge g has s on no_end clip_of by_clip) ∙ clip_at e r s far plain))

      off_edges : All (λ g. ¬ (IsOn (ends_of g) s)) new → HoldsSomewhere holds subj_of clip_of new
      off_edges off = (
        s,
        All-map (λ f. ¬ (IsOn f s)) ends_of new off,
        ⊎_elim
            (λ over. ap₂ holds (sym (level subj_of) ∙ subj_over e r s far plain)
            (sym (level clip_of) ∙ clip_over e r s far plain) ∙ over)
            (λ below. ap₂ holds (subj_at e r s far plain) (clip_at e r s far plain) ∙ below)
            (or_cases (holds (winding_over subj_of es r) (winding_over clip_of es r))
            (holds (winding_by subj_of es r) (winding_by clip_of es r)) t),
      )
        where
          level : (count : CountedEdge → ℤ) → winding_over count new s ≡ winding_by count new s
          level count = ap (λ z. winding_by count new s +ℤ z) (through_none new exact.planar s count
              (λ g c. All-contains (λ g. ¬ (IsOn (ends_of g) s)) new g off c)) ∙ +ℤ_idr (winding_by count new s)

      new_from_plain : HoldsSomewhere holds subj_of clip_of new
      new_from_plain = ⊎_elim off_edges (λ some. at_edge some.0 some.1 some.2) (edge_or_none s)

    -- ---- both ways

    scaling : HoldsSomewhere holds subj_of clip_of es ↔ HoldsSomewhere holds subj_of clip_of (scaled n es)
    scaling = scaling_keeps_relations.rules n arranged.scale holds es

    keeping : HoldsSomewhere holds subj_of clip_of (scaled n es) ↔ HoldsSomewhere holds subj_of clip_of new
    keeping = kept_points_keep_relations.rules holds (scaled n es) new exact.off

    from_edge : SomeEdge beside new → SomePlain (holds_beside holds es) es
    from_edge (g, has, t) = plain_from_edge g has t

    from_plain : SomePlain (holds_beside holds es) es → HoldsSomewhere holds subj_of clip_of new
    from_plain (e, p, plain, t) = new_from_plain e p plain t

    merging : HoldsSomewhere holds subj_of clip_of content ↔ HoldsSomewhere holds subj_of clip_of es
    merging = kept_points_keep_relations.rules holds content es (merging_keeps_points_off content es merged)

    pub plain_tells : HoldsSomewhere holds subj_of clip_of content ↔ SomePlain (holds_beside holds es) es
    plain_tells = (
      λ some. from_edge ((regions_reach_edges holds subj_of clip_of new ruled).0
          (keeping.0 (scaling.0 (merging.0 some)))),
      λ some. merging.1 (scaling.1 (keeping.1 (from_plain some))),
    )

pub plain_points_tell_rules : PlainPointsTellRules
plain_points_tell_rules holds content es merged forward balanced none =
    let some = exact_arrangements_exist es forward in
    plain_tells some.0 content es some.1 merged forward balanced some.2 holds none
