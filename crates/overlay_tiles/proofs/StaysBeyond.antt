-- From a filled side beyond a covered line, or one that runs ahead along it, the left hand leads to another one.
use Rattle.std.proofs.Common.{◌≡◌, ◌⊎◌, inl, inr, ⊎_elim, Bool, true, false, cond, ℤ, pos, ◌<ℤ◌, ◌≤ℤ◌, List, Contains}
use Rattle.std.proofs.Common.{sym, ap, ◌∙◌, subst}
use Rattle.std.proofs.lemmas.Bool.{both_ways, false_from_ne_true}
use Rattle.std.proofs.lemmas.Int.{by_lt_z}
use Rattle.overlay_geom.specs.Plane.{Point, Step, point_lt}
use Rattle.overlay_geom.specs.Edges.{CountedEdge, ends_of, winding_above, winding_below}
use Rattle.overlay_geom.proofs.PointOrder.{IsBefore, Decides-point_lt}
use Rattle.overlay_geom.proofs.Signs.{linear}
use Rattle.overlay_plane.specs.Nodes.{IsBalancedArrangement}
use Rattle.overlay_plane.specs.Spokes.{IsSpoke, far_end}
use Rattle.overlay_plane.specs.Turn.{is_met_before}
use Rattle.overlay_plane.specs.Turn.Hand.{left}
use Rattle.overlay_plane.specs.WindingsBeside.{IsStepAlong, winding_on_side}
use Rattle.overlay_plane.proofs.SameWay.{ends_differ}
use Rattle.overlay_plane.proofs.SpokeWindings.{not_start, forward_entry}
use Rattle.overlay_tiles.proofs.Axes.{Axis, of_uprights, of_levels, across, along, IsBehind, IsBeyond, line_met_first}
use Rattle.overlay_tiles.proofs.Axes.{one_point}
use Rattle.overlay_tiles.proofs.Borders.{winds_not_at_bottom, winds_not_at_right}
use Rattle.overlay_tiles.proofs.CoveredLines.{IsCovered, one_side}
use Rattle.overlay_tiles.proofs.LinesGoOn.{goes_on}

-- the step stays beyond the line or on it, and runs ahead where it runs along it
pub record StaysBeyond (axis : Axis) (c : ℤ) (s : Step) : Type 0 where
  pub from : c ≤ℤ across axis s.from
  pub to : c ≤ℤ across axis s.to
  pub ahead : across axis s.from ≡ c → across axis s.to ≡ c → along axis s.from <ℤ along axis s.to

module _ (fills : ℤ → Bool) (none_filled : fills (pos 0) ≡ false) (count : CountedEdge → ℤ) (es : List CountedEdge)
    (arranged : IsBalancedArrangement count es) where
  -- the step has a filled side on its left
  pub record IsFilled (s : Step) : Type 0 where
    pub edge : CountedEdge
    pub along_it : IsStepAlong es edge s
    pub filled : fills (winding_on_side left count es edge s) ≡ true

  module _ (s : Step) (f : IsFilled s) where
    -- the two ends of its edge differ
    ends_apart : ¬ (f.edge.a ≡ f.edge.b)
    ends_apart = ends_differ (ends_of f.edge) (forward_entry count es arranged f.edge f.along_it.entry)

    pub is_long : ¬ (s.from ≡ s.to)
    is_long same = ⊎_elim
        (λ walk. ends_apart (sym (ap (λ (q : Step). q.from) walk) ∙ same ∙ ap (λ (q : Step). q.to) walk))
        (λ walk. ends_apart (sym (ap (λ (q : Step). q.to) walk) ∙ sym same ∙ ap (λ (q : Step). q.from) walk))
        f.along_it.walks

    -- what holds of both ends of its edge holds of its own ends
    pub of_both : (P Q : Point → Type 0) → (P f.edge.a × P f.edge.b) ⊎ (Q f.edge.a × Q f.edge.b) →
        (P s.from × P s.to) ⊎ (Q s.from × Q s.to)
    of_both P Q h = ⊎_elim
        (λ walk. subst (λ (q : Step). (P q.from × P q.to) ⊎ (Q q.from × Q q.to)) (sym walk) h)
        (λ walk. subst (λ (q : Step). (P q.from × P q.to) ⊎ (Q q.from × Q q.to)) (sym walk)
        (⊎_elim (λ p. inl (p.1, p.0)) (λ q. inr (q.1, q.0)) h)) f.along_it.walks

    -- its edge is a spoke where it arrives
    pub arriving : IsSpoke es s.to f.edge
    arriving = record {
      entry = f.along_it.entry;
      at = ⊎_elim (λ walk. inr (sym (ap (λ (q : Step). q.to) walk))) (λ walk. inl (sym (ap (λ (q : Step). q.to) walk)))
          f.along_it.walks;
    }

    -- where it leads from the larger end of its edge, what winds on its left is what winds below the edge
    pub back_along : IsBefore s.to s.from → (f.edge.a ≡ s.to) × (f.edge.b ≡ s.from)
    back_along before = ⊎_elim (λ walk. absurd (both_ways (point_lt s.from s.to)
        (not_both s.to s.from before)
        (subst (λ (q : Step). point_lt q.from q.to ≡ true) (sym walk)
        (forward_entry count es arranged f.edge f.along_it.entry))))
        (λ walk. (sym (ap (λ (q : Step). q.to) walk), sym (ap (λ (q : Step). q.from) walk))) f.along_it.walks
      where
        not_both : (p q : Point) → IsBefore p q → point_lt q p ≡ false
        not_both p q h = false_from_ne_true (point_lt q p) (λ test.
            let k = (Decides-point_lt q p).0 test in
            let one = h.x in
            let other = k.x in
            let up = h.y other in
            let down = k.y one in
            omega linear)

    -- so something winds there
    pub not_back_along_none : IsBefore s.to s.from → ¬ (winding_below count es f.edge ≡ pos 0)
    not_back_along_none before none =
        let ends = back_along before in
        let below : winding_on_side left count es f.edge s ≡ winding_below count es f.edge =
        ap (λ t. cond t (winding_above count es f.edge) (winding_below count es f.edge))
        (not_start count es arranged s.from f.edge f.along_it.entry ends.1) in
        both_ways (fills (pos 0)) none_filled (ap fills (sym (below ∙ none)) ∙ f.filled)

  module _ (axis : Axis) (c low high : ℤ) (covered : IsCovered axis c es low high) (s t : Step) (at_s : IsFilled s)
      (at_t : IsFilled t) (leaves : t.from ≡ s.to) (none : (m : CountedEdge) → IsSpoke es s.to m →
      is_met_before left s.to s.from (far_end s.to m) t.to ≡ false) (stays : StaysBeyond axis c s) where
    -- t starts where s ends, beyond the line or on it
    starts : c ≤ℤ across axis t.from
    starts = subst (λ (p : Point). c ≤ℤ across axis p) (sym leaves) stays.to

    start_across : across axis t.from ≡ across axis s.to
    start_across = ap (across axis) leaves

    start_along : along axis t.from ≡ along axis s.to
    start_along = ap (along axis) leaves

    sides : ((c ≤ℤ across axis t.from) × (c ≤ℤ across axis t.to))
        ⊎ ((across axis t.from ≤ℤ c) × (across axis t.to ≤ℤ c))
    sides = of_both t at_t (λ p. c ≤ℤ across axis p) (λ p. across axis p ≤ℤ c)
        (one_side axis c es arranged.planar.settled low high covered at_t.edge at_t.along_it.entry)

    module _ (level : across axis s.to ≡ c) where
      from_beyond : IsBeyond axis s.to s.from
      from_beyond = by_lt_z c (across axis s.from) (λ more. inl (omega linear))
          (λ le. let from = stays.from in
          let same : across axis s.from ≡ c = omega linear in
          inr (same ∙ sym level, stays.ahead same level))

      above_low : low ≤ℤ along axis s.to
      above_low = ⊎_elim (λ at. subst (λ (p : Point). low ≤ℤ along axis p) at
          (covered.above_low at_s.edge at_s.along_it.entry).0)
          (λ at. subst (λ (p : Point). low ≤ℤ along axis p) at
          (covered.above_low at_s.edge at_s.along_it.entry).1) (arriving s at_s).at

      -- the line does not end there
      not_at_the_end : IsBehind axis s.to t.to → high ≤ℤ along axis s.to → ⊥
      not_at_the_end behind ends = by axis from_beyond behind
          (λ m at. let below = covered.below_high m at in
          let a = below.0 in
          let b = below.1 in
          (omega linear, omega linear))
        where
          by : (x : Axis) → IsBeyond x s.to s.from → IsBehind x s.to t.to →
              ((m : CountedEdge) → Contains es m → (along x m.a ≤ℤ along x s.to) × (along x m.b ≤ℤ along x s.to)) → ⊥
          by of_uprights beyond back most =
              let edge = back_along s at_s before in
              not_back_along_none s at_s before
              (winds_not_at_bottom count es arranged s.to s.from t.to none lowest at_s.edge at_s.along_it.entry edge.0
              edge.1 beyond back high_to)
            where
              lowest : (m : CountedEdge) → Contains es m → (s.to.y ≤ℤ m.a.y) × (s.to.y ≤ℤ m.b.y)
              lowest m at = let both = most m at in let a = both.0 in let b = both.1 in (omega linear, omega linear)

              before : IsBefore s.to s.from
              before = ⊎_elim (λ past. record { x = omega linear; y = λ le. omega linear })
                  (λ level. let same = level.0 in
                  let less = level.1 in
                  record { x = omega linear; y = λ le. omega linear }) beyond

              high_to : s.to.y ≤ℤ t.to.y
              high_to = ⊎_elim (λ both. both.1) (λ both. both.1) (of_both t at_t (λ p. s.to.y ≤ℤ p.y)
                  (λ p. s.to.y ≤ℤ p.y) (inl (lowest at_t.edge at_t.along_it.entry)))
          by of_levels beyond back most =
              let edge = back_along t at_t before in
              not_back_along_none t at_t before
              (winds_not_at_right count es arranged s.to s.from t.to none most at_t.edge at_t.along_it.entry edge.0
              (edge.1 ∙ leaves) beyond back (of_ends s at_s).0)
            where
              of_ends : (q : Step) → IsFilled q → (q.from.x ≤ℤ s.to.x) × (q.to.x ≤ℤ s.to.x)
              of_ends q f = ⊎_elim (λ both. both) (λ both. both) (of_both q f (λ p. p.x ≤ℤ s.to.x)
                  (λ p. p.x ≤ℤ s.to.x) (inl (most f.edge f.along_it.entry)))

              before : IsBefore t.to t.from
              before = subst (IsBefore t.to) (sym leaves) (record {
                x = (of_ends t at_t).1;
                y = λ le. ⊎_elim (λ under. under) (λ level. let less = level.1 in absurd (omega linear)) back;
              })

      -- so t does not lead back behind it
      not_behind : ¬ (IsBehind axis s.to t.to)
      not_behind behind = by_lt_z (along axis s.to) high
          (λ less. let on = goes_on axis c es arranged.planar.settled low high covered s.to at_s.edge
          (arriving s at_s) level above_low less in
          both_ways (is_met_before left s.to s.from (far_end s.to on.spoke) t.to) (none on.spoke on.is_spoke)
          (line_met_first axis s.to s.from (far_end s.to on.spoke) t.to (on.on_line ∙ sym level) on.ahead from_beyond
          behind))
          (λ ge. not_at_the_end behind ge)

      stays_from_line : StaysBeyond axis c t
      stays_from_line = record {
        from = starts;
        to = by_lt_z (across axis t.to) c (λ less. absurd (not_behind (inl (omega linear)))) (λ ge. ge);
        ahead = λ from to. by_lt_z (along axis t.from) (along axis t.to) (λ less. less)
            (λ ge. let at = start_along in
            by_lt_z (along axis t.to) (along axis s.to)
            (λ less. absurd (not_behind (inr (to ∙ sym level, less))))
            (λ up. absurd (is_long t at_t (one_point axis t.from t.to (from ∙ sym to) (omega linear)))));
      }

    pub next_stays : StaysBeyond axis c t
    next_stays = by_lt_z c (across axis s.to)
        (λ more. let same = start_across in record {
          from = starts;
          to = ⊎_elim (λ beyond. beyond.1) (λ before. let low_from = before.0 in absurd (omega linear)) sides;
          ahead = λ from to. absurd (omega linear);
        })
        (λ le. let to = stays.to in stays_from_line (omega linear))
