-- Edges meet in whole points alone, or overlap, exactly where each of their meetings lies on the line of its edge.
use Rattle.std.proofs.Common.{◌≡◌, ⊎_elim, inl, inr, ℕ, true, List, All, Contains, sym, subst}
use Rattle.std.specs.Prelude.{◌↔◌}
use Rattle.std.proofs.lemmas.List.Elements.{All-contains}
use Rattle.overlay_geom.specs.Plane.{Point, point_lt}
use Rattle.overlay_geom.specs.Edges.{CountedEdge, ends_of}
use Rattle.overlay_geom.proofs.OneLine.{holds_start, holds_end}
use Rattle.overlay_geom.proofs.PointOrder.{IsBefore}
use Rattle.overlay_plane.specs.CutPoints.{cut_points}
use Rattle.overlay_plane.specs.Meetings.{MeetInWholePoints}
use Rattle.overlay_plane.proofs.Entries.{all_of_entries}
use Rattle.overlay_plane.proofs.WholeOnEdges.{forward_from_test}
use Rattle.overlay_order.specs.Content.{IsHeld}
use Rattle.overlay_arrange.specs.Cut.{AreLedAlongLines, IsEndOf, IsOnLineOf}
use Rattle.overlay_arrange.specs.Meetings.{AreMeetings, IsOnItsLine, Meeting}
use Rattle.overlay_arrange.proofs.LedThrough.{all_computed, computed_of, forward}
use Rattle.overlay_arrange.proofs.WholeMeetings.{whole_meetings_on_lines}

-- an end of an edge lies on its line
end_on_line : (e : CountedEdge) → IsBefore e.a e.b → (v : Point) → IsEndOf e v → IsOnLineOf e v
end_on_line e leads v (inl is) = subst (IsOnLineOf e) (sym is) (holds_start (ends_of e) leads).on_line
end_on_line e leads v (inr is) = subst (IsOnLineOf e) (sym is) (holds_end (ends_of e) leads).on_line

module _ (limit : ℕ) (es : List CountedEdge) (held : All (IsHeld limit) es) (ms : List Meeting)
    (meetings : AreMeetings es ms) where
  -- each edge leads forward
  leads : (e : CountedEdge) → Contains es e → IsBefore e.a e.b
  leads e at = forward_from_test (ends_of e)
      (All-contains (λ f. point_lt f.a f.b ≡ true) es e (forward limit es held ms meetings) at)

  -- where the meetings lie on the lines of their edges, so do all computed points
  led_where_on_lines : All (IsOnItsLine es) ms → All (AreLedAlongLines es) es
  led_where_on_lines all = all_of_entries (AreLedAlongLines es) es (λ e at_e.
      all_of_entries (IsOnLineOf e) (cut_points es e) (λ v at.
      ⊎_elim (λ end. end_on_line e (leads e at_e) v end)
      (λ there. All-contains (IsOnItsLine es) ms (record { place = at_e.0; point = v }) all there e (at_e.1, at_e.2))
      (all_computed limit es held ms meetings at_e.0 e (at_e.1, at_e.2) v at)))

  -- meetings lie on their edges' lines, if edges are led along their lines
  on_lines_where_led : All (AreLedAlongLines es) es → All (IsOnItsLine es) ms
  on_lines_where_led all = all_of_entries (IsOnItsLine es) ms (λ m at e at_e.
      All-contains (IsOnLineOf e) (cut_points es e) m.point
      (All-contains (AreLedAlongLines es) es e all (m.place, at_e.0, at_e.1))
      (computed_of limit es held ms meetings m.place e at_e m.point at))

  -- the meetings tell whether edges meet in whole points alone
  pub whole_by_meetings : All (IsOnItsLine es) ms ↔ MeetInWholePoints es
  whole_by_meetings =
      let law = whole_meetings_on_lines es (forward limit es held ms meetings) in (
        λ all. law.0 (led_where_on_lines all),
        λ whole. on_lines_where_led (law.1 whole),
      )
