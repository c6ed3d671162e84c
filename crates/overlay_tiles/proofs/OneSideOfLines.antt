-- Filled sides of one orbit lie on one side of each covered line, and no orbit passes both sides of an edge along it.
use Rattle.std.proofs.Common.{◌≡◌, ◌⊎◌, inl, inr, ⊎_elim, Bool, false, ℤ, pos, ◌≤ℤ◌, List, [], ◌∷◌, Contains, sym, ◌∙◌}
use Rattle.std.specs.List.{All}
use Rattle.std.proofs.lemmas.Int.{by_lt_z}
use Rattle.std.proofs.lemmas.List.Elements.{All-nil}
use Rattle.overlay_geom.specs.Plane.{Step, reversed_step}
use Rattle.overlay_geom.specs.Edges.{CountedEdge}
use Rattle.overlay_geom.proofs.Signs.{linear}
use Rattle.overlay_plane.specs.Nodes.{IsBalancedArrangement}
use Rattle.overlay_plane.specs.Spokes.{IsSpoke, far_end}
use Rattle.overlay_plane.specs.Turn.{is_met_before, IsNextStep, IsOrbit}
use Rattle.overlay_plane.specs.Turn.Hand.{left}
use Rattle.overlay_plane.proofs.Entries.{all_of_entries}
use Rattle.overlay_plane.proofs.Totals.{Contains-head}
use Rattle.overlay_tiles.proofs.Axes.{Axis, across, along, one_point}
use Rattle.overlay_tiles.proofs.CoveredLines.{IsCovered, one_side}
use Rattle.overlay_tiles.proofs.OnOneSide.{stays_or_not, before_line, along_orbit}
use Rattle.overlay_tiles.proofs.StaysBeyond.{StaysBeyond, IsFilled, is_long, of_both, next_stays}

-- t starts where s ends, and a ray there, turning by the left hand from the way back along s, meets no edge before it
pub record IsFirstMet (es : List CountedEdge) (s t : Step) : Type 0 where
  pub leaves : t.from ≡ s.to
  pub none : (m : CountedEdge) → IsSpoke es s.to m → is_met_before left s.to s.from (far_end s.to m) t.to ≡ false

-- an orbit of the steps passes both
pub record ShareOrbit (steps : List Step) (s t : Step) : Type 0 where
  pub walk : List Step
  pub orbit : IsOrbit steps left walk
  pub has_one : Contains walk s
  pub has_other : Contains walk t

module _ (fills : ℤ → Bool) (none_filled : fills (pos 0) ≡ false) (count : CountedEdge → ℤ) (es : List CountedEdge)
    (arranged : IsBalancedArrangement count es) (sides : List Step)
    (filled : (s : Step) → Contains sides s → IsFilled fills none_filled count es arranged s)
    (first_met : (s t : Step) → Contains sides s → IsNextStep sides left s t → IsFirstMet es s t)
    (axis : Axis) (c low high : ℤ) (covered : IsCovered axis c es low high) where
  -- the next side of one that stays beyond the line does
  next : (s t : Step) → Contains sides s → IsNextStep sides left s t → StaysBeyond axis c s → StaysBeyond axis c t
  next s t at is_next stays =
      let met = first_met s t at is_next in
      next_stays fills none_filled count es arranged axis c low high covered s t (filled s at) (filled t is_next.among)
      met.leaves met.none stays

  stays_in_orbit : (s t : Step) → ShareOrbit sides s t → StaysBeyond axis c s → StaysBeyond axis c t
  stays_in_orbit s t share stays =
      along_orbit axis c sides left next share.walk share.orbit s t share.has_one share.has_other stays

  -- the side's ends lie on one side
  ends_on_one_side : (s : Step) → Contains sides s → ((c ≤ℤ across axis s.from) × (c ≤ℤ across axis s.to))
      ⊎ ((across axis s.from ≤ℤ c) × (across axis s.to ≤ℤ c))
  ends_on_one_side s at =
      let f = filled s at in
      of_both fills none_filled count es arranged s f (λ p. c ≤ℤ across axis p) (λ p. across axis p ≤ℤ c)
      (one_side axis c es arranged.planar.settled low high covered f.edge f.along_it.entry)

  -- sides of one orbit lie beyond the line, or before it
  pub on_one_side : (ss : List Step) → ((s : Step) → Contains ss s → Contains sides s) →
      ((s t : Step) → Contains ss s → Contains ss t → ShareOrbit sides s t) →
      All (λ s. (c ≤ℤ across axis s.from) × (c ≤ℤ across axis s.to)) ss
      ⊎ All (λ s. (across axis s.from ≤ℤ c) × (across axis s.to ≤ℤ c)) ss
  on_one_side [] are share = inl (All-nil (λ s. (c ≤ℤ across axis s.from) × (c ≤ℤ across axis s.to)))
  on_one_side (s ∷ ss) are share = ⊎_elim
      (λ stays. inl (all_of_entries (λ t. (c ≤ℤ across axis t.from) × (c ≤ℤ across axis t.to)) (s ∷ ss)
      (λ t at. let here = stays_in_orbit s t (share s t (Contains-head s ss) at) stays in (here.from, here.to))))
      (λ not. inr (all_of_entries (λ t. (across axis t.from ≤ℤ c) × (across axis t.to ≤ℤ c)) (s ∷ ss)
      (λ t at. before_line axis c t (ends_on_one_side t (are t at))
      (λ stays. not (stays_in_orbit t s (share t s at (Contains-head s ss)) stays)))))
      (stays_or_not axis c s)

  -- no orbit passes a side along the line and the step back
  pub parted : (s : Step) → Contains sides s → across axis s.from ≡ c → across axis s.to ≡ c →
      ¬ (ShareOrbit sides s (reversed_step s))
  parted s at from to share = by_lt_z (along axis s.from) (along axis s.to)
      (λ less. let back = stays_in_orbit s (reversed_step s) share
      (record { from = omega linear; to = omega linear; ahead = λ a b. less }) in
      let more = back.ahead to from in absurd (omega linear))
      (λ ge. by_lt_z (along axis s.to) (along axis s.from)
      (λ less. let forth = stays_in_orbit (reversed_step s) s
      (record { walk = share.walk; orbit = share.orbit; has_one = share.has_other; has_other = share.has_one })
      (record { from = omega linear; to = omega linear; ahead = λ a b. less }) in
      let more = forth.ahead from to in absurd (omega linear))
      (λ le. absurd (is_long fills none_filled count es arranged s (filled s at)
      (one_point axis s.from s.to (from ∙ sym to) (omega linear)))))
