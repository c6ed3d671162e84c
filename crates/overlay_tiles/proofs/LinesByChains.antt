-- A line is covered by the steps of its chain.
use Rattle.std.proofs.Common.{◌≡◌, ◌⊎◌, inl, inr, ⊎_elim, Bool, true, false, ℤ, pos, ◌*ℤ◌, ◌<ℤ◌}
use Rattle.std.proofs.Common.{List, [], ◌∷◌, Contains, refl, sym, ap, ◌∙◌, subst}
use Rattle.std.specs.List.{All}
use Rattle.std.proofs.lemmas.Int.{by_lt_z}
use Rattle.std.proofs.lemmas.List.Elements.{All-contains}
use Rattle.overlay_geom.specs.Plane.{Point, Step, Edge, IsBetween, is_forward}
use Rattle.overlay_geom.specs.Edges.{CountedEdge}
use Rattle.overlay_geom.specs.declared.solver.Solver.{Solver}
use Rattle.overlay_geom.proofs.Signs.{linear}
use Rattle.overlay_plane.specs.ChainLinks.{Leads, here, on_to, chain_through}
use Rattle.overlay_plane.specs.HalfPlanes.{HalfPlane, IsStepInHalf, IsEdgeInHalf}
use Rattle.overlay_plane.specs.HalfPlanes.HalfPlane.{left_of, right_of, below, above}
use Rattle.overlay_plane.specs.MarkedChains.{IsMarkedStep}
use Rattle.overlay_plane.specs.RoundLists.{AreRounds}
use Rattle.overlay_plane.specs.Rounds.{Round}
use Rattle.overlay_plane.proofs.EdgesOfSteps.{edge_by}
use Rattle.overlay_plane.proofs.HalfPlanes.{chains_stay_in_half_planes}
use Rattle.overlay_plane.proofs.Totals.{Contains-head, Contains-later}
use Rattle.overlay_tiles.proofs.Axes.{Axis, of_uprights, of_levels, across, along}
use Rattle.overlay_tiles.proofs.CoveredLines.{IsOver}

-- the half planes before the line and beyond it, the line too
abbrev pub half_before : Axis → ℤ → HalfPlane
half_before of_uprights c = left_of c
half_before of_levels c = below c

abbrev pub half_beyond : Axis → ℤ → HalfPlane
half_beyond of_uprights c = right_of c
half_beyond of_levels c = above c

-- a place between the first and the last point of a walk lies between the ends of one of its steps
record IsPassed (axis : Axis) (ss : List Step) (z d : ℤ) : Type 0 where
  pub step : Step
  pub among : Contains ss step
  pub over : IsBetween z (along axis step.from *ℤ d) (along axis step.to *ℤ d)

-- beyond its first step, which leads from p to q, where a place between q and the end is passed
module _ (axis : Axis) (z d : ℤ) (p q r : Point) (ss : List Step)
    (go : IsBetween z (along axis q *ℤ d) (along axis r *ℤ d) → (z ≡ along axis q *ℤ d) ⊎ IsPassed axis ss z d) where
  abbrev s : Step
  s = record { from = p; to = q }

  first : IsBetween z (along axis p *ℤ d) (along axis q *ℤ d) → IsPassed axis (s ∷ ss) z d
  first at = record { step = s; among = Contains-head s ss; over = at }

  later : (z ≡ along axis q *ℤ d) ⊎ IsPassed axis ss z d → IsPassed axis (s ∷ ss) z d
  later (inl at) = first (by_lt_z z (along axis p *ℤ d) (λ less. inr (omega linear, omega linear))
      (λ ge. inl (ge, omega linear)))
  later (inr found) = record {
    step = found.step;
    among = Contains-later s ss found.step found.among;
    over = found.over;
  }

  pass_on : IsBetween z (along axis p *ℤ d) (along axis r *ℤ d) → IsPassed axis (s ∷ ss) z d
  pass_on (inl (low, high)) = by_lt_z (along axis q *ℤ d) z
      (λ more. later (go (inl (omega linear, high))))
      (λ le. first (inl (low, le)))
  pass_on (inr (low, high)) = by_lt_z z (along axis q *ℤ d)
      (λ less. later (go (inr (low, omega linear))))
      (λ ge. first (inr (ge, high)))

passed : (axis : Axis) (z d : ℤ) (p q : Point) (ss : List Step) → Leads p ss q →
    IsBetween z (along axis p *ℤ d) (along axis q *ℤ d) → (z ≡ along axis p *ℤ d) ⊎ IsPassed axis ss z d
passed axis z d p q [] here (inl (low, high)) = inl (omega linear)
passed axis z d p q [] here (inr (low, high)) = inl (omega linear)
passed axis z d p r (s ∷ ss) (on_to {q = q} rest) over =
    inr (pass_on axis z d p q r ss (passed axis z d q r ss rest) over)

-- the first step passes the place at which it begins
begun : (axis : Axis) (z d : ℤ) (p q : Point) (ss : List Step) → Leads p ss q → ¬ (along axis p ≡ along axis q) →
    z ≡ along axis p *ℤ d → IsPassed axis ss z d
begun axis z d p q [] here apart at = absurd (apart refl)
begun axis z d p r (s ∷ ss) (on_to {q = q} rest) apart at = record {
  step = record { from = p; to = q };
  among = Contains-head (record { from = p; to = q }) ss;
  over = by_lt_z z (along axis q *ℤ d) (λ less. inl (omega linear, omega linear)) (λ ge. inr (ge, omega linear));
}

-- where an edge along the line, from one place to another, has become a chain of which each step runs along an edge,
-- these cover what lies between the places
module _ (axis : Axis) (c : ℤ) (solver : Solver) (old new : List CountedEdge) (rounds : List Round)
    (are : AreRounds solver old rounds) (e : CountedEdge) (from : across axis e.a ≡ c) (to : across axis e.b ≡ c)
    (apart : ¬ (along axis e.a ≡ along axis e.b))
    (leads : Leads e.a (chain_through rounds e) e.b)
    (marked : (t : Step) → Contains (chain_through rounds e) t → IsMarkedStep new e t) where
  abbrev chain : List Step
  chain = chain_through rounds e

  before : All (IsStepInHalf (half_before axis c)) chain
  before = chains_stay_in_half_planes solver rounds old are (half_before axis c) e (ends axis from to)
    where
      ends : (x : Axis) → across x e.a ≡ c → across x e.b ≡ c → IsEdgeInHalf (half_before x c) e
      ends of_uprights f t = (omega linear, omega linear)
      ends of_levels f t = (omega linear, omega linear)

  beyond : All (IsStepInHalf (half_beyond axis c)) chain
  beyond = chains_stay_in_half_planes solver rounds old are (half_beyond axis c) e (ends axis from to)
    where
      ends : (x : Axis) → across x e.a ≡ c → across x e.b ≡ c → IsEdgeInHalf (half_beyond x c) e
      ends of_uprights f t = (omega linear, omega linear)
      ends of_levels f t = (omega linear, omega linear)

  -- each step of the chain is on the line
  on_line : (t : Step) → Contains chain t → (across axis t.from ≡ c) × (across axis t.to ≡ c)
  on_line t at = both axis (All-contains (IsStepInHalf (half_before axis c)) chain t before at)
      (All-contains (IsStepInHalf (half_beyond axis c)) chain t beyond at)
    where
      both : (x : Axis) → IsStepInHalf (half_before x c) t → IsStepInHalf (half_beyond x c) t →
          (across x t.from ≡ c) × (across x t.to ≡ c)
      both of_uprights low high = let a = low.0 in let b = high.0 in let u = low.1 in let v = high.1 in
          (omega linear, omega linear)
      both of_levels low high = let a = low.0 in let b = high.0 in let u = low.1 in let v = high.1 in
          (omega linear, omega linear)

  -- an edge along a step is over the places that the step passes
  over_step : (z d : ℤ) → IsPassed axis chain z d → IsOver axis c new z d
  over_step z d found = by (marked found.step found.among) (is_forward found.step)
      (on_line found.step found.among)
    where
      by : IsMarkedStep new e found.step → (t : Bool) →
          (across axis found.step.from ≡ c) × (across axis found.step.to ≡ c) → IsOver axis c new z d
      by m t level = record {
        edge = m.edge;
        entry = m.entry;
        from = ap (λ (f : Edge). across axis f.a) m.ends ∙ (level_ends (is_forward found.step)).0;
        to = ap (λ (f : Edge). across axis f.b) m.ends ∙ (level_ends (is_forward found.step)).1;
        over = subst (λ (f : Edge). IsBetween z (along axis f.a *ℤ d) (along axis f.b *ℤ d)) (sym m.ends)
            (between (is_forward found.step));
      }
        where
          level_ends : (t : Bool) → (across axis (edge_by t found.step).a ≡ c)
              × (across axis (edge_by t found.step).b ≡ c)
          level_ends true = level
          level_ends false = (level.1, level.0)

          between : (t : Bool) → IsBetween z (along axis (edge_by t found.step).a *ℤ d)
              (along axis (edge_by t found.step).b *ℤ d)
          between true = found.over
          between false = ⊎_elim (λ up. inr up) (λ down. inl down) found.over

  -- so edges are over each place between the first and the last one
  pub over_each : (z d : ℤ) → pos 0 <ℤ d → IsBetween z (along axis e.a *ℤ d) (along axis e.b *ℤ d) →
      IsOver axis c new z d
  over_each z d some between = ⊎_elim (λ at. over_step z d (begun axis z d e.a e.b chain leads apart at))
      (over_step z d)
      (passed axis z d e.a e.b chain leads between)
