-- Walks along edges of a ruled list that have the rule hold on their filled sides, such as those of selected steps and
-- the loops of filled sides. The filled-above edges of such walks are edges of the list, which meet in ends alone.
use Rattle.std.proofs.Common.{◌≡◌, ◌⊎◌, inl, inr, Bool, true, false, cond, ℤ, List, Contains, refl, subst}
use Rattle.std.specs.List.{filter}
use Rattle.overlay_geom.specs.Plane.{Step, Edge, edge_of, edge_eq}
use Rattle.overlay_geom.specs.Edges.{CountedEdge, ends_of}
use Rattle.overlay_geom.specs.Settled.{MeetInEnds}
use Rattle.overlay_plane.specs.Binding.{filled_above_edges, all_filled_above}
use Rattle.overlay_plane.specs.Contours.{is_filled_above, all_steps}
use Rattle.overlay_plane.specs.KeptContours.{CanBeBound}
use Rattle.overlay_plane.specs.Regions.{IsRuled, holds_above, holds_below}
use Rattle.overlay_plane.specs.Turn.{Hand}
use Rattle.overlay_plane.proofs.Entries.{Contains-filter, Contains-from_filter, Contains-map, Contains-from_map}
use Rattle.overlay_plane.proofs.Entries.{Contains-flat_map, Contains-from_flat_map}
use Rattle.overlay_plane.proofs.WalksOfCuts.{IsEdgeOf, edges_meet}

-- a step that is filled above has its edge among the filled-above edges of its walks
pub above_kept : (filled : Hand) (walks : List (List Step)) (s : Step) → Contains (all_steps walks) s →
    is_filled_above filled s ≡ true → Contains (all_filled_above filled walks) (edge_of s)
above_kept filled walks s c over =
    let walk = Contains-from_flat_map (λ (w : List Step). w) walks s c in
    Contains-flat_map (filled_above_edges filled) walks walk.0 (edge_of s) walk.1
    (Contains-map edge_of (filter (is_filled_above filled) walk.0) s
    (Contains-filter (is_filled_above filled) walk.0 s walk.2 over))

-- the step walks along an edge of the list, and the rule holds on its filled side
pub record IsFilledBeside (holds : ℤ → ℤ → Bool) (subj clip : CountedEdge → ℤ) (es : List CountedEdge) (filled : Hand)
    (s : Step) : Type 0 where
  pub entry : CountedEdge
  pub among : Contains es entry
  pub ends : edge_of s ≡ ends_of entry
  pub there : cond (is_filled_above filled s) (holds_above holds subj clip es entry)
      (holds_below holds subj clip es entry) ≡ true

-- the walks can be bound, and the rule holds on the filled sides of their steps. An edge above which the rule holds is
-- passed with the filled side above if the rule does not hold below it, or if some step walks along it
pub record FollowRule (holds : ℤ → ℤ → Bool) (subj clip : CountedEdge → ℤ) (es : List CountedEdge) (filled : Hand)
    (walks : List (List Step)) : Type 0 where
  pub ruled : IsRuled holds subj clip es
  pub bindable : CanBeBound filled walks
  pub beside : (s : Step) → Contains (all_steps walks) s → IsFilledBeside holds subj clip es filled s
  pub rising : (f : CountedEdge) → Contains es f → holds_above holds subj clip es f ≡ true →
      holds_below holds subj clip es f ≡ false → Contains (all_filled_above filled walks) (ends_of f)
  pub passed : (f : CountedEdge) → Contains es f → holds_above holds subj clip es f ≡ true → (s : Step) →
      Contains (all_steps walks) s → edge_of s ≡ ends_of f → Contains (all_filled_above filled walks) (ends_of f)

module _ (holds : ℤ → ℤ → Bool) (subj clip : CountedEdge → ℤ) (es : List CountedEdge) (filled : Hand)
    (walks : List (List Step)) (follow : FollowRule holds subj clip es filled walks) where
  -- the edge of a walk's step is an edge of the list
  pub edge_listed : (walk : List Step) → Contains walks walk → (s : Step) → Contains walk s → IsEdgeOf es (edge_of s)
  edge_listed walk at s c =
      let own = follow.beside s (Contains-flat_map (λ (w : List Step). w) walks walk s at c) in
      record { entry = own.entry; among = own.among; ends = own.ends }

  -- and so are the filled-above edges
  pub above_listed : (g : Edge) → Contains (all_filled_above filled walks) g → IsEdgeOf es g
  above_listed g c =
      let walk = Contains-from_flat_map (filled_above_edges filled) walks g c in
      let step = Contains-from_map edge_of (filter (is_filled_above filled) walk.0) g walk.2 in
      let kept = Contains-from_filter (is_filled_above filled) walk.0 step.0 step.1 in
      subst (IsEdgeOf es) step.2 (edge_listed walk.0 walk.1 step.0 kept.0)

  -- two edges of the list are one, or meet in ends alone
  pub one_or_meet : (g h : Edge) → IsEdgeOf es g → IsEdgeOf es h → (edge_eq g h ≡ true) ⊎ MeetInEnds g h
  one_or_meet g h of_g of_h = by (edge_eq g h) refl
    where
      by : (t : Bool) → edge_eq g h ≡ t → (edge_eq g h ≡ true) ⊎ MeetInEnds g h
      by true same = inl same
      by false apart = inr (edges_meet es follow.ruled.planar.settled g h of_g of_h apart)
