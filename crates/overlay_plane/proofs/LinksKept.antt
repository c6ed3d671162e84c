-- A fact of all steps of a chain still holds after a cutting round, if it holds of the chains of the edges that the
-- round cuts.
use Rattle.std.proofs.Common.{◌≡◌, Bool, true, false, cond, List, [], ◌∷◌, Contains, refl, sym, subst}
use Rattle.std.specs.List.{All}
use Rattle.std.specs.Prelude.{Option, Some, None, find, flat_map}
use Rattle.std.proofs.lemmas.List.Elements.{All-nil, All-cons, All-head, All-tail, All-append, All-map}
use Rattle.overlay_geom.specs.Plane.{Point, Step, point_eq, edge_eq, is_forward, edge_of, reversed_step, backward}
use Rattle.overlay_geom.specs.Plane.{steps_between, steps_through}
use Rattle.overlay_geom.specs.Edges.{CountedEdge, ends_of}
use Rattle.overlay_geom.proofs.Orders.{edge_eq-same}
use Rattle.overlay_plane.specs.ChainLinks.{ChainLink, links_along, links_after, step_of}
use Rattle.overlay_plane.specs.ChainLinks.ChainLink.{held, dropped}
use Rattle.overlay_plane.specs.Rounds.{Round, chain_of}
use Rattle.overlay_plane.proofs.ChainWalks.{backward-first}
use Rattle.overlay_plane.proofs.FoundEntries.{IsFound, found_by}

-- the step has two different ends
abbrev pub IsLong : Step → Type 0
IsLong s = point_eq s.from s.to ≡ false

module _ (Good : Point → Type 0) where
  -- a step between points of one kind, long
  pub record IsBetweenGood (s : Step) : Type 0 where
    pub long : IsLong s
    pub from : Good s.from
    pub to : Good s.to

  -- the step between two points of one kind, or none
  good_between : (u v : Point) → Good u → Good v → All IsBetweenGood (steps_between u v)
  good_between u v at_u at_v = by (point_eq u v) refl
    where
      by : (t : Bool) → point_eq u v ≡ t → All IsBetweenGood (cond t [] (record { from = u; to = v } ∷ []))
      by true e = All-nil IsBetweenGood
      by false e = All-cons IsBetweenGood (record { from = u; to = v }) [] (record { long = e; from = at_u; to = at_v })
          (All-nil IsBetweenGood)

  -- the steps through points of one kind
  pub good_through : (u : Point) (vs : List Point) → Good u → All Good vs → All IsBetweenGood (steps_through u vs)
  good_through u [] at_u at_vs = All-nil IsBetweenGood
  good_through u (v ∷ vs) at_u at_vs = All-append IsBetweenGood (steps_between u v) (steps_through v vs)
      (good_between u v at_u (All-head Good v vs at_vs))
      (good_through v vs (All-head Good v vs at_vs) (All-tail Good v vs at_vs))

-- a fact of steps there holds of the steps back
pub all_backward : (P : Step → Type 0) → ((s : Step) → P s → P (reversed_step s)) → (ss : List Step) → All P ss →
    All P (backward ss)
all_backward P turned [] h = All-nil P
all_backward P turned (s ∷ ss) h = subst (All P) (sym (backward-first s ss))
    (All-append P (backward ss) (reversed_step s ∷ []) (all_backward P turned ss (All-tail P s ss h))
    (All-cons P (reversed_step s) [] (turned s (All-head P s ss h)) (All-nil P)))

-- P holds of the steps of all links
abbrev pub AllLinks : (Step → Type 0) → List ChainLink → Type 0
AllLinks P ls = All (λ l. P (step_of l)) ls

module _ (P Q : Step → Type 0) (r : Round) (kept : (s : Step) → P s → Q s) (turned : (s : Step) → Q s →
    Q (reversed_step s))
    (chains : (s : Step) (e : CountedEdge) → Contains r.edges e → ends_of e ≡ edge_of s → P s →
    All Q (chain_of r e)) where
  -- of the links that a link becomes
  links_kept_after : (l : ChainLink) → P (step_of l) → AllLinks Q (links_after r l)
  links_kept_after (dropped s) h = All-cons (λ l. Q (step_of l)) (dropped s) [] (kept s h)
      (All-nil (λ l. Q (step_of l)))
  links_kept_after (held s) h = by (find (λ e. edge_eq (ends_of e) (edge_of s)) r.edges)
      (found_by (λ e. edge_eq (ends_of e) (edge_of s)) r.edges)
    where
      way : (t : Bool) (e : CountedEdge) → All Q (chain_of r e) →
          All Q (cond t (chain_of r e) (backward (chain_of r e)))
      way true e there = there
      way false e there = all_backward Q turned (chain_of r e) there

      by : (o : Option CountedEdge) → IsFound (λ e. edge_eq (ends_of e) (edge_of s)) r.edges o →
          AllLinks Q (links_along r s o)
      by None none = All-cons (λ l. Q (step_of l)) (dropped s) [] (kept s h) (All-nil (λ l. Q (step_of l)))
      by (Some e) found = All-map (λ l. Q (step_of l)) held
          (cond (is_forward s) (chain_of r e) (backward (chain_of r e)))
          (way (is_forward s) e (chains s e found.0 (edge_eq-same (ends_of e) (edge_of s) found.1) h))

  -- the fact holds of all links after the round
  pub links_kept : (ls : List ChainLink) → AllLinks P ls → AllLinks Q (flat_map (links_after r) ls)
  links_kept [] h = All-nil (λ l. Q (step_of l))
  links_kept (l ∷ ls) h = All-append (λ l. Q (step_of l)) (links_after r l) (flat_map (links_after r) ls)
      (links_kept_after l (All-head (λ l. P (step_of l)) l ls h)) (links_kept ls (All-tail (λ l. P (step_of l)) l ls h))
