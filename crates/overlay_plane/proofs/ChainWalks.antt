-- The chain of an added edge keeps its ends: the steps that replace a step lead from where it starts to where it ends.
use Rattle.std.proofs.Common.{◌≡◌, Bool, true, false, cond, List, [], ◌∷◌, ◌++◌, map, refl, sym, ap, subst}
use Rattle.std.specs.Prelude.{Option, Some, None, find, flat_map}
use Rattle.std.proofs.lemmas.List.{map-append, reverse-append}
use Rattle.overlay_geom.specs.Plane.{Point, Step, Edge, point_eq, edge_eq, is_forward, edge_of, reversed_step, backward}
use Rattle.overlay_geom.specs.Plane.{steps_between, steps_through}
use Rattle.overlay_geom.specs.Edges.{CountedEdge, ends_of}
use Rattle.overlay_geom.proofs.Orders.{point_eq-same, edge_eq-same}
use Rattle.overlay_plane.specs.ChainLinks.{ChainLink, links_along, links_after, links_through, step_of, step_along}
use Rattle.overlay_plane.specs.ChainLinks.{chain_through, Leads}
use Rattle.overlay_plane.specs.ChainLinks.ChainLink.{held, dropped}
use Rattle.overlay_plane.specs.ChainLinks.Leads.{here, on_to}
use Rattle.overlay_plane.specs.Rounds.{Round, chain_of, whole_cuts}
use Rattle.overlay_plane.proofs.EdgesOfSteps.{edge_by}
use Rattle.overlay_plane.proofs.FoundEntries.{IsFound, found_by}

-- the steps go from one point to another, each from the end of the step before
abbrev pub Goes : Point → List Step → Point → Type 0
Goes p [] q = p ≡ q
Goes p (s ∷ ss) q = (s.from ≡ p) × Goes s.to ss q

-- the steps lead from the first point to the last
pub leads_from_goes : (p : Point) (ss : List Step) (q : Point) → Goes p ss q → Leads p ss q
leads_from_goes p [] q e = subst (λ w. Leads p [] w) e here
leads_from_goes p (s ∷ ss) q h = subst (λ u. Leads u (s ∷ ss) q) h.0 (on_to (leads_from_goes s.to ss q h.1))

-- steps followed by others
goes_on : (p : Point) (ss : List Step) (q : Point) (ts : List Step) (r : Point) → Goes p ss q → Goes q ts r →
    Goes p (ss ++ ts) r
goes_on p [] q ts r e h = subst (λ w. Goes w ts r) (sym e) h
goes_on p (s ∷ ss) q ts r g h = (g.0, goes_on s.to ss q ts r g.1 h)

-- the step between two points, or none between equal ones
goes_between : (u v : Point) → Goes u (steps_between u v) v
goes_between u v = by (point_eq u v) refl
  where
    by : (t : Bool) → point_eq u v ≡ t → Goes u (cond t [] (record { from = u; to = v } ∷ [])) v
    by true same = point_eq-same u v same
    by false apart = (refl, refl)

-- the steps through points to a last one
pub goes_through : (u : Point) (vs : List Point) (w : Point) → Goes u (steps_through u (vs ++ w ∷ [])) w
goes_through u [] w = goes_on u (steps_between u w) w [] w (goes_between u w) refl
goes_through u (v ∷ vs) w = goes_on u (steps_between u v) v (steps_through v (vs ++ w ∷ [])) w (goes_between u v)
    (goes_through v vs w)

-- the first step is the last back
pub backward-first : (s : Step) (ss : List Step) → backward (s ∷ ss) ≡ backward ss ++ reversed_step s ∷ []
backward-first s ss = reverse-append (reversed_step s ∷ []) (map reversed_step ss)

-- steps back
pub goes_backward : (p : Point) (ss : List Step) (q : Point) → Goes p ss q → Goes q (backward ss) p
goes_backward p [] q e = sym e
goes_backward p (s ∷ ss) q h = subst (λ ts. Goes q ts p) (sym (backward-first s ss))
    (goes_on q (backward ss) s.to (reversed_step s ∷ []) p (goes_backward s.to ss q h.1) (refl, h.0))

-- the steps held
pub held_steps : (ss : List Step) → map step_of (map held ss) ≡ ss
held_steps [] = refl
held_steps (s ∷ ss) = ap (λ ts. s ∷ ts) (held_steps ss)

-- the chain of the edge of a step goes from where the step starts to where it ends, forward or backward
goes_along : (r : Round) (s : Step) (e : CountedEdge) (t : Bool) → ends_of e ≡ edge_by t s →
    Goes s.from (cond t (chain_of r e) (backward (chain_of r e))) s.to
goes_along r s e true is = subst (λ (f : Edge). Goes f.a (chain_of r e) f.b) is (goes_through e.a (whole_cuts r e) e.b)
goes_along r s e false is = subst (λ (f : Edge). Goes f.b (backward (chain_of r e)) f.a) is
    (goes_backward e.a (chain_of r e) e.b (goes_through e.a (whole_cuts r e) e.b))

-- the links of a link after a round go from the start of its step to the end
goes_after : (r : Round) (l : ChainLink) → Goes (step_of l).from (map step_of (links_after r l)) (step_of l).to
goes_after r (dropped s) = (refl, refl)
goes_after r (held s) = by (find (λ e. edge_eq (ends_of e) (edge_of s)) r.edges)
    (found_by (λ e. edge_eq (ends_of e) (edge_of s)) r.edges)
  where
    by : (o : Option CountedEdge) → IsFound (λ e. edge_eq (ends_of e) (edge_of s)) r.edges o →
        Goes s.from (map step_of (links_along r s o)) s.to
    by None h = (refl, refl)
    by (Some e) h = subst (λ ss. Goes s.from ss s.to)
        (sym (held_steps (cond (is_forward s) (chain_of r e) (backward (chain_of r e)))))
        (goes_along r s e (is_forward s) (edge_eq-same (ends_of e) (edge_of s) h.1))

-- the links after a round go from where they went from to where they went
goes_in_a_round : (r : Round) (p : Point) (ls : List ChainLink) (q : Point) → Goes p (map step_of ls) q →
    Goes p (map step_of (flat_map (links_after r) ls)) q
goes_in_a_round r p [] q e = e
goes_in_a_round r p (l ∷ ls) q h = subst (λ ss. Goes p ss q)
    (sym (map-append step_of (links_after r l) (flat_map (links_after r) ls)))
    (goes_on p (map step_of (links_after r l)) (step_of l).to (map step_of (flat_map (links_after r) ls)) q
    (subst (λ u. Goes u (map step_of (links_after r l)) (step_of l).to) h.0 (goes_after r l))
    (goes_in_a_round r (step_of l).to ls q h.1))

-- this holds after all rounds
goes_in_rounds : (rs : List Round) (p : Point) (ls : List ChainLink) (q : Point) → Goes p (map step_of ls) q →
    Goes p (map step_of (links_through rs ls)) q
goes_in_rounds [] p ls q h = h
goes_in_rounds (r ∷ rs) p ls q h = goes_in_rounds rs p (flat_map (links_after r) ls) q (goes_in_a_round r p ls q h)

-- the chain that an edge has become leads from its one end to the other
pub chain_keeps_ends : (rs : List Round) (e : CountedEdge) → Leads e.a (chain_through rs e) e.b
chain_keeps_ends rs e = leads_from_goes e.a (chain_through rs e) e.b
    (goes_in_rounds rs e.a (held (step_along e) ∷ []) e.b (refl, refl))
