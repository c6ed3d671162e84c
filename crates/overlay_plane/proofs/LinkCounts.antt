-- The count of a link's step along an edge after a cutting round: by the chain of its own edge if it is held, unchanged
-- if it is dropped.
use Rattle.std.proofs.Common.{◌≡◌, Bool, true, false, cond, ℤ, pos, negsuc, ◌+ℤ◌, ◌*ℤ◌, List, [], ◌∷◌, ◌++◌, Contains}
use Rattle.std.proofs.Common.{refl, sym, ap, ◌∙◌, subst}
use Rattle.std.specs.Prelude.{Option, Some, None, find}
use Rattle.std.proofs.lemmas.List.Elements.{All-contains}
use lib.IntN.{+ℤ_idl, +ℤ_idr, *ℤ-zero}
use Rattle.overlay_geom.specs.Plane.{Step, Edge, edge_eq, is_forward, edge_of, sign_of, backward, total}
use Rattle.overlay_geom.specs.Edges.{CountedEdge, ends_of}
use Rattle.overlay_geom.specs.Merged.{edges_between}
use Rattle.overlay_geom.proofs.Identities.{solve, number, ◌⊕◌, ◌⊗◌, ◌≗◌}
use Rattle.overlay_geom.proofs.Merging.{Ascends, alone_between}
use Rattle.overlay_geom.proofs.Orders.{edge_eq-same}
use Rattle.overlay_plane.specs.ChainLinks.{ChainLink, links_along, links_after}
use Rattle.overlay_plane.specs.ChainLinks.ChainLink.{held, dropped}
use Rattle.overlay_plane.specs.Rounds.{Round, chain_of, whole_cuts}
use Rattle.overlay_plane.proofs.FoundEntries.{IsFound, found_by}
use Rattle.overlay_plane.proofs.JoinedLists.{total-map, times_taken}
use Rattle.overlay_plane.proofs.StepsAlong.{along, edge_eq-either, total_back, long_through}
use Rattle.overlay_plane.proofs.Totals.{total-same, total-zero, total-filter}

-- the sign along the edge of the step of a link that is held
abbrev pub held_along : Edge → ChainLink → ℤ
held_along f (held s) = along f s
held_along f (dropped s) = pos 0

-- and of one that is dropped
abbrev pub dropped_along : Edge → ChainLink → ℤ
dropped_along f (held s) = pos 0
dropped_along f (dropped s) = along f s

-- the sum of the signs of another edge's chain along an edge
abbrev pub chain_along : Round → Edge → CountedEdge → ℤ
chain_along r f e = total (along f) (chain_of r e)

-- 1 where nothing was found, and 0 where something was
abbrev pub one_if_none : Option CountedEdge → ℤ
one_if_none None = pos 1
one_if_none (Some e) = pos 0

-- 1 where the round holds no edge with these ends, and 0 where it holds one
abbrev pub missing : Round → Edge → ℤ
missing r f = one_if_none (find (λ e. edge_eq (ends_of e) f) r.edges)

-- the chain by which a step is replaced has the signs of its edge's chain, times the sign of the step
by_sign_of_step : (r : Round) (f : Edge) (s : Step) (e : CountedEdge) →
    total (along f) (cond (is_forward s) (chain_of r e) (backward (chain_of r e))) ≡ sign_of s *ℤ chain_along r f e
by_sign_of_step r f s e = by (is_forward s)
  where
    by : (t : Bool) → total (along f) (cond t (chain_of r e) (backward (chain_of r e))) ≡ cond t (pos 1)
        (negsuc 0) *ℤ chain_along r f e
    by true = solve 1 (λ z. z ≗ number (pos 1) ⊗ z) tt (chain_along r f e)
    by false = total_back f (chain_of r e) (long_through e.a (whole_cuts r e ++ e.b ∷ []))

-- one edge of an ascending list alone has the ends of the edge
one_alone : (es : List CountedEdge) → Ascends es → (g : Edge) (e : CountedEdge) → Contains es e → ends_of e ≡ g →
    (h : CountedEdge → ℤ) →
    total (λ d. cond (edge_eq (ends_of d) g) (h d) (pos 0)) es ≡ h e
one_alone es up g e c is h =
    sym (total-filter (λ d. edge_eq (ends_of d) g) h es)
    ∙ ap (total h) (subst (λ (f : Edge). edges_between es f ≡ e ∷ []) is
    (All-contains (λ d. edges_between es (ends_of d) ≡ d ∷ []) es e (alone_between es up) c))
    ∙ +ℤ_idr (h e)

module _ (r : Round) (up : Ascends r.edges) (f : Edge) where
  -- the count of the round's edges for a link: the signs of each chain, times those of the link along it
  abbrev pub by_edges : ChainLink → ℤ
  by_edges l = total (λ e. chain_along r f e *ℤ held_along (ends_of e) l) r.edges

  -- for a held link, by the test the other way round
  by_edges_held : (s : Step) → by_edges (held s) ≡ total
      (λ e. cond (edge_eq (ends_of e) (edge_of s)) (chain_along r f e *ℤ sign_of s) (pos 0)) r.edges
  by_edges_held s =
      total-same (λ e. chain_along r f e *ℤ along (ends_of e) s)
      (λ e. cond (edge_eq (ends_of e) (edge_of s)) (chain_along r f e *ℤ sign_of s) (pos 0)) r.edges
      (λ e c. ap (λ b. chain_along r f e *ℤ cond b (sign_of s) (pos 0)) (edge_eq-either (edge_of s) (ends_of e))
      ∙ times_taken (edge_eq (ends_of e) (edge_of s)) (chain_along r f e) (sign_of s))

  -- after the round the held links of a link have the count that the round's edges give for it
  pub held_after : (l : ChainLink) → total (held_along f) (links_after r l) ≡ by_edges l
  held_after (dropped s) = sym (total-zero (λ e. chain_along r f e *ℤ pos 0) r.edges
      (λ e c. *ℤ-zero (chain_along r f e)))
  held_after (held s) =
      by (find (λ e. edge_eq (ends_of e) (edge_of s)) r.edges) (found_by (λ e. edge_eq (ends_of e) (edge_of s)) r.edges)
      ∙ sym (by_edges_held s)
    where
      by : (o : Option CountedEdge) → IsFound (λ e. edge_eq (ends_of e) (edge_of s)) r.edges o →
          total (held_along f) (links_along r s o) ≡ total
          (λ e. cond (edge_eq (ends_of e) (edge_of s)) (chain_along r f e *ℤ sign_of s) (pos 0)) r.edges
      by None none = sym (total-zero (λ e. cond (edge_eq (ends_of e) (edge_of s)) (chain_along r f e *ℤ sign_of s)
          (pos 0)) r.edges
          (λ e c. ap (λ b. cond b (chain_along r f e *ℤ sign_of s) (pos 0)) (none e c)))
      by (Some e) found =
          total-map (held_along f) held (cond (is_forward s) (chain_of r e) (backward (chain_of r e)))
          ∙ by_sign_of_step r f s e
          ∙ solve 2 (λ a b. a ⊗ b ≗ b ⊗ a) tt (sign_of s) (chain_along r f e)
          ∙ sym (one_alone r.edges up (edge_of s) e found.0 (edge_eq-same (ends_of e) (edge_of s) found.1)
          (λ d. chain_along r f d *ℤ sign_of s))

  -- a held step is dropped where the round has no edge for it
  dropped_along_way : (s : Step) (o : Option CountedEdge) → total (dropped_along f) (links_along r s o) ≡ one_if_none
      o *ℤ along f s
  dropped_along_way s None = solve 1 (λ z. z ⊕ number (pos 0) ≗ number (pos 1) ⊗ z) tt (along f s)
  dropped_along_way s (Some e) =
      total-map (dropped_along f) held (cond (is_forward s) (chain_of r e) (backward (chain_of r e)))
      ∙ total-zero (λ t. pos 0) (cond (is_forward s) (chain_of r e) (backward (chain_of r e))) (λ t c. refl)
      ∙ solve 1 (λ z. number (pos 0) ≗ number (pos 0) ⊗ z) tt (along f s)

  -- along this edge it counts by whether the round has no edge here
  missing_here : (s : Step) → missing r (edge_of s) *ℤ along f s ≡ missing r f *ℤ along f s
  missing_here s = by (edge_eq (edge_of s) f) refl
    where
      by : (t : Bool) → edge_eq (edge_of s) f ≡ t → missing r (edge_of s) *ℤ cond t (sign_of s)
          (pos 0) ≡ missing r f *ℤ cond t (sign_of s) (pos 0)
      by true same = ap (λ g. missing r g *ℤ sign_of s) (edge_eq-same (edge_of s) f same)
      by false other = *ℤ-zero (missing r (edge_of s)) ∙ sym (*ℤ-zero (missing r f))

  -- after the round the dropped links of a link have its count as dropped, and its count as held if the round has no
  -- edge for it
  pub dropped_after : (l : ChainLink) → total (dropped_along f) (links_after r l) ≡ dropped_along f l +ℤ missing r
      f *ℤ held_along f l
  dropped_after (dropped s) = ap (λ z. along f s +ℤ z) (sym (*ℤ-zero (missing r f)))
  dropped_after (held s) =
      dropped_along_way s (find (λ e. edge_eq (ends_of e) (edge_of s)) r.edges)
      ∙ missing_here s
      ∙ sym (+ℤ_idl (missing r f *ℤ along f s))
