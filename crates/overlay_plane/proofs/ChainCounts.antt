-- The chains of the added edges make the counts of the edges that the rounds leave. No round changes their sum along an
-- edge.
use Rattle.std.proofs.Common.{◌≡◌, Bool, true, false, cond, ℤ, pos, negsuc, ◌+ℤ◌, ◌*ℤ◌, List, [], ◌∷◌, Contains}
use Rattle.std.proofs.Common.{flat_map, refl, sym, ap, ap₂, ◌∙◌}
use Rattle.std.specs.List.{All}
use Rattle.std.specs.Prelude.{Option, Some, None, find}
use Rattle.std.proofs.lemmas.List.Elements.{All-contains, All-contains_itself, All-weaker}
use lib.IntN.{+ℤ_idl, +ℤ_idr, *ℤ_comm, *ℤ-zero}
use Rattle.overlay_geom.specs.Plane.{Step, Edge, point_lt, edge_eq, edge_of, sign_of, total}
use Rattle.overlay_geom.specs.Edges.{CountedEdge, ends_of, subj_of, clip_of, counts_nothing}
use Rattle.overlay_geom.specs.Merged.{edges_between, joined_edge, IsMerged}
use Rattle.overlay_geom.proofs.Between.{edges_between-none}
use Rattle.overlay_geom.proofs.Identities.{solve, number, ◌⊗◌, ◌≗◌}
use Rattle.overlay_geom.proofs.Merging.{IsMerged-alike}
use Rattle.overlay_plane.specs.ChainLinks.{ChainLink, links_after, links_through, step_of, step_along, chain_through}
use Rattle.overlay_plane.specs.ChainLinks.{count_of_chains}
use Rattle.overlay_plane.specs.ChainLinks.ChainLink.{held, dropped}
use Rattle.overlay_plane.specs.Cutting.{piece_along, pieces_through}
use Rattle.overlay_plane.specs.EdgeLists.{IsForwardBy}
use Rattle.overlay_plane.specs.RoundLists.{AreEachRounds}
use Rattle.overlay_plane.specs.Rounds.{Round, chain_of, whole_cuts, pieces_of, after_rounds}
use Rattle.overlay_plane.proofs.AnyRounds.{IsAnyRound}
use Rattle.overlay_plane.proofs.EdgesOfSteps.{edge_by}
use Rattle.overlay_plane.proofs.FoundEntries.{IsFound, found_by}
use Rattle.overlay_plane.proofs.JoinedLists.{total-map, total-flat_map, total-times, taken_out}
use Rattle.overlay_plane.proofs.LinkCounts.{held_along, dropped_along, chain_along, one_if_none, missing, by_edges}
use Rattle.overlay_plane.proofs.LinkCounts.{held_after, dropped_after}
use Rattle.overlay_plane.proofs.PieceCounts.{subj_of_piece, clip_of_piece}
use Rattle.overlay_plane.proofs.StepsAlong.{along}
use Rattle.overlay_plane.proofs.Totals.{total-same, total-zero, total-filter}
use Rattle.overlay_plane.proofs.WeighedLinks.{weighed, weighed-same, weighed-add, weighed-times, weighed-total}
use Rattle.overlay_plane.proofs.WeighedLinks.{weighed-flat_map}

-- a count that goes over to pieces by their signs, and to joined edges by sums
pub record GoesOver (count : CountedEdge → ℤ) : Type 0 where
  pub piece : (e : CountedEdge) (s : Step) → count (piece_along e s) ≡ sign_of s *ℤ count e
  pub joined : (es : List CountedEdge) (e : Edge) → count (joined_edge es e) ≡ total count (edges_between es e)

-- as the subject's does
pub subj_goes_over : GoesOver subj_of
subj_goes_over = record { piece = subj_of_piece; joined = λ es e. refl }

-- the count of the clip
pub clip_goes_over : GoesOver clip_of
clip_goes_over = record { piece = clip_of_piece; joined = λ es e. refl }

module _ (count : CountedEdge → ℤ) (goes_over : GoesOver count) where
  -- ---- one list of edges

  -- a merged edge has the count of the edges with its ends
  merged_count : (es new : List CountedEdge) → IsMerged es new → (e : CountedEdge) → Contains new e →
      count e ≡ total count (edges_between es (ends_of e))
  merged_count es new merged e c =
      ap count (All-contains (λ d. (d ≡ joined_edge es (ends_of d)) × (counts_nothing d ≡ false)) new e
      merged.joined c).0
      ∙ goes_over.joined es (ends_of e)

  -- the counts of a round's pieces along an edge are those of the chains there, times their edges' counts
  pieces_count : (r : Round) (f : Edge) → total count (edges_between (pieces_of r) f) ≡ total
      (λ e. count e *ℤ chain_along r f e) r.edges
  pieces_count r f =
      total-filter (λ d. edge_eq (ends_of d) f) count (pieces_of r)
      ∙ total-flat_map counted (pieces_through (whole_cuts r)) r.edges
      ∙ total-same (λ e. total counted (pieces_through (whole_cuts r) e)) (λ e. count e *ℤ chain_along r f e) r.edges
      (λ e c. of_one e)
    where
      counted : CountedEdge → ℤ
      counted d = cond (edge_eq (ends_of d) f) (count d) (pos 0)

      of_one : (e : CountedEdge) → total counted (pieces_through (whole_cuts r) e) ≡ count e *ℤ chain_along r f e
      of_one e =
          total-map counted (piece_along e) (chain_of r e)
          ∙ total-same (λ s. counted (piece_along e s)) (λ s. count e *ℤ along f s) (chain_of r e)
          (λ s c. ap (λ z. cond (edge_eq (edge_of s) f) z (pos 0)) (goes_over.piece e s)
          ∙ taken_out (edge_eq (edge_of s) f) (sign_of s) (count e))
          ∙ total-times (count e) (along f) (chain_of r e)

  -- where a round has no edge with these ends, the edges with them add up to nothing
  nothing_missing : (es : List CountedEdge) (r : Round) → IsMerged es r.edges →
      (f : Edge) → missing r f *ℤ total count (edges_between es f) ≡ pos 0
  nothing_missing es r merged f = by (find (λ e. edge_eq (ends_of e) f) r.edges)
      (found_by (λ e. edge_eq (ends_of e) f) r.edges)
    where
      alike : total count (edges_between r.edges f) ≡ total count (edges_between es f)
      alike = sym (goes_over.joined r.edges f) ∙ ap count ((IsMerged-alike es r.edges merged).at f)
          ∙ goes_over.joined es f

      by : (o : Option CountedEdge) → IsFound (λ e. edge_eq (ends_of e) f) r.edges o →
          one_if_none o *ℤ total count (edges_between es f) ≡ pos 0
      by None none =
          ap (λ z. pos 1 *ℤ z) (sym alike ∙ ap (total count) (edges_between-none r.edges f
          (All-weaker (Contains r.edges) (λ e. edge_eq (ends_of e) f ≡ false) none r.edges
          (All-contains_itself r.edges))))
      by (Some e) found = solve 1 (λ z. number (pos 0) ⊗ z ≗ number (pos 0)) tt (total count (edges_between es f))

  -- ---- the chains of the edges

  module _ (old : List CountedEdge) where
    -- the held steps of the chains make the counts of the list, and the dropped ones nothing
    pub record MakeCounts (links : CountedEdge → List ChainLink) (es : List CountedEdge) : Type 0 where
      pub by_held : (f : Edge) → weighed count old links (held_along f) ≡ total count (edges_between es f)
      pub by_dropped : (f : Edge) → weighed count old links (dropped_along f) ≡ pos 0

    -- this holds after a round
    counts_in_a_round : (es : List CountedEdge) (r : Round) → IsAnyRound es r → (links : CountedEdge → List ChainLink) →
        MakeCounts links es →
        MakeCounts (λ e. flat_map (links_after r) (links e)) (pieces_of r)
    counts_in_a_round es r round links make = record {
      by_held = λ f.
          weighed-flat_map count old links (links_after r) (held_along f)
          ∙ weighed-same count old links (λ l. total (held_along f) (links_after r l))
          (by_edges r round.merged.ascending f)
          (held_after r round.merged.ascending f)
          ∙ weighed-total count old links (λ e l. chain_along r f e *ℤ held_along (ends_of e) l) r.edges
          ∙ total-same (λ e. weighed count old links (λ l. chain_along r f e *ℤ held_along (ends_of e) l))
          (λ e. count e *ℤ chain_along r f e) r.edges
          (λ e c. weighed-times count old links (chain_along r f e) (held_along (ends_of e))
          ∙ ap (λ z. chain_along r f e *ℤ z) (make.by_held (ends_of e) ∙ sym (merged_count es r.edges round.merged e c))
          ∙ *ℤ_comm (chain_along r f e) (count e))
          ∙ sym (pieces_count r f);
      by_dropped = λ f.
          weighed-flat_map count old links (links_after r) (dropped_along f)
          ∙ weighed-same count old links (λ l. total (dropped_along f) (links_after r l))
          (λ l. dropped_along f l +ℤ missing r f *ℤ held_along f l)
          (dropped_after r round.merged.ascending f)
          ∙ weighed-add count old links (dropped_along f) (λ l. missing r f *ℤ held_along f l)
          ∙ ap₂ (λ a b. a +ℤ b) (make.by_dropped f)
          (weighed-times count old links (missing r f) (held_along f) ∙ ap (λ z. missing r f *ℤ z) (make.by_held f)
          ∙ nothing_missing es r round.merged f);
    }

    -- this holds after all rounds
    counts_in_rounds : (es : List CountedEdge) (rs : List Round) → AreEachRounds IsAnyRound es rs →
        (links : CountedEdge → List ChainLink) → MakeCounts links es →
        MakeCounts (λ e. links_through rs (links e)) (after_rounds es rs)
    counts_in_rounds es [] rounds links make = make
    counts_in_rounds es (r ∷ rs) rounds links make =
        counts_in_rounds (pieces_of r) rs rounds.1 (λ e. flat_map (links_after r) (links e))
        (counts_in_a_round es r rounds.0 links make)

    -- at first each edge is its own chain
    abbrev own_chain : CountedEdge → List ChainLink
    own_chain e = held (step_along e) ∷ []

    -- and makes its own count
    counts_at_first : IsForwardBy ends_of old → MakeCounts own_chain old
    counts_at_first forward = record {
      by_held = λ f.
          total-same (λ e. count e *ℤ total (held_along f) (own_chain e))
          (λ e. cond (edge_eq (ends_of e) f) (count e) (pos 0)) old
          (λ e c. ap (λ z. count e *ℤ z) (+ℤ_idr (along f (step_along e)))
          ∙ one_along f e (All-contains (λ d. point_lt d.a d.b ≡ true) old e forward c))
          ∙ sym (total-filter (λ e. edge_eq (ends_of e) f) count old);
      by_dropped = λ f. total-zero (λ e. count e *ℤ pos 0) old (λ e c. *ℤ-zero (count e));
    }
      where
        once : (b : Bool) (c : ℤ) → c *ℤ cond b (pos 1) (pos 0) ≡ cond b c (pos 0)
        once true c = solve 1 (λ c. c ⊗ number (pos 1) ≗ c) tt c
        once false c = *ℤ-zero c

        one_along : (f : Edge) (e : CountedEdge) → point_lt e.a e.b ≡ true → count e *ℤ along f (step_along e) ≡ cond
            (edge_eq (ends_of e) f) (count e) (pos 0)
        one_along f e runs =
            ap (λ t. count e *ℤ cond (edge_eq (edge_by t (step_along e)) f) (cond t (pos 1) (negsuc 0)) (pos 0)) runs
            ∙ once (edge_eq (ends_of e) f) (count e)

    -- a link's step counts held or dropped
    held_or_dropped : (f : Edge) (l : ChainLink) → along f (step_of l) ≡ held_along f l +ℤ dropped_along f l
    held_or_dropped f (held s) = sym (+ℤ_idr (along f s))
    held_or_dropped f (dropped s) = sym (+ℤ_idl (along f s))

    -- the count of the chains along an edge is that of the edge that the rounds leave there
    count_of_chains-is : (rs : List Round) → AreEachRounds IsAnyRound old rs → IsForwardBy ends_of old → (f : Edge) →
        count_of_chains count rs old f ≡ total count (edges_between (after_rounds old rs) f)
    count_of_chains-is rs rounds forward f =
        total-same (λ e. total (λ t. cond (edge_eq (edge_of t) f) (sign_of t *ℤ count e) (pos 0)) (chain_through rs e))
        (λ e. count e *ℤ total (λ l. along f (step_of l)) (links e)) old
        (λ e c. total-map (λ t. cond (edge_eq (edge_of t) f) (sign_of t *ℤ count e) (pos 0)) step_of (links e)
        ∙ total-same (λ l. cond (edge_eq (edge_of (step_of l)) f) (sign_of (step_of l) *ℤ count e) (pos 0))
        (λ l. count e *ℤ along f (step_of l)) (links e)
        (λ l d. taken_out (edge_eq (edge_of (step_of l)) f) (sign_of (step_of l)) (count e))
        ∙ total-times (count e) (λ l. along f (step_of l)) (links e))
        ∙ weighed-same count old links (λ l. along f (step_of l)) (λ l. held_along f l +ℤ dropped_along f l)
        (held_or_dropped f)
        ∙ weighed-add count old links (held_along f) (dropped_along f)
        ∙ ap₂ (λ a b. a +ℤ b) (make.by_held f) (make.by_dropped f)
        ∙ +ℤ_idr (total count (edges_between (after_rounds old rs) f))
      where
        links : CountedEdge → List ChainLink
        links e = links_through rs (held (step_along e) ∷ [])

        make : MakeCounts links (after_rounds old rs)
        make = counts_in_rounds old rs rounds own_chain (counts_at_first forward)

    -- the chains make the counts of the arrangement
    pub chains_make_counts : (rs : List Round) (new : List CountedEdge) → AreEachRounds IsAnyRound old rs →
        IsMerged (after_rounds old rs) new → IsForwardBy ends_of old →
        All (λ f. count f ≡ count_of_chains count rs old (ends_of f)) new
    chains_make_counts rs new rounds merged forward = All-weaker (Contains new)
        (λ f. count f ≡ count_of_chains count rs old (ends_of f))
        (λ f c. merged_count (after_rounds old rs) new merged f c
        ∙ sym (count_of_chains-is rs rounds forward (ends_of f))) new (All-contains_itself new)
