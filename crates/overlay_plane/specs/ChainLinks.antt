-- The chain of steps that an added edge becomes in cutting rounds: the position of its vertices, and the counts of the
-- chains.
use Rattle.std.specs.Prelude.{◌≡◌, ◌↔◌, ℕ, Bool, true, cond, ℤ, pos, ◌+ℤ◌, ◌-ℤ◌, ◌*ℤ◌, ◌≤ℤ◌, List, [], ◌∷◌, map}
use Rattle.std.specs.Prelude.{flat_map, find, Option, Some, None, All, Any}
use Rattle.overlay_geom.specs.Plane.{Point, PlanePoint, Step, Edge, edge_eq, edge_of, sign_of, is_forward, backward}
use Rattle.overlay_geom.specs.Plane.{IsOn, total}
use Rattle.overlay_geom.specs.Edges.{CountedEdge, ends_of, subj_of, clip_of}
use Rattle.overlay_plane.specs.Rounds.{Round, chain_of}

-- a step of the chain of an added edge: still held, or dropped by a round together with an edge without counts
pub data ChainLink : Type 0 where
  held : Step → ChainLink
  dropped : Step → ChainLink

-- the links of a step, by the edge that the round holds at its place, if there is one
abbrev pub links_along : Round → Step → Option CountedEdge → List ChainLink
links_along r s None = dropped s ∷ []
links_along r s (Some e) = map held (cond (is_forward s) (chain_of r e) (backward (chain_of r e)))

-- the links of a link after a round: the chain of its edge replaces a held step, and a dropped step stays
abbrev pub links_after : Round → ChainLink → List ChainLink
links_after r (held s) = links_along r s (find (λ e. edge_eq (ends_of e) (edge_of s)) r.edges)
links_after r (dropped s) = dropped s ∷ []

-- the links after the rounds
abbrev pub links_through : List Round → List ChainLink → List ChainLink
links_through [] ls = ls
links_through (r ∷ rs) ls = links_through rs (flat_map (links_after r) ls)

-- the step of a link, held or dropped
abbrev pub step_of : ChainLink → Step
step_of (held s) = s
step_of (dropped s) = s

-- the step along an edge from its smaller end
abbrev pub step_along : CountedEdge → Step
step_along e = record { from = e.a; to = e.b }

-- the chain of an added edge after the rounds
abbrev pub chain_through : List Round → CountedEdge → List Step
chain_through rs e = map step_of (links_through rs (held (step_along e) ∷ []))

-- v is at most k/2 away from z / d
abbrev pub IsWithinHalves : ℕ → ℤ → ℤ → ℤ → Type 0
IsWithinHalves k v z d = ((pos 2 *ℤ z -ℤ pos k *ℤ d) ≤ℤ (pos 2 *ℤ v *ℤ d))
    × ((pos 2 *ℤ v *ℤ d) ≤ℤ (pos 2 *ℤ z +ℤ pos k *ℤ d))

-- v is at most k/2 away, in x and in y, from some point of the edge
pub record IsNear (k : ℕ) (e : Edge) (v : Point) : Type 0 where
  pub p : PlanePoint
  pub on : IsOn e p
  pub near_x : IsWithinHalves k v.x p.x p.d
  pub near_y : IsWithinHalves k v.y p.y p.d

-- the steps lead from one point to another, each from the end of the step before
pub data Leads : Point → List Step → Point → Type 0 where
  here : {p : Point} → Leads p [] p
  on_to : {p q r : Point} {ss : List Step} → Leads q ss r → Leads p (record { from = p; to = q } ∷ ss) r

-- the count of the chains along an edge: the sum of the signs of the steps along it, times the counts of the added
-- edges
abbrev pub count_of_chains : (CountedEdge → ℤ) → List Round → List CountedEdge → Edge → ℤ
count_of_chains count rounds old f = total
    (λ e. total (λ t. cond (edge_eq (edge_of t) f) (sign_of t *ℤ count e) (pos 0)) (chain_through rounds e)) old

-- the mark that an edge gives to a step of its chain: its own mark where the step runs forward, the opposite mark where
-- it runs back
abbrev pub marks_along : CountedEdge → Step → Bool
marks_along e t = cond (is_forward t) e.counts.along e.counts.against

abbrev pub marks_against : CountedEdge → Step → Bool
marks_against e t = cond (is_forward t) e.counts.against e.counts.along

-- some step along the edge f, of the chain of an added edge, is given the mark
abbrev pub IsMarkedBy : (CountedEdge → Step → Bool) → List Round → List CountedEdge → Edge → Type 0
IsMarkedBy marks rounds old f = Any (λ e. Any (λ t. (edge_of t ≡ f) × (marks e t ≡ true)) (chain_through rounds e)) old

-- the chains of the added edges keep their ends and stay near, and they make the counts and marks of the arrangement
pub record ChainsHold (rounds : List Round) (k : ℕ) (old new : List CountedEdge) : Type 0 where
  pub keep_ends : All (λ e. Leads e.a (chain_through rounds e) e.b) old
  pub stay_near : All (λ e. All (λ t. IsNear k (ends_of e) t.from × IsNear k (ends_of e) t.to) (chain_through rounds e))
      old
  pub subj_counts : All (λ f. f.counts.subj ≡ count_of_chains subj_of rounds old (ends_of f)) new
  pub clip_counts : All (λ f. f.counts.clip ≡ count_of_chains clip_of rounds old (ends_of f)) new
  pub along_marks : All (λ f. (f.counts.along ≡ true) ↔ IsMarkedBy marks_along rounds old (ends_of f)) new
  pub against_marks : All (λ f. (f.counts.against ≡ true) ↔ IsMarkedBy marks_against rounds old (ends_of f)) new
