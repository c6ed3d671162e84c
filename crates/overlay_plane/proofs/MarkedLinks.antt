-- The marks of the links of chains through cutting rounds. Held links of the edges' chains make the marks of the edges
-- that the rounds leave. A dropped link belongs to an edge without marks.
use Rattle.std.proofs.Common.{◌≡◌, ⊎_elim, inl, inr, Bool, true, false, cond, not, List, [], ◌∷◌, ◌++◌, Contains, refl}
use Rattle.std.proofs.Common.{sym, ap, ◌∙◌, subst}
use Rattle.std.specs.Prelude.{Option, Some, None, find, map, flat_map}
use Rattle.std.proofs.lemmas.Bool.{both_ways, false≢true, false_from_ne_true}
use Rattle.std.proofs.lemmas.List.Elements.{All-contains, Contains-append_left, Contains-append_right}
use Rattle.std.proofs.lemmas.List.Elements.{Contains-append_cases}
use Rattle.overlay_geom.specs.Plane.{Step, Edge, edge_eq, is_forward, edge_of, reversed_step, backward}
use Rattle.overlay_geom.specs.Edges.{CountedEdge, ends_of}
use Rattle.overlay_geom.specs.Merged.{IsMerged}
use Rattle.overlay_geom.proofs.Orders.{edge_eq-same, Decides-edge_eq}
use Rattle.overlay_plane.specs.ChainLinks.{ChainLink, links_along, links_after, step_of}
use Rattle.overlay_plane.specs.ChainLinks.ChainLink.{held, dropped}
use Rattle.overlay_plane.specs.Cutting.{piece_along, pieces_through}
use Rattle.overlay_plane.specs.Rounds.{Round, chain_of, whole_cuts, pieces_of}
use Rattle.overlay_plane.proofs.ChainWalks.{backward-first}
use Rattle.overlay_plane.proofs.EdgeMarks.{mark, marks, along_edge, mark-piece, HasMarked, merged_marked, marked_merged}
use Rattle.overlay_plane.proofs.EdgeMarks.{marked_held, one_merged}
use Rattle.overlay_plane.proofs.EdgesOfSteps.{edge_by}
use Rattle.overlay_plane.proofs.Entries.{Contains-map, Contains-from_map, Contains-flat_map, Contains-from_flat_map}
use Rattle.overlay_plane.proofs.FoundEntries.{IsFound, found_by}
use Rattle.overlay_plane.proofs.LaterEntries.{Contains-cases}
use Rattle.overlay_plane.proofs.LinksKept.{IsLong}
use Rattle.overlay_plane.proofs.StepsAlong.{turns_round, long_through}
use Rattle.overlay_plane.proofs.Totals.{Contains-head, Contains-later}

-- the single entry of a list of one
pub only_entry : {X : Type 0} (x y : X) → Contains (x ∷ []) y → x ≡ y
only_entry x y c = ⊎_elim (λ is. is) (λ later. elim later.1 [ ]) (Contains-cases x [] y c)

-- ---- steps and their reverse

-- the step itself, or its reverse
abbrev pub step_by : Bool → Step → Step
step_by t s = cond t s (reversed_step s)

-- a direction along a step of a chain that is passed along, or back, is one along that chain's edge
pub along_edge-twice : (t u d : Bool) → along_edge t (along_edge u d) ≡ along_edge (cond t u (not u)) d
along_edge-twice true u d = refl
along_edge-twice false true d = refl
along_edge-twice false false true = refl
along_edge-twice false false false = refl

-- a long step, or its reverse, leads so
pub forward-by : (t : Bool) (s : Step) → IsLong s → is_forward (step_by t s) ≡ cond t (is_forward s)
    (not (is_forward s))
forward-by true s long = refl
forward-by false s long = turns_round s long

-- along the same edge
pub edge-by : (t : Bool) (s : Step) → IsLong s → edge_of (step_by t s) ≡ edge_of s
edge-by true s long = refl
edge-by false s long = ap (λ t. edge_by t (reversed_step s)) (turns_round s long) ∙ by (is_forward s)
  where
    by : (t : Bool) → edge_by (not t) (reversed_step s) ≡ edge_by t s
    by true = refl
    by false = refl

-- a direction along an edge and back is the direction
pub along_edge-back : (t d : Bool) → along_edge t (along_edge t d) ≡ d
along_edge-back true d = refl
along_edge-back false true = refl
along_edge-back false false = refl

-- the steps backward have the reverse of each step
in_backward : (ss : List Step) (s : Step) → Contains ss s → Contains (backward ss) (reversed_step s)
in_backward [] s c = elim c.1 [ ]
in_backward (u ∷ ss) s c = subst (λ (ts : List Step). Contains ts (reversed_step s)) (sym (backward-first u ss))
    (⊎_elim
    (λ is. Contains-append_right (backward ss) (reversed_step u ∷ []) (reversed_step s)
    (subst (λ (w : Step). Contains (reversed_step u ∷ []) (reversed_step w)) is (Contains-head (reversed_step u) [])))
    (λ later. Contains-append_left (backward ss) (reversed_step u ∷ []) (reversed_step s) (in_backward ss s later))
    (Contains-cases u ss s c))

-- and no other step
from_backward : (ss : List Step) (t : Step) → Contains (backward ss) t →
    (s : Step) × Contains ss s × (t ≡ reversed_step s)
from_backward [] t c = elim c.1 [ ]
from_backward (u ∷ ss) t c =
    elim (Contains-append_cases (backward ss) (reversed_step u ∷ []) t
    (subst (λ (ts : List Step). Contains ts t) (backward-first u ss) c)) [
      | inl here ↦ let found = from_backward ss t here in (found.0, Contains-later u ss found.0 found.1, found.2)
      | inr last ↦ (u, Contains-head u ss, sym (only_entry (reversed_step u) t last))
    ]

-- a chain passed along, or back, has its steps, or their reverses
pub in_way : (t : Bool) (ss : List Step) (s : Step) → Contains ss s → Contains (cond t ss (backward ss)) (step_by t s)
in_way true ss s c = c
in_way false ss s c = in_backward ss s c

pub from_way : (t : Bool) (ss : List Step) (u : Step) → Contains (cond t ss (backward ss)) u →
    (s : Step) × Contains ss s × (u ≡ step_by t s)
from_way true ss u c = (u, c, refl)
from_way false ss u c = from_backward ss u c

-- ---- links

-- whether a link is held
abbrev is_held : ChainLink → Bool
is_held (held s) = true
is_held (dropped s) = false

-- no link is both
pub not_both : {X : Type 0} (s t : Step) → held s ≡ dropped t → X
not_both s t is = absurd (false≢true (sym (ap is_held is)))

module _ (es : List CountedEdge) (r : Round) (merged : IsMerged es r.edges) where
  -- a held step along an edge of the round becomes the steps of that edge's chain
  pub becomes_held : (s : Step) (g : CountedEdge) → Contains r.edges g → ends_of g ≡ edge_of s → (u : Step) →
      Contains (cond (is_forward s) (chain_of r g) (backward (chain_of r g))) u →
      Contains (links_after r (held s)) (held u)
  becomes_held s g c ends u at = by (find (λ e. edge_eq (ends_of e) (edge_of s)) r.edges)
      (found_by (λ e. edge_eq (ends_of e) (edge_of s)) r.edges)
    where
      by : (o : Option CountedEdge) → IsFound (λ e. edge_eq (ends_of e) (edge_of s)) r.edges o →
          Contains (links_along r s o) (held u)
      by None none = absurd (both_ways (edge_eq (ends_of g) (edge_of s)) (none g c)
          ((Decides-edge_eq (ends_of g) (edge_of s)).1 ends))
      by (Some h) found = subst (λ (w : CountedEdge). Contains
          (map held (cond (is_forward s) (chain_of r w) (backward (chain_of r w)))) (held u))
          (one_merged es r.edges merged g h c found.0 (ends ∙ sym (edge_eq-same (ends_of h) (edge_of s) found.1)))
          (Contains-map held (cond (is_forward s) (chain_of r g) (backward (chain_of r g))) u at)

  -- the links of a held step are the steps of such a chain
  pub held_from : (s t : Step) → Contains (links_after r (held s)) (held t) →
      (g : CountedEdge) × Contains r.edges g × (ends_of g ≡ edge_of s) × Contains
      (cond (is_forward s) (chain_of r g) (backward (chain_of r g))) t
  held_from s t = by (find (λ e. edge_eq (ends_of e) (edge_of s)) r.edges)
      (found_by (λ e. edge_eq (ends_of e) (edge_of s)) r.edges)
    where
      by : (o : Option CountedEdge) → IsFound (λ e. edge_eq (ends_of e) (edge_of s)) r.edges o →
          Contains (links_along r s o) (held t) →
          (g : CountedEdge) × Contains r.edges g × (ends_of g ≡ edge_of s) × Contains
          (cond (is_forward s) (chain_of r g) (backward (chain_of r g))) t
      by None none at = not_both t s (sym (only_entry (dropped s) (held t) at))
      by (Some g) found at =
          let from = Contains-from_map held (cond (is_forward s) (chain_of r g) (backward (chain_of r g)))
          (held t) at in (
            g,
            found.0,
            edge_eq-same (ends_of g) (edge_of s) found.1,
            subst (λ (w : Step). Contains (cond (is_forward s) (chain_of r g) (backward (chain_of r g))) w)
                (ap step_of from.2) from.1,
          )

  -- the step is dropped if the round has no edge for it
  pub dropped_from : (s t : Step) → Contains (links_after r (held s)) (dropped t) →
      (g : CountedEdge) → Contains r.edges g → ends_of g ≡ edge_of s → ⊥
  dropped_from s t = by (find (λ e. edge_eq (ends_of e) (edge_of s)) r.edges)
      (found_by (λ e. edge_eq (ends_of e) (edge_of s)) r.edges)
    where
      by : (o : Option CountedEdge) → IsFound (λ e. edge_eq (ends_of e) (edge_of s)) r.edges o →
          Contains (links_along r s o) (dropped t) →
          (g : CountedEdge) → Contains r.edges g → ends_of g ≡ edge_of s → ⊥
      by None none at g c ends = both_ways (edge_eq (ends_of g) (edge_of s)) (none g c)
          ((Decides-edge_eq (ends_of g) (edge_of s)).1 ends)
      by (Some h) found at g c ends =
          let from = Contains-from_map held (cond (is_forward s) (chain_of r h) (backward (chain_of r h)))
          (dropped t) at in
          not_both from.0 t from.2

-- ---- the marks that links make

-- some held link along the edge is given the mark
pub record IsGiven (d : Bool) (old : List CountedEdge) (links : CountedEdge → List ChainLink) (f : Edge) : Type 0 where
  pub edge : CountedEdge
  pub inside : Contains old edge
  pub step : Step
  pub link : Contains (links edge) (held step)
  pub along : edge_of step ≡ f
  pub given : marks d edge step ≡ true

-- the held links of the edges make the marks of the list, and a dropped link is of an edge without marks
pub record MakeMarks (old : List CountedEdge) (links : CountedEdge → List ChainLink)
    (es : List CountedEdge) : Type 0 where
  pub made : (d : Bool) (f : Edge) → HasMarked d es f → IsGiven d old links f
  pub makes : (d : Bool) (e : CountedEdge) → Contains old e → (s : Step) → Contains (links e) (held s) →
      marks d e s ≡ true → HasMarked d es (edge_of s)
  pub unmarked : (e : CountedEdge) → Contains old e → (s : Step) → Contains (links e) (dropped s) →
      (d : Bool) → mark d e ≡ false

module _ (old es : List CountedEdge) (r : Round) (merged : IsMerged es r.edges) (links : CountedEdge → List ChainLink)
    (make : MakeMarks old links es) where
  -- the links after the round
  abbrev after : CountedEdge → List ChainLink
  after e = flat_map (links_after r) (links e)

  -- the steps of a chain are long
  long_in_chain : (g : CountedEdge) (s : Step) → Contains (chain_of r g) s → IsLong s
  long_in_chain g s c = All-contains IsLong (chain_of r g) s (long_through g.a (whole_cuts r g ++ g.b ∷ [])) c

  -- the direction in which an edge is marked, seen from a step that has become part of its chain
  seen : (d : Bool) (e : CountedEdge) (s u : Step) → IsLong u →
      marks d e (step_by (is_forward s) u) ≡ mark (along_edge (is_forward s) (along_edge (is_forward u) d)) e
  seen d e s u long = ap (λ t. mark (along_edge t d) e) (forward-by (is_forward s) u long)
      ∙ sym (ap (λ b. mark b e) (along_edge-twice (is_forward s) (is_forward u) d))

  -- a mark of a piece is given to a link
  made_after : (d : Bool) (f : Edge) → HasMarked d (pieces_of r) f → IsGiven d old after f
  made_after d f has =
      let of = Contains-from_flat_map (pieces_through (whole_cuts r)) r.edges has.found has.inside in
      let at = Contains-from_map (piece_along of.0) (chain_of r of.0) has.found of.2 in
      let given = make.made (along_edge (is_forward at.0) d) (ends_of of.0)
      (merged_marked es r.edges merged (along_edge (is_forward at.0) d) of.0 of.1 (sym (mark-piece d of.0 at.0)
      ∙ ap (mark d) at.2 ∙ has.marked)) in
      let long = long_in_chain of.0 at.0 at.1 in
      record {
        edge = given.edge;
        inside = given.inside;
        step = step_by (is_forward given.step) at.0;
        link = Contains-flat_map (links_after r) (links given.edge) (held given.step)
            (held (step_by (is_forward given.step) at.0)) given.link
            (becomes_held es r merged given.step of.0 of.1 (sym given.along) (step_by (is_forward given.step) at.0)
            (in_way (is_forward given.step) (chain_of r of.0) at.0 at.1));
        along = edge-by (is_forward given.step) at.0 long ∙ ap ends_of at.2 ∙ has.ends;
        given = seen d given.edge given.step at.0 long ∙ given.given;
      }

  -- a mark that is given to a link is one of a piece
  makes_after : (d : Bool) (e : CountedEdge) → Contains old e → (t : Step) → Contains (after e) (held t) →
      marks d e t ≡ true → HasMarked d (pieces_of r) (edge_of t)
  makes_after d e c t at h = let of = Contains-from_flat_map (links_after r) (links e) (held t) at in by of.0 of.1 of.2
    where
      by : (l : ChainLink) → Contains (links e) l → Contains (links_after r l) (held t) →
          HasMarked d (pieces_of r) (edge_of t)
      by (dropped s) link became = not_both t s (sym (only_entry (dropped s) (held t) became))
      by (held s) link became =
          let from = held_from es r merged s t became in
          let way = from_way (is_forward s) (chain_of r from.0) t from.3 in
          let long = long_in_chain from.0 way.0 way.1 in
          let before = make.makes (along_edge (is_forward way.0) d) e c s link
          (sym (seen d e s way.0 long) ∙ ap (marks d e) (sym way.2) ∙ h) in
          record {
            found = piece_along from.0 way.0;
            inside = Contains-flat_map (pieces_through (whole_cuts r)) r.edges from.0 (piece_along from.0 way.0) from.1
                (Contains-map (piece_along from.0) (chain_of r from.0) way.0 way.1);
            ends = sym (edge-by (is_forward s) way.0 long) ∙ ap edge_of (sym way.2);
            marked = mark-piece d from.0 way.0 ∙ marked_merged es r.edges merged (along_edge (is_forward way.0) d)
                from.0 from.1
                (subst (HasMarked (along_edge (is_forward way.0) d) es) (sym from.2) before);
          }

  -- a dropped link is of an edge without marks
  unmarked_after : (e : CountedEdge) → Contains old e → (t : Step) → Contains (after e) (dropped t) →
      (d : Bool) → mark d e ≡ false
  unmarked_after e c t at d = let of = Contains-from_flat_map (links_after r) (links e) (dropped t) at in
      by of.0 of.1 of.2
    where
      by : (l : ChainLink) → Contains (links e) l → Contains (links_after r l) (dropped t) → mark d e ≡ false
      by (dropped s) link became = make.unmarked e c s link d
      by (held s) link became = false_from_ne_true (mark d e) (λ marked.
          let before = make.makes (along_edge (is_forward s) d) e c s link
          (ap (λ b. mark b e) (along_edge-back (is_forward s) d) ∙ marked) in
          let some = marked_held es r.edges merged (along_edge (is_forward s) d) (edge_of s) before in
          dropped_from es r merged s t became some.0 some.1 some.2)

  -- the links make the marks after the round
  pub make_after : MakeMarks old after (pieces_of r)
  make_after = record { made = made_after; makes = makes_after; unmarked = unmarked_after }
