-- The marks of an edge, in its own direction and against it: marks of its pieces, and of merged edges.
use Rattle.std.proofs.Common.{◌≡◌, ◌⊎◌, inl, inr, Bool, true, false, cond, not, List, Contains, refl, sym, ap, ◌∙◌}
use Rattle.std.proofs.Common.{subst}
use Rattle.std.specs.List.{list_any}
use Rattle.std.proofs.lemmas.Bool.{both_ways}
use Rattle.std.proofs.lemmas.List.Elements.{All-contains}
use Rattle.std.proofs.lemmas.List.Folds.{Any-from_list_any, list_any-from_Any}
use Rattle.overlay_geom.specs.Counts.{reversed_counts}
use Rattle.overlay_geom.specs.Plane.{Step, Edge, edge_eq, is_forward}
use Rattle.overlay_geom.specs.Edges.{CountedEdge, ends_of, counts_nothing}
use Rattle.overlay_geom.specs.Merged.{edges_between, joined_edge, IsMerged}
use Rattle.overlay_geom.proofs.Marks.{uncounted}
use Rattle.overlay_geom.proofs.Orders.{edge_eq-same, Decides-edge_eq}
use Rattle.overlay_plane.specs.ChainLinks.{marks_along, marks_against}
use Rattle.overlay_plane.specs.Cutting.{piece_along}
use Rattle.overlay_plane.proofs.Entries.{Contains-filter, Contains-from_filter, Contains-from_any, any_of_entry}

-- the mark of an edge in its own direction, or against it
abbrev pub mark : Bool → CountedEdge → Bool
mark true e = e.counts.along
mark false e = e.counts.against

-- a direction along a step, as one along its edge: the same where the step runs forward
abbrev pub along_edge : Bool → Bool → Bool
along_edge t d = cond t d (not d)

-- the mark that an edge gives to a step in this direction
abbrev pub marks : Bool → CountedEdge → Step → Bool
marks d e s = mark (along_edge (is_forward s) d) e

-- it is the mark that contracts speak of
pub marks-along : (e : CountedEdge) (s : Step) → marks_along e s ≡ marks true e s
marks-along e s = by (is_forward s)
  where
    by : (t : Bool) → cond t e.counts.along e.counts.against ≡ mark (along_edge t true) e
    by true = refl
    by false = refl

pub marks-against : (e : CountedEdge) (s : Step) → marks_against e s ≡ marks false e s
marks-against e s = by (is_forward s)
  where
    by : (t : Bool) → cond t e.counts.against e.counts.along ≡ mark (along_edge t false) e
    by true = refl
    by false = refl

-- a piece has the mark that its edge gives to the step
pub mark-piece : (d : Bool) (e : CountedEdge) (s : Step) → mark d (piece_along e s) ≡ marks d e s
mark-piece true e s = by (is_forward s)
  where
    by : (t : Bool) → (cond t e.counts (reversed_counts e.counts)).along ≡ mark (along_edge t true) e
    by true = refl
    by false = refl
mark-piece false e s = by (is_forward s)
  where
    by : (t : Bool) → (cond t e.counts (reversed_counts e.counts)).against ≡ mark (along_edge t false) e
    by true = refl
    by false = refl

-- ---- edges between two ends

-- some edge of the list with these ends has the mark
pub record HasMarked (d : Bool) (es : List CountedEdge) (f : Edge) : Type 0 where
  pub found : CountedEdge
  pub inside : Contains es found
  pub ends : ends_of found ≡ f
  pub marked : mark d found ≡ true

-- the edge that edges become where they are merged has a mark that one of them has
pub joined_marked : (d : Bool) (es : List CountedEdge) (f : Edge) → list_any (mark d) (edges_between es f) ≡ true →
    HasMarked d es f
joined_marked d es f h =
    let at = Contains-from_any (λ e. mark d e ≡ true) (edges_between es f)
    (Any-from_list_any (mark d) (edges_between es f) h) in
    let part = Contains-from_filter (λ e. edge_eq (ends_of e) f) es at.0 at.1 in
    record { found = at.0; inside = part.0; ends = edge_eq-same (ends_of at.0) f part.1; marked = at.2 }

-- a merged edge has each mark that one of them has
pub marked_joined : (d : Bool) (es : List CountedEdge) (f : Edge) → HasMarked d es f →
    list_any (mark d) (edges_between es f) ≡ true
marked_joined d es f has = list_any-from_Any (mark d) (edges_between es f)
    (any_of_entry (λ e. mark d e ≡ true) (edges_between es f) has.found
    (Contains-filter (λ e. edge_eq (ends_of e) f) es has.found has.inside
    ((Decides-edge_eq (ends_of has.found) f).1 has.ends)) has.marked)

-- the mark of a joined edge
mark-joined : (d : Bool) (es : List CountedEdge) (f : Edge) → mark d (joined_edge es f) ≡ list_any (mark d)
    (edges_between es f)
mark-joined true es f = refl
mark-joined false es f = refl

-- an edge that has count 0 has no mark
pub no_mark : (d : Bool) (e : CountedEdge) → counts_nothing e ≡ true → mark d e ≡ false
no_mark true e none = (uncounted e none).along
no_mark false e none = (uncounted e none).against

module _ (es new : List CountedEdge) (merged : IsMerged es new) where
  -- a merged edge is the joined one of its ends
  is_joined : (g : CountedEdge) → Contains new g → g ≡ joined_edge es (ends_of g)
  is_joined g c = (All-contains (λ d. (d ≡ joined_edge es (ends_of d)) × (counts_nothing d ≡ false)) new g
      merged.joined c).0

  -- a merged edge has a mark that an edge with its ends has
  pub merged_marked : (d : Bool) (g : CountedEdge) → Contains new g → mark d g ≡ true → HasMarked d es (ends_of g)
  merged_marked d g c h = joined_marked d es (ends_of g) (sym (mark-joined d es (ends_of g))
      ∙ sym (ap (mark d) (is_joined g c)) ∙ h)

  -- and each such mark
  pub marked_merged : (d : Bool) (g : CountedEdge) → Contains new g → HasMarked d es (ends_of g) → mark d g ≡ true
  marked_merged d g c has = ap (mark d) (is_joined g c) ∙ mark-joined d es (ends_of g)
      ∙ marked_joined d es (ends_of g) has

  -- where an edge with these ends has a mark, there is a merged one with these ends
  pub marked_held : (d : Bool) (f : Edge) → HasMarked d es f → (g : CountedEdge) × Contains new g × (ends_of g ≡ f)
  marked_held d f has = by (All-contains (λ e. (counts_nothing (joined_edge es (ends_of e)) ≡ true) ⊎ Contains new
      (joined_edge es (ends_of e))) es has.found merged.complete has.inside)
    where
      here : mark d (joined_edge es (ends_of has.found)) ≡ true
      here = mark-joined d es (ends_of has.found) ∙ subst (λ (g : Edge). list_any (mark d) (edges_between es g) ≡ true)
          (sym has.ends) (marked_joined d es f has)

      by : (counts_nothing (joined_edge es (ends_of has.found)) ≡ true) ⊎ Contains new
          (joined_edge es (ends_of has.found)) → (g : CountedEdge) × Contains new g × (ends_of g ≡ f)
      by (inl none) = absurd (both_ways (mark d (joined_edge es (ends_of has.found)))
          (no_mark d (joined_edge es (ends_of has.found)) none) here)
      by (inr held) = (joined_edge es (ends_of has.found), held, has.ends)

  -- two merged edges with the same ends are equal
  pub one_merged : (g h : CountedEdge) → Contains new g → Contains new h → ends_of g ≡ ends_of h → g ≡ h
  one_merged g h c d same = is_joined g c ∙ ap (joined_edge es) same ∙ sym (is_joined h d)
