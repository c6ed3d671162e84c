-- A sweep over edges by their starts: the query for the next edge, and the answer of the look-up.
use Rattle.std.proofs.Common.{◌≡◌, ℕ, ◌+◌, ◌<◌, true, false, ℤ, pos, ◌≤ℤ◌, int_lt, List, [], ◌∷◌, ◌++◌, length, take}
use Rattle.std.proofs.Common.{drop, get_or, Contains, Some, refl, sym, ap, ap₂, ◌∙◌, subst, arith}
use Rattle.std.specs.List.{All, AllPairs}
use Rattle.std.proofs.lemmas.Int.{ints}
use Rattle.std.proofs.lemmas.List.{length-map, take_more, take-append-drop}
use Rattle.std.proofs.lemmas.List.Elements.{All-contains, All-weaker, Contains-append_left}
use Rattle.overlay_geom.specs.Plane.{edge_eq}
use Rattle.overlay_geom.specs.Edges.{CountedEdge, ends_of, subj_of, clip_of, winding_below, winding_above}
use Rattle.overlay_geom.specs.Settled.{IsSettledBy, MeetInEnds}
use Rattle.overlay_geom.proofs.Mapped.{AllPairs-map, read_mapped}
use Rattle.overlay_plane.specs.Anchors.{is_anchored_before}
use Rattle.overlay_plane.proofs.Entries.{Contains-filter, Contains-from_map, Contains-map}
use Rattle.overlay_plane.proofs.Tests.{lt_from_test, test_from_lt}
use Rattle.overlay_plane.proofs.Under.{covers_to}
use Rattle.overlay_plane.proofs.WhereEdgesStart.{covers_start}
use Rattle.overlay_scan.specs.Scan.{Entry, Sweep, live_at, IsAsked, IsOver, IsSweep, IsPutIn, MeetsOthers, IsNewAmong}
use Rattle.overlay_scan.specs.Scan.{value_below}
use Rattle.overlay_scan.specs.Sweeps.{IsByStart, IsSwept, entry_of}
use Rattle.overlay_scan.proofs.EntriesByStart.{at_front, after_front, later_starts, below_stands_before, meets_live}
use Rattle.overlay_scan.proofs.EntriesByStart.{new_among_live}
use Rattle.overlay_scan.proofs.Moving.{live_after_move}
use Rattle.overlay_scan.proofs.SweptEntries.{asked_at, ended, put_in}
use Rattle.overlay_scan.proofs.WindingsBelow.{below_is_over}
use Rattle.overlay_scan.proofs.WindingsLookedUp.{AreLiveEdges, winding_looked_up}
use Rattle.overlay_order.specs.Content.{IsHeld}
use Rattle.overlay_graph.specs.Starts.{IsSweepable, windings_above, wound_entries}
use Rattle.overlay_graph.specs.declared.windings.Windings.{Windings}

-- an edge as an entry, with the windings above it
abbrev pub wound : List CountedEdge → CountedEdge → Entry Windings
wound fs e = entry_of (windings_above fs) e

module _ (limit : ℕ) (fs : List CountedEdge) (sweepable : IsSweepable limit fs) where
  -- the entries are in the order of their starts
  pub entries_by_start : IsByStart (wound_entries fs)
  entries_by_start = AllPairs-map (λ (e f : Entry Windings). is_anchored_before f.edge e.edge ≡ false)
      (wound fs) fs sweepable.order

  entries_distinct : AllPairs (λ (e f : Entry Windings). edge_eq e.edge f.edge ≡ false) (wound_entries fs)
  entries_distinct = AllPairs-map (λ (e f : Entry Windings). edge_eq e.edge f.edge ≡ false)
      (wound fs) fs sweepable.subj.planar.distinct

  entries_settled : IsSettledBy (λ (e : Entry Windings). e.edge) (wound_entries fs)
  entries_settled e f c d differ =
      let g = Contains-from_map (wound fs) fs e c in
      let h = Contains-from_map (wound fs) fs f d in
      subst (λ (k : Entry Windings). MeetInEnds k.edge f.edge) g.2
      (subst (λ (k : Entry Windings). MeetInEnds (ends_of g.0) k.edge) h.2
      (sweepable.subj.planar.settled g.0 h.0 g.1 h.1
      (subst (λ (k : Entry Windings). edge_eq k.edge (ends_of h.0) ≡ false) (sym g.2)
      (subst (λ (k : Entry Windings). edge_eq e.edge k.edge ≡ false) (sym h.2) differ))))

  module _ (i : ℕ) (e : CountedEdge) (lt : i < length fs) (is : get_or fs i e ≡ e) where
    -- the next entry
    own : Contains fs e
    own = (i, lt, is)

    within : i < length (wound_entries fs)
    within = let l = length-map fs (wound fs) in omega (arith, l, lt)

    there : wound fs e ≡ get_or (wound_entries fs) i (wound fs e)
    there = sym (read_mapped (wound fs) fs i e (wound fs e) lt (sym is))

    held : IsHeld limit e
    held = All-contains (IsHeld limit) fs e sweepable.content.held own

    -- the scan may be asked for it
    pub is_asked : IsAsked limit e.a.x (ends_of e)
    is_asked = record {
      a_in_range = held.a_in_range;
      b_in_range = held.b_in_range;
      forward = held.forward;
      starts = refl;
    }

    -- an edge that is not vertical is over its start
    pub is_over : int_lt e.a.x e.b.x ≡ true → IsOver limit e.a.x (ends_of e)
    is_over wide = record {
      a_in_range = held.a_in_range;
      b_in_range = held.b_in_range;
      over = covers_start (ends_of e) (lt_from_test e.a.x e.b.x wide);
    }

    module _ (s : Sweep Windings) (swept : IsSwept limit e.a.x (take i (wound_entries fs)) s) where
      -- it meets the live edges in ends alone, and is none of them
      pub meets : MeetsOthers (ends_of e) (live_at e.a.x s.entries)
      meets = meets_live (wound_entries fs) i (wound fs e) within there limit e.a.x s swept entries_settled

      pub fresh : IsNewAmong (ends_of e) (live_at e.a.x s.entries)
      fresh = new_among_live (wound_entries fs) i (wound fs e) within there limit e.a.x s swept entries_distinct

      -- the live edges are edges of the list, and all below its start are live
      live_edges : AreLiveEdges (windings_above fs) fs e (live_at e.a.x s.entries)
      live_edges = record {
        order = (live_after_move limit e.a.x s.entries s.reached swept.state swept.moves).order;
        from = λ f c. Contains-from_map (wound fs) fs f
            (subst (λ gs. Contains gs f) (take-append-drop i (wound_entries fs))
            (Contains-append_left (take i (wound_entries fs)) (drop i (wound_entries fs)) f (swept.from f c)));
        all = λ g at below.
            let over = below_is_over (ends_of e) (ends_of g) held.forward
            (All-contains (IsHeld limit) fs g sweepable.content.held at).forward below in
            let last = covers_to (ends_of g) e.a.x (pos 1) over in
            swept.all (wound fs g) (Contains-filter (λ f. int_lt e.a.x f.edge.b.x) (take i (wound_entries fs))
            (wound fs g)
            (below_stands_before (wound_entries fs) i (wound fs e) within there entries_by_start held.forward
            (wound fs g) (Contains-map (wound fs) fs g at) below)
            (test_from_lt e.a.x g.b.x (omega (arith, ints))));
      }

      -- the look-up gives the windings below it
      pub subj_looked_up : (none : Windings) → none.subj ≡ pos 0 →
          (value_below none (ends_of e) (live_at e.a.x s.entries)).subj ≡ winding_below subj_of fs e
      subj_looked_up none zero = winding_looked_up (λ v. v.subj) (windings_above fs) subj_of fs sweepable.subj
          (λ g. refl) e own
          (live_at e.a.x s.entries) live_edges none zero

      pub clip_looked_up : (none : Windings) → none.clip ≡ pos 0 →
          (value_below none (ends_of e) (live_at e.a.x s.entries)).clip ≡ winding_below clip_of fs e
      clip_looked_up none zero = winding_looked_up (λ v. v.clip) (windings_above fs) clip_of fs sweepable.clip
          (λ g. refl) e own
          (live_at e.a.x s.entries) live_edges none zero

      -- the entries taken, with the next
      more : take (i + 1) (wound_entries fs) ≡ take i (wound_entries fs) ++ wound fs e ∷ []
      more = take_more (wound_entries fs) i (wound fs e) within
          ∙ ap (λ f. take i (wound_entries fs) ++ f ∷ []) (sym there)

      -- it is put in with the windings above it
      pub swept_with : int_lt e.a.x e.b.x ≡ true → (above : Windings) → above.subj ≡ winding_above subj_of fs e →
          above.clip ≡ winding_above clip_of fs e → (t : Sweep Windings) →
          IsPutIn e.a.x (record { edge = ends_of e; value = above }) (live_at e.a.x s.entries) t.entries →
          t.reached ≡ Some e.a.x → IsSweep limit t →
          IsSwept limit e.a.x (take (i + 1) (wound_entries fs)) t
      swept_with wide above subj clip t put reached state = subst (λ gs. IsSwept limit e.a.x gs t) (sym more)
          (put_in limit e.a.x (take i (wound_entries fs)) s swept (wound fs e) wide t
          (subst (λ (v : Windings). IsPutIn e.a.x (record { edge = ends_of e; value = v }) (live_at e.a.x s.entries)
          t.entries) same put) reached state)
        where
          wind : ℤ → ℤ → Windings
          wind v w = record { subj = v; clip = w }

          same : above ≡ windings_above fs e
          same = ap₂ wind subj clip

      -- a vertical one is passed over
      pub swept_past : int_lt e.a.x e.b.x ≡ false → IsSwept limit e.a.x (take (i + 1) (wound_entries fs)) s
      swept_past upright = subst (λ gs. IsSwept limit e.a.x gs s) (sym more)
          (ended limit e.a.x (take i (wound_entries fs)) s swept (wound fs e) upright)

    -- the sweep may go on to the edges after it
    pub swept_on : (t : Sweep Windings) → IsSwept limit e.a.x (take (i + 1) (wound_entries fs)) t →
        All (λ f. IsSwept limit f.edge.a.x (take (i + 1) (wound_entries fs)) t) (drop (i + 1) (wound_entries fs))
    swept_on t swept = All-weaker (λ (f : Entry Windings). e.a.x ≤ℤ f.edge.a.x)
        (λ f. IsSwept limit f.edge.a.x (take (i + 1) (wound_entries fs)) t)
        (λ f le. asked_at limit e.a.x (take (i + 1) (wound_entries fs)) t swept f.edge.a.x le)
        (drop (i + 1) (wound_entries fs))
        (after_front (λ (f : Entry Windings). e.a.x ≤ℤ f.edge.a.x) (wound_entries fs) i (wound fs e) within
        (later_starts (wound_entries fs) i (wound fs e) within there entries_by_start))

-- the sweep holds for the next edge what it holds for all edges left
pub swept_for_next : (limit : ℕ) (fs : List CountedEdge) (i : ℕ) (e : CountedEdge) → i < length fs → get_or fs i e ≡ e →
    (s : Sweep Windings) →
    All (λ f. IsSwept limit f.edge.a.x (take i (wound_entries fs)) s) (drop i (wound_entries fs)) →
    IsSwept limit e.a.x (take i (wound_entries fs)) s
swept_for_next limit fs i e lt is s all = at_front
    (λ (f : Entry Windings). IsSwept limit f.edge.a.x (take i (wound_entries fs)) s) (wound_entries fs) i (wound fs e)
    (let l = length-map fs (wound fs) in omega (arith, l, lt))
    (sym (read_mapped (wound fs) fs i e (wound fs e) lt (sym is))) all
