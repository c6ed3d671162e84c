-- What the exchanged paths give is what the paths give, with the counts of each edge exchanged; and an arrangement of
-- it is the exchanged arrangement.
use Rattle.std.proofs.Common.{◌≡◌, ◌<◌, ◌^◌, Bool, true, false, cond, pos, negsuc, List, [], ◌∷◌, ◌++◌, map, refl}
use Rattle.std.proofs.Common.{sym, ap, ap₂, ◌∙◌, subst}
use Rattle.std.specs.List.{All}
use Rattle.std.specs.List.Sorted.{IsPermutation}
use Rattle.std.proofs.lemmas.List.{append-nil, append_assoc, map-append}
use Rattle.std.proofs.lemmas.List.Elements.{All-nil, All-append, All-map, All-weaker}
use Rattle.std.proofs.lemmas.List.Sorted.{IsPermutation-append_comm}
use Rattle.overlay_geom.specs.Plane.{Point, Step, point_lt, edge_of, is_forward}
use Rattle.overlay_geom.specs.Edges.{CountedEdge, ends_of}
use Rattle.overlay_geom.specs.declared.solver.Solver.{Solver}
use Rattle.overlay_geom.specs.declared.options.ShapeType.{ShapeType}
use Rattle.overlay_geom.specs.declared.options.ShapeType.TheVariants.{Subject, Clip}
use Rattle.overlay_geom.proofs.Shuffled.{weight_shuffled}
use Rattle.overlay_plane.specs.Arrangements.{IsSplit}
use Rattle.overlay_plane.specs.EdgeLists.{IsForwardBy}
use Rattle.overlay_plane.proofs.LinksKept.{IsLong}
use Rattle.overlay_plane.proofs.NearChains.{long_forward}
use Rattle.overlay_plane.proofs.StepsAlong.{long_through}
use Rattle.overlay_order.specs.Content.{count_for, edge_for, edge_with}
use Rattle.overlay_order.specs.Counts.{boolean_counts}
use Rattle.overlay_graph.specs.Arranged.{IsArranged, most_rounds}
use Rattle.overlay_arrange.proofs.ArrangedLists.{arranged_forward}
use Rattle.overlay_builder.specs.GivenPaths.{GivenPath, added_path, added_paths}
use Rattle.overlay_builder.specs.PathLists.{AddedPath, AddsPaths, HoldsPaths}
use Rattle.overlay_builder.specs.PathLists.AddsPaths.{no_path, path_and_others}
use Rattle.overlay_builder.specs.Paths.{contour_kind, leads_back, path_steps_of}
use Rattle.overlay_builder.proofs.Mapped.{seen, all_seen}
use Rattle.overlay_builder.proofs.PathLists.{adds_both}
use Rattle.overlay_relate.specs.Exchanged.{other_shape, exchanged_path, exchanged_paths}
use Rattle.overlay_relate.specs.Exchanged.{ExchangingKeepsArrangements}
use Rattle.overlay_relate.specs.PredicateLaws.{exchanged}
use Rattle.overlay_relate.proofs.ExchangedMerges.{weight_exchanged}
use Rattle.overlay_relate.proofs.ExchangedRounds.{split_exchanged, split_shuffled}

-- ---- the exchanged paths

-- the exchanged edge of a step is the edge of the step for the other shape
edge_exchanged : (t : ShapeType) (s : Step) → exchanged (edge_for t s) ≡ edge_for (other_shape t) s
edge_exchanged t s = by t (is_forward s)
  where
    counted : ShapeType → Bool → CountedEdge
    counted t along = edge_with (edge_of s).a (edge_of s).b
        (boolean_counts (cond along (count_for t (pos 1)) (count_for t (negsuc 0))))

    by : (t : ShapeType) (along : Bool) → exchanged (counted t along) ≡ counted (other_shape t) along
    by Subject true = refl
    by Subject false = refl
    by Clip true = refl
    by Clip false = refl

paths_exchanged : (keep : Bool) (paths : List GivenPath) →
    map (seen exchanged) (added_paths keep paths) ≡ added_paths keep (exchanged_paths paths)
paths_exchanged keep [] = refl
paths_exchanged keep (p ∷ ps) = ap₂ (λ q qs. q ∷ qs) one (paths_exchanged keep ps)
  where
    one : seen exchanged (added_path keep p) ≡ added_path keep (exchanged_path p)
    one i = record { kind = contour_kind keep; edge_for = λ s. edge_exchanged p.shape_type s i; points = p.points }

-- they give the exchanged edges
holds_exchanged : (keep : Bool) (paths : List GivenPath) (es : List CountedEdge) →
    HoldsPaths (added_paths keep paths) es → HoldsPaths (added_paths keep (exchanged_paths paths)) (map exchanged es)
holds_exchanged keep paths es h = record {
  added = subst (λ ps. AddsPaths ps [] (map exchanged es)) (paths_exchanged keep paths)
      (all_seen exchanged (added_paths keep paths) [] es h.added);
  light = subst (λ n. n < 2 ^ 31) (sym (weight_exchanged es)) h.light;
}

-- ---- paths in another order

module _ {E : Type 0} where
  -- what paths add does not depend on what they are added to
  parts_added : (all : List (AddedPath E)) (from to : List E) → AddsPaths all from to →
      (part : List E) × (to ≡ from ++ part) × ((other : List E) → AddsPaths all other (other ++ part))
  parts_added all from to no_path = (
    [],
    sym (append-nil from),
    λ other. subst (AddsPaths [] other) (sym (append-nil other)) no_path,
  )
  parts_added all from to (path_and_others {p} {ps} {mid} first h) =
      let rest = parts_added ps mid to h in
      let own : List E = map p.edge_for (path_steps_of (leads_back p.kind) first.taken) in (
        own ++ rest.0,
        rest.1 ∙ ap (λ l. l ++ rest.0) first.content ∙ append_assoc from own rest.0,
        λ other. path_and_others (record { taken = first.taken; is_taken = first.is_taken; content = refl })
            (subst (AddsPaths ps (other ++ own)) (append_assoc other own rest.0) (rest.2 (other ++ own))),
      )

  -- of two lists of paths, first the one is added and then the other
  added_in_turn : (ps qs : List (AddedPath E)) (from to : List E) → AddsPaths (ps ++ qs) from to →
      (mid : List E) × AddsPaths ps from mid × AddsPaths qs mid to
  added_in_turn [] qs from to h = (from, no_path, h)
  added_in_turn (p ∷ ps) qs from to (path_and_others {mid} first h) =
      let rest = added_in_turn ps qs mid to h in (rest.0, path_and_others first rest.1, rest.2)

-- the paths in another order give the same edges in another order
pub record GivesShuffled (keep : Bool) (paths : List GivenPath) (es : List CountedEdge) : Type 0 where
  pub content : List CountedEdge
  pub shuffled : IsPermutation es content
  pub holds : HoldsPaths (added_paths keep paths) content

holds_reordered : (keep : Bool) (ps qs : List GivenPath) (es : List CountedEdge) →
    HoldsPaths (added_paths keep (ps ++ qs)) es → GivesShuffled keep (qs ++ ps) es
holds_reordered keep ps qs es h =
    let turns = added_in_turn (added_paths keep ps) (added_paths keep qs) [] es
    (subst (λ all. AddsPaths all [] es) (map-append (added_path keep) ps qs) h.added) in
    let one = parts_added (added_paths keep ps) [] turns.0 turns.1 in
    let two = parts_added (added_paths keep qs) turns.0 es turns.2 in
    let whole : es ≡ one.0 ++ two.0 = two.1 ∙ ap (λ l. l ++ two.0) one.1 in
    let shuffled : IsPermutation es (two.0 ++ one.0) = subst (λ l. IsPermutation l (two.0 ++ one.0)) (sym whole)
    (IsPermutation-append_comm one.0 two.0) in
    record {
      content = two.0 ++ one.0;
      shuffled = shuffled;
      holds = record {
        added = subst (λ all. AddsPaths all [] (two.0 ++ one.0)) (sym (map-append (added_path keep) qs ps))
            (adds_both (added_paths keep qs) (added_paths keep ps) [] two.0 (two.0 ++ one.0) (two.2 []) (one.2 two.0));
        light = subst (λ n. n < 2 ^ 31) (sym (weight_shuffled es (two.0 ++ one.0) shuffled)) h.light;
      };
    }

-- ---- what paths give leads forward

-- the edge leads from its smaller end to its larger one
abbrev leads_on : CountedEdge → Type 0
leads_on e = point_lt e.a e.b ≡ true

long_steps : (is_closed : Bool) (ps : List Point) → All IsLong (path_steps_of is_closed ps)
long_steps true [] = All-nil IsLong
long_steps true (p ∷ ps) = long_through p (ps ++ p ∷ [])
long_steps false [] = All-nil IsLong
long_steps false (p ∷ ps) = long_through p ps

paths_lead_on : (keep : Bool) (paths : List GivenPath) (from to : List CountedEdge) →
    AddsPaths (added_paths keep paths) from to → IsForwardBy ends_of from → IsForwardBy ends_of to
paths_lead_on keep [] from to no_path before = before
paths_lead_on keep (p ∷ ps) from to (path_and_others {mid} first h) before =
    paths_lead_on keep ps mid to h (subst (IsForwardBy ends_of) (sym first.content)
    (All-append leads_on from (map (edge_for p.shape_type) steps) before
    (All-map leads_on (edge_for p.shape_type) steps
    (All-weaker IsLong (λ s. leads_on (edge_for p.shape_type s)) (λ s. long_forward s) steps
    (long_steps (leads_back (contour_kind keep)) first.taken)))))
  where
    steps : List Step
    steps = path_steps_of (leads_back (contour_kind keep)) first.taken

-- ---- the law

pub exchanging_keeps_arrangements : ExchangingKeepsArrangements
exchanging_keeps_arrangements = record {
  exchanging = λ keep solver paths edges h.
      let holds = holds_exchanged keep paths h.content h.holds in
      record {
        content = map exchanged h.content;
        holds = holds;
        arranged = arranged_of keep (exchanged_paths paths) solver (map exchanged h.content) (map exchanged edges) holds
            (split_exchanged solver (most_rounds solver) h.content edges (split_of solver h.content edges h.arranged));
      };
  reordering = λ keep solver first later edges h.
      let given = holds_reordered keep first later h.content h.holds in
      record {
        content = given.content;
        holds = given.holds;
        arranged = arranged_of keep (later ++ first) solver given.content edges given.holds
            (split_shuffled solver (most_rounds solver) h.content given.content edges given.shuffled
            (split_of solver h.content edges h.arranged));
      };
}
  where
    split_of : (solver : Solver) (old new : List CountedEdge) → IsArranged solver old new →
        IsSplit solver (most_rounds solver) old new
    split_of solver old new h = record {
      rounds = h.rounds;
      few = h.few;
      reached = h.reached;
      light = h.light;
    }

    arranged_of : (keep : Bool) (paths : List GivenPath) (solver : Solver) (old new : List CountedEdge) →
        HoldsPaths (added_paths keep paths) old → IsSplit solver (most_rounds solver) old new →
        IsArranged solver old new
    arranged_of keep paths solver old new holds split =
        arranged_forward solver old new (paths_lead_on keep paths [] old holds.added (All-nil leads_on)) split
