-- A path that would weigh too much behind those before it is not among paths that were all added, and are light.
use Rattle.std.proofs.Common.{◌≡◌, ◌^◌, ◌<◌, ◌≤◌, List, [], ◌∷◌, ◌++◌, map, refl, sym, subst, arith}
use Rattle.std.specs.List.Sorted.{IsPermutation}
use Rattle.std.proofs.lemmas.List.Sorted.{IsPermutation-refl}
use Rattle.std.proofs.lemmas.List.Sums.{sum_by-append}
use Rattle.overlay_geom.specs.Counts.{weight_of_counts}
use Rattle.overlay_geom.specs.Edges.{CountedEdge, ends_of, weight}
use Rattle.overlay_geom.specs.declared.error.OverlayError.{OverlayError}
use Rattle.overlay_geom.specs.declared.error.OverlayError.TheVariants.{Memory, NotSettled, TooManyEdges, Failed}
use Rattle.overlay_geom.specs.declared.solver.Solver.{Solver}
use Rattle.overlay_geom.specs.declared.solver.Solver.TheVariants.{Rounds, Snapping}
use Rattle.overlay_geom.proofs.Shuffled.{weight_shuffled}
use Rattle.overlay_plane.specs.EdgeLists.{IsForwardBy}
use Rattle.overlay_plane.proofs.OneArrangement.{light_snaps_are_not_heavy}
use Rattle.overlay_graph.specs.Arranged.{IsArranged, MayRefuseSplitting}
use Rattle.overlay_builder.specs.Determined.{MemoryAloneRefuses, ArrangedPathsAreRefusedByMemoryAlone}
use Rattle.overlay_builder.specs.PathLists.{AddedPath, AddsOne, AddsPaths, HoldsPaths, WouldWeighTooMuch}
use Rattle.overlay_builder.specs.PathLists.AddsPaths.{no_path, path_and_others}
use Rattle.overlay_builder.specs.Paths.{path_steps_of, leads_back}
use Rattle.overlay_builder.proofs.ShuffledContents.{one_shuffled, contents_are_shuffled}

-- edges that are added make no content lighter
lighter : (xs ys : List CountedEdge) → weight xs ≤ weight (xs ++ ys)
lighter xs ys = let sum = sum_by-append (λ e. weight_of_counts e.counts) xs ys in omega (arith, sum)

-- nor do paths
lighter_before : (paths : List (AddedPath CountedEdge)) (old new : List CountedEdge) → AddsPaths paths old new →
    weight old ≤ weight new
lighter_before [] old new no_path = omega arith
lighter_before (p ∷ ps) old new (path_and_others {mid = mid} one more) =
    let first : weight old ≤ weight mid = subst (λ es. weight old ≤ weight es) (sym one.content)
    (lighter old (map p.edge_for (path_steps_of (leads_back p.kind) one.taken))) in
    let rest = lighter_before ps mid new more in
    omega arith

-- a path that would weigh too much is not added, with others behind it, to a light content, in whatever order its edges
-- stand
pub not_added : (p : AddedPath CountedEdge) (ps : List (AddedPath CountedEdge)) (old other new : List CountedEdge) →
    IsPermutation old other → WouldWeighTooMuch weight p old → weight new < 2 ^ 31 → ¬ (AddsPaths (p ∷ ps) other new)
not_added p ps old other new before heavy light (path_and_others {mid = mid} one more) =
    let same : weight mid ≡ weight heavy.content = weight_shuffled heavy.content mid
    (one_shuffled p old other heavy.content mid before heavy.adds one) in
    let much = heavy.heavy in
    let rest = lighter_before ps mid new more in
    omega arith

-- so no list of paths is added in which one would weigh too much behind those before it
pub not_all_added : (paths before after : List (AddedPath CountedEdge)) (p : AddedPath CountedEdge) →
    paths ≡ before ++ p ∷ after → (old other mid new : List CountedEdge) → IsPermutation old other →
    AddsPaths before old mid → WouldWeighTooMuch weight p mid → weight new < 2 ^ 31 → ¬ (AddsPaths paths other new)
not_all_added paths [] after p parts old other mid new shuffled no_path heavy light added =
    not_added p after old other new shuffled heavy light (subst (λ ps. AddsPaths ps other new) parts added)
not_all_added paths (b ∷ bs) after p parts old other mid new shuffled (path_and_others {mid = first} one more) heavy
    light added =
    by (subst (λ ps. AddsPaths ps other new) parts added)
    (λ second one'. not_all_added (bs ++ p ∷ after) bs after p refl first second mid new
    (one_shuffled b old other first second shuffled one one') more heavy light)
  where
    by : AddsPaths (b ∷ (bs ++ p ∷ after)) other new → ((second : List CountedEdge) → AddsOne b other second →
        ¬ (AddsPaths (bs ++ p ∷ after) second new)) → ⊥
    by (path_and_others {mid = second} one' more') against = against second one' more'

-- ---- refusals

snaps_are_no_rounds : ¬ (Snapping ≡ Rounds)
snaps_are_no_rounds same = absurd (cc)

module _ (paths : List (AddedPath CountedEdge)) (content edges : List CountedEdge)
    (forward : IsForwardBy ends_of content) (holds : HoldsPaths paths content)
    (arranged : IsArranged Snapping content edges) where
  memory_refuses : (other : List CountedEdge) → HoldsPaths paths other → (e : OverlayError) →
      MayRefuseSplitting Snapping other e → e ≡ Memory
  memory_refuses other holds' Memory refused = refl
  memory_refuses other holds' NotSettled refused = absurd (snaps_are_no_rounds refused.0)
  memory_refuses other holds' TooManyEdges refused = absurd (light_snaps_are_not_heavy arranged.rounds content other
      edges forward (contents_are_shuffled paths [] content other holds.added holds'.added) arranged.reached
      arranged.light refused.heavy)
  memory_refuses other holds' Failed refused = absurd refused

pub arranged_paths_are_refused_by_memory_alone : ArrangedPathsAreRefusedByMemoryAlone
arranged_paths_are_refused_by_memory_alone paths content edges forward holds arranged = record {
  added = λ stops. let stop = stops.1 in
      not_all_added paths stop.added.before stop.added.after stop.path stop.added.parts [] [] stops.0 content
      (IsPermutation-refl []) stop.added.added stop.refused holds.light holds.added;
  split = memory_refuses paths content edges forward holds arranged;
}
