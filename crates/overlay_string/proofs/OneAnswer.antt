-- Clips and slices of the same paths by snap rounding are one: their contents have the same edges, so there is one
-- arrangement.
use Rattle.std.proofs.Common.{◌≡◌, inl, inr, true, List, [], ◌∷◌, ◌++◌, map, refl, subst}
use Rattle.std.specs.List.{All}
use Rattle.std.proofs.lemmas.List.Elements.{All-nil, All-cons, All-append}
use Rattle.overlay_geom.specs.Edges.{CountedEdge, ends_of}
use Rattle.overlay_geom.specs.Plane.{Point, point_lt}
use Rattle.overlay_geom.specs.declared.error.OverlayError.{OverlayError}
use Rattle.overlay_geom.specs.declared.error.OverlayError.TheVariants.{Memory, NotSettled, TooManyEdges, Failed}
use Rattle.overlay_geom.specs.declared.solver.Solver.TheVariants.{Snapping}
use Rattle.overlay_geom.specs.declared.options.ContourDirection.TheVariants.{CounterClockwise}
use Rattle.overlay_plane.specs.EdgeLists.{IsForwardBy}
use Rattle.overlay_plane.proofs.NearChains.{long_forward}
use Rattle.overlay_plane.proofs.OneArrangement.{one_arrangement_of_shuffled}
use Rattle.overlay_graph.specs.Arranged.{IsArranged}
use Rattle.overlay_builder.specs.Determined.{MemoryAloneRefuses}
use Rattle.overlay_builder.specs.PathLists.{AddedPath, HoldsPaths}
use Rattle.overlay_builder.proofs.LeadOn.{HasForwardEdges, paths_lead_on}
use Rattle.overlay_builder.proofs.LightPaths.{arranged_paths_are_refused_by_memory_alone}
use Rattle.overlay_builder.proofs.ShuffledContents.{contents_are_shuffled}
use Rattle.overlay_extract.proofs.OneSlicing.{one_slicing}
use Rattle.overlay_string.specs.ClipPaths.{ArePathsOf}
use Rattle.overlay_string.specs.ClipPieces.{clip_pieces}
use Rattle.overlay_string.specs.OneAnswer.{OneClipOfStrings, OneSlicingAlongStrings, MemoryAloneRefusesStrings}
use Rattle.overlay_string.specs.OneAnswer.{AnsweredStringsAreRefusedByMemoryAlone}
use Rattle.overlay_string.specs.OneShot.{MayRefusePaths, shape_and_strings}
use Rattle.overlay_string.specs.StringPaths.{shape_contour, shape_contours, open_string, open_strings}
use Rattle.overlay_string.specs.StringSlices.{IsSlicedWhole}
use Rattle.overlay_string.proofs.OneClip.{one_clip}

-- ---- one arrangement

-- the edges of contours and of strings lead forward
contours_lead : (shape : List (List Point)) → All HasForwardEdges (shape_contours shape)
contours_lead [] = All-nil HasForwardEdges
contours_lead (ps ∷ shape) = All-cons HasForwardEdges (shape_contour ps) (shape_contours shape)
    (record { leads = λ s long. long_forward s long }) (contours_lead shape)

strings_lead : (strings : List (List Point)) → All HasForwardEdges (open_strings strings)
strings_lead [] = All-nil HasForwardEdges
strings_lead (ps ∷ strings) = All-cons HasForwardEdges (open_string ps) (open_strings strings)
    (record { leads = λ s long. long_forward s long }) (strings_lead strings)

-- so does what they give
content_leads : (shape strings : List (List Point)) (content : List CountedEdge) →
    HoldsPaths (shape_and_strings shape strings) content → IsForwardBy ends_of content
content_leads shape strings content holds = paths_lead_on (shape_and_strings shape strings) [] content
    (All-append HasForwardEdges (shape_contours shape) (open_strings strings) (contours_lead shape)
    (strings_lead strings)) holds.added (All-nil (λ e. point_lt e.a e.b ≡ true))

one_arrangement_of_strings : (shape strings : List (List Point)) (content other es fs : List CountedEdge) →
    HoldsPaths (shape_and_strings shape strings) content → HoldsPaths (shape_and_strings shape strings) other →
    IsArranged Snapping content es → IsArranged Snapping other fs → es ≡ fs
one_arrangement_of_strings shape strings content other es fs holds holds' arranged arranged' =
    one_arrangement_of_shuffled arranged.rounds arranged'.rounds content other es fs
    (content_leads shape strings content holds)
    (contents_are_shuffled (shape_and_strings shape strings) [] content other holds.added holds'.added)
    arranged.reached arranged'.reached

-- ---- answers

pub one_clip_of_strings : OneClipOfStrings
one_clip_of_strings fill rule shape strings first second a b =
    let same = one_arrangement_of_strings shape strings a.content b.content a.clipped.arrangement b.clipped.arrangement
    a.holds b.holds a.clipped.arranged b.clipped.arranged in
    one_clip (clip_pieces fill rule b.clipped.arrangement) first second
    (subst (λ es. ArePathsOf (clip_pieces fill rule es) first) same a.clipped.paths_of) b.clipped.paths_of

pub one_slicing_along_strings : OneSlicingAlongStrings
one_slicing_along_strings width fill shape strings first second a b =
    let same = one_arrangement_of_strings shape strings a.content b.content a.sliced.arrangement b.sliced.arrangement
    a.holds b.holds a.sliced.arranged b.sliced.arranged in
    one_slicing width 0 fill CounterClockwise b.sliced.arrangement first second
    (subst (λ es. IsSlicedWhole width fill es first) same a.sliced.sliced) b.sliced.sliced

-- ---- refusals

-- memory alone refuses strings over a shape whose edges snap rounding arranges
pub memory_refuses_strings : (shape strings : List (List Point)) (content es : List CountedEdge) →
    HoldsPaths (shape_and_strings shape strings) content → IsArranged Snapping content es →
    MemoryAloneRefusesStrings shape strings
memory_refuses_strings shape strings content es holds arranged = by
  where
    refuses : MemoryAloneRefuses (shape_and_strings shape strings)
    refuses = arranged_paths_are_refused_by_memory_alone (shape_and_strings shape strings) content es
        (content_leads shape strings content holds) holds arranged

    by : (e : OverlayError) → MayRefusePaths Snapping (shape_and_strings shape strings) e → e ≡ Memory
    by Memory may = refl
    by NotSettled may = refuses.split may.content may.holds NotSettled may.refused
    by TooManyEdges (inl stops) = absurd (refuses.added stops)
    by TooManyEdges (inr may) = refuses.split may.content may.holds TooManyEdges may.refused
    by Failed may = absurd may

pub answered_strings_are_refused_by_memory_alone : AnsweredStringsAreRefusedByMemoryAlone
answered_strings_are_refused_by_memory_alone = record {
  clips = λ fill rule shape strings result a.
      memory_refuses_strings shape strings a.content a.clipped.arrangement a.holds a.clipped.arranged;
  slices = λ width fill shape strings result a.
      memory_refuses_strings shape strings a.content a.sliced.arrangement a.holds a.sliced.arranged;
}
