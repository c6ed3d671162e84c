-- A turn of the sweep over anchors: its query to the list of live edges, and its answer for a hole.
use Rattle.std.proofs.Common.{◌≡◌, ⊎_elim, ℕ, ◌+◌, ◌<◌, ◌≤◌, true, pos, ◌≤ℤ◌, ◌<ℤ◌, List, length, take}
use Rattle.std.proofs.Common.{drop, get_or, slice_set, Contains, Option, sym, subst}
use Rattle.std.specs.List.{All}
use Rattle.std.proofs.lemmas.List.{take_all}
use Rattle.std.proofs.lemmas.List.Elements.{All-contains, All-weaker}
use Rattle.std.proofs.lemmas.Option.{slice_get_within}
use Rattle.overlay_geom.specs.Plane.{Step, edge_of}
use Rattle.overlay_geom.specs.Settled.{IsSettledBy}
use Rattle.overlay_plane.specs.Heights.{covers}
use Rattle.overlay_plane.specs.Contours.{IsContour, all_steps}
use Rattle.overlay_plane.specs.Anchors.{HasEachEdgeOnce}
use Rattle.overlay_plane.specs.Turn.{Hand}
use Rattle.overlay_plane.proofs.AnchorsLeadOn.{anchors_lead_on}
use Rattle.overlay_plane.proofs.Entries.{Contains-flat_map, Contains-from_map}
use Rattle.overlay_scan.specs.Scan.{Entry, Sweep, live_at, moved_to, IsSweep, MeetsOthers, value_below}
pub use Rattle.overlay_scan.proofs.EntriesByStart.{at_front}
use Rattle.overlay_scan.proofs.EntriesByStart.{after_front, later_starts}
pub use Rattle.overlay_scan.proofs.SweptEntries.{nothing_swept}
use Rattle.overlay_scan.proofs.SweptEntries.{moved_on}
use Rattle.overlay_extract.specs.Parents.{IsSwept, HasShapeNumber}
use Rattle.overlay_extract.specs.WalkEntries.{IsFilledEntry, AreFilledEntries, IsHoleEntry, AreHoleEntries}
use Rattle.overlay_extract.proofs.HoleEntries.{Contains-at}
use Rattle.overlay_extract.proofs.HoleNumbers.{shape_of, number_of_none, number_of_next, all_numbered}
use Rattle.overlay_extract.proofs.NextBelow.{filled_walked, walked_meet, meets_anchor, Finds, look_up}

module _ (filled : Hand) (walks : List (List Step)) (contours : All IsContour walks)
    (settled : IsSettledBy edge_of (all_steps walks)) where
  -- the filled-above edges meet in ends alone
  pub entries_settled : (fs : List (Entry ℕ)) → AreFilledEntries filled walks fs → IsSettledBy (λ f. f.edge) fs
  entries_settled fs are_filled f g c d differ = walked_meet filled walks contours settled f.edge g.edge
      (filled_walked filled walks contours settled f (All-contains (IsFilledEntry filled walks) fs f are_filled.from c))
      (filled_walked filled walks contours settled g (All-contains (IsFilledEntry filled walks) fs g are_filled.from d))
      differ

  module _ (single : All HasEachEdgeOnce walks) (known : List (Option ℕ)) (h : Entry ℕ)
      (own : IsHoleEntry walks known h) where
    -- the hole is one of the walks
    kept : Contains walks own.walk
    kept = Contains-at walks h.value own.walk own.at

    -- its anchor is over the x-coordinate at which it starts
    pub anchor_over : covers h.edge h.edge.a.x (pos 1) ≡ true
    anchor_over = anchors_lead_on own.walk (All-contains IsContour walks own.walk contours kept)
        (All-contains HasEachEdgeOnce walks own.walk single kept)
        (λ s t c d. settled s t (Contains-flat_map (λ w. w) walks own.walk s kept c)
        (Contains-flat_map (λ w. w) walks own.walk t kept d)) h.edge own.has.anchor

    module _ (fs : List (Entry ℕ)) (are_filled : AreFilledEntries filled walks fs) (limit n : ℕ) (s : Sweep ℕ)
        (swept : IsSwept limit h.edge.a.x (take n fs) s)
        (rest : All (λ f. h.edge.a.x <ℤ f.edge.a.x) (drop n fs)) where
      -- the anchor meets the live edges in ends alone
      pub anchor_meets : MeetsOthers h.edge (live_at h.edge.a.x s.entries)
      anchor_meets = meets_anchor filled walks contours settled fs are_filled limit own.walk kept h.edge own.has.anchor
          anchor_over n s swept rest

      module _ (known_counted : length known ≡ length walks) (hs : List (Entry ℕ))
          (holes : AreHoleEntries walks known hs)
          (parents : List (Option ℕ)) (counted : length parents ≡ length walks) (i : ℕ) (lt : i < length hs)
          (is : h ≡ get_or hs i h)
          (t : Sweep ℕ) (moved : t ≡ moved_to h.edge.a.x s) (state : IsSweep limit t) where
        -- the sweep may go on to the anchors after it
        pub swept_on : All (λ k. IsSwept limit k.edge.a.x (take n fs) t) (drop (i + 1) hs)
        swept_on = All-weaker (λ k. h.edge.a.x ≤ℤ k.edge.a.x) (λ k. IsSwept limit k.edge.a.x (take n fs) t)
            (λ k le. moved_on limit h.edge.a.x (take n fs) s swept t moved state k.edge.a.x le) (drop (i + 1) hs)
            (after_front (λ k. h.edge.a.x ≤ℤ k.edge.a.x) hs i h lt (later_starts hs i h lt is holes.order))

        -- the hole has its number
        pub numbers_on : (none : ℕ) → none ≡ length walks →
            (below : ℕ) → below ≡ value_below none h.edge (live_at h.edge.a.x s.entries) →
            All (λ k. HasShapeNumber filled walks known parents k.value) (take i hs) →
            All (λ k. HasShapeNumber filled walks known (slice_set parents h.value (shape_of known parents below))
            k.value) (take (i + 1) hs)
        numbers_on none past below found numbered =
            all_numbered filled walks contours known known_counted hs holes parents i h lt is numbered own.walk own.at
            own.has.anchor (shape_of known parents below)
            (subst (λ m. h.value < m) (sym counted) (slice_get_within walks h.value own.walk own.at))
            (⊎_elim
            (λ nothing. number_of_none filled walks contours known known_counted hs holes parents i h lt is numbered
            own.walk own.at own.has.anchor below nothing.0 nothing.1)
            (λ walk. number_of_next filled walks contours known known_counted hs holes parents i h lt is numbered
            own.walk own.at own.has.anchor below walk.next walk.at
            walk.is_next walk.anchor_is)
            (subst (Finds filled walks contours settled fs are_filled limit own.walk kept h.edge own.has.anchor
            anchor_over
            n s swept rest) (sym found)
            (look_up filled walks contours settled fs are_filled limit own.walk kept h.edge own.has.anchor anchor_over n
            s swept rest
            (subst (IsSweep limit) moved state) none past)))

-- where the holes of all anchors have their numbers, each walk has
pub all_walks_numbered : (filled : Hand) (walks : List (List Step)) (known : List (Option ℕ)) (hs : List (Entry ℕ)) →
    AreHoleEntries walks known hs → (parents : List (Option ℕ)) (i : ℕ) →
    length hs ≤ i → All (λ k. HasShapeNumber filled walks known parents k.value) (take i hs) →
    (n : ℕ) → HasShapeNumber filled walks known parents n
all_walks_numbered filled walks known hs holes parents i le numbered n w at hole =
    let found = Contains-from_map (λ (k : Entry ℕ). k.value) hs n (holes.all n w at hole) in
    subst (HasShapeNumber filled walks known parents) found.2
    (All-contains (λ k. HasShapeNumber filled walks known parents k.value) hs found.0
    (subst (All (λ k. HasShapeNumber filled walks known parents k.value)) (take_all i hs le) numbered) found.1)
    w at hole
