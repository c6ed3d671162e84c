-- The contours of shapes, in the order of the shapes, can be bound again; and their links are those of the result.
use Rattle.std.proofs.Common.{◌≡◌, ℕ, List, All, sym, ap, subst, ◌∙◌}
use Rattle.std.proofs.lemmas.List.Elements.{All-contains}
use Rattle.overlay_geom.specs.Edges.{CountedEdge}
use Rattle.overlay_geom.specs.Plane.{Point, Step}
use Rattle.overlay_plane.specs.Binding.{walks_of}
use Rattle.overlay_plane.specs.BoundContours.{walks_in, contours_bound}
use Rattle.overlay_plane.specs.Islands.{ChildLink, AreLinks}
use Rattle.overlay_plane.specs.KeptContours.{CanBeBound}
use Rattle.overlay_plane.specs.PlacedContours.{walks_at}
use Rattle.overlay_plane.specs.RoledContours.{Contour, group_contours_from}
use Rattle.overlay_plane.specs.ShapeWindings.{points_of_shapes, AreKeptOrThinned}
use Rattle.overlay_plane.proofs.Entries.{all_of_entries, Contains-from_flat_map}
use Rattle.overlay_extract.specs.ChildLinks.{HaveOtherChildren}
use Rattle.overlay_extract.specs.InShapes.{AreBegun}
use Rattle.overlay_extract.specs.Placed.{ArePlacedResults}
use Rattle.overlay_extract.specs.PlacedResults.{IsHierarchy}
use Rattle.overlay_extract.specs.Results.{Asked, filled_asked}
use Rattle.overlay_extract.proofs.GroupsInShapes.{HasWalks, shapes_have_walks, places_begin, walks_of_groups}
use Rattle.overlay_extract.proofs.PlacedShapes.{placed_have}
use Rattle.overlay_extract.proofs.Results.{result_shown}

-- a fact of the walks of each shape holds of the walks of all
all_walks : (P : List Step → Type 0) (shapes : List (List (List Step))) → All (All P) shapes → All P (walks_of shapes)
all_walks P shapes all = all_of_entries P (walks_of shapes) (λ w c.
    let at = Contains-from_flat_map (λ (shape : List (List Step)). shape) shapes w c in
    All-contains P at.0 w (All-contains (All P) shapes at.0 all at.1) at.2)

module _ (q : Asked) (es : List CountedEdge) (contours : List Contour) (places : List (List ℕ))
    (p : ArePlacedResults q es contours places) where
  -- the contours, shape by shape
  abbrev pub ordered : List Contour
  ordered = group_contours_from 0 (walks_at contours places)

  have_walks : All HasWalks (walks_at contours places)
  have_walks = subst (All HasWalks) (sym p.placed.are) (shapes_have_walks (contours_bound contours p.shapes))

  -- each shape has its outline
  pub places_begun : AreBegun places
  places_begun = places_begin contours places have_walks

  walks_ordered : walks_in ordered ≡ walks_of (walks_at contours places)
  walks_ordered = walks_of_groups (walks_at contours places) have_walks

  -- a fact of all walks holds of these
  pub ordered_have : (P : List Step → Type 0) → All P (walks_in contours) → All P (walks_in ordered)
  ordered_have P all = subst (All P) (sym walks_ordered)
      (all_walks P (walks_at contours places) (placed_have P contours places all p.placed.inside))

  -- they can be bound again
  pub ordered_bindable : CanBeBound (filled_asked q) (walks_in ordered)
  ordered_bindable = subst (CanBeBound (filled_asked q)) (sym (walks_ordered ∙ ap walks_of p.placed.are))
      (p.kept.bindable_again p.shapes p.found)

  -- the shapes shown, with the links, are the hierarchy
  pub hierarchy_shown : (result : List (List (List Point))) →
      AreKeptOrThinned q.preserve_output_collinear (points_of_shapes (walks_at contours places)) result →
      (links : List ChildLink) → AreLinks (filled_asked q) ordered links → HaveOtherChildren links →
      IsHierarchy q es result links
  unfolding result_shown
  hierarchy_shown result shown links are children = record {
    is_result = result_shown q es contours p.kept p.shapes p.found places p.placed result shown;
    are_links = subst (λ ss. AreLinks (filled_asked q) (group_contours_from 0 ss) links) p.placed.are are;
    children = children;
  }
