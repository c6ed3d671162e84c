-- Pieces of edges, added edge by edge to a list that stands for them: their edges and weights.
use Rattle.std.proofs.Common.{◌≡◌, List, [], ◌∷◌, ◌++◌, map, length, refl, ap, ap₂, ◌∙◌}
use Rattle.std.specs.Prelude.{◌↔◌}
use Rattle.std.specs.List.{flat_map}
use Rattle.std.proofs.lemmas.List.{map-append}
use Rattle.overlay_geom.specs.Plane.{Point, Step, steps_through}
use Rattle.overlay_plane.specs.Carried.{Carried, edges_in}
use Rattle.overlay_plane.specs.Cutting.{piece_along, pieces_through}
use Rattle.overlay_plane.specs.DerivedData.{AreCutAlong, AreGiven, none, next, ArePieces, GivesPiece}
use Rattle.overlay_arrange.specs.Batches.{AddsJoined}
use Rattle.overlay_arrange.specs.Cut.{chain_by, LeadingPoints, StaysWhole}
use Rattle.overlay_arrange.proofs.CarriedPieces.{adds_all, pieces_added}

-- ---- edges

module _ {C : Type 0} (splits reverses : C → C → Type 0) where
  -- the edges of the pieces along steps
  edges_of_pieces : (IsWhole : Type 0) (x : Carried C) {ss : List Step} {ys : List (Carried C)} →
      AreGiven (GivesPiece splits reverses IsWhole x) ss ys → edges_in ys ≡ map (piece_along x.edge) ss
  edges_of_pieces IsWhole x none = refl
  edges_of_pieces IsWhole x (next {x = s} {xs = ss} {part = part} {rest = rest} (y, is, piece) more) =
      ap (λ ps. edges_in (ps ++ rest)) is
      ∙ ap₂ (λ e es. e ∷ es) piece.edge (edges_of_pieces IsWhole x more)

  -- the edges of all pieces
  pub edges_of_cut : (points : LeadingPoints) {xs ys : List (Carried C)} →
      AreCutAlong splits reverses (chain_by points) xs ys →
      edges_in ys ≡ flat_map (pieces_through points) (edges_in xs)
  edges_of_cut points none = refl
  edges_of_cut points (next {x = x} {xs = xs} {part = part} {rest = rest} here more) =
      map-append (λ (y : Carried C). y.edge) part rest
      ∙ ap₂ (λ es fs. es ++ fs) (edges_of_pieces (length (chain_by points x.edge) ≡ 1) x here)
      (edges_of_cut points more)

-- ---- values

module _ {C : Type 0} (merges : C → C → C → Type 0) (splits reverses : C → C → Type 0) (points : LeadingPoints) where
  -- pieces added along the chain of an edge are the edge's pieces, through whichever points that chain was found
  pub joined_pieces : (x : Carried C) (vs : List Point) {old new : List (Carried C)} →
      steps_through x.edge.a (vs ++ x.edge.b ∷ []) ≡ chain_by points x.edge →
      StaysWhole x.edge vs ↔ (length (chain_by points x.edge) ≡ 1) →
      AddsJoined merges (GivesPiece splits reverses (StaysWhole x.edge vs) x)
      (steps_through x.edge.a (vs ++ x.edge.b ∷ [])) old new →
      AddsJoined merges (ArePieces splits reverses (chain_by points)) (x ∷ []) old new
  joined_pieces x vs chain whole adds = record {
    more = adds.more;
    given = adds_all (ArePieces splits reverses (chain_by points))
        (pieces_added splits reverses points x vs chain whole
        (record { more = adds.more; given = adds.given; added = refl }));
    stands = adds.stands;
  }
