-- The strips of a list of edges, with bundles or without.
use Rattle.std.specs.Prelude.{ℕ, ◌<◌, ℤ, List, IfSome}
use Rattle.std.specs.List.Sorted.{IsPermutation}
use Rattle.overlay_geom.specs.Edges.{CountedEdge}
use Rattle.overlay_pairs.specs.Bundles.{AreBundlesOf}
use Rattle.overlay_pairs.specs.Extents.{extents_of, plain_extents, AreByHeights, AreInBlocks, AreInStrips}
use Rattle.overlay_pairs.specs.declared.strips.Strips.{Strips}

-- the program's strips have the boxes of the edges, and its bundles, if there are some, the edges
pub record AreHeldStripsOf {I A : Type 0} (whole : I → ℤ) (limit : ℕ) (es : List CountedEdge) (held : Strips I A) :
    Type 0 where
  pub some : 0 < held.width
  pub permutation : IsPermutation (extents_of es) (plain_extents whole held.edges.items)
  pub strips : AreInStrips held.width (plain_extents whole held.edges.items)
  pub heights : AreByHeights held.width (plain_extents whole held.edges.items)
  pub blocks : AreInBlocks (plain_extents whole held.edges.items) (plain_extents whole held.of_8.items)
      (plain_extents whole held.of_64.items) (plain_extents whole held.of_512.items)
      (plain_extents whole held.of_4096.items) (plain_extents whole held.of_32768.items)
  pub bundles : IfSome held.bundles (AreBundlesOf whole limit es)
