-- Shapes and the links between them in arrays of a caller.
use Rattle.std.specs.Prelude.{◌≤◌, ℕ, ℤ, List, map, length}
use Rattle.overlay_extract.specs.declared.child_link.ChildLink.{ChildLink as LinkTaken}
use Rattle.overlay_geom.specs.Plane.{Point}
use Rattle.overlay_plane.specs.Islands.{ChildLink}
use Rattle.polyover_calls.specs.Arrays.{written_over}
use Rattle.polyover_calls.specs.Put.{IsPutSo, EndsInto}
use Rattle.polyover_calls.specs.Written.{Flat, Room, AreFlattened, HasRoom, flat_shapes, shape_room, counts_of}
use Rattle.polyover_calls.specs.Written.{written_into}
use Rattle.polyover_calls.specs.declared.counts.Counts.{Counts}
use Rattle.polyover_calls.specs.declared.links.Link.{Link}
use Rattle.polyover_calls.specs.declared.status.Status.{Status}

-- a link as C has it, of one as it is answered, and the link that it is
abbrev pub link_of : LinkTaken → Link
link_of l = record {
  parent_shape = l.parent_shape_index;
  parent_contour = l.parent_contour_index;
  child_shape = l.child_shape_index;
}

abbrev pub link_at : Link → ChildLink
link_at l = record {
  parent_shape = l.parent_shape;
  parent_contour = l.parent_contour;
  child_shape = l.child_shape;
}

-- shapes in arrays, and their links in another one
pub record LinkedFlat (I : Type 0) : Type 0 where
  pub shapes : Flat I
  pub links : List Link

abbrev pub flat_linked : {I : Type 0} → List I → List ℕ → List ℕ → List Link → LinkedFlat I
flat_linked coordinates contour_ends shape_ends links =
    record { shapes = flat_shapes coordinates contour_ends shape_ends; links = links }

-- the arrays that a caller has for them, and where their counts go
pub record LinkedRoom (I : Type 0) : Type 0 where
  pub shapes : Room I
  pub links : List Link
  pub link_count : ℕ

abbrev pub linked_room : {I : Type 0} → List I → List ℕ → List ℕ → List Link → Counts → ℕ → LinkedRoom I
linked_room coordinates contour_ends shape_ends links counts link_count = record {
  shapes = shape_room coordinates contour_ends shape_ends counts;
  links = links;
  link_count = link_count;
}

-- each array has a place for each item
pub record HasLinkedRoom {I : Type 0} (flat : LinkedFlat I) (room : LinkedRoom I) : Type 0 where
  pub shapes : HasRoom flat.shapes room.shapes.arrays
  pub links : length flat.links ≤ length room.links

-- what becomes of the arrays where shapes and links are there: these are written, or one of the arrays is too small,
-- and all stay; the counts are those of the shapes and the links
abbrev pub ArePutLinked : {I : Type 0} → LinkedFlat I → LinkedRoom I → LinkedRoom I → Status → Type 0
ArePutLinked flat old new = IsPutSo (HasLinkedRoom flat old)
    (record {
      shapes = record { arrays = written_into flat.shapes old.shapes.arrays; counts = counts_of flat.shapes };
      links = written_over flat.links old.links;
      link_count = length flat.links;
    })
    (record {
      shapes = record { arrays = old.shapes.arrays; counts = counts_of flat.shapes };
      links = old.links;
      link_count = length flat.links;
    })
    new

-- such shapes and links stand in the arrays
pub record AreFlatLinked {I : Type 0} (IsAnswer : List (List (List Point)) → List ChildLink → Type 0) (whole : I → ℤ)
    (flat : LinkedFlat I) : Type 0 where
  pub shapes : List (List (List Point))
  pub answer : IsAnswer shapes (map link_at flat.links)
  pub flattened : AreFlattened whole shapes flat.shapes

-- so a call ends: such shapes and links are put into the arrays, or it is refused
abbrev pub EndsWithLinked : {I : Type 0} → (List (List (List Point)) → List ChildLink → Type 0) → (Status → Type 0) →
    (I → ℤ) → LinkedRoom I → LinkedRoom I → Status → Type 0
EndsWithLinked IsAnswer refused whole = EndsInto (AreFlatLinked IsAnswer whole) ArePutLinked refused
