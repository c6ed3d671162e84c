-- Links from shapes to the shapes in their holes, and the order of links.
use Rattle.std.specs.Prelude.{◌≡◌, ◌==◌, Bool, false, List, AllPairs}
use Rattle.std.specs.Ordering.{nat_cmp, ordering_then}
use Rattle.std.specs.declared.cmp.Ordering.{Ordering}
use Rattle.overlay_plane.specs.Islands.{ChildLink, link_lt}
use Rattle.overlay_extract.specs.declared.child_link.ChildLink.{ChildLink as LinkTaken}

-- the link as a record of whole numbers
abbrev pub plain_link : LinkTaken → ChildLink
plain_link l = record {
  parent_shape = l.parent_shape_index;
  parent_contour = l.parent_contour_index;
  child_shape = l.child_shape_index;
}

-- the comparison of two links: by their fields, in order
abbrev pub link_order : ChildLink → ChildLink → Ordering
link_order k l =
    ordering_then (nat_cmp k.parent_shape l.parent_shape)
    (ordering_then (nat_cmp k.parent_contour l.parent_contour) (nat_cmp k.child_shape l.child_shape))

-- the first comes before the second
abbrev pub is_link_before : LinkTaken → LinkTaken → Bool
is_link_before k l = link_lt (plain_link k) (plain_link l)

-- no link comes before an earlier link of the list
abbrev pub AreInOrder : List LinkTaken → Type 0
AreInOrder links = AllPairs (λ k l. is_link_before l k ≡ false) links

-- the links have equal children
abbrev pub has_same_child : ChildLink → ChildLink → Bool
has_same_child k l = k.child_shape == l.child_shape

-- no shape is the child of two links
abbrev pub HaveOtherChildren : List ChildLink → Type 0
HaveOtherChildren links = AllPairs (λ k l. has_same_child k l ≡ false) links
