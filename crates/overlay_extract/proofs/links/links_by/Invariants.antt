-- The links of the shapes so far.
use Rattle.std.proofs.Common.{◌≡◌, map, take}
use Rattle.overlay_walk.specs.GroupedContours.{plain_contours}
use Rattle.overlay_extract.specs.ChildLinks.{plain_link}
use Rattle.overlay_extract.specs.Links.{links_from}
use Rattle.overlay_extract.proofs.links.links_by.Given as goal

abbrev pub invariant-loop-child : goal.invariant-loop-child
invariant-loop-child g l =
    map plain_link l.links.items ≡ links_from (plain_contours g.I.IntNumber.whole l.contours) 0 (take l.child l.holes)
