-- The two sides of a node.
use Rattle.std.specs.Prelude.{ℕ, Option, None}
use Rattle.overlay_scan.specs.declared.tree.links.Links.{Links}
use Rattle.overlay_scan.specs.declared.tree.links.NodeIndex.{NodeIndex}
use Rattle.overlay_scan.specs.declared.tree.links.Side.{Side}
use Rattle.overlay_scan.specs.declared.tree.links.Side.TheVariants.{Left, Right}

-- the other side
abbrev pub opposite : Side → Side
opposite Left = Right
opposite Right = Left

-- links to `near` on the given side, and to `far` on the other side
abbrev pub linked : Side → Option NodeIndex → Option NodeIndex → ℕ → Links
linked Left near far height = record { left = near; right = far; height = height }
linked Right near far height = record { left = far; right = near; height = height }

-- the node on a side
abbrev pub on : Side → Links → Option NodeIndex
on Left links = links.left
on Right links = links.right

-- the links of a reusable node before the next
abbrev pub unused_before : Option NodeIndex → Links
unused_before next = record { left = next; right = None; height = 0 }
