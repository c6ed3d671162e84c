use Rattle.std.proofs.Common.{string_bytes}
use Rattle.overlay_extract.specs.ChildLinks.{plain_link}
use Rattle.overlay_plane.specs.Islands.{ChildLink}
use Rattle.polyover_text.specs.Printed.{link_line}
use Rattle.polyover_text.proofs.Printing.{all_items}
use Rattle.polyover_engine.proofs.hierarchy.push_links.Goals as goal

pub returns : goal.returns
returns g c =
    all_items (λ (l : ChildLink). link_line l.parent_shape l.parent_contour l.child_shape) plain_link c.args.links.now
    c.loop-link.link-index (string_bytes c.args.text.now) (string_bytes c.loop-link.text) c.loop-link-test.false
    c.loop-link.invariant
