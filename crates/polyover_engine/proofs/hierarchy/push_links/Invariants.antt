use Rattle.std.proofs.Common.{◌≡◌, ◌++◌, map, take, string_bytes}
use Rattle.overlay_extract.specs.ChildLinks.{plain_link}
use Rattle.polyover_engine.specs.Answers.{link_lines}
use Rattle.polyover_engine.proofs.hierarchy.push_links.Given as goal

-- the lines of the links so far came to the text
abbrev pub invariant-loop-link : goal.invariant-loop-link
invariant-loop-link g l =
    string_bytes l.text ≡ string_bytes l.initial.text ++ link_lines (map plain_link (take l.link-index l.links))
