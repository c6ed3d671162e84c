-- With the links so far, those that are left are all links.
use Rattle.std.proofs.Common.{◌≡◌, ◌++◌, drop, map}
use Rattle.polyover_calls.specs.Linked.{link_of}
use Rattle.polyover_calls.proofs.links.links_of.Given as goal

abbrev pub invariant-loop-link : goal.invariant-loop-link
invariant-loop-link l = l.given.items ++ map link_of (drop l.link-index l.links) ≡ map link_of l.links
