-- A cut with groups takes each step exactly once.
use Rattle.overlay_plane.proofs.GroupedCuts.{grouped_cuts_take_each_once}
use Rattle.overlay_plane.proofs.groups.grouped_cuts_take_each_once.Goals as goal

pub returns : goal.returns
returns c = grouped_cuts_take_each_once
