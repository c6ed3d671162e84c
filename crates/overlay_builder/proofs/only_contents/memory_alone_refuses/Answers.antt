-- The law is proved in proofs/LightPaths.antt.
use Rattle.overlay_builder.proofs.LightPaths.{arranged_paths_are_refused_by_memory_alone}
use Rattle.overlay_builder.proofs.only_contents.memory_alone_refuses.Goals as goal

pub returns : goal.returns
returns c = arranged_paths_are_refused_by_memory_alone
