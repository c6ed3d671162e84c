-- The laws are proved in proofs/ShuffledContents.antt and proofs/OneAdding.antt.
use Rattle.overlay_builder.proofs.OneAdding.{one_content}
use Rattle.overlay_builder.proofs.ShuffledContents.{contents_are_shuffled}
use Rattle.overlay_builder.proofs.only_contents.one_content.Goals as goal

pub returns-clause-shuffled : goal.returns-clause-shuffled
returns-clause-shuffled g c = contents_are_shuffled

pub returns-clause-whole : goal.returns-clause-whole
returns-clause-whole g c = one_content
