-- The law is proved in proofs/OneAnswer.antt.
use Rattle.overlay_string.proofs.OneAnswer.{answered_strings_are_refused_by_memory_alone}
use Rattle.overlay_string.proofs.only_answers.memory_alone_refuses.Goals as goal

pub returns : goal.returns
returns c = answered_strings_are_refused_by_memory_alone
