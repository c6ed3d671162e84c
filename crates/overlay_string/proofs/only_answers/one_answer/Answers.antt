-- The laws are proved in proofs/OneAnswer.antt.
use Rattle.overlay_string.proofs.OneAnswer.{one_clip_of_strings, one_slicing_along_strings}
use Rattle.overlay_string.proofs.only_answers.one_answer.Goals as goal

pub returns-clause-clips : goal.returns-clause-clips
returns-clause-clips c = one_clip_of_strings

pub returns-clause-slices : goal.returns-clause-slices
returns-clause-slices c = one_slicing_along_strings
