-- The law is proved in proofs/OneAnswer.antt.
use Rattle.i_overlay.proofs.OneAnswer.{one_answer_where_whole}
use Rattle.i_overlay.proofs.only_answers.one_answer_where_whole.Goals as goal

pub returns : goal.returns
returns c = one_answer_where_whole
