-- The laws are proved in proofs/OneText.antt.
use Rattle.polyover_engine.proofs.OneText.{one_text_of_clip, one_text_of_slices, one_text_of_tiles}
use Rattle.polyover_engine.proofs.only_texts.one_text_of_lines.Goals as goal

pub returns-clause-clip : goal.returns-clause-clip
returns-clause-clip c = one_text_of_clip

pub returns-clause-slices : goal.returns-clause-slices
returns-clause-slices c = one_text_of_slices

pub returns-clause-tiles : goal.returns-clause-tiles
returns-clause-tiles c = one_text_of_tiles
