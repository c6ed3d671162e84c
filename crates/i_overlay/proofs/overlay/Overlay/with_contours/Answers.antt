-- What borrows the lists has the same paths.
use Rattle.i_overlay.proofs.overlay.Overlay.with_contours.Goals as goal

pub returns-clause-ok : goal.returns-clause-ok
returns-clause-ok g c = c.from_subj_and_clip.ensures.ok

pub returns-clause-made : goal.returns-clause-made
returns-clause-made g c = c.from_subj_and_clip.ensures.made

pub returns-clause-err : goal.returns-clause-err
returns-clause-err g c = c.from_subj_and_clip.ensures.err
