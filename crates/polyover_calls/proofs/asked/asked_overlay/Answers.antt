-- Why the contours are not read.
use Rattle.std.proofs.lemmas.Result.{err_from_is_err_and}
use Rattle.polyover_calls.proofs.Overlays.{contours_refused}
use Rattle.polyover_calls.specs.Given.{contours_of}
use Rattle.polyover_calls.proofs.asked.asked_overlay.Goals as goal

pub returns-in_err-read : goal.returns-in_err-read
returns-in_err-read g c =
    let q = c.args.asked.now in
    let e = err_from_is_err_and c.from_residual-in_err-read.result c.from_residual-in_err-read.ensures.1 in
    rw (e.1, e.2) (contours_refused g.I.IntNumber.whole g.I.IntNumber.limit q.rule q.fill q.options
    (contours_of q.subject.coordinates.now q.subject.ends.now)
    (contours_of q.clip.coordinates.now q.clip.ends.now) c.in_err-read.field-0.0
    c.in_ok-rule.ensures.0 c.in_ok-fill.ensures.0 c.in_ok-settings.ensures.0 c.in_err-read.ensures.err)
