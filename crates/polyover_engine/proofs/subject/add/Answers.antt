use Rattle.std.proofs.Common.{sym, subst, ap, ◌∙◌, refl, [], ◌∷◌, ◌++◌}
use Rattle.std.proofs.lemmas.Bool.{false≢true}
use Rattle.overlay_geom.specs.Paths.{paths_of_shape}
use Rattle.overlay_geom.specs.Resolved.{IsResolved}
use Rattle.polyover_text.specs.Points.{points_at}
use Rattle.polyover_text.specs.Statements.{contour_at}
use Rattle.polyover_engine.proofs.Subjects.{adds_pushed}
use Rattle.polyover_engine.proofs.subject.add.Goals as goal

pub returns-then-not-is_resolved : goal.returns-then-not-is_resolved
returns-then-not-is_resolved g c = record {
  of_subject = c.in-Subject.is;
  unresolved = λ h. false≢true (sym c.if-not-is_resolved.true ∙ c.in_ok-is_resolved-in-Subject.ensures.ok.1
      (subst (λ ps. IsResolved (points_at ps)) (sym c.deref.ensures.value) h));
  number = refl;
}

pub returns-in_ok-push_copy-in-Subject : goal.returns-in_ok-push_copy-in-Subject
returns-in_ok-push_copy-in-Subject g c =
    let old = paths_of_shape (λ z. z) c.args.shape.now.items in
    adds_pushed (contour_at c.args.given.now) c.in-Subject.is _ _
    (c.in_ok-push_copy-in-Subject.ensures.ok ∙ ap (λ l. old ++ points_at l ∷ []) c.deref-in-Subject.ensures.value)
    (subst (λ ps. IsResolved (points_at ps)) c.deref.ensures.value
    (c.in_ok-is_resolved-in-Subject.ensures.ok.0 c.if-not-is_resolved.false))
    c.requires
