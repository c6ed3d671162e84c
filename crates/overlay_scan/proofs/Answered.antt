-- Answers that rise from bottom to top: if an answer is not Greater, neither is any below it.
use Rattle.std.proofs.Common.{◌≡◌, true, not, List, get_or, refl, sym, ap, ◌∙◌}
use Rattle.std.specs.Ordering.{is_gt}
use Rattle.std.specs.declared.cmp.Ordering.{Ordering}
use Rattle.std.specs.declared.cmp.Ordering.TheVariants.{Less, Equal, Greater}
use Rattle.std.proofs.lemmas.Bool.{false≢true}
use Rattle.overlay_geom.specs.Plane.{Edge}
use Rattle.overlay_scan.specs.Scan.{Entry, IsAtMost, AnswersRise}
use Rattle.overlay_scan.specs.Lists.{PassBefore}

-- an answer at most one that is not Greater is not Greater
not_greater : (o p : Ordering) → IsAtMost o p → not (is_gt p) ≡ true → not (is_gt o) ≡ true
not_greater Less p most passes = refl
not_greater Equal p most passes = refl
not_greater Greater p most passes = absurd (false≢true (sym (ap (λ q. not (is_gt q)) (most.greater refl)) ∙ passes))

pub pass_before : {V : Type 0} (answer : Edge → Ordering) (fs : List (Entry V)) → AnswersRise answer fs →
    PassBefore (λ f. not (is_gt (answer f.edge))) fs
pass_before answer fs rise i j d lt end passes = not_greater (answer (get_or fs i d).edge) (answer (get_or fs j d).edge)
    (rise i j d lt end) passes
