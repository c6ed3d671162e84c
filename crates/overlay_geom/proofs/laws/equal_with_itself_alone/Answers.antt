-- Points that compare as equal are found equal, and so are one.
use Rattle.std.proofs.Common.{◌≡◌, true, ap, sym, ◌∙◌, refl}
use Rattle.std.specs.Ordering.{is_eq}
use Rattle.std.specs.declared.cmp.Ordering.{Ordering}
use Rattle.std.specs.declared.cmp.Ordering.TheVariants.{Less, Equal, Greater}
use Rattle.std.proofs.lemmas.Bool.{false≢true}
use Rattle.overlay_geom.specs.OrderedPoints.{EqualAlone}
use Rattle.overlay_geom.specs.Resolved.{point_cmp}
use Rattle.overlay_geom.proofs.Orders.{Decides-point_eq}
use Rattle.overlay_geom.proofs.PointComparisons.{point_cmp-is_tie}
use Rattle.overlay_geom.proofs.laws.equal_with_itself_alone.Goals as goal

-- the test of a tie finds it
tie : (o : Ordering) → is_eq o ≡ true → o ≡ Equal
tie Less e = absurd (false≢true e)
tie Equal e = refl
tie Greater e = absurd (false≢true e)

equal_alone : EqualAlone
equal_alone p q = (
  λ e. (Decides-point_eq p q).0 (sym (point_cmp-is_tie p q) ∙ ap is_eq e),
  λ same. tie (point_cmp p q) (point_cmp-is_tie p q ∙ (Decides-point_eq p q).1 same),
)

pub returns : goal.returns
returns c = equal_alone
