-- What is true exactly where something holds is one; so is a list that tells of points off all edges which are inside.
use Rattle.std.proofs.Common.{◌≡◌, ◌↔◌, Bool, true, false, refl, sym, ◌∙◌}
use Rattle.std.specs.Prelude.{IsTrue}
use Rattle.overlay_geom.specs.Plane.{Point, in_plane}
use Rattle.overlay_relate.specs.Determined.{OneAnswerOfRelations, OneListOfInsides}
use Rattle.overlay_relate.proofs.OneLocation.{one_list_of_answers}

pub one_truth : (P : Type 0) (b c : Bool) → IsTrue b ↔ P → IsTrue c ↔ P → b ≡ c
one_truth P true c b_is c_is = sym (c_is.1 (b_is.0 refl))
one_truth P b true b_is c_is = b_is.1 (c_is.0 refl)
one_truth P false false b_is c_is = refl

pub one_answer_of_relations : OneAnswerOfRelations
one_answer_of_relations filled es first second a b i = record {
  intersects = one_truth _ first.intersects second.intersects a.intersects b.intersects i;
  interiors_intersect = one_truth _ first.interiors_intersect second.interiors_intersect a.interiors_intersect
      b.interiors_intersect i;
  touches = one_truth _ first.touches second.touches a.touches b.touches i;
  point_intersects = one_truth _ first.point_intersects second.point_intersects a.point_intersects b.point_intersects i;
  within = one_truth _ first.within second.within a.within b.within i;
  disjoint = one_truth _ first.disjoint second.disjoint a.disjoint b.disjoint i;
  covers = one_truth _ first.covers second.covers a.covers b.covers i;
}

pub one_list_of_insides : OneListOfInsides
one_list_of_insides es is_inside queries first second off a b =
    one_list_of_answers (λ (q : Point) (t : Bool). t ≡ is_inside (in_plane q)) (λ q s t x y. x ∙ sym y) queries first
    second
    (record { counted = a.counted; each = λ n d e l. a.each n d e l (off n d l) })
    (record { counted = b.counted; each = λ n d e l. b.each n d e l (off n d l) })
