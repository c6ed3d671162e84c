-- Exact answers are the only ones.
use Rattle.overlay_predicates.specs.Determined.{OneExactAnswer, OneExactAnswerOfPaths}
use Rattle.overlay_relate.proofs.OneTruth.{one_truth}

pub one_exact_answer : OneExactAnswer
one_exact_answer filled content first second a b i = record {
  intersects = one_truth _ first.intersects second.intersects a.intersects b.intersects i;
  interiors_intersect = one_truth _ first.interiors_intersect second.interiors_intersect a.interiors_intersect
      b.interiors_intersect i;
  touches = one_truth _ first.touches second.touches a.touches b.touches i;
  point_intersects = one_truth _ first.point_intersects second.point_intersects a.point_intersects b.point_intersects i;
  within = one_truth _ first.within second.within a.within b.within i;
  disjoint = one_truth _ first.disjoint second.disjoint a.disjoint b.disjoint i;
  covers = one_truth _ first.covers second.covers a.covers b.covers i;
}

pub one_exact_answer_of_paths : OneExactAnswerOfPaths
one_exact_answer_of_paths filled paths first second a b i = record {
  intersects = one_truth _ first.intersects second.intersects a.intersects b.intersects i;
  interiors_intersect = one_truth _ first.interiors_intersect second.interiors_intersect a.interiors_intersect
      b.interiors_intersect i;
  touches = one_truth _ first.touches second.touches a.touches b.touches i;
  point_intersects = one_truth _ first.point_intersects second.point_intersects a.point_intersects b.point_intersects i;
  within = one_truth _ first.within second.within a.within b.within i;
  disjoint = one_truth _ first.disjoint second.disjoint a.disjoint b.disjoint i;
  covers = one_truth _ first.covers second.covers a.covers b.covers i;
}
