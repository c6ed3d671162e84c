-- What answers about the relations of two resources tell of their paths: each holds an arrangement of what these give.
use Rattle.std.proofs.Common.{false}
use Rattle.overlay_geom.specs.Rules.{is_filled}
use Rattle.overlay_relate.proofs.PathClosures.{arrangements_tell_of_path_closures}
use Rattle.overlay_relate.proofs.PathRelations.{arrangements_tell_of_paths}
use Rattle.i_overlay.specs.PathAnswers.{AnswersTellOfPaths, AllRelationsTellOfPaths}

pub answers_tell_of_paths : AnswersTellOfPaths
answers_tell_of_paths = record {
  intersects = λ solver fill paths answer told. arrangements_tell_of_path_closures.intersects false paths solver
      told.content told.edges (is_filled fill) answer told.holds told.arranged told.fillable told.tells;
  touches = λ solver fill paths answer told. arrangements_tell_of_path_closures.touches false paths solver
      told.content told.edges (is_filled fill) answer told.holds told.arranged told.fillable told.tells;
  point_intersects = λ solver fill paths answer told. arrangements_tell_of_path_closures.point_intersects false paths
      solver told.content told.edges (is_filled fill) answer told.holds told.arranged told.fillable told.tells;
  disjoint = λ solver fill paths answer told. arrangements_tell_of_path_closures.disjoint false paths solver
      told.content told.edges (is_filled fill) answer told.holds told.arranged told.fillable told.tells;
  interiors_intersect = λ solver fill paths answer told. arrangements_tell_of_paths.interiors_intersect false paths
      solver told.content told.edges (is_filled fill) answer told.holds told.arranged told.tells;
  within = λ solver fill paths answer told. arrangements_tell_of_paths.within false paths solver told.content told.edges
      (is_filled fill) answer told.holds told.arranged told.tells;
}

pub all_relations_tell_of_paths : AllRelationsTellOfPaths
all_relations_tell_of_paths solver fill paths exchanged r told = record {
  intersects = arrangements_tell_of_path_closures.intersects false paths solver told.content told.edges
      (is_filled fill) r.intersects told.holds told.arranged told.fillable told.relations.intersects;
  touches = arrangements_tell_of_path_closures.touches false paths solver told.content told.edges
      (is_filled fill) r.touches told.holds told.arranged told.fillable told.relations.touches;
  point_intersects = arrangements_tell_of_path_closures.point_intersects false paths solver told.content told.edges
      (is_filled fill) r.point_intersects told.holds told.arranged told.fillable told.relations.point_intersects;
  disjoint = arrangements_tell_of_path_closures.disjoint false paths solver told.content told.edges
      (is_filled fill) r.disjoint told.holds told.arranged told.fillable told.relations.disjoint;
  interiors_intersect = arrangements_tell_of_paths.interiors_intersect false paths solver told.content told.edges
      (is_filled fill) r.interiors_intersect told.holds told.arranged told.relations.interiors_intersect;
  within = arrangements_tell_of_paths.within false paths solver told.content told.edges (is_filled fill) r.within
      told.holds told.arranged told.relations.within;
  covers = arrangements_tell_of_paths.covers false paths solver told.content told.edges (is_filled fill) r.covers
      told.holds told.arranged told.relations.covers;
}
