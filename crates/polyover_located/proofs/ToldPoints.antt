-- The locations of points in a shape, written one by one.
use Rattle.std.proofs.Common.{◌≡◌, ◌+◌, ◌<◌, ◌≤◌, ℕ, ℤ, List, [], ◌∷◌, ◌++◌, length, take, drop}
use Rattle.std.proofs.Common.{get_or, set, refl, sym, ap, ◌∙◌, subst, arith}
use Rattle.std.proofs.lemmas.List.{length-take-le, length-set, map-append, take_all, take_more_set, drop-set-lt}
use Rattle.std.proofs.lemmas.List.{drop-drop, take-append-drop}
use Rattle.overlay_geom.proofs.Mapped.{mapped_more}
use Rattle.overlay_geom.specs.Plane.{in_plane}
use Rattle.overlay_geom.specs.Points.{plain_point, plain_points}
use Rattle.overlay_geom.specs.Rules.{is_filled}
use Rattle.overlay_geom.specs.declared.point.IntPoint.{IntPoint}
use Rattle.overlay_located.proofs.ToldShapes.{tells_location}
use Rattle.overlay_located.specs.GivenShapes.{GivenShape, TellsLocation}
use Rattle.overlay_sectors.specs.Located.{LiesIn}
use Rattle.overlay_relate.proofs.Answered.{answers_none, answers_more}
use Rattle.overlay_relate.specs.Answers.{AnswersEach}
use Rattle.overlay_relate.specs.declared.location.PointLocation.{PointLocation}
use Rattle.polyover_calls.specs.Arrays.{points_of}
use Rattle.polyover_calls.specs.Located.{number_of}
use Rattle.polyover_located.specs.Asked.{AreToldOf, AreLocatedIn}

module _ {I : Type 0} (whole : I → ℤ) (shape : GivenShape) (ps : List (IntPoint I)) (old : List ℕ) where
  -- the first points are told of in the first places, and the others stay
  pub record AreToldUpTo (n : ℕ) (new : List ℕ) : Type 0 where
    pub told : AreToldOf shape (plain_points whole (take n ps)) (take n new)
    pub rest : drop n new ≡ drop n old
    pub counted : length new ≡ length old
    pub within : n ≤ length ps

  pub none_told : AreToldUpTo 0 old
  none_told = record {
    told = record {
      locations = [];
      lie = answers_none (λ q l. TellsLocation shape (in_plane q) l);
      numbers = refl;
    };
    rest = refl;
    counted = refl;
    within = omega arith;
  }

  -- one point more
  pub one_told : (n : ℕ) (new : List ℕ) (p : IntPoint I) (l : PointLocation) → n < length ps → n < length old →
      p ≡ get_or ps n p → AreToldUpTo n new →
      LiesIn (is_filled shape.fill_rule) shape.edges (in_plane (plain_point whole p)) l →
      AreToldUpTo (n + 1) (set new n (number_of l))
  one_told n new p l within room here so_far lies =
      let locations = so_far.told.locations in
      let lt : n < length new = omega (arith, room, so_far.counted) in
      record {
        told = record {
          locations = locations ++ l ∷ [];
          lie = subst (λ qs. AnswersEach (λ q m. TellsLocation shape (in_plane q) m) qs (locations ++ l ∷ []))
              (sym (mapped_more (plain_point whole) ps n p within here))
              (answers_more (λ q m. TellsLocation shape (in_plane q) m) (plain_points whole (take n ps))
              (plain_point whole p) locations l so_far.told.lie
              (tells_location shape (in_plane (plain_point whole p)) l lies));
          numbers = take_more_set new n (number_of l) lt ∙ ap (λ ns. ns ++ number_of l ∷ []) so_far.told.numbers
              ∙ sym (map-append number_of locations (l ∷ []));
        };
        rest = drop-set-lt (n + 1) new n (number_of l) (omega arith) ∙ one_less;
        counted = length-set new n (number_of l) ∙ so_far.counted;
        within = omega (arith, within);
      }
    where
      one_less : drop (n + 1) new ≡ drop (n + 1) old
      one_less = sym (drop-drop 1 n new) ∙ ap (drop 1) so_far.rest ∙ drop-drop 1 n old

  -- all points
  pub all_told : (n : ℕ) (new : List ℕ) (points : List I) → ps ≡ points_of points → length ps ≤ n →
      length ps ≤ length old → AreToldUpTo n new → AreLocatedIn whole shape points old new
  all_told n new points same past room told = record {
    numbers = take n new;
    tell = subst (λ qs. AreToldOf shape (plain_points whole qs) (take n new)) (take_all n ps past ∙ same) told.told;
    written = sym (take-append-drop n new) ∙ ap (λ ys. take n new ++ ys)
        (told.rest ∙ ap (λ k. drop k old) (sym long));
  }
    where
      long : length (take n new) ≡ n
      long = length-take-le n new (let c = told.counted in let w = told.within in omega (arith, room))
