-- The points of a list of words, taken one by one.
use Rattle.std.proofs.Common.{◌≡◌, ℤ, List, [], ◌∷◌, ◌++◌, codes, refl, sym, ap, subst, ◌∙◌, append_assoc, append-nil}
use Rattle.overlay_geom.specs.Plane.{Point}
use Rattle.overlay_geom.specs.Points.{plain_point}
use Rattle.overlay_geom.specs.declared.point.IntPoint.{IntPoint}
use Rattle.polyover_text.specs.Grammar.{Word, Line, ArePoints, none, more, GivesPoint, point}
use Rattle.polyover_text.specs.Points.{points_at, IsFirstPoint}
use Rattle.std.proofs.lemmas.List.{map_push}

-- the words are the points so far, and then what the rest of the words is
pub record HasPoints (ws : Line) (so_far : List Point) (rest : Line) : Type 0 where
  pub sound : (ps : List Point) → ArePoints rest ps → ArePoints ws (so_far ++ ps)
  pub complete : (ps : List Point) → ArePoints ws ps → (qs : List Point) × ArePoints rest qs

-- what words after two coordinates are
tail_points : (v w : Word) (ws : Line) (ps : List Point) → ArePoints (v ∷ w ∷ ws) ps →
    (qs : List Point) × ArePoints ws qs
tail_points v w ws ps (more x y h) = (_, h)

-- a point pushed, and then others
pushed_points : (so_far : List (IntPoint ℤ)) (p : IntPoint ℤ) (ps : List Point)
    → points_at so_far ++ (record { x = p.x; y = p.y } ∷ ps) ≡ points_at (so_far ++ p ∷ []) ++ ps
pushed_points so_far p ps = sym (ap (λ l. l ++ ps) (map_push (plain_point (λ z. z)) so_far p)
    ∙ append_assoc (points_at so_far) (record { x = p.x; y = p.y } ∷ []) ps)

-- the next point goes to those so far
pub one_more_point : (ws : Line) (so_far : List (IntPoint ℤ)) (rest : Line) (p : IntPoint ℤ) (left : Line)
    → HasPoints ws (points_at so_far) rest → IsFirstPoint rest p left → HasPoints ws (points_at (so_far ++ p ∷ [])) left
one_more_point ws so_far rest p left h first = record {
  sound = λ ps others. subst (ArePoints ws) (pushed_points so_far p ps)
      (h.sound (record { x = p.x; y = p.y } ∷ ps) (subst (λ l. ArePoints l (record { x = p.x; y = p.y } ∷ ps))
      (sym first.parts)
      (more first.x first.y others)));
  complete = λ ps all. let remaining = h.complete ps all in
      tail_points first.v first.w left remaining.0 (subst (λ l. ArePoints l remaining.0) first.parts remaining.1);
}

-- where no word is left, the points so far are those of the words
pub all_points : (ws : Line) (so_far : List Point) (rest : Line) → HasPoints ws so_far rest → rest ≡ [] →
    ArePoints ws so_far
all_points ws so_far rest h e = subst (ArePoints ws) (append-nil so_far)
    (h.sound [] (subst (λ l. ArePoints l []) (sym e) none))

-- ---- one point

-- two coordinates and no more are a point
pub point_given : (ws rest : Line) (p : IntPoint ℤ) → IsFirstPoint ws p rest → rest ≡ [] →
    GivesPoint (codes "point" ∷ ws) (plain_point (λ z. z) p)
point_given ws rest p first ended =
    let parts : ws ≡ first.v ∷ first.w ∷ [] = first.parts ∙ ap (λ l. first.v ∷ first.w ∷ l) ended in
    subst (λ l. GivesPoint (codes "point" ∷ l) (plain_point (λ z. z) p)) (sym parts) (point first.x first.y)

-- what gives a point is the coordinates of one point, in two words
one_point : (ws : Line) (p : Point) → GivesPoint (codes "point" ∷ ws) p → ArePoints ws (p ∷ [])
one_point ws p (point x y) = more x y none

two_words : (ws : Line) (p : Point) → GivesPoint (codes "point" ∷ ws) p → (v : Word) × ((w : Word) × (ws ≡ v ∷ w ∷ []))
two_words ws p (point x y) = (_, (_, refl))

pub no_point : (ws : Line) → ((ps : List Point) → ¬ (ArePoints ws ps)) →
    (p : Point) → ¬ (GivesPoint (codes "point" ∷ ws) p)
no_point ws bad p h = bad (p ∷ []) (one_point ws p h)

pub words_left_over : (ws rest others : Line) (next : Word) (p : IntPoint ℤ) → IsFirstPoint ws p rest →
    rest ≡ next ∷ others → (q : Point)
    → ¬ (GivesPoint (codes "point" ∷ ws) q)
words_left_over ws rest others next p first left q h =
    let two = two_words ws q h in
    let same : first.v ∷ first.w ∷ next ∷ others ≡ two.0 ∷ two.1.0 ∷ [] =
    sym (first.parts ∙ ap (λ l. first.v ∷ first.w ∷ l) left) ∙ two.1.1 in
    cc
