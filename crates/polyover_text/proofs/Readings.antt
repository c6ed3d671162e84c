-- What the program holds of the lines so far, when it takes one more line or refuses it.
use Rattle.std.proofs.Common.{◌≡◌, ℕ, ◌+◌, ℤ, List, [], ◌∷◌, ◌++◌, Option, Some, None, map, length, refl, sym, ap}
use Rattle.std.proofs.Common.{subst, ◌∙◌}
use Rattle.std.specs.Prelude.{Vec}
use Rattle.std.proofs.lemmas.List.{map_push}
use Rattle.polyover_text.specs.declared.query.NumberedQuery.{NumberedQuery}
use Rattle.polyover_text.specs.declared.query.Query.{Query}
use Rattle.polyover_text.specs.declared.figures.Figures.{Figures}
use Rattle.polyover_text.specs.declared.figures.NumberedContour.{NumberedContour}
use Rattle.polyover_text.specs.declared.input.Reading.{Reading}
use Rattle.polyover_text.specs.declared.statement.Statement.{Statement}
use Rattle.polyover_text.specs.declared.statement.Statement.TheVariants.{Blank, Contour, OpenPath, Point, Run}
use Rattle.polyover_text.specs.Grammar.{Line, GivesContour, contour, GivesPoint, point, IsCommand, edges, overlay}
use Rattle.polyover_text.specs.Grammar.{hierarchy, relate, clip_lines, slice, tiles, contains, locate, AreFigures}
use Rattle.polyover_text.specs.Grammar.{GivesOpenPath, open_path}
use Rattle.overlay_geom.specs.Points.{plain_point}
use Rattle.overlay_geom.specs.declared.point.IntPoint.{IntPoint}
use Rattle.polyover_text.specs.Inputs.{Give, RefusesLine}
use Rattle.polyover_text.specs.Statements.{path_at, contour_at, contours_at, figures_at, Says}
use Rattle.polyover_text.specs.Points.{points_at}
use Rattle.polyover_text.proofs.GoodLines.{takes_contour, one_more_path, one_more_point, refuses_word}

contour_has_word : (l : Line) (c : _) → GivesContour l c → l ≡ [] → ⊥
contour_has_word l c (contour h) e = cc

command_has_word : (l : Line) (query : Query) → IsCommand l query → l ≡ [] → ⊥
command_has_word l query edges e = cc
command_has_word l query (overlay options) e = cc
command_has_word l query (hierarchy options) e = cc
command_has_word l query relate e = cc
command_has_word l query (clip_lines named) e = cc
command_has_word l query slice e = cc
command_has_word l query (tiles named) e = cc
command_has_word l query contains e = cc
command_has_word l query locate e = cc

path_has_word : (l : Line) (ps : _) → GivesOpenPath l ps → l ≡ [] → ⊥
path_has_word l ps (open_path h) e = cc

point_has_word : (l : Line) (p : _) → GivesPoint l p → l ≡ [] → ⊥
point_has_word l p (point x y) e = cc

-- a line that is not blank has a word
has_word : {A : Type 0} (l : Line) (s : Statement A) → Says l s → (s ≡ Blank → ⊥) → l ≡ [] → ⊥
has_word l Blank says other e = other refl
has_word l (Contour c) says other e = contour_has_word l (path_at c) says e
has_word l (OpenPath ps) says other e = path_has_word l (points_at ps.items) says e
has_word l (Point p) says other e = point_has_word l (plain_point (λ z. z) p) says e
has_word l (Run query) says other e = command_has_word l query says e

-- after the command no word may come
pub refuses_after_command : {A : Type 0} (l : Line) (r : Reading A) (s : Statement A) (q : NumberedQuery) →
    Says l s → (s ≡ Blank → ⊥)
    → r.command ≡ Some q → RefusesLine l r
refuses_after_command l r s q says other held = record {
  refuses = λ ls h. refuses_word ls (figures_at r.figures) q.query l
      (subst (Give ls (figures_at r.figures)) held h).asks (has_word l s says other);
}

-- a contour is held last
pub takes_pushed : {A : Type 0} (ls : List Line) (l : Line) (old new : Figures A) (c : NumberedContour A) (n : ℕ)
    (command : Option NumberedQuery) → command ≡ None
    → new ≡ record old { contours = new.contours } → new.contours.items ≡ old.contours.items ++ c ∷ [] → c.line ≡ n
    → n ≡ length ls + 1
    → GivesContour l (path_at c.contour) → Give ls (figures_at old) command
    → Give (ls ++ l ∷ []) (figures_at new) command
takes_pushed ls l old new c n command none kept pushed numbered next says h =
    let held = sym (ap contours_at pushed ∙ map_push contour_at old.contours.items c) in
    subst (λ q. Give (ls ++ l ∷ []) (figures_at new) q) (sym none)
    (subst (λ fs. AreFigures 1 (ls ++ l ∷ []) (figures_at fs)) (sym kept)
    (subst (λ cs. AreFigures 1 (ls ++ l ∷ []) (record (figures_at old) { contours = cs })) held
    (takes_contour ls (figures_at old) l (path_at c.contour) c.line (subst (Give ls (figures_at old)) none h) says
    (numbered ∙ next))))

-- an open path is held last
pub takes_path : {A : Type 0} (ls : List Line) (l : Line) (old new : Figures A) (path : Vec (IntPoint ℤ) A)
    (command : Option NumberedQuery) → command ≡ None
    → new ≡ record old { lines = new.lines } → new.lines.items ≡ old.lines.items ++ path ∷ []
    → GivesOpenPath l (points_at path.items) → Give ls (figures_at old) command
    → Give (ls ++ l ∷ []) (figures_at new) command
takes_path ls l old new path command none kept pushed says h =
    let held = sym (ap (map (λ ps. points_at ps.items)) pushed
    ∙ map_push (λ ps. points_at ps.items) old.lines.items path) in
    subst (λ q. Give (ls ++ l ∷ []) (figures_at new) q) (sym none)
    (subst (λ fs. AreFigures 1 (ls ++ l ∷ []) (figures_at fs)) (sym kept)
    (subst (λ paths. AreFigures 1 (ls ++ l ∷ []) (record (figures_at old) { lines = paths })) held
    (one_more_path 1 ls (figures_at old) l (points_at path.items) (subst (Give ls (figures_at old)) none h) says)))

-- a point is held last
pub takes_point : {A : Type 0} (ls : List Line) (l : Line) (old new : Figures A) (p : IntPoint ℤ)
    (command : Option NumberedQuery) → command ≡ None
    → new ≡ record old { points = new.points } → new.points.items ≡ old.points.items ++ p ∷ []
    → GivesPoint l (plain_point (λ z. z) p) → Give ls (figures_at old) command
    → Give (ls ++ l ∷ []) (figures_at new) command
takes_point ls l old new p command none kept pushed says h =
    let held = sym (ap (map (plain_point (λ z. z))) pushed ∙ map_push (plain_point (λ z. z)) old.points.items p) in
    subst (λ q. Give (ls ++ l ∷ []) (figures_at new) q) (sym none)
    (subst (λ fs. AreFigures 1 (ls ++ l ∷ []) (figures_at fs)) (sym kept)
    (subst (λ ps. AreFigures 1 (ls ++ l ∷ []) (record (figures_at old) { points = ps })) held
    (one_more_point 1 ls (figures_at old) l (plain_point (λ z. z) p) (subst (Give ls (figures_at old)) none h) says)))
