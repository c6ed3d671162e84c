-- What a line says, by its first word.
use Rattle.std.proofs.Common.{◌≡◌, ◌≢◌, List, ◌∷◌, codes, refl, sym, subst}
use Rattle.overlay_geom.specs.declared.options.ShapeType.{ShapeType}
use Rattle.overlay_geom.specs.declared.options.ShapeType.TheVariants.{Subject, Clip}
use Rattle.overlay_geom.specs.Plane.{Point}
use Rattle.overlay_order.specs.Paths.{GivenPath}
use Rattle.polyover_text.specs.declared.query.Query.{Query}
use Rattle.polyover_text.specs.Grammar.{Word, Line, shape_name, GivesContour, contour, GivesPoint, point, IsCommand}
use Rattle.polyover_text.specs.Grammar.{GivesOpenPath, open_path}
use Rattle.polyover_text.specs.Grammar.{edges, overlay, hierarchy, relate, clip_lines, slice, tiles, contains, locate}
use Rattle.polyover_text.specs.Statements.{SaysNothing}

first_of_contour : (f : Word) (ws : Line) (c : GivenPath) → GivesContour (f ∷ ws) c → f ≡ shape_name c.shape_type
first_of_contour f ws c (contour h) = refl

first_of_command : (f : Word) (ws : Line) (query : Query) → IsCommand (f ∷ ws) query → f ≡ codes "run"
first_of_command f ws query edges = refl
first_of_command f ws query (overlay options) = refl
first_of_command f ws query (hierarchy options) = refl
first_of_command f ws query relate = refl
first_of_command f ws query (clip_lines named) = refl
first_of_command f ws query slice = refl
first_of_command f ws query (tiles named) = refl
first_of_command f ws query contains = refl
first_of_command f ws query locate = refl

first_of_path : (f : Word) (ws : Line) (ps : List Point) → GivesOpenPath (f ∷ ws) ps → f ≡ codes "line"
first_of_path f ws ps (open_path h) = refl

first_of_point : (f : Word) (ws : Line) (p : Point) → GivesPoint (f ∷ ws) p → f ≡ codes "point"
first_of_point f ws p (point x y) = refl

no_shape : (f : Word) → f ≢ codes "subject" → f ≢ codes "clip" → (shape_type : ShapeType) → f ≢ shape_name shape_type
no_shape f subject clip Subject = subject
no_shape f subject clip Clip = clip

-- a line that begins with another word says nothing
pub nothing_by_first_word : (l : Line) (f : Word) (ws : Line) → l ≡ f ∷ ws → f ≢ codes "subject" → f ≢ codes "clip" →
    f ≢ codes "line" → f ≢ codes "point" → f ≢ codes "run"
    → SaysNothing l
nothing_by_first_word l f ws e subject clip lines points run = subst SaysNothing (sym e) (record {
  some_word = λ none. cc;
  no_contour = λ c h. no_shape f subject clip c.shape_type (first_of_contour f ws c h);
  no_path = λ ps h. lines (first_of_path f ws ps h);
  no_point = λ p h. points (first_of_point f ws p h);
  no_command = λ query h. run (first_of_command f ws query h);
})
