-- An input has one command, which is no figure, and its figures are a function of the lines before it.
use Rattle.std.proofs.Common.{◌≡◌, ℕ, ◌+◌, ◌==◌, cond, List, [], ◌∷◌, ◌++◌, drop, get_or, refl, sym, ap, ap₂}
use Rattle.std.proofs.Common.{◌∙◌, subst}
use Rattle.overlay_geom.specs.declared.options.ShapeType.TheVariants.{Subject, Clip}
use Rattle.polyover_text.specs.declared.query.Query.{Query}
use Rattle.polyover_text.specs.Grammar.{Line, GivenFigures, no_figures, before_contours, before_lines}
use Rattle.polyover_text.specs.Grammar.{before_points, AreFigures, none, blank, contour, open_path, point, IsCommand}
use Rattle.polyover_text.specs.OneInput.{OneInput}
use Rattle.polyover_text.proofs.GoodLines.{among_figures, command_is_not_plain}
use Rattle.polyover_text.proofs.OneCommand.{points_in, contour_of, contour_told, path_told, point_of, point_told}
use Rattle.polyover_text.proofs.OneCommand.{one_query}

-- ---- figures

-- what a line with words gives, by its first letter, before the others
abbrev by_line : ℕ → ℕ → Line → GivenFigures → GivenFigures
by_line letter n l fs = cond (letter == 108) (before_lines (points_in (drop 1 l)) fs)
    (cond (letter == 112) (before_points (point_of l) fs) (before_contours n (contour_of l) fs))

abbrev figures_in : ℕ → List Line → GivenFigures
figures_in n [] = no_figures
figures_in n ([] ∷ ls) = figures_in (n + 1) ls
figures_in n ((w ∷ ws) ∷ ls) = by_line (get_or w 0 0) n (w ∷ ws) (figures_in (n + 1) ls)

figures_told : (n : ℕ) (ls : List Line) (fs : GivenFigures) → AreFigures n ls fs → fs ≡ figures_in n ls
figures_told n ls fs none = refl
figures_told n ls fs (blank {ls = rest} more) = figures_told (n + 1) rest fs more
figures_told n ls _ (contour {c = c} {ls = rest} {fs = fs} (contour {shape_type = Subject} {ws = ws} {ps = ps} points)
    more) =
    ap₂ (before_contours n) (contour_told _ c (contour {shape_type = Subject} {ws = ws} {ps = ps} points))
    (figures_told (n + 1) rest fs more)
figures_told n ls _ (contour {c = c} {ls = rest} {fs = fs} (contour {shape_type = Clip} {ws = ws} {ps = ps} points)
    more) =
    ap₂ (before_contours n) (contour_told _ c (contour {shape_type = Clip} {ws = ws} {ps = ps} points))
    (figures_told (n + 1) rest fs more)
figures_told n ls _ (open_path {ps = ps} {ls = rest} {fs = fs} (open_path {ws = ws} points) more) =
    ap₂ before_lines (path_told _ ps (open_path {ws = ws} points)) (figures_told (n + 1) rest fs more)
figures_told n ls _ (point {p = p} {ls = rest} {fs = fs} (point {v = v} {w = w} a b) more) =
    ap₂ before_points (point_told _ p (point {v = v} {w = w} a b)) (figures_told (n + 1) rest fs more)

-- ---- the command

-- the lines behind the first one are figures too
behind_first : (n : ℕ) (l : Line) (ls : List Line) (fs : GivenFigures) → AreFigures n (l ∷ ls) fs →
    (gs : GivenFigures) × AreFigures (n + 1) ls gs
behind_first n l ls fs (blank more) = (_, more)
behind_first n l ls fs (contour first more) = (_, more)
behind_first n l ls fs (open_path first more) = (_, more)
behind_first n l ls fs (point first more) = (_, more)

first_same : (l m : Line) (ls ms : List Line) → l ∷ ls ≡ m ∷ ms → l ≡ m
first_same l m ls ms same = ap (λ zs. get_or zs 0 l) same

rest_same : (l m : Line) (ls ms : List Line) → l ∷ ls ≡ m ∷ ms → ls ≡ ms
rest_same l m ls ms same = ap (drop 1) same

-- figures alone stand before the command, so it stands at one place
one_place : (n : ℕ) (before others : List Line) (line other : Line) (after later : List Line) (fs gs : GivenFigures)
    (first second : Query) → before ++ line ∷ after ≡ others ++ other ∷ later → AreFigures n before fs →
    AreFigures n others gs → IsCommand line first → IsCommand other second → (before ≡ others) × (line ≡ other)
one_place n [] [] line other after later fs gs first second same are are' is is' =
    (refl, first_same line other after later same)
one_place n [] (l ∷ ls) line other after later fs gs first second same are are' is is' =
    absurd (command_is_not_plain l first
    (subst (λ m. IsCommand m first) (first_same line l after (ls ++ other ∷ later) same) is)
    (among_figures n [] l ls gs are'))
one_place n (l ∷ ls) [] line other after later fs gs first second same are are' is is' =
    absurd (command_is_not_plain l second
    (subst (λ m. IsCommand m second) (sym (first_same l other (ls ++ line ∷ after) later same)) is')
    (among_figures n [] l ls fs are))
one_place n (l ∷ ls) (m ∷ ms) line other after later fs gs first second same are are' is is' =
    let own = behind_first n l ls fs are in
    let others = behind_first n m ms gs are' in
    let more = one_place (n + 1) ls ms line other after later own.0 others.0 first second
    (rest_same l m (ls ++ line ∷ after) (ms ++ other ∷ later) same) own.1 others.1 is is' in
    (ap₂ (λ x xs. x ∷ xs) (first_same l m (ls ++ line ∷ after) (ms ++ other ∷ later) same) more.0, more.1)

-- the law
pub one_input : OneInput
one_input lines figures others first second a b =
    let place = one_place 1 a.before b.before a.line b.line a.after b.after figures others first second
    (sym a.parts ∙ b.parts) a.figures b.figures a.command b.command in (
      figures_told 1 a.before figures a.figures ∙ ap (figures_in 1) place.0
          ∙ sym (figures_told 1 b.before others b.figures),
      one_query a.line b.line first second place.1 a.command b.command,
    )
