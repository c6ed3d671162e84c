-- Which line may follow good lines: a blank one always, a figure or the command while there is no command, and no
-- other.
use Rattle.std.proofs.Common.{◌≡◌, ℕ, suc, ◌+◌, List, [], ◌∷◌, ◌++◌, Option, Some, None, All, codes, length}
use Rattle.std.proofs.Common.{length-append}
use Rattle.std.proofs.Common.{get_or, refl, sym, ap, subst, ◌∙◌, ◌⊎◌, inl, inr, append_assoc, arith}
use Rattle.std.proofs.lemmas.List.Elements.{All-nil, All-push}
use Rattle.std.proofs.lemmas.List.{get_or_push, get_or-append-add, same_from_push}
use Rattle.overlay_order.specs.Paths.{GivenPath}
use Rattle.polyover_text.specs.declared.query.NumberedQuery.{NumberedQuery}
use Rattle.polyover_text.specs.declared.query.Query.{Query}
use Rattle.polyover_text.specs.Grammar.{Word, Line, shape_name, GivesContour, contour, GivesPoint, point, IsCommand}
use Rattle.polyover_text.specs.Grammar.{GivesOpenPath, open_path, clip_lines, slice, tiles, AsksAt}
use Rattle.polyover_text.specs.Grammar.{edges, overlay, hierarchy, relate, contains, locate, Asks, IsGoodSoFar}
use Rattle.polyover_text.specs.Grammar.{GivenFigures, no_figures, before_contours, AreFigures, none, blank}
use Rattle.overlay_geom.specs.Plane.{Point}
use Rattle.overlay_geom.specs.declared.options.ShapeType.{ShapeType}
use Rattle.overlay_geom.specs.declared.options.ShapeType.TheVariants.{Subject, Clip}
use Rattle.polyover_text.specs.Inputs.{Give}
use Rattle.polyover_text.specs.Statements.{SaysNothing}

-- ---- lines that may follow

-- a contour after the others
abbrev pub after_contours : GivenFigures → ℕ → GivenPath → GivenFigures
after_contours fs n c = record fs { contours = fs.contours ++ record { line = n; path = c } ∷ [] }

one_more_blank : (n : ℕ) (ls : List Line) (fs : GivenFigures) → AreFigures n ls fs → AreFigures n (ls ++ [] ∷ []) fs
one_more_blank n ls fs none = blank none
one_more_blank n ls fs (blank h) = blank (one_more_blank _ _ _ h)
one_more_blank n ls fs (contour first h) = contour first (one_more_blank _ _ _ h)
one_more_blank n ls fs (open_path first h) = open_path first (one_more_blank _ _ _ h)
one_more_blank n ls fs (point first h) = point first (one_more_blank _ _ _ h)

one_more_contour : (n : ℕ) (ls : List Line) (fs : GivenFigures) (l : Line) (c : GivenPath) (m : ℕ) →
    AreFigures n ls fs → GivesContour l c
    → n + length ls ≡ m → AreFigures n (ls ++ l ∷ []) (after_contours fs m c)
one_more_contour n ls fs l c m none last e =
    subst (λ k. AreFigures n (l ∷ []) (before_contours k c no_figures)) (omega (arith, e)) (contour last none)
one_more_contour n ls fs l c m (blank h) last e = blank (one_more_contour (n + 1) _ _ l c m h last (omega (arith, e)))
one_more_contour n ls fs l c m (contour first h) last e = contour first
    (one_more_contour (n + 1) _ _ l c m h last (omega (arith, e)))
one_more_contour n ls fs l c m (open_path first h) last e = open_path first
    (one_more_contour (n + 1) _ _ l c m h last (omega (arith, e)))
one_more_contour n ls fs l c m (point first h) last e = point first
    (one_more_contour (n + 1) _ _ l c m h last (omega (arith, e)))

-- an open path after the others
abbrev pub after_lines : GivenFigures → List Point → GivenFigures
after_lines fs ps = record fs { lines = fs.lines ++ ps ∷ [] }

pub one_more_path : (n : ℕ) (ls : List Line) (fs : GivenFigures) (l : Line) (ps : List Point) → AreFigures n ls fs →
    GivesOpenPath l ps
    → AreFigures n (ls ++ l ∷ []) (after_lines fs ps)
one_more_path n ls fs l ps none last = open_path last none
one_more_path n ls fs l ps (blank h) last = blank (one_more_path _ _ _ l ps h last)
one_more_path n ls fs l ps (contour first h) last = contour first (one_more_path _ _ _ l ps h last)
one_more_path n ls fs l ps (open_path first h) last = open_path first (one_more_path _ _ _ l ps h last)
one_more_path n ls fs l ps (point first h) last = point first (one_more_path _ _ _ l ps h last)

-- a point after the others
abbrev pub after_points : GivenFigures → Point → GivenFigures
after_points fs p = record fs { points = fs.points ++ p ∷ [] }

pub one_more_point : (n : ℕ) (ls : List Line) (fs : GivenFigures) (l : Line) (p : Point) → AreFigures n ls fs →
    GivesPoint l p
    → AreFigures n (ls ++ l ∷ []) (after_points fs p)
one_more_point n ls fs l p none last = point last none
one_more_point n ls fs l p (blank h) last = blank (one_more_point _ _ _ l p h last)
one_more_point n ls fs l p (contour first h) last = contour first (one_more_point _ _ _ l p h last)
one_more_point n ls fs l p (open_path first h) last = open_path first (one_more_point _ _ _ l p h last)
one_more_point n ls fs l p (point first h) last = point first (one_more_point _ _ _ l p h last)

-- blank lines and one more
all_blank : (ls : List Line) → All (λ l. l ≡ []) ls → All (λ l. l ≡ []) (ls ++ [] ∷ [])
all_blank ls h = All-push (λ l. l ≡ []) ls [] h refl

pub takes_blank : (ls : List Line) (fs : GivenFigures) (command : Option NumberedQuery) (l : Line) →
    Give ls fs command → l ≡ [] → Give (ls ++ l ∷ []) fs command
takes_blank ls fs None l h e = subst (λ x. AreFigures 1 (ls ++ x ∷ []) fs) (sym e) (one_more_blank 1 ls fs h)
takes_blank ls fs (Some asked) l h e = record {
  asks = record {
    before = h.asks.before;
    line = h.asks.line;
    after = h.asks.after ++ l ∷ [];
    parts = ap (λ x. x ++ l ∷ []) h.asks.parts ∙ append_assoc h.asks.before (h.asks.line ∷ h.asks.after) (l ∷ []);
    figures = h.asks.figures;
    command = h.asks.command;
    blank = subst (λ x. All (λ y. y ≡ []) (h.asks.after ++ x ∷ [])) (sym e) (all_blank h.asks.after h.asks.blank);
  };
  number = h.number;
}

pub takes_command : (ls : List Line) (fs : GivenFigures) (l : Line) (n : ℕ) (query : Query) → AreFigures 1 ls fs →
    IsCommand l query → n ≡ length ls + 1 → AsksAt (ls ++ l ∷ []) fs n query
takes_command ls fs l n query h command next = record {
  asks = record {
    before = ls;
    line = l;
    after = [];
    parts = refl;
    figures = h;
    command = command;
    blank = All-nil (λ y. y ≡ []);
  };
  number = next;
}

pub takes_contour : (ls : List Line) (fs : GivenFigures) (l : Line) (c : GivenPath) (n : ℕ) → AreFigures 1 ls fs →
    GivesContour l c → n ≡ length ls + 1
    → AreFigures 1 (ls ++ l ∷ []) (after_contours fs n c)
takes_contour ls fs l c n h last e = one_more_contour 1 ls fs l c n h last (omega (arith, e))

-- ---- lines that may not

-- the line is blank, or gives a figure
abbrev IsPlain : Line → Type 0
IsPlain l = (l ≡ []) ⊎ (((c : GivenPath) × GivesContour l c) ⊎ (((ps : List Point) × GivesOpenPath l ps)
    ⊎ ((p : Point) × GivesPoint l p)))

-- so is each line among figures
pub among_figures : (n : ℕ) (before : List Line) (l : Line) (after : List Line) (fs : GivenFigures) →
    AreFigures n (before ++ l ∷ after) fs → IsPlain l
among_figures n [] l after fs (blank h) = inl refl
among_figures n [] l after fs (contour first h) = inr (inl (_, first))
among_figures n [] l after fs (open_path first h) = inr (inr (inl (_, first)))
among_figures n [] l after fs (point first h) = inr (inr (inr (_, first)))
among_figures n (b ∷ before) l after fs (blank h) = among_figures (n + 1) before l after _ h
among_figures n (b ∷ before) l after fs (contour first h) = among_figures (n + 1) before l after _ h
among_figures n (b ∷ before) l after fs (open_path first h) = among_figures (n + 1) before l after _ h
among_figures n (b ∷ before) l after fs (point first h) = among_figures (n + 1) before l after _ h

-- a contour's line begins with the name of its shape
contour_begins : (l : Line) (c : GivenPath) → GivesContour l c → (ws : List Word) × (l ≡ shape_name c.shape_type ∷ ws)
contour_begins l c (contour h) = (_, refl)

path_begins : (l : Line) (ps : List Point) → GivesOpenPath l ps → (ws : List Word) × (l ≡ codes "line" ∷ ws)
path_begins l ps (open_path h) = (_, refl)

point_begins : (l : Line) (p : Point) → GivesPoint l p → (ws : List Word) × (l ≡ codes "point" ∷ ws)
point_begins l p (point x y) = (_, refl)

no_shape_is_run : (shape_type : ShapeType) → codes "run" ≡ shape_name shape_type → ⊥
no_shape_is_run Subject e = cc
no_shape_is_run Clip e = cc

first_word : (v w : Word) (vs ws : List Word) → v ∷ vs ≡ w ∷ ws → v ≡ w
first_word v w vs ws e = cc

-- a line that begins with `run` is not blank and gives no figure
run_is_not_plain : (ws : List Word) → ¬ (IsPlain (codes "run" ∷ ws))
run_is_not_plain ws (inl e) = cc
run_is_not_plain ws (inr (inr (inl h))) = let begins = path_begins _ h.0 h.1 in let e = begins.1 in cc
run_is_not_plain ws (inr (inr (inr h))) = let begins = point_begins _ h.0 h.1 in let e = begins.1 in cc
run_is_not_plain ws (inr (inl h)) =
    let begins = contour_begins _ h.0 h.1 in
    no_shape_is_run h.0.shape_type (first_word _ _ _ _ begins.1)

command_begins : (l : Line) (query : Query) → IsCommand l query → (ws : List Word) × (l ≡ codes "run" ∷ ws)
command_begins l query edges = (_, refl)
command_begins l query (overlay options) = (_, refl)
command_begins l query (hierarchy options) = (_, refl)
command_begins l query relate = (_, refl)
command_begins l query (clip_lines named) = (_, refl)
command_begins l query slice = (_, refl)
command_begins l query (tiles named) = (_, refl)
command_begins l query contains = (_, refl)
command_begins l query locate = (_, refl)

pub command_is_not_plain : (l : Line) (query : Query) → IsCommand l query → ¬ (IsPlain l)
command_is_not_plain l query h plain = let begins = command_begins l query h in
    run_is_not_plain begins.0 (subst IsPlain begins.1 plain)

-- the last line of an input is blank, or its command, which figures alone precede
last_from_parts : (ls before after : List Line) (l line : Line) (fs : GivenFigures) (query : Query) →
    ls ++ l ∷ [] ≡ before ++ line ∷ after
    → AreFigures 1 before fs → IsCommand line query → All (λ x. x ≡ []) after
    → (l ≡ []) ⊎ (IsCommand l query × AreFigures 1 ls fs)
last_from_parts ls before [] l line fs query parts figures command quiet =
    let same = same_from_push ls before l line parts in
    inr (subst (λ x. IsCommand x query) (sym same.1) command, subst (λ x. AreFigures 1 x fs) (sym same.0) figures)
last_from_parts ls before (a ∷ after) l line fs query parts figures command quiet =
    let k = length after in
    let lengths : length ls ≡ length before + suc k = omega (
      arith,
      ap length parts,
      length-append ls (l ∷ []),
      length-append before (line ∷ a ∷ after),
    ) in
    let here : get_or (ls ++ l ∷ []) (length ls) l ≡ l = get_or_push ls l l (length ls) refl in
    let there : get_or (before ++ line ∷ a ∷ after) (length before + suc k) l ≡ get_or (a ∷ after) k l =
    get_or-append-add before (line ∷ a ∷ after) (suc k) l in
    inl (sym here ∙ ap (λ xs. get_or xs (length ls) l) parts ∙ ap (λ n. get_or (before ++ line ∷ a ∷ after) n l) lengths
    ∙ there ∙ quiet k l (omega arith))

last_of_input : (ls : List Line) (l : Line) (fs : GivenFigures) (query : Query) → Asks (ls ++ l ∷ []) fs query
    → (l ≡ []) ⊎ (IsCommand l query × AreFigures 1 ls fs)
last_of_input ls l fs query h = last_from_parts ls h.before h.after l h.line fs query h.parts h.figures
    h.command h.blank

-- figures hold no command
pub no_command_among : (ls : List Line) (fs gs : GivenFigures) (query : Query) → Asks ls fs query →
    AreFigures 1 ls gs → ⊥
no_command_among ls fs gs query h figures =
    command_is_not_plain h.line query h.command
    (among_figures 1 h.before h.line h.after gs (subst (λ x. AreFigures 1 x gs) h.parts figures))

not_plain : (l : Line) → SaysNothing l → ¬ (IsPlain l)
not_plain l bad (inl e) = bad.some_word e
not_plain l bad (inr (inl h)) = bad.no_contour h.0 h.1
not_plain l bad (inr (inr (inl h))) = bad.no_path h.0 h.1
not_plain l bad (inr (inr (inr h))) = bad.no_point h.0 h.1

pub refuses_nothing : (ls : List Line) (l : Line) → SaysNothing l → ¬ (IsGoodSoFar (ls ++ l ∷ []))
refuses_nothing ls l bad (inl h) = not_plain l bad (among_figures 1 ls l [] h.0 h.1)
refuses_nothing ls l bad (inr h) = elim (last_of_input ls l h.0 h.1.0 h.1.1)
    [ inl e ↦ bad.some_word e | inr c ↦ bad.no_command h.1.0 c.0 ]

-- the lines without the last are figures too
before_last : (n : ℕ) (ls : List Line) (l : Line) (fs : GivenFigures) → AreFigures n (ls ++ l ∷ []) fs →
    (gs : GivenFigures) × AreFigures n ls gs
before_last n [] l fs h = (no_figures, none)
before_last n (x ∷ ls) l fs (blank h) = let rest = before_last (n + 1) ls l _ h in (rest.0, blank rest.1)
before_last n (x ∷ ls) l fs (contour first h) = let rest = before_last (n + 1) ls l _ h in (_, contour first rest.1)
before_last n (x ∷ ls) l fs (open_path first h) =
    let rest = before_last (n + 1) ls l _ h in (_, open_path first rest.1)
before_last n (x ∷ ls) l fs (point first h) = let rest = before_last (n + 1) ls l _ h in (_, point first rest.1)

pub refuses_word : (ls : List Line) (fs : GivenFigures) (query : Query) (l : Line) → Asks ls fs query → ¬ (l ≡ []) →
    ¬ (IsGoodSoFar (ls ++ l ∷ []))
refuses_word ls fs query l h some (inl g) = let rest = before_last 1 ls l g.0 g.1 in
    no_command_among ls fs rest.0 query h rest.1
refuses_word ls fs query l h some (inr g) = elim (last_of_input ls l g.0 g.1.0 g.1.1)
    [ inl e ↦ some e | inr c ↦ no_command_among ls fs g.0 query h c.1 ]
