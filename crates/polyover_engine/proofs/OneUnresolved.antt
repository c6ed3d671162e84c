-- The first contour that is not resolved is one, and so is the number of the line in which the command stands.
use Rattle.std.proofs.Common.{◌≡◌, ℕ, suc, ◌+◌, List, [], ◌∷◌, ◌++◌, length, Contains, All, refl, sym, ap}
use Rattle.std.proofs.Common.{subst, ◌∙◌}
use Rattle.std.proofs.lemmas.List.Elements.{All-head, All-contains, Contains-append_right}
use Rattle.overlay_geom.specs.Resolved.{IsResolved}
use Rattle.overlay_geom.specs.declared.options.ShapeType.TheVariants.{Subject}
use Rattle.overlay_geom.proofs.Entries.{Contains-head, same_head, same_tail}
use Rattle.overlay_plane.proofs.Entries.{All-first, All-rest, Contains-flat_map}
use Rattle.polyover_text.specs.declared.query.Query.{Query}
use Rattle.polyover_text.specs.Grammar.{Line, GivenFigures, GivenContour, AreFigures, blank, contour, open_path, point}
use Rattle.polyover_text.specs.Grammar.{IsCommand, AsksAt}
use Rattle.polyover_text.proofs.GoodLines.{among_figures, command_is_not_plain}
use Rattle.polyover_engine.specs.Subjects.{subject_part, subject_of, IsFirstUnresolved}

-- ---- contours

-- where all of a subject is resolved its first contour is
first_resolved : (c : GivenContour) (cs : List GivenContour) → All IsResolved (subject_of (c ∷ cs)) →
    c.path.shape_type ≡ Subject → IsResolved c.path.points
first_resolved c cs all of_subject = All-head IsResolved c.path.points []
    (subst (λ t. All IsResolved (subject_part t c.path.points)) of_subject
    (All-first IsResolved (subject_part c.path.shape_type c.path.points) (subject_of cs) all))

-- and so are the others
later_resolved : (c : GivenContour) (cs : List GivenContour) → All IsResolved (subject_of (c ∷ cs)) →
    All IsResolved (subject_of cs)
later_resolved c cs all = All-rest IsResolved (subject_part c.path.shape_type c.path.points) (subject_of cs) all

-- a contour of the subject is not resolved
abbrev Unresolved : GivenContour → Type 0
Unresolved c = (c.path.shape_type ≡ Subject) × (¬ (IsResolved c.path.points))

-- where those before it are resolved it is one
first_once : (before others after later : List GivenContour) (c d : GivenContour) →
    before ++ c ∷ after ≡ others ++ d ∷ later → All IsResolved (subject_of before) →
    All IsResolved (subject_of others) → Unresolved c → Unresolved d → c ≡ d
first_once [] [] after later c d same all all' un un' = same_head c d after later same
first_once [] (o ∷ others) after later c d same all all' un un' =
    let is = same_head c o after (others ++ d ∷ later) same in
    absurd (un.1 (subst (λ (x : GivenContour). IsResolved x.path.points) (sym is)
    (first_resolved o others all' (subst (λ (x : GivenContour). x.path.shape_type ≡ Subject) is un.0))))
first_once (b ∷ before) [] after later c d same all all' un un' =
    let is = sym (same_head b d (before ++ c ∷ after) later same) in
    absurd (un'.1 (subst (λ (x : GivenContour). IsResolved x.path.points) (sym is)
    (first_resolved b before all (subst (λ (x : GivenContour). x.path.shape_type ≡ Subject) is un'.0))))
first_once (b ∷ before) (o ∷ others) after later c d same all all' un un' =
    first_once before others after later c d (same_tail b o (before ++ c ∷ after) (others ++ d ∷ later) same)
    (later_resolved b before all) (later_resolved o others all') un un'

pub one_unresolved : (cs : List GivenContour) (n m : ℕ) → IsFirstUnresolved cs n → IsFirstUnresolved cs m → n ≡ m
one_unresolved cs n m a b = a.number
    ∙ ap (λ (c : GivenContour). c.line) (first_once a.before b.before a.after b.after a.contour b.contour
    (sym a.parts ∙ b.parts) a.resolved b.resolved (a.of_subject, a.unresolved) (b.of_subject, b.unresolved))
    ∙ sym b.number

-- and then not all of the subject is resolved
pub not_all_resolved : (cs : List GivenContour) (n : ℕ) → IsFirstUnresolved cs n → ¬ (All IsResolved (subject_of cs))
not_all_resolved cs n first all = first.unresolved (All-contains IsResolved (subject_of cs) first.contour.path.points
    all
    (Contains-flat_map (λ (c : GivenContour). subject_part c.path.shape_type c.path.points) cs first.contour
    first.contour.path.points
    (subst (λ ds. Contains ds first.contour) (sym first.parts)
    (Contains-append_right first.before (first.contour ∷ first.after) first.contour
    (Contains-head first.contour first.after)))
    (subst (λ t. Contains (subject_part t first.contour.path.points) first.contour.path.points)
    (sym first.of_subject) (Contains-head first.contour.path.points []))))

-- ---- the command

-- the lines behind the first one are figures too
behind_first : (k : ℕ) (l : Line) (ls : List Line) (fs : GivenFigures) → AreFigures k (l ∷ ls) fs →
    (gs : GivenFigures) × AreFigures (k + 1) ls gs
behind_first k l ls fs (blank more) = (_, more)
behind_first k l ls fs (contour first more) = (_, more)
behind_first k l ls fs (open_path first more) = (_, more)
behind_first k l ls fs (point first more) = (_, more)

-- as many lines stand before the command
same_length : (k : ℕ) (before others : List Line) (line other : Line) (after later : List Line) (fs gs : GivenFigures)
    (first second : Query) → before ++ line ∷ after ≡ others ++ other ∷ later → AreFigures k before fs →
    AreFigures k others gs → IsCommand line first → IsCommand other second → length before ≡ length others
same_length k [] [] line other after later fs gs first second same are are' is is' = refl
same_length k [] (l ∷ ls) line other after later fs gs first second same are are' is is' =
    absurd (command_is_not_plain l first
    (subst (λ m. IsCommand m first) (same_head line l after (ls ++ other ∷ later) same) is)
    (among_figures k [] l ls gs are'))
same_length k (l ∷ ls) [] line other after later fs gs first second same are are' is is' =
    absurd (command_is_not_plain l second
    (subst (λ m. IsCommand m second) (sym (same_head l other (ls ++ line ∷ after) later same)) is')
    (among_figures k [] l ls fs are))
same_length k (l ∷ ls) (m ∷ ms) line other after later fs gs first second same are are' is is' =
    let own = behind_first k l ls fs are in
    let theirs = behind_first k m ms gs are' in
    ap suc (same_length (k + 1) ls ms line other after later own.0 theirs.0 first second
    (same_tail l m (ls ++ line ∷ after) (ms ++ other ∷ later) same) own.1 theirs.1 is is')

pub same_number : (ls : List Line) (fs gs : GivenFigures) (first second : Query) (n m : ℕ) → AsksAt ls fs n first →
    AsksAt ls gs m second → n ≡ m
same_number ls fs gs first second n m a b = a.number
    ∙ ap (λ k. k + 1) (same_length 1 a.asks.before b.asks.before a.asks.line b.asks.line a.asks.after b.asks.after fs gs
    first second (sym a.asks.parts ∙ b.asks.parts) a.asks.figures b.asks.figures a.asks.command b.asks.command)
    ∙ sym b.number
