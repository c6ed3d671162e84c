-- The paths of a clip are determined by its pieces: at each point the first open piece there is one piece, and so is
-- what it leaves.
use Rattle.std.proofs.Common.{◌≡◌, ◌≢◌, List, [], ◌∷◌, ◌++◌, map, length, Contains, All, refl, sym, ap}
use Rattle.std.proofs.Common.{ap₂, ◌∙◌, subst, arith}
use Rattle.std.proofs.lemmas.Bool.{both_ways}
use Rattle.std.proofs.lemmas.List.Elements.{All-contains, All-head, All-tail, Contains-append_right}
use Rattle.overlay_geom.specs.Plane.{Point, Step, is_forward, reversed_step, backward}
use Rattle.overlay_geom.proofs.Entries.{Contains-head, same_head, same_tail}
use Rattle.overlay_extract.proofs.TurnedLoops.{again}
use Rattle.overlay_string.specs.ClipPaths.{TakesFirst, IsWalkFrom, IsPathOf, AreClipPaths, points_along}
use Rattle.overlay_string.specs.ClipPaths.IsWalkFrom.{stop, go}
use Rattle.overlay_string.specs.ClipPaths.IsPathOf.{begun, ended}
use Rattle.overlay_string.specs.ClipPaths.AreClipPaths.{done, next}
use Rattle.overlay_string.specs.OneClip.{OneClip}

-- ---- what is taken first

-- none of the steps leaves the point
abbrev NoneFrom : Point → List Step → Type 0
NoneFrom v steps = All (λ t. t.from ≢ v) steps

-- the first step that leaves a point is one, and so is what stands before it and behind it
first_once : (v : Point) (before others after later : List Step) (s t : Step) →
    before ++ s ∷ after ≡ others ++ t ∷ later → s.from ≡ v → t.from ≡ v → NoneFrom v before → NoneFrom v others →
    (before ≡ others) × (s ≡ t) × (after ≡ later)
first_once v [] [] after later s t same at_s at_t none none' =
    (refl, same_head s t after later same, same_tail s t after later same)
first_once v [] (b ∷ bs) after later s t same at_s at_t none none' =
    absurd (All-head (λ u. u.from ≢ v) b bs none'
    (ap (λ (u : Step). u.from) (sym (same_head s b after (bs ++ t ∷ later) same)) ∙ at_s))
first_once v (a ∷ rest) [] after later s t same at_s at_t none none' =
    absurd (All-head (λ u. u.from ≢ v) a rest none
    (ap (λ (u : Step). u.from) (same_head a t (rest ++ s ∷ after) later same) ∙ at_t))
first_once v (a ∷ rest) (b ∷ bs) after later s t same at_s at_t none none' =
    let more = first_once v rest bs after later s t (same_tail a b (rest ++ s ∷ after) (bs ++ t ∷ later) same) at_s at_t
    (All-tail (λ u. u.from ≢ v) a rest none) (All-tail (λ u. u.from ≢ v) b bs none') in
    (ap₂ (λ x xs. x ∷ xs) (same_head a b (rest ++ s ∷ after) (bs ++ t ∷ later) same) more.0, more.1, more.2)

taken_once : (v : Point) (open_pieces : List Step) (s t : Step) (left others : List Step) →
    TakesFirst v open_pieces s left → TakesFirst v open_pieces t others → (s ≡ t) × (left ≡ others)
taken_once v open_pieces s t left others a b =
    let one = first_once v a.before b.before a.after b.after s t (sym a.parts ∙ b.parts) a.leaves b.leaves a.first
    b.first in
    (one.1, a.stays ∙ ap₂ (λ x y. x ++ y) one.0 one.2 ∙ sym b.stays)

-- where a piece is taken some piece leaves the point
not_none : (v : Point) (open_pieces left : List Step) (s : Step) → TakesFirst v open_pieces s left →
    ¬ (NoneFrom v open_pieces)
not_none v open_pieces left s takes none =
    All-contains (λ u. u.from ≢ v) open_pieces s none (subst (λ ss. Contains ss s) (sym takes.parts)
    (Contains-append_right takes.before (s ∷ takes.after) s (Contains-head s takes.after))) takes.leaves

-- ---- walks

one_walk_from : (v : Point) (open_pieces walk other rest left : List Step) → IsWalkFrom v open_pieces walk rest →
    IsWalkFrom v open_pieces other left → (walk ≡ other) × (rest ≡ left)
one_walk_from v open_pieces walk other rest left (stop none) (stop none') = (refl, refl)
one_walk_from v open_pieces walk other rest left (stop none) (go {left = after} {s = s} takes more) =
    absurd (not_none v open_pieces after s takes none)
one_walk_from v open_pieces walk other rest left (go {left = after} {s = s} takes more) (stop none) =
    absurd (not_none v open_pieces after s takes none)
one_walk_from v open_pieces walk other rest left (go {left = after} {walk = ss} {s = s} takes more)
    (go {left = later} {walk = ts} {s = t} takes' more') =
    let one = taken_once v open_pieces s t after later takes takes' in
    let alike = subst (λ (u : Step). IsWalkFrom u.to after ts left) (sym one.0)
    (subst (λ ps. IsWalkFrom t.to ps ts left) (sym one.1) more') in
    let walks = one_walk_from s.to after ss ts rest left more alike in
    (ap₂ (λ x xs. x ∷ xs) one.0 walks.0, walks.1)

-- ---- paths

one_path : (s : Step) (open_pieces path other rest left : List Step) → IsPathOf s open_pieces path rest →
    IsPathOf s open_pieces other left → (path ≡ other) × (rest ≡ left)
one_path s open_pieces path other rest left (begun {walk = v} on walk) (begun {walk = w} on' walk') =
    let one = one_walk_from s.to open_pieces v w rest left walk walk' in (ap (λ ss. s ∷ ss) one.0, one.1)
one_path s open_pieces path other rest left (begun on walk) (ended back walk') =
    absurd (both_ways (is_forward s) back on)
one_path s open_pieces path other rest left (ended back walk) (begun on walk') =
    absurd (both_ways (is_forward s) back on)
one_path s open_pieces path other rest left (ended {walk = v} back walk) (ended {walk = w} back' walk') =
    let one = one_walk_from s.from (map reversed_step open_pieces) v w (map reversed_step rest)
    (map reversed_step left) walk walk' in (
      ap (λ ss. backward ss ++ s ∷ []) one.0,
      sym (again rest) ∙ ap (map reversed_step) one.1 ∙ again left,
    )

one_list_of_paths : (pieces others : List Step) → pieces ≡ others → (paths ones : List (List Step)) →
    AreClipPaths pieces paths → AreClipPaths others ones → paths ≡ ones
one_list_of_paths pieces others same paths ones done done = refl
one_list_of_paths pieces others same paths ones done (next path more) = let long = ap length same in
    absurd (omega arith)
one_list_of_paths pieces others same paths ones (next path more) done = let long = ap length same in
    absurd (omega arith)
one_list_of_paths pieces others same paths ones
    (next {s = s} {open_pieces = ss} {path = p} {rest = rest} {paths = ps} path more)
    (next {s = t} {open_pieces = ts} {path = q} {rest = left} {paths = qs} path' more') =
    let alike = subst (λ u. IsPathOf u ss q left) (sym (same_head s t ss ts same))
    (subst (λ us. IsPathOf t us q left) (sym (same_tail s t ss ts same)) path') in
    let one = one_path s ss p q rest left path alike in
    ap₂ (λ x xs. x ∷ xs) one.0 (one_list_of_paths rest left one.1 ps qs more more')

-- the law
pub one_clip : OneClip
one_clip pieces first second a b = a.shown
    ∙ ap (map points_along) (one_list_of_paths pieces pieces refl a.walks b.walks a.joined b.joined) ∙ sym b.shown
