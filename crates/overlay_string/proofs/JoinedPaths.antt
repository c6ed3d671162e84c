-- The paths that walks along open pieces make.
use Rattle.std.proofs.Common.{◌≡◌, ◌<◌, Bool, true, false, cond, List, [], ◌∷◌, ◌++◌, length, map, refl, sym, ap, ap₂}
use Rattle.std.proofs.Common.{◌∙◌}
use Rattle.std.proofs.Common.{subst, arith, ◌≤◌}
use Rattle.std.specs.Prelude.{reverse}
use Rattle.std.proofs.lemmas.List.{append_assoc, append-nil, map-append, map-id, length-map, reverse-append}
use Rattle.std.specs.Prelude.{Some, None}
use Rattle.overlay_geom.specs.Plane.{Point, Step, is_forward, reversed_step, backward}
use Rattle.overlay_string.specs.ClipPaths.{IsWalkFrom, IsPathOf, AreClipPaths, ArePathsOf, points_along}
use Rattle.overlay_string.specs.ClipPaths.IsWalkFrom.{stop, go}
use Rattle.overlay_string.specs.ClipPaths.IsPathOf.{begun, ended}
use Rattle.overlay_string.specs.ClipPaths.AreClipPaths.{done, next}
use Rattle.overlay_string.specs.Pieces.{GoesOn, IsShownPath, IsTakenFirst, turned, way_of}
use Rattle.overlay_string.specs.declared.piece.Way.{Way}
use Rattle.overlay_string.specs.declared.piece.Way.TheVariants.{Onward, Back}
use Rattle.overlay_string.proofs.WalksOn.{arrivals, no_more_left}

-- a list reversed behind its first item
last_first : {X : Type 0} (x : X) (xs ys : List X) → reverse (x ∷ xs) ++ ys ≡ reverse xs ++ x ∷ ys
last_first x xs ys = ap (λ l. l ++ ys) (reverse-append (x ∷ []) xs) ∙ append_assoc (reverse xs) (x ∷ []) ys

-- the points of a walk backwards, in front of steps that begin where it does
points_backward : (v : Point) (open_pieces walk rest : List Step) → IsWalkFrom v open_pieces walk rest →
    (s : Step) (ss : List Step) → s.from ≡ v
    → points_along (backward walk ++ s ∷ ss) ≡ reverse (arrivals walk) ++ points_along (s ∷ ss)
points_backward v open_pieces walk rest (stop none) s ss begins = refl
points_backward v open_pieces walk rest (go {left} {walk = ws} {s = w} taken h) s ss begins =
    ap points_along (last_first (reversed_step w) (map reversed_step ws) (s ∷ ss))
    ∙ points_backward w.to left ws rest h (reversed_step w) (s ∷ ss) refl
    ∙ ap (λ p. reverse (arrivals ws) ++ w.to ∷ p ∷ arrivals (s ∷ ss)) (taken.leaves ∙ sym begins)
    ∙ sym (last_first w.to (arrivals ws) (points_along (s ∷ ss)))

-- which way a piece tells
runs_forward : (forward : Bool) → cond forward Onward Back ≡ Onward → forward ≡ true
runs_forward true is = refl
runs_forward false is = absurd cc

runs_back : (forward : Bool) → cond forward Onward Back ≡ Back → forward ≡ false
runs_back true is = absurd cc
runs_back false is = refl

-- the ends of a piece, seen on the way
abbrev pub ends : Step → Way → List Point
ends s way = (turned way s).from ∷ (turned way s).to ∷ []

module _ (s : Step) (old new : List Step) (points : List Point) where
  -- the path of a piece that runs from its smaller end
  path_begun : is_forward s ≡ true → GoesOn Onward s.to old new (s.from ∷ s.to ∷ []) points →
      IsShownPath s old new points
  path_begun forward h = record {
    path = s ∷ h.walk;
    is = begun forward
        (subst (λ l. IsWalkFrom s.to old h.walk l) (map-id new)
        (subst (λ l. IsWalkFrom s.to l h.walk (map (λ t. t) new)) (map-id old) h.walks));
    shown = h.arrives;
  }

  -- and of one that runs back, of which the points were found from its end on
  path_ended : is_forward s ≡ false → (found : List Point) → GoesOn Back s.from old new (s.to ∷ s.from ∷ []) found
      → points ≡ reverse found → IsShownPath s old new points
  path_ended forward found h turned = record {
    path = backward h.walk ++ s ∷ [];
    is = ended forward h.walks;
    shown = turned ∙ ap reverse h.arrives
        ∙ sym (append-nil (reverse (s.to ∷ s.from ∷ arrivals h.walk)))
        ∙ last_first s.to (s.from ∷ arrivals h.walk) []
        ∙ last_first s.from (arrivals h.walk) (s.to ∷ [])
        ∙ sym (points_backward s.from (map reversed_step old) h.walk (map reversed_step new) h.walks s [] refl);
  }

  -- so what was found on the way that the piece tells are the points of its path, or these from the last one back
  pub found_onward : (way : Way) → way ≡ way_of s → way ≡ Onward
      → GoesOn way (turned way s).to old new (ends s way) points → IsShownPath s old new points
  found_onward Onward is same on = path_begun (runs_forward (is_forward s) (sym is)) on
  found_onward Back is same on = absurd cc

  pub found_back : (way : Way) → way ≡ way_of s → way ≡ Back → (found : List Point)
      → GoesOn way (turned way s).to old new (ends s way) found → points ≡ reverse found → IsShownPath s old new points
  found_back Onward is same found on turned_round = absurd cc
  found_back Back is same found on turned_round = path_ended (runs_back (is_forward s) (sym is)) found on turned_round

-- a path leaves no more pieces open than there were behind its first one
no_more_behind : (s : Step) (old path new : List Step) → IsPathOf s old path new → length new ≤ length old
no_more_behind s old path new (begun {walk} forward h) = no_more_left s.to old walk new h
no_more_behind s old path new (ended {walk} forward h) =
    let fewer = no_more_left s.from (map reversed_step old) walk (map reversed_step new) h in
    let was = length-map old reversed_step in
    let is = length-map new reversed_step in
    omega arith

-- so a path leaves fewer pieces
pub path_leaves_fewer : (now mid : List Step) (s : Step) → IsTakenFirst now mid (Some s) → (new : List Step)
    (points : List Point) → IsShownPath s mid new points → length new < length now
path_leaves_fewer now mid s taken new points p =
    let none_more = no_more_behind s mid p.path new p.is in
    let all = ap length taken in
    omega arith

-- the paths so far are the first ones; with those of what is open they are all
pub record AreJoinedSoFar (old now : List Step) (paths : List (List Point)) : Type 0 where
  pub walks : List (List Step)
  pub shown : paths ≡ map points_along walks
  pub goes_on : (rest : List (List Step)) → AreClipPaths now rest → AreClipPaths old (walks ++ rest)

-- at first there is none
pub none_joined : (old : List Step) → AreJoinedSoFar old old []
none_joined old = record { walks = []; shown = refl; goes_on = λ rest on. on }

module _ (old now mid : List Step) (paths : List (List Point)) (h : AreJoinedSoFar old now paths) where
  -- one more
  pub one_more_joined : (s : Step) → IsTakenFirst now mid (Some s) → (new : List Step) (points : List Point) →
      IsShownPath s mid new points
      → (more : List (List Point)) → more ≡ paths ++ points ∷ [] → AreJoinedSoFar old new more
  one_more_joined s taken new points p more more_is = record {
    walks = h.walks ++ p.path ∷ [];
    shown = more_is ∙ ap₂ (λ l q. l ++ q ∷ []) h.shown p.shown
        ∙ sym (map-append points_along h.walks (p.path ∷ []));
    goes_on = λ rest on.
        subst (AreClipPaths old) (sym (append_assoc h.walks (p.path ∷ []) rest))
        (h.goes_on (p.path ∷ rest)
        (subst (λ l. AreClipPaths l (p.path ∷ rest)) (sym taken) (next p.is on)));
  }

  -- or there is none left
  pub all_joined : IsTakenFirst now mid None → ArePathsOf old paths
  all_joined taken = record {
    walks = h.walks;
    joined = subst (AreClipPaths old) (append-nil h.walks)
        (h.goes_on [] (subst (λ l. AreClipPaths l []) (sym taken.0) done));
    shown = h.shown;
  }
