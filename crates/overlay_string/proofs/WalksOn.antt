-- Walks along open pieces, one piece after another.
use Rattle.std.proofs.Common.{◌≡◌, ◌<◌, ◌≤◌, List, [], ◌∷◌, ◌++◌, length, map, sym, ap, ◌∙◌, subst}
use Rattle.std.proofs.Common.{arith}
use Rattle.std.proofs.lemmas.List.{append_assoc, append-nil, map-append, length-append, length-map}
use Rattle.std.specs.Prelude.{Some}
use Rattle.overlay_geom.specs.Plane.{Point, Step}
use Rattle.overlay_string.specs.ClipPaths.{IsWalkFrom}
use Rattle.overlay_string.specs.ClipPaths.IsWalkFrom.{stop, go}
use Rattle.overlay_string.specs.Pieces.{turned, TakesNone, GoesOn, IsTakenAt}
use Rattle.overlay_string.specs.declared.piece.Way.{Way}

-- the points at which steps arrive
abbrev pub arrivals : List Step → List Point
arrivals ss = map (λ t. t.to) ss

-- a walk from v has come to a point; what it can go on by from there, it can go on by as a whole
pub record IsUnderWay (way : Way) (v at : Point) (old now : List Step) (path longer : List Point) : Type 0 where
  pub walk : List Step
  pub arrives : longer ≡ path ++ arrivals walk
  pub goes_on : (rest left : List Step) → IsWalkFrom at (map (turned way) now) rest left →
      IsWalkFrom v (map (turned way) old) (walk ++ rest) left

module _ (way : Way) (v : Point) (old : List Step) (path : List Point) where
  -- at first it has no step
  pub sets_out : IsUnderWay way v v old old path path
  sets_out = record { walk = []; arrives = sym (append-nil path); goes_on = λ rest left h. h }

  module _ (at : Point) (now new : List Step) (longer : List Point) (h : IsUnderWay way v at old now path longer) where
    -- one more
    pub one_step_more : (s : Step) → IsTakenAt way at now new (Some s) → (end : Point) → end ≡ (turned way s).to
        → (more : List Point) → more ≡ longer ++ end ∷ [] → IsUnderWay way v end old new path more
    one_step_more s taken end end_is more more_is = record {
      walk = h.walk ++ turned way s ∷ [];
      arrives = more_is ∙ ap (λ l. l ++ end ∷ []) h.arrives
          ∙ append_assoc path (arrivals h.walk) (end ∷ [])
          ∙ ap (λ p. path ++ (arrivals h.walk ++ p ∷ [])) end_is
          ∙ ap (λ l. path ++ l) (sym (map-append (λ (t : Step). t.to) h.walk (turned way s ∷ [])));
      goes_on = λ rest left on.
          subst (λ w. IsWalkFrom v (map (turned way) old) w left) (sym (append_assoc h.walk (turned way s ∷ []) rest))
          (h.goes_on (turned way s ∷ rest) left (step_on rest left on));
    }
      where
        step_on : (rest left : List Step) → IsWalkFrom end (map (turned way) new) rest left
            → IsWalkFrom at (map (turned way) now) (turned way s ∷ rest) left
        step_on rest left on = go taken (subst (λ p. IsWalkFrom p (map (turned way) new) rest left) end_is on)

    -- or none goes on, and it is a walk as it is
    pub comes_to_an_end : TakesNone at (map (turned way) now) (map (turned way) new) →
        GoesOn way v old new path longer
    comes_to_an_end taken = record {
      walk = h.walk;
      walks = subst (λ w. IsWalkFrom v (map (turned way) old) w (map (turned way) new)) (append-nil h.walk)
          (h.goes_on [] (map (turned way) new)
          (subst (λ l. IsWalkFrom at (map (turned way) now) [] l) (sym taken.left) (stop taken.none)));
      arrives = h.arrives;
    }

  -- a step more leaves fewer pieces open
  pub fewer_open : (at : Point) (now new : List Step) (s : Step) → IsTakenAt way at now new (Some s) →
      length new < length now
  fewer_open at now new s taken =
      let all = ap length taken.parts in
      let left = ap length taken.stays in
      let of_all = length-append taken.before (turned way s ∷ taken.after) in
      let of_left = length-append taken.before taken.after in
      let was = length-map now (turned way) in
      let is = length-map new (turned way) in
      omega arith

-- what a walk leaves is no more than was open
pub no_more_left : (v : Point) (open_pieces walk rest : List Step) → IsWalkFrom v open_pieces walk rest →
    length rest ≤ length open_pieces
no_more_left v open_pieces walk rest (stop none) = omega arith
no_more_left v open_pieces walk rest (go {left} {walk = ws} {s} taken h) =
    let fewer = no_more_left s.to left ws rest h in
    let all = ap length taken.parts in
    let others = ap length taken.stays in
    let of_all = length-append taken.before (s ∷ taken.after) in
    let of_others = length-append taken.before taken.after in
    omega arith
