-- Two contents to which paths lead have the same edges, whichever collinear points were dropped first: closed lists
-- that
-- differ in where they begin alone have the same steps.
use Rattle.std.proofs.Common.{◌≡◌, Bool, true, false, List, [], ◌∷◌, ◌++◌, append_assoc, map, refl, sym, ap, ap₂, subst}
use Rattle.std.proofs.Common.{◌∙◌}
use Rattle.std.specs.List.Sorted.{IsPermutation}
use Rattle.std.proofs.lemmas.List.{append-nil}
use Rattle.std.proofs.lemmas.List.Sorted.{IsPermutation-refl, IsPermutation-append, IsPermutation-append_comm}
use Rattle.std.proofs.lemmas.List.Sorted.{IsPermutation-map}
use Rattle.overlay_geom.specs.Plane.{Point, Step, steps_between, steps_through, steps_of}
use Rattle.overlay_plane.specs.Thinning.{AreOneRound}
use Rattle.overlay_plane.proofs.BegunElsewhere.{one_round_itself}
use Rattle.overlay_plane.proofs.ThinnedRound.{one_thinning}
use Rattle.overlay_builder.specs.Determined.{ContentsAreShuffled}
use Rattle.overlay_builder.specs.PathLists.{AddedPath, AddsOne, AddsPaths}
use Rattle.overlay_builder.specs.PathLists.AddsPaths.{no_path, path_and_others}
use Rattle.overlay_builder.specs.Paths.{IsTakenAs, path_steps_of, leads_back}
use Rattle.overlay_builder.specs.declared.path.PathKind.{PathKind}
use Rattle.overlay_builder.specs.declared.path.PathKind.TheVariants.{Open, Closed, Thinned}

-- ---- steps

-- the steps through points are those up to one of them, and those from it on
through_parts : (u : Point) (xs : List Point) (v : Point) (ys : List Point) →
    steps_through u (xs ++ v ∷ ys) ≡ steps_through u (xs ++ v ∷ []) ++ steps_through v ys
through_parts u [] v ys = ap (λ ss. ss ++ steps_through v ys) (sym (append-nil (steps_between u v)))
through_parts u (x ∷ xs) v ys = ap (λ ss. steps_between u x ++ ss) (through_parts x xs v ys)
    ∙ sym (append_assoc (steps_between u x) (steps_through x (xs ++ v ∷ [])) (steps_through v ys))

-- those round a closed list of two parts
round_parts : (p : Point) (ps : List Point) (q : Point) (qs : List Point) →
    steps_of ((p ∷ ps) ++ q ∷ qs) ≡ steps_through p (ps ++ q ∷ []) ++ steps_through q (qs ++ p ∷ [])
round_parts p ps q qs = ap (steps_through p) (append_assoc ps (q ∷ qs) (p ∷ []))
    ∙ through_parts p ps q (qs ++ p ∷ [])

-- a closed list has the same steps wherever it begins
steps_rotated : (front rest : List Point) → IsPermutation (steps_of (front ++ rest)) (steps_of (rest ++ front))
steps_rotated [] rest =
    subst (λ qs. IsPermutation (steps_of rest) (steps_of qs)) (sym (append-nil rest))
    (IsPermutation-refl (steps_of rest))
steps_rotated (p ∷ ps) [] =
    subst (λ qs. IsPermutation (steps_of qs) (steps_of (p ∷ ps))) (sym (append-nil (p ∷ ps)))
    (IsPermutation-refl (steps_of (p ∷ ps)))
steps_rotated (p ∷ ps) (q ∷ qs) =
    subst (λ ss. IsPermutation ss (steps_of ((q ∷ qs) ++ p ∷ ps))) (sym (round_parts p ps q qs))
    (subst (λ ss. IsPermutation (steps_through p (ps ++ q ∷ []) ++ steps_through q (qs ++ p ∷ [])) ss)
    (sym (round_parts q qs p ps))
    (IsPermutation-append_comm (steps_through p (ps ++ q ∷ [])) (steps_through q (qs ++ p ∷ []))))

same_steps : (ps qs : List Point) → AreOneRound ps qs → IsPermutation (steps_of ps) (steps_of qs)
same_steps ps qs r = subst (λ l. IsPermutation (steps_of l) (steps_of qs)) (sym r.before)
    (subst (λ l. IsPermutation (steps_of (r.front ++ r.rest)) (steps_of l)) (sym r.after)
    (steps_rotated r.front r.rest))

-- ---- paths

-- the steps of a path taken in two ways
taken_alike : (kind : PathKind) (given first second : List Point) → IsTakenAs kind given first →
    IsTakenAs kind given second →
    IsPermutation (path_steps_of (leads_back kind) first) (path_steps_of (leads_back kind) second)
taken_alike Open given first second a b = subst
    (λ ps. IsPermutation (path_steps_of false first) (path_steps_of false ps))
    (a ∙ sym b) (IsPermutation-refl (path_steps_of false first))
taken_alike Closed given first second a b = subst (λ ps. IsPermutation (steps_of first) (steps_of ps)) (a ∙ sym b)
    (IsPermutation-refl (steps_of first))
taken_alike Thinned given first second a b =
    same_steps first second (one_thinning given given (one_round_itself given) first second a b)

module _ {E : Type 0} where
  pub one_shuffled : (p : AddedPath E) (old other new newer : List E) → IsPermutation old other → AddsOne p old new →
      AddsOne p other newer → IsPermutation new newer
  one_shuffled p old other new newer before a b =
      subst (λ es. IsPermutation es newer) (sym a.content)
      (subst (λ es. IsPermutation (old ++ map p.edge_for (path_steps_of (leads_back p.kind) a.taken)) es)
      (sym b.content)
      (IsPermutation-append old other (map p.edge_for (path_steps_of (leads_back p.kind) a.taken))
      (map p.edge_for (path_steps_of (leads_back p.kind) b.taken)) before
      (IsPermutation-map p.edge_for (path_steps_of (leads_back p.kind) a.taken)
      (path_steps_of (leads_back p.kind) b.taken)
      (taken_alike p.kind p.points a.taken b.taken a.is_taken b.is_taken))))

  all_shuffled : (paths : List (AddedPath E)) (old other new newer : List E) → IsPermutation old other →
      AddsPaths paths old new → AddsPaths paths other newer → IsPermutation new newer
  all_shuffled [] old other new newer before no_path no_path = before
  all_shuffled (p ∷ ps) old other new newer before (path_and_others {mid = mid} one more)
      (path_and_others {mid = middle} one' more') =
      all_shuffled ps mid middle new newer (one_shuffled p old other mid middle before one one') more more'

  pub contents_are_shuffled : ContentsAreShuffled E
  contents_are_shuffled paths old new newer a b =
      all_shuffled paths old old new newer (IsPermutation-refl old) a b
