-- A cut under way: the walks so far, before each cut of the rest, are a cut of all steps.
use Rattle.std.proofs.Common.{◌≡◌, ◌<◌, not, List, [], ◌∷◌, ◌++◌, length, sym, ap, ◌∙◌, subst, arith}
use Rattle.std.proofs.lemmas.List.{append-nil, append_assoc, length-append}
use Rattle.std.proofs.lemmas.List.Sorted.{length_permutation}
use Rattle.overlay_geom.specs.Plane.{Step}
use Rattle.overlay_plane.specs.Turn.{Hand, step_round, IsOrbit, no_step}
use Rattle.overlay_plane.specs.BesideOrbits.{HasEachOnce}
use Rattle.overlay_plane.specs.Contours.{IsStart, without, IsCutInto, done, next, CanBeCut, LeavesCuttable}
use Rattle.overlay_plane.specs.Orbits.{is_step_of}
use Rattle.overlay_plane.proofs.CutWalks.{cuts_leave_cuttable, walk_and_left}
use Rattle.overlay_plane.proofs.ItemsRound.{item_round-here}
use Rattle.overlay_plane.proofs.LaterEntries.{Each-from_all_pairs, AllPairs-from_each, Each-filter}
use Rattle.overlay_plane.proofs.ShuffledSteps.{Differ}

-- the steps left can be cut, each stands once, and each cut of them makes the walks a cut of all
pub record IsCutSoFar (hand_of : Step → Hand) (all left : List Step) (walks : List (List Step)) : Type 0 where
  pub cuttable : CanBeCut hand_of left
  pub once : HasEachOnce left
  pub completes : (rest : List (List Step)) → IsCutInto hand_of left rest → IsCutInto hand_of all (walks ++ rest)

-- before the first walk
pub cut_begins : (hand_of : Step → Hand) (all : List Step) → CanBeCut hand_of all → HasEachOnce all →
    IsCutSoFar hand_of all all []
cut_begins hand_of all cuttable once = record { cuttable = cuttable; once = once; completes = λ rest cut. cut }

-- after the last
pub cut_ends : (hand_of : Step → Hand) (all left : List Step) (walks : List (List Step)) →
    IsCutSoFar hand_of all left walks → left ≡ [] → IsCutInto hand_of all walks
cut_ends hand_of all left walks far none = subst (λ ws. IsCutInto hand_of all ws) (append-nil walks)
    (far.completes [] (subst (λ ss. IsCutInto hand_of ss []) (sym none) done))

module _ (hand_of : Step → Hand) (all left : List Step) (walks : List (List Step))
    (far : IsCutSoFar hand_of all left walks) (s : Step) (start : IsStart left s)
    (walk : List Step) (orbit : IsOrbit left (hand_of s) walk) (begins : step_round walk 0 ≡ s) (after : List Step)
    (rest : after ≡ without left walk) where
  -- a cut of the steps left by a walk, with the walk in front, is a cut of the steps before
  completes_on : (later : List (List Step)) → IsCutInto hand_of (without left walk) later →
      IsCutInto hand_of left (walk ∷ later)
  completes_on later cut = by walk orbit begins cut
    where
      by : (ts : List Step) → IsOrbit left (hand_of s) ts → step_round ts 0 ≡ s →
          IsCutInto hand_of (without left ts) later → IsCutInto hand_of left (ts ∷ later)
      by [] round first cut = absurd (elim round.some [ ])
      by (t ∷ ts) round first cut =
          let same : t ≡ s = sym (item_round-here (t ∷ ts) no_step 0 (omega arith)) ∙ first in
          next (subst (λ u. IsStart left u) (sym same) start)
          (subst (λ u. IsOrbit left (hand_of u) (t ∷ ts)) (sym same) round) cut

  -- the start's hand leads on, and the steps left by its orbit can be cut
  leaves : LeavesCuttable hand_of left s
  leaves = cuts_leave_cuttable hand_of left far.cuttable s start.among

  -- one more walk
  pub cut_goes_on : IsCutSoFar hand_of all after (walks ++ walk ∷ [])
  cut_goes_on = record {
    cuttable = subst (CanBeCut hand_of) (sym rest) (leaves.leaves walk orbit);
    once = subst HasEachOnce (sym rest)
        (AllPairs-from_each Differ (without left walk)
        (Each-filter Differ (λ t. not (is_step_of walk t)) left (Each-from_all_pairs Differ left far.once)));
    completes = λ later cut. subst (λ ws. IsCutInto hand_of all ws) (sym (append_assoc walks (walk ∷ []) later))
        (far.completes (walk ∷ later) (completes_on later (subst (λ ss. IsCutInto hand_of ss later) rest cut)));
  }

  -- leaves fewer steps
  pub fewer_left : length after < length left
  fewer_left =
      let shuffled = length_permutation left (walk ++ without left walk)
      (walk_and_left left (hand_of s) leaves.leads_on walk orbit (Each-from_all_pairs Differ left far.once)) in
      let joined = length-append walk (without left walk) in
      let kept = ap length rest in
      let some = orbit.some in
      omega arith
