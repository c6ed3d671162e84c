-- Snap rounding is not rounds, by which alone edges may stay unsettled; so no call by it is refused for that.
use Rattle.std.proofs.Common.{◌≡◌, ◌⊎◌, ⊎_elim, ℕ, Bool, false, List, refl, ap, subst, arith}
use Rattle.overlay_geom.specs.declared.error.OverlayError.TheVariants as error
use Rattle.overlay_geom.specs.declared.solver.Solver.{Solver}
use Rattle.overlay_geom.specs.declared.solver.Solver.TheVariants.{Rounds, Snapping}
use Rattle.overlay_builder.specs.GivenPaths.{GivenPath}
use Rattle.overlay_builder.specs.PathLists.{AddedPath}
use Rattle.overlay_geom.specs.Edges.{CountedEdge}
use Rattle.i_overlay.specs.Alone.{MayRefuseAlone}
use Rattle.overlay_string.specs.OneShot.{MayRefusePaths}
use Rattle.polyover_calls.specs.Asked.{solver_of, keeps_given}
use Rattle.polyover_calls.specs.Laws.{SnappedNeverUnsettled}
use Rattle.polyover_calls.specs.Put.{IsPutInto}
use Rattle.polyover_calls.specs.Statuses.{code_of}
use Rattle.polyover_calls.specs.declared.status.Status.{Status}
use Rattle.polyover_calls.specs.declared.status.Status.TheVariants.{Done, Memory, BadEnds, OutOfRange}
use Rattle.polyover_calls.specs.declared.status.Status.TheVariants.{NotResolved, BadRule, BadFill, BadOption}
use Rattle.polyover_calls.specs.declared.status.Status.TheVariants.{NotSettled, TooManyEdges, TooSmall}

-- the two solvers differ
apart : ¬ (Snapping ≡ Rounds)
apart is = subst is_snapping is tt
  where
    is_snapping : Solver → Type 0
    is_snapping Rounds = ⊥
    is_snapping Snapping = Unit {0}

-- contours are not refused so, nor are a shape and lines
pub not_alone : (keep : Bool) (solver : ℕ) (paths : List GivenPath) → solver ≡ 0 →
    ¬ (MayRefuseAlone keep (solver_of solver) paths error.NotSettled)
not_alone keep solver paths zero may =
    apart (subst (λ n. MayRefuseAlone keep (solver_of n) paths error.NotSettled) zero may).refused.0

pub not_lines : (solver : ℕ) (paths : List (AddedPath CountedEdge)) → solver ≡ 0 →
    ¬ (MayRefusePaths (solver_of solver) paths error.NotSettled)
not_lines solver paths zero may =
    apart (subst (λ n. MayRefusePaths (solver_of n) paths error.NotSettled) zero may).refused.0

-- a call that writes nothing so, and is not refused so, does not end so
no_end : {F R Refused : Type 0} {IsAnswer : F → Type 0} {AreWritten : F → R → R → Status → Type 0} {old new : R} →
    ((f : F) → ¬ (AreWritten f old new NotSettled)) → ¬ Refused →
    ¬ (IsPutInto IsAnswer AreWritten old new NotSettled ⊎ ((new ≡ old) × Refused))
no_end unwritten unrefused ends = ⊎_elim (λ put. unwritten put.answer put.put) (λ stays. unrefused stays.1) ends

not_done : ¬ (NotSettled ≡ Done)
not_done is = let codes = ap code_of is in omega (arith, codes)

-- each has a code of its own
code_is : (s : Status) → code_of s ≡ 8 → s ≡ NotSettled
code_is Done is = absurd (omega (arith, is))
code_is Memory is = absurd (omega (arith, is))
code_is BadEnds is = absurd (omega (arith, is))
code_is OutOfRange is = absurd (omega (arith, is))
code_is NotResolved is = absurd (omega (arith, is))
code_is BadRule is = absurd (omega (arith, is))
code_is BadFill is = absurd (omega (arith, is))
code_is BadOption is = absurd (omega (arith, is))
code_is NotSettled is = refl
code_is TooManyEdges is = absurd (omega (arith, is))
code_is TooSmall is = absurd (omega (arith, is))

pub never_unsettled : SnappedNeverUnsettled
never_unsettled = record {
  calls = λ limit width fill first second. record {
    overlay = λ rule o old new zero. no_end (λ flat put. put) (λ r. not_alone (keeps_given o) o.solver _ zero r.1.1.1);
    hierarchy = λ rule o old new zero. no_end (λ flat put. put)
        (λ r. not_alone (keeps_given o) o.solver _ zero r.1.1.1);
    simplified = λ o old new zero. no_end (λ flat put. put) (λ r. not_alone (keeps_given o) o.solver _ zero r.1.1);
    sliced = λ old new. no_end (λ flat put. put) (λ r. not_lines 0 _ refl r.1.1.1);
    clipped = λ o old new zero. no_end (λ flat put. put) (λ r. not_lines o.solver _ zero r.1.1.1);
    listed = λ old new. no_end (λ flat put. put) (λ r. not_alone false 0 _ refl r.1.1.1);
    related = λ old new ends. ⊎_elim (λ told. not_done told.0) (λ r. not_alone false 0 _ refl r.1.1.1.1) ends;
    related_so = λ number old new ends. ⊎_elim (λ told. not_done told.0)
        (λ r. not_alone false 0 _ refl r.1.1.1.1) ends;
    prepared = λ p ends. ⊎_elim (λ are. not_done are.0) (λ r. apart r.1.1.1.refused.0) ends;
  };
  results = λ limit width fill first second arrays. record {
    overlay = λ rule o zero. no_end (λ flat held. not_done held.0)
        (λ r. not_alone (keeps_given o) o.solver _ zero r.1.1.1);
    hierarchy = λ rule o zero. no_end (λ flat held. not_done held.0)
        (λ r. not_alone (keeps_given o) o.solver _ zero r.1.1.1);
    simplified = λ o zero. no_end (λ flat held. not_done held.0) (λ r. not_alone (keeps_given o) o.solver _ zero r.1.1);
    sliced = no_end (λ flat held. not_done held.0) (λ r. not_lines 0 _ refl r.1.1.1);
    clipped = λ o zero. no_end (λ flat held. not_done held.0) (λ r. not_lines o.solver _ zero r.1.1.1);
    listed = no_end (λ flat held. not_done held.0) (λ r. not_alone false 0 _ refl r.1.1.1);
    tiled = λ wide high. no_end (λ flat held. not_done held.0) (λ r. not_lines 0 _ refl r.1.1.refused);
  };
  code = code_is;
}
