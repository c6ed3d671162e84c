-- Two simplifications of the same shape by the same options answer alike, by snap rounding, unless memory is refused.
use Rattle.std.proofs.Common.{◌≡◌, ℕ, ℤ, Bool, true, false, List, [], ◌∷◌, refl, sym, ap, subst, ◌∙◌}
use Rattle.std.proofs.lemmas.Bool.{false≢true}
use Rattle.std.specs.Int.{Width}
use Rattle.std.specs.Prelude.{IsTrue}
use Rattle.overlay_builder.specs.GivenPaths.{paths_for}
use Rattle.overlay_extract.proofs.OneOverlay.{one_result}
use Rattle.overlay_extract.specs.Determined.{AreArrangedWithBalance}
use Rattle.overlay_extract.specs.Results.{Asked, asked}
use Rattle.overlay_geom.specs.Edges.{CountedEdge}
use Rattle.overlay_geom.specs.Plane.{Point}
use Rattle.overlay_geom.specs.Rules.{bit}
use Rattle.overlay_geom.specs.declared.options.ShapeType.TheVariants.{Subject}
use Rattle.overlay_geom.specs.declared.solver.Solver.TheVariants.{Snapping}
use Rattle.i_overlay.proofs.OneAnswer.{arranged_paths, one_arrangement_of_paths}
use Rattle.i_overlay.proofs.OneOutcome.{outcomes_are_one}
use Rattle.i_overlay.specs.Simplified.{IsLeft, IsSimplified, IsSimplifiedContour, StayAsGiven}
use Rattle.i_overlay.specs.declared.simplifying.outcome.Outcome.{Outcome}
use Rattle.i_overlay.specs.declared.simplifying.outcome.Outcome.TheVariants.{NotSimple, Empty, AsGiven, Reversed}
use Rattle.polyover_calls.specs.Asked.{rule_of, fill_of, solver_of, options_of, keeps_given, AreKnown, IsUnknown}
use Rattle.polyover_calls.specs.Given.{Contours, paths_of, AreGiven, IsFaulty}
use Rattle.polyover_calls.specs.Held.{AreHeld}
use Rattle.polyover_calls.specs.declared.numbers.OptionNumbers.{OptionNumbers}
use Rattle.polyover_calls.proofs.EachFault.{MayAlone, with_options}
use Rattle.polyover_calls.proofs.EarlyFaults.{done_late}
use Rattle.polyover_calls.proofs.EndsOnce.{written_once}
use Rattle.polyover_calls.proofs.OneAnswer.{one_flat}
use Rattle.polyover_calls.proofs.SnappedCalls.{not_alone}
use Rattle.polyover_calls.proofs.TwoRuns.{light_alone}
use Rattle.polyover_simple.specs.Simplified.{AreSimplifiedSo}
use Rattle.polyover_simple.specs.Told.{AreToldShapes, ShapesAreToldOnce, ToldFlat, told_arrays}

-- ---- shapes over one arrangement

module _ (q : Asked) (keep : Bool) (es : List CountedEdge) (are : AreArrangedWithBalance es)
    (first second : List (List (List Point))) where
  left_alike : (outcome : Outcome) (ps : List Point) → IsLeft outcome q ps es first → IsLeft outcome q ps es second →
      first ≡ second
  left_alike NotSimple ps a b = one_result q es are first second a b
  left_alike Empty ps a b = a ∙ sym b
  left_alike AsGiven ps a b = a ∙ sym b
  left_alike Reversed ps a b = a ∙ sym b

  alike : (paths : List (List Point)) → IsSimplified q keep paths es first → IsSimplified q keep paths es second →
      first ≡ second
  alike [] a b = one_result q es are first second a b
  alike (ps ∷ []) a b = left_alike a.outcome ps a.left (subst (λ o. IsLeft o q ps es second)
      (outcomes_are_one keep q.fill q.output_direction ps es b.outcome a.outcome b.becomes a.becomes) b.left)
  alike (ps ∷ qs ∷ paths) a b = one_result q es are first second a b

-- what tells of the same is the same
one_bit : (P : Type 0) (a b : Bool) → (IsTrue a → P) → (P → IsTrue a) → (IsTrue b → P) → (P → IsTrue b) → a ≡ b
one_bit P true true p q r s = refl
one_bit P true false p q r s = absurd (false≢true (s (p refl)))
one_bit P false true p q r s = absurd (false≢true (q (r refl)))
one_bit P false false p q r s = refl

-- ---- by snap rounding

module _ (q : Asked) (keep : Bool) (paths : List (List Point)) (first second : List (List (List Point)))
    (stay stays : Bool) (a : AreSimplifiedSo Snapping q keep paths first stay)
    (b : AreSimplifiedSo Snapping q keep paths second stays) where
  same_edges : a.edges ≡ b.edges
  same_edges = one_arrangement_of_paths keep (paths_for Subject paths) a.arranged.content b.arranged.content a.edges
      b.edges a.arranged.holds b.arranged.holds a.arranged.arranged b.arranged.arranged

  one_list : first ≡ second
  one_list = alike q keep b.edges
      (arranged_paths Snapping keep (paths_for Subject paths) b.arranged.content b.edges b.arranged.holds
      b.arranged.arranged) first second paths
      (subst (λ es. IsSimplified q keep paths es first) same_edges a.simplified) b.simplified

  one_telling : stay ≡ stays
  one_telling = one_bit (StayAsGiven q keep paths b.edges) stay stays
      (λ is. subst (StayAsGiven q keep paths) same_edges (a.as_given.0 is))
      (λ they. a.as_given.1 (subst (StayAsGiven q keep paths) (sym same_edges) they)) b.as_given.0 b.as_given.1

-- ---- runs

-- the same arrays and the same number are the same
same_told : {I : Type 0} (t u : ToldFlat I) → t.flat ≡ u.flat → t.as_given ≡ u.as_given → t ≡ u
same_told t u flat as_given i = record { flat = flat i; as_given = as_given i }

module _ {I U : Type 0} (whole : I → ℤ) (limit : ℕ) (width : Width) (natural : U → ℕ)
    (one : (x y : I) → whole x ≡ whole y → x ≡ y) where
  module _ (fill : ℕ) (options : OptionNumbers U) (given : Contours I) (snaps : options.solver ≡ 0) where
    abbrev q : Asked
    q = asked width natural (fill_of fill) (rule_of 0) (options_of options)

    snapping : (shapes : List (List (List Point))) (stay : Bool) →
        AreSimplifiedSo (solver_of options.solver) q (keeps_given options) (paths_of whole given) shapes stay →
        AreSimplifiedSo Snapping q (keeps_given options) (paths_of whole given) shapes stay
    snapping shapes stay are = subst (λ n. AreSimplifiedSo (solver_of n) q (keeps_given options)
        (paths_of whole given) shapes stay) snaps are

    same_answer : (t u : ToldFlat I) → AreToldShapes whole limit width natural fill options given t →
        AreToldShapes whole limit width natural fill options given u → t ≡ u
    same_answer t u a b =
        let keep = keeps_given options in
        let paths = paths_of whole given in
        let of_a = snapping a.shapes a.stay a.simplified in
        let of_b = snapping b.shapes b.stay b.simplified in
        same_told t u
        (one_flat whole limit one a.shapes b.shapes t.flat u.flat
        (one_list q keep paths a.shapes b.shapes a.stay b.stay of_a of_b) a.flattened b.flattened)
        (a.told ∙ ap (λ stay. bit stay 1) (one_telling q keep paths a.shapes b.shapes a.stay b.stay of_a of_b)
        ∙ sym b.told)

  pub shapes_are_told_once : ShapesAreToldOnce whole limit width natural
  shapes_are_told_once fill options given snaps held others =
      written_once (IsUnknown 0 fill options) (AreKnown 0 fill options) (IsFaulty whole limit given)
      (AreGiven whole limit given) (with_options whole limit width natural fill options given)
      (MayAlone whole limit width natural options given) (λ e m. m.0)
      (λ m. not_alone (keeps_given options) options.solver (paths_for Subject (paths_of whole given)) snaps m.1)
      (AreToldShapes whole limit width natural fill options given) (λ t is. (is.known, is.are_given))
      (λ t is m. light_alone (keeps_given options) options.solver (paths_for Subject (paths_of whole given))
      is.simplified.arranged.content is.simplified.edges snaps is.simplified.arranged.holds
      is.simplified.arranged.arranged m.1)
      (same_answer fill options given snaps) (AreHeld told_arrays) (λ t old new s are. done_late s are.0)
      (λ t old new newer s u a b. (a.0 ∙ sym b.0, a.1 ∙ sym b.1)) _ held others
