-- How preparing ends, and why it is refused.
use Rattle.std.proofs.Common.{◌≡◌, ◌<◌, ℕ, ℤ, List, [], map, inl, inr, refl, sym, ap, ◌∙◌, subst}
use Rattle.overlay_geom.specs.declared.fill_rule.FillRule.{FillRule}
use Rattle.overlay_geom.specs.declared.options.ShapeType.TheVariants.{Subject}
use Rattle.overlay_geom.specs.Plane.{Point, Edge}
use Rattle.overlay_geom.specs.declared.edge.IntEdge.{IntEdge}
use Rattle.overlay_geom.specs.declared.error.OverlayError.{OverlayError}
use Rattle.overlay_geom.specs.declared.error.OverlayError.TheVariants as error
use Rattle.overlay_geom.specs.declared.solver.Solver.{Solver}
use Rattle.overlay_builder.specs.GivenPaths.{paths_for}
use Rattle.overlay_relate.specs.Prepared.{IsPreparedOf, MayRefusePreparing}
use Rattle.overlay_relate.specs.declared.blocks.Block.{Block}
use Rattle.polyover_calls.proofs.Asking.{bare_can_be_asked}
use Rattle.polyover_calls.specs.Asked.{fill_of, solver_of}
use Rattle.polyover_calls.specs.Given.{Contours, paths_of, AreGiven}
use Rattle.polyover_calls.specs.Prepared.{Parts, plain_parts, CanBeAsked, ArePartsOf, IsPreparingRefused}
use Rattle.polyover_calls.specs.Prepared.{PreparingEnds, IsPreparedSo}
use Rattle.polyover_calls.specs.Reading.{HaveFault}
use Rattle.polyover_calls.specs.Statuses.{code_of, status_of_fault, status_of_error}
use Rattle.polyover_calls.specs.declared.fault.Fault.{Fault}
use Rattle.polyover_calls.specs.declared.fault.Fault.TheVariants as fault
use Rattle.polyover_calls.specs.declared.status.Status.{Status}
use Rattle.polyover_calls.specs.declared.status.Status.TheVariants.{Done, Memory}

module _ {I : Type 0} (whole : I → ℤ) (limit fill solver : ℕ) (given : Contours I) where
  -- items in memory that stays are those that were there
  pub prepared_ends : {E B : Type 0} (edge : E → IntEdge I) (block : B → Block I) (edges held : List E)
      (blocks held_blocks groups held_groups : List B) →
      ArePartsOf whole limit fill solver given
      (plain_parts whole (map edge edges) (map block blocks) (map block groups)) → held ≡ edges →
      held_blocks ≡ blocks → held_groups ≡ groups →
      PreparingEnds whole limit fill solver given
      (plain_parts whole (map edge held) (map block held_blocks) (map block held_groups)) Done
  prepared_ends edge block edges held blocks held_blocks groups held_groups are same same_blocks same_groups =
      inl (
        refl,
        subst (ArePartsOf whole limit fill solver given)
            (sym (ap (λ es. plain_parts whole (map edge es) (map block held_blocks) (map block held_groups)) same
            ∙ ap (λ bs. plain_parts whole (map edge edges) (map block bs) (map block held_groups)) same_blocks
            ∙ ap (λ gs. plain_parts whole (map edge edges) (map block blocks) (map block gs)) same_groups)) are,
      )

  pub unprepared_ends : {E B : Type 0} (edge : E → IntEdge I) (block : B → Block I) (held : List E)
      (held_blocks held_groups : List B) (s : Status) → held ≡ [] → held_blocks ≡ [] → held_groups ≡ [] →
      IsPreparingRefused whole limit fill solver given s →
      PreparingEnds whole limit fill solver given
      (plain_parts whole (map edge held) (map block held_blocks) (map block held_groups)) s
  unprepared_ends edge block held held_blocks held_groups s none no_blocks no_groups refused = inr (
    ap (λ es. plain_parts whole (map edge es) (map block held_blocks) (map block held_groups)) none
        ∙ ap (λ bs. plain_parts whole [] (map block bs) (map block held_groups)) no_blocks
        ∙ ap (λ gs. plain_parts whole [] [] (map block gs)) no_groups,
    refused,
  )

  pub contours_unprepared : (f : Fault) → fill < 4 → solver < 2 →
      HaveFault whole limit given.coordinates given.ends f →
      IsPreparingRefused whole limit fill solver given (status_of_fault f)
  contours_unprepared fault.Memory known_fill known are = ((known_fill, known), (are, tt))
  contours_unprepared fault.Ends known_fill known faulty = ((known_fill, known), faulty)
  contours_unprepared fault.Range known_fill known faulty = ((known_fill, known), faulty)

  -- what is refused of what is read
  refused_of : (e : OverlayError) (t : Solver) (p : List (List Point)) → t ≡ solver_of solver →
      p ≡ paths_of whole given → MayRefusePreparing t (paths_for Subject p) e →
      MayRefusePreparing (solver_of solver) (paths_for Subject (paths_of whole given)) e
  refused_of e t p same_t same_p may =
      subst (λ y. MayRefusePreparing y (paths_for Subject (paths_of whole given)) e) same_t
      (subst (λ q. MayRefusePreparing t (paths_for Subject q) e) same_p may)

  pub preparing_refused : (e : OverlayError) (t : Solver) (p : List (List Point)) → fill < 4 → solver < 2 →
      AreGiven whole limit given → t ≡ solver_of solver → p ≡ paths_of whole given →
      MayRefusePreparing t (paths_for Subject p) e →
      IsPreparingRefused whole limit fill solver given (status_of_error e)
  preparing_refused error.Memory t p known_fill known are same_t same_p may = ((known_fill, known), (are, tt))
  preparing_refused error.NotSettled t p known_fill known are same_t same_p may =
      ((known_fill, known), (are, refused_of error.NotSettled t p same_t same_p may))
  preparing_refused error.TooManyEdges t p known_fill known are same_t same_p may =
      ((known_fill, known), (are, refused_of error.TooManyEdges t p same_t same_p may))
  preparing_refused error.Failed t p known_fill known are same_t same_p may = absurd may

  pub parts_prepared : (f : FillRule) (t : Solver) (q : List (List Point)) (edges : List Edge) (p : Parts) → fill < 4 →
      solver < 2 → AreGiven whole limit given → f ≡ fill_of fill → t ≡ solver_of solver → q ≡ paths_of whole given →
      IsPreparedOf t f (paths_for Subject q) edges → p.edges ≡ edges → CanBeAsked limit p →
      ArePartsOf whole limit fill solver given p
  parts_prepared f t q edges p known_fill known are same_f same_t same_q prepared same_edges asked = record {
    known = (known_fill, known);
    are_given = are;
    prepared = subst (λ y. IsPreparedOf y (fill_of fill) (paths_for Subject (paths_of whole given)) p.edges) same_t
        (subst (λ y. IsPreparedOf t y (paths_for Subject (paths_of whole given)) p.edges) same_f
        (subst (λ y. IsPreparedOf t f (paths_for Subject y) p.edges) same_q
        (subst (IsPreparedOf t f (paths_for Subject q)) (sym same_edges) prepared)));
    can_be_asked = asked;
  }

  -- what C is given
  pub handed_out : (p q : Parts) (s : Status) (code : ℕ) → PreparingEnds whole limit fill solver given p s → q ≡ p →
      code ≡ code_of s → IsPreparedSo whole limit fill solver given q code
  handed_out p q s code ends same told = record {
    status = s;
    ends = subst (λ r. PreparingEnds whole limit fill solver given r s) (sym same) ends;
    told = told;
    can_be_asked = subst (CanBeAsked limit) (sym same) (can p s ends);
  }
    where
      can : (r : Parts) (t : Status) → PreparingEnds whole limit fill solver given r t → CanBeAsked limit r
      can r t (inl are) = are.1.can_be_asked
      can r t (inr none) = subst (CanBeAsked limit) (sym none.0) (bare_can_be_asked.can limit)

  -- ---- the parts in other forms

  pub forms_without_memory : (p : Parts) (s : Status) → ArePartsOf whole limit fill solver given p → s ≡ Memory →
      IsPreparingRefused whole limit fill solver given s
  forms_without_memory p s are same = subst (IsPreparingRefused whole limit fill solver given) (sym same)
      (are.known, (are.are_given, tt))

  pub parts_formed : (edges formed : List (IntEdge I)) (blocks formed_blocks groups formed_groups : List (Block I)) →
      ArePartsOf whole limit fill solver given (plain_parts whole edges blocks groups) → formed ≡ edges →
      formed_blocks ≡ blocks → formed_groups ≡ groups →
      ArePartsOf whole limit fill solver given (plain_parts whole formed formed_blocks formed_groups)
  parts_formed edges formed blocks formed_blocks groups formed_groups are same same_blocks same_groups =
      subst Are (sym (ap (λ es. plain_parts whole es formed_blocks formed_groups) same
      ∙ ap (λ bs. plain_parts whole edges bs formed_groups) same_blocks
      ∙ ap (plain_parts whole edges blocks) same_groups)) are
    where
      Are : Parts → Type 0
      Are = ArePartsOf whole limit fill solver given
