-- How preparing ends, and why it is refused.
use Rattle.std.proofs.Common.{◌≡◌, ◌<◌, ℕ, ℤ, false, List, [], map, inl, inr, refl, sym, ap, ◌∙◌, subst}
use Rattle.overlay_builder.specs.GivenPaths.{added_paths, paths_for}
use Rattle.overlay_builder.specs.PathLists.{HoldsPaths, MayRefuseBuilder}
use Rattle.overlay_geom.specs.Edges.{CountedEdge}
use Rattle.overlay_geom.specs.Plane.{Point}
use Rattle.overlay_geom.specs.declared.error.OverlayError.{OverlayError}
use Rattle.overlay_geom.specs.declared.error.OverlayError.TheVariants as error
use Rattle.overlay_geom.specs.declared.options.ShapeType.TheVariants.{Subject}
use Rattle.overlay_sectors.specs.Blocks.{AreBlocked}
use Rattle.overlay_order.specs.Content.{plain_edges, IsContent}
use Rattle.overlay_order.specs.Counts.{boolean_counts}
use Rattle.overlay_relate.specs.Blocks.{plain_blocks}
use Rattle.overlay_relate.specs.declared.blocks.Block.{Block}
use Rattle.polyover_calls.specs.Given.{Contours, paths_of, AreGiven}
use Rattle.polyover_calls.specs.Reading.{HaveFault}
use Rattle.polyover_calls.specs.Statuses.{code_of, status_of_fault, status_of_error}
use Rattle.polyover_calls.specs.declared.fault.Fault.{Fault}
use Rattle.polyover_calls.specs.declared.fault.Fault.TheVariants as fault
use Rattle.polyover_calls.specs.declared.status.Status.{Status}
use Rattle.polyover_calls.specs.declared.status.Status.TheVariants.{Done, Memory}
use Rattle.polyover_located.proofs.Bare.{bare_can_be_asked}
use Rattle.polyover_located.specs.Held.{BooleanEdge, CanBeAsked, ExactParts, plain_parts}
use Rattle.polyover_located.specs.Prepared.{AreExactPartsOf, ExactPreparingEnds, IsExactPreparingRefused}
use Rattle.polyover_located.specs.Prepared.{IsExactlyPreparedSo}

module _ {I : Type 0} (whole : I → ℤ) (limit fill : ℕ) (given : Contours I) where
  -- items in memory that stays are those that were there
  pub prepared_ends : {E B : Type 0} (edge : E → BooleanEdge I) (block : B → Block I) (edges held : List E)
      (blocks held_blocks groups held_groups : List B) →
      AreExactPartsOf whole limit fill given
      (plain_parts whole fill (map edge edges) (map block blocks) (map block groups)) → held ≡ edges →
      held_blocks ≡ blocks → held_groups ≡ groups →
      ExactPreparingEnds whole limit fill given
      (plain_parts whole fill (map edge held) (map block held_blocks) (map block held_groups)) Done
  prepared_ends edge block edges held blocks held_blocks groups held_groups are same same_blocks same_groups =
      inl (
        refl,
        subst (AreExactPartsOf whole limit fill given)
            (sym (ap (λ es. plain_parts whole fill (map edge es) (map block held_blocks) (map block held_groups)) same
            ∙ ap (λ bs. plain_parts whole fill (map edge edges) (map block bs) (map block held_groups)) same_blocks
            ∙ ap (λ gs. plain_parts whole fill (map edge edges) (map block blocks) (map block gs)) same_groups)) are,
      )

  pub unprepared_ends : {E B : Type 0} (edge : E → BooleanEdge I) (block : B → Block I) (held : List E)
      (held_blocks held_groups : List B) (s : Status) → held ≡ [] → held_blocks ≡ [] → held_groups ≡ [] →
      IsExactPreparingRefused whole limit fill given s →
      ExactPreparingEnds whole limit fill given
      (plain_parts whole 0 (map edge held) (map block held_blocks) (map block held_groups)) s
  unprepared_ends edge block held held_blocks held_groups s none no_blocks no_groups refused = inr (
    ap (λ es. plain_parts whole 0 (map edge es) (map block held_blocks) (map block held_groups)) none
        ∙ ap (λ bs. plain_parts whole 0 [] (map block bs) (map block held_groups)) no_blocks
        ∙ ap (λ gs. plain_parts whole 0 [] [] (map block gs)) no_groups,
    refused,
  )

  -- ---- refusals

  pub misread : (f : Fault) → fill < 4 → HaveFault whole limit given.coordinates given.ends f →
      IsExactPreparingRefused whole limit fill given (status_of_fault f)
  misread fault.Memory known are = (known, (are, tt))
  misread fault.Ends known faulty = (known, faulty)
  misread fault.Range known faulty = (known, faulty)

  pub refused : (e : OverlayError) (q : List (List Point)) → fill < 4 → AreGiven whole limit given →
      q ≡ paths_of whole given → MayRefuseBuilder (added_paths false (paths_for Subject q)) e →
      IsExactPreparingRefused whole limit fill given (status_of_error e)
  refused e q known are same may = by e
      (subst (λ y. MayRefuseBuilder (added_paths false (paths_for Subject y)) e) same may)
    where
      by : (x : OverlayError) → MayRefuseBuilder (added_paths false (paths_for Subject (paths_of whole given))) x →
          IsExactPreparingRefused whole limit fill given (status_of_error x)
      by error.Memory refused = (known, (are, refused))
      by error.NotSettled refused = (known, (are, refused))
      by error.TooManyEdges refused = (known, (are, refused))
      by error.Failed refused = absurd refused

  pub short : (s : Status) → fill < 4 → AreGiven whole limit given → s ≡ Memory →
      IsExactPreparingRefused whole limit fill given s
  short s known are same =
      subst (IsExactPreparingRefused whole limit fill given) (sym same) (known, (are, tt))

  -- ---- parts

  -- those of what is read, in other forms
  pub parts_formed : (q : List (List Point)) (es : List CountedEdge) (held edges : List (BooleanEdge I))
      (held_blocks blocks held_groups groups : List (Block I)) → fill < 4 → AreGiven whole limit given →
      q ≡ paths_of whole given → HoldsPaths (added_paths false (paths_for Subject q)) es →
      plain_edges whole boolean_counts held ≡ es → IsContent limit (plain_edges whole boolean_counts held) →
      AreBlocked (plain_edges whole boolean_counts held) (plain_blocks whole held_blocks)
      (plain_blocks whole held_groups) → edges ≡ held → blocks ≡ held_blocks → groups ≡ held_groups →
      AreExactPartsOf whole limit fill given (plain_parts whole fill edges blocks groups)
  parts_formed q es held edges held_blocks blocks held_groups groups known are same_q holds same_es content blocked same
      same_blocks same_groups = record {
        known = known;
        are_given = are;
        shape = record {
          rule = refl;
          holds = subst (HoldsPaths (added_paths false (paths_for Subject (paths_of whole given))))
              (sym (ap (plain_edges whole boolean_counts) same ∙ same_es))
              (subst (λ y. HoldsPaths (added_paths false (paths_for Subject y)) es) same_q holds);
        };
        can_be_asked = record {
          known = known;
          content = subst (λ fs. IsContent limit (plain_edges whole boolean_counts fs)) (sym same) content;
          blocked = subst (λ fs. AreBlocked (plain_edges whole boolean_counts fs) (plain_blocks whole blocks)
              (plain_blocks whole groups)) (sym same)
              (subst (λ bs. AreBlocked (plain_edges whole boolean_counts held) (plain_blocks whole bs)
              (plain_blocks whole groups)) (sym same_blocks)
              (subst (λ gs. AreBlocked (plain_edges whole boolean_counts held) (plain_blocks whole held_blocks)
              (plain_blocks whole gs)) (sym same_groups) blocked));
        };
      }

  -- what C is given
  pub handed_out : (p q : ExactParts) (s : Status) (code : ℕ) → ExactPreparingEnds whole limit fill given p s → q ≡ p →
      code ≡ code_of s → IsExactlyPreparedSo whole limit fill given q code
  handed_out p q s code ends same told = record {
    status = s;
    ends = subst (λ r. ExactPreparingEnds whole limit fill given r s) (sym same) ends;
    told = told;
    can_be_asked = subst (CanBeAsked limit) (sym same) (can p s ends);
  }
    where
      can : (r : ExactParts) (t : Status) → ExactPreparingEnds whole limit fill given r t → CanBeAsked limit r
      can r t (inl are) = are.1.can_be_asked
      can r t (inr none) = subst (CanBeAsked limit) (sym none.0) (bare_can_be_asked limit)
