-- The paths of a resource, added by their numbers.
use Rattle.std.proofs.Common.{◌≡◌, ◌⊎◌, inl, inr, ℕ, ◌+◌, ◌^◌, ◌<◌, false, List, [], ◌∷◌, ◌++◌, take, drop, Some}
use Rattle.std.proofs.Common.{take-append-drop, refl, sym, ap, subst, ◌∙◌}
use Rattle.std.proofs.lemmas.Bool.{false≢true}
use Rattle.std.proofs.lemmas.List.{map-append}
use Rattle.std.specs.List.{slice_get}
use Rattle.std.specs.Prelude.{Ok, Err}
use Rattle.overlay_geom.specs.Plane.{Point, Step}
use Rattle.overlay_geom.specs.declared.error.OverlayError.{OverlayError}
use Rattle.overlay_geom.specs.declared.error.OverlayError.TheVariants.{Failed}
use Rattle.overlay_geom.proofs.ReadInOrder.{take_read, drop_read}
use Rattle.overlay_builder.specs.Held.{Held}
use Rattle.overlay_builder.specs.BuilderCalls.{AddsPathAsAsked}
use Rattle.overlay_builder.specs.PathLists.{AddedPath, AddsPaths, AddsAsAsked, MayRefusePath, path_as, paths_as}
use Rattle.overlay_builder.specs.PathLists.AddsPaths.{no_path}
use Rattle.overlay_builder.specs.declared.path.PathKind.{PathKind}
use Rattle.overlay_builder.proofs.BuilderCalls.{error_of, refusal_of_path}
use Rattle.overlay_builder.proofs.PathLists.{adds_last}

module _ {E : Type 0} (weigh : List E → ℕ) (kind : PathKind) (edge_for : Step → E) (paths : List (List Point)) where
  -- the first paths are added to a builder that has not failed
  pub record HasAddedFirst (count : ℕ) (old new : Held E) : Type 0 where
    pub ready : old.failed ≡ false
    pub added : AddsPaths (paths_as kind edge_for (take count paths)) old.edges new.edges
    pub light : weigh new.edges < 2 ^ 31
    pub kept : new.failed ≡ old.failed

  -- at first none
  pub none_added_first : (b : Held E) → b.failed ≡ false → weigh b.edges < 2 ^ 31 → HasAddedFirst 0 b b
  none_added_first b ready light = record { ready = ready; added = no_path; light = light; kept = refl }

  module _ (i : ℕ) (x : List Point) (read : slice_get paths i ≡ Some x) (old now : Held E)
      (h : HasAddedFirst i old now) where
    abbrev path : AddedPath E
    path = path_as kind edge_for x

    -- the paths up to the next
    up_to : paths_as kind edge_for (take (i + 1) paths) ≡ paths_as kind edge_for (take i paths) ++ path ∷ []
    up_to = ap (paths_as kind edge_for) (take_read paths i x read) ∙ map-append (path_as kind edge_for)
        (take i paths) (x ∷ [])

    -- all paths, cut before the next
    cut_here : paths_as kind edge_for paths ≡ paths_as kind edge_for (take i paths) ++ path ∷ paths_as kind edge_for
        (drop (i + 1) paths)
    cut_here = ap (paths_as kind edge_for) (sym (take-append-drop i paths)
        ∙ ap (λ l. take i paths ++ l) (drop_read paths i x read))
        ∙ map-append (path_as kind edge_for) (take i paths) (x ∷ drop (i + 1) paths)

    -- the builder has not failed
    still_ready : now.failed ≡ false
    still_ready = h.kept ∙ h.ready

    -- the next path is added
    pub next_added : {V : Type 0} (new : Held E) (v : V) → AddsPathAsAsked weigh path now new (Ok v) →
        HasAddedFirst (i + 1) old new
    next_added new v adds = record {
      ready = h.ready;
      added = subst (λ l. AddsPaths l old.edges new.edges) (sym up_to)
          (adds_last (paths_as kind edge_for (take i paths)) path old.edges now.edges new.edges h.added adds.ok);
      light = adds.light;
      kept = adds.kept ∙ h.kept;
    }

    -- the next path is refused, and those before it are added
    pub next_refused : {V W : Type 0} (new : Held E) (e : OverlayError) →
        AddsPathAsAsked {V = W} weigh path now new (Err e) →
        AddsAsAsked {V = V} weigh (paths_as kind edge_for paths) old new (Err e)
    next_refused {V = V} new e refused =
        subst (λ b. AddsAsAsked {V = V} weigh (paths_as kind edge_for paths) old b (Err e)) (sym refused.err) (record {
          ok = tt;
          light = h.light;
          kept = h.kept;
          failed = (λ same. absurd (not_failed (ap error_of same)), λ had. absurd (false≢true (sym h.ready ∙ had)));
          untouched = λ same. absurd (not_failed (ap error_of same));
          err = inr (record {
            path = path;
            added = record {
              before = paths_as kind edge_for (take i paths);
              after = paths_as kind edge_for (drop (i + 1) paths);
              parts = cut_here;
              added = h.added;
            };
            refused = by (refusal_of_path weigh path now new e refused);
          });
        })
      where
        not_failed : ¬ (e ≡ Failed)
        not_failed same = false≢true (sym still_ready ∙ refused.failed.0 (ap Err same))

        by : ((e ≡ Failed) ⊎ MayRefusePath weigh path now.edges e) → MayRefusePath weigh path now.edges e
        by (inl same) = absurd (not_failed same)
        by (inr may) = may
