-- Paths whose points are taken as they are.
use Rattle.std.proofs.Common.{◌≡◌, ℕ, ◌^◌, ◌≤◌, ◌++◌, map, List, refl, sym, subst}
use Rattle.overlay_geom.specs.Plane.{Point, Step}
use Rattle.overlay_builder.specs.Paths.{AddsPath, IsTakenAs, leads_back, path_steps_of}
use Rattle.overlay_builder.specs.PathLists.{WouldWeighTooMuch, path_as}
use Rattle.overlay_builder.specs.declared.path.PathKind.{PathKind}

module _ {E : Type 0} (kind named : PathKind) (same : kind ≡ named) (edge_for : Step → E) (ps : List Point)
    (old : List E) where
  -- their edges are added
  pub given_added : (new : List E) → IsTakenAs named ps ps →
      new ≡ old ++ map edge_for (path_steps_of (leads_back named) ps)
      → AddsPath kind edge_for ps old new
  given_added new kept content =
      subst (λ k. AddsPath k edge_for ps old new) (sym same) (record { taken = ps; is_taken = kept; content = content })

  -- or they weigh too much
  pub given_too_heavy : (weigh : List E → ℕ) → IsTakenAs named ps ps
      → 2 ^ 31 ≤ weigh (old ++ map edge_for (path_steps_of (leads_back named) ps))
      → WouldWeighTooMuch weigh (path_as kind edge_for ps) old
  given_too_heavy weigh kept heavy = record {
    content = old ++ map edge_for (path_steps_of (leads_back named) ps);
    adds = given_added (old ++ map edge_for (path_steps_of (leads_back named) ps)) kept refl;
    heavy = heavy;
  }
