-- Shapes, added to a builder for predicates one after another.
use Rattle.std.proofs.Common.{◌≡◌, inl, ℕ, ◌+◌, ◌<◌, ◌^◌, true, false, List, [], ◌++◌, length, take, drop, get_or}
use Rattle.std.proofs.Common.{flat_map, take-append-drop, refl, sym, ap, subst, is_ok, true≢false, ◌∙◌}
use Rattle.std.proofs.lemmas.Bool.{false≢true}
use Rattle.std.proofs.lemmas.Grind.{flat_map-append}
use Rattle.std.proofs.lemmas.List.{map-append}
use Rattle.std.specs.Prelude.{Ok, Err}
use Rattle.overlay_geom.specs.Edges.{weight}
use Rattle.overlay_geom.specs.Plane.{Point}
use Rattle.overlay_geom.specs.declared.error.OverlayError.{OverlayError}
use Rattle.overlay_geom.specs.declared.error.OverlayError.TheVariants.{Failed}
use Rattle.overlay_geom.specs.declared.options.ShapeType.{ShapeType}
use Rattle.overlay_geom.proofs.JoinedLists.{joined_more}
use Rattle.overlay_builder.specs.GivenPaths.{GivenPath, paths_for}
use Rattle.overlay_builder.specs.PathLists.AddsPaths.{no_path}
use Rattle.overlay_relate.specs.PredicateBuilder.{PredicateBuilder, PredicateBuilderAdds}
use Rattle.overlay_relate.proofs.PredicateBuilders.{first_source_refused, both_sources}

module _ (b : PredicateBuilder) where
  -- a builder that has not failed has no paths added
  pub none_added : b.failed ≡ false → weight b.edges < 2 ^ 31 → PredicateBuilderAdds {V = Unit {0}} [] b b (Ok tt)
  none_added ready light = record {
    added = record {
      ok = no_path;
      light = light;
      kept = refl;
      failed = (λ same. absurd (true≢false (ap is_ok same)), λ had. absurd (false≢true (sym ready ∙ had)));
      untouched = λ same. refl;
      err = tt;
    };
    kept = refl;
  }

  -- one that has failed refuses them
  pub failed_refuses : (ps : List GivenPath) → b.failed ≡ true → weight b.edges < 2 ^ 31 →
      PredicateBuilderAdds {V = Unit {0}} ps b b (Err Failed)
  failed_refuses ps had light = record {
    added = record {
      ok = tt;
      light = light;
      kept = refl;
      failed = (λ same. had, λ again. refl);
      untouched = λ same. refl;
      err = inl refl;
    };
    kept = refl;
  }

module _ {X : Type 0} (paths_of : X → List (List Point)) (t : ShapeType) (xs : List X) (i : ℕ) (x : X)
    (within : i < length xs)
    (is : x ≡ get_or xs i x) (old now new : PredicateBuilder) where
  -- the paths of the shapes before this one, of this one, and of those behind it
  abbrev so_far : List GivenPath
  so_far = paths_for t (flat_map paths_of (take i xs))

  abbrev here : List GivenPath
  here = paths_for t (paths_of x)

  abbrev behind : List GivenPath
  behind = paths_for t (flat_map paths_of (drop (i + 1) xs))

  up_to : paths_for t (flat_map paths_of (take (i + 1) xs)) ≡ so_far ++ here
  up_to = ap (paths_for t) (joined_more paths_of xs i x within is) ∙ map-append _ (flat_map paths_of (take i xs))
      (paths_of x)

  all_paths : paths_for t (flat_map paths_of xs) ≡ (so_far ++ here) ++ behind
  all_paths =
      ap (λ l. paths_for t (flat_map paths_of l)) (sym (take-append-drop (i + 1) xs))
      ∙ ap (paths_for t) (flat_map-append paths_of (take (i + 1) xs) (drop (i + 1) xs))
      ∙ map-append _ (flat_map paths_of (take (i + 1) xs)) (flat_map paths_of (drop (i + 1) xs))
      ∙ ap (λ l. l ++ behind) up_to

  module _ (before : PredicateBuilderAdds {V = Unit {0}} so_far old now (Ok tt)) where
    -- one more shape is added
    pub next_shape_added : PredicateBuilderAdds {V = Unit {0}} here now new (Ok tt)
        → PredicateBuilderAdds {V = Unit {0}} (paths_for t (flat_map paths_of (take (i + 1) xs))) old new (Ok tt)
    next_shape_added h =
        subst (λ l. PredicateBuilderAdds {V = Unit {0}} l old new (Ok tt)) (sym up_to)
        (both_sources so_far here old now new tt before (Ok tt) h)

    -- or refused
    pub next_shape_refused : (e : OverlayError) → PredicateBuilderAdds {V = Unit {0}} here now new (Err e)
        → PredicateBuilderAdds {V = Unit {0}} (paths_for t (flat_map paths_of xs)) old new (Err e)
    next_shape_refused e h =
        subst (λ l. PredicateBuilderAdds {V = Unit {0}} l old new (Err e)) (sym all_paths)
        (first_source_refused (so_far ++ here) behind old new e
        (both_sources so_far here old now new tt before (Err e) h))
