-- Edges with their values, added by a path, seen as edges alone.
use Rattle.std.proofs.Common.{◌≡◌, ◌⊎◌, inl, inr, ℕ, List, [], ◌∷◌, ◌++◌, map, refl, ap, ◌∙◌}
use Rattle.std.proofs.lemmas.List.{map-append}
use Rattle.std.proofs.lemmas.Result.{IfErr-weaker, on_ok_weaker}
use Rattle.std.specs.Prelude.{Result}
use Rattle.overlay_geom.specs.Plane.{Point, Step}
use Rattle.overlay_geom.specs.declared.error.OverlayError.{OverlayError}
use Rattle.overlay_geom.specs.declared.error.OverlayError.TheVariants.{Memory, NotSettled, TooManyEdges, Failed}
use Rattle.overlay_builder.specs.Held.{Held}
use Rattle.overlay_builder.specs.Paths.{AddsPath, path_steps_of, leads_back}
use Rattle.overlay_builder.specs.PathLists.{AddedPath, AddsPaths, AddsAsAsked, MayRefusePath, StopsAtPath}
use Rattle.overlay_builder.specs.PathLists.{WouldWeighTooMuch}
use Rattle.overlay_builder.specs.PathLists.AddsPaths.{no_path, path_and_others}
use Rattle.overlay_builder.specs.declared.path.PathKind.{PathKind}

module _ {E F : Type 0} (f : E → F) where
  -- a path whose edges are seen so
  abbrev pub seen : AddedPath E → AddedPath F
  seen p = record { kind = p.kind; edge_for = λ s. f (p.edge_for s); points = p.points }

  -- the edges that a path adds
  pub one_seen : (kind : PathKind) (edge_for : Step → E) (ps : List Point) (old new : List E) →
      AddsPath kind edge_for ps old new
      → AddsPath kind (λ s. f (edge_for s)) ps (map f old) (map f new)
  one_seen kind edge_for ps old new h = record {
    taken = h.taken;
    is_taken = h.is_taken;
    content = ap (map f) h.content ∙ map-append f old (map edge_for (path_steps_of (leads_back kind) h.taken))
        ∙ ap (λ l. map f old ++ l) (map_twice (path_steps_of (leads_back kind) h.taken));
  }
    where
      map_twice : (ss : List Step) → map f (map edge_for ss) ≡ map (λ s. f (edge_for s)) ss
      map_twice [] = refl
      map_twice (s ∷ ss) = ap (λ l. f (edge_for s) ∷ l) (map_twice ss)

  -- the edges that several paths add
  pub all_seen : (all : List (AddedPath E)) (from to : List E) → AddsPaths all from to →
      AddsPaths (map seen all) (map f from) (map f to)
  all_seen all from to no_path = no_path
  all_seen all from to (path_and_others {p} {ps} {mid} first h) =
      path_and_others (one_seen p.kind p.edge_for p.points from mid first) (all_seen ps mid to h)

  module _ (weigh : List F → ℕ) where
    -- a path that would bring the weight to the limit
    pub heavy_seen : (p : AddedPath E) (old : List E) → WouldWeighTooMuch (λ es. weigh (map f es)) p old
        → WouldWeighTooMuch weigh (seen p) (map f old)
    heavy_seen p old h =
        record {
          content = map f h.content;
          adds = one_seen p.kind p.edge_for p.points old h.content h.adds;
          heavy = h.heavy;
        }

    refusal_seen : (p : AddedPath E) (old : List E) (e : OverlayError) → MayRefusePath (λ es. weigh (map f es)) p old e
        → MayRefusePath weigh (seen p) (map f old) e
    refusal_seen p old Memory may = tt
    refusal_seen p old TooManyEdges may = heavy_seen p old may
    refusal_seen p old NotSettled may = may
    refusal_seen p old Failed may = may

    stop_seen : (ps : List (AddedPath E)) (old new : List E) (e : OverlayError) →
        StopsAtPath (λ es. weigh (map f es)) ps old new e
        → StopsAtPath weigh (map seen ps) (map f old) (map f new) e
    stop_seen ps old new e h = record {
      path = seen h.path;
      added = record {
        before = map seen h.added.before;
        after = map seen h.added.after;
        parts = ap (map seen) h.added.parts ∙ map-append seen h.added.before (h.path ∷ h.added.after);
        added = all_seen h.added.before old new h.added.added;
      };
      refused = refusal_seen h.path new e h.refused;
    }

    -- the builder with its edges mapped
    abbrev pub held_seen : Held E → Held F
    held_seen h = record { edges = map f h.edges; failed = h.failed }

    -- a call that adds paths
    pub adding_seen : {V : Type 0} (ps : List (AddedPath E)) (old new : Held E) (r : Result V OverlayError)
        → AddsAsAsked (λ es. weigh (map f es)) ps old new r → AddsAsAsked weigh (map seen ps) (held_seen old)
        (held_seen new) r
    adding_seen ps old new r h = record {
      ok = on_ok_weaker r (all_seen ps old.edges new.edges) h.ok;
      light = h.light;
      kept = h.kept;
      failed = h.failed;
      untouched = λ same. ap held_seen (h.untouched same);
      err = IfErr-weaker r _ _ either h.err;
    }
      where
        either : (e : OverlayError) → ((e ≡ Failed) ⊎ StopsAtPath (λ es. weigh (map f es)) ps old.edges new.edges e)
            → (e ≡ Failed) ⊎ StopsAtPath weigh (map seen ps) (map f old.edges) (map f new.edges) e
        either e (inl same) = inl same
        either e (inr stops) = inr (stop_seen ps old.edges new.edges e stops)
