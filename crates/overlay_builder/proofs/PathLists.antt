-- Paths added one after another: a further path at the end, two lists of paths, and refusals in either.
use Rattle.std.proofs.Common.{◌≡◌, ◌⊎◌, inl, inr, ℕ, true≢false, is_ok, List, [], ◌∷◌, ◌++◌, sym, ap, ◌∙◌}
use Rattle.std.proofs.lemmas.List.{append_assoc}
use Rattle.std.proofs.lemmas.Result.{IfErr-weaker, on_ok_weaker}
use Rattle.std.specs.Prelude.{Result, Ok, Err}
use Rattle.overlay_geom.specs.declared.error.OverlayError.{OverlayError}
use Rattle.overlay_geom.specs.declared.error.OverlayError.TheVariants.{Failed}
use Rattle.overlay_builder.specs.Held.{Held}
use Rattle.overlay_builder.specs.PathLists.{AddedPath, AddsOne, AddsPaths, AddsAsAsked, StopsAtPath}
use Rattle.overlay_builder.specs.PathLists.AddsPaths.{no_path, path_and_others}

module _ {E : Type 0} where
  -- one more path is added last
  pub adds_last : (ps : List (AddedPath E)) (p : AddedPath E) (old mid new : List E) → AddsPaths ps old mid →
      AddsOne p mid new
      → AddsPaths (ps ++ p ∷ []) old new
  adds_last ps p old mid new no_path last = path_and_others last no_path
  adds_last ps p old mid new (path_and_others first h) last = path_and_others first (adds_last _ p _ mid new h last)

  -- some paths are added, and then others
  pub adds_both : (ps qs : List (AddedPath E)) (old mid new : List E) → AddsPaths ps old mid → AddsPaths qs mid new
      → AddsPaths (ps ++ qs) old new
  adds_both ps qs old mid new no_path others = others
  adds_both ps qs old mid new (path_and_others first h) others = path_and_others first
      (adds_both _ qs _ mid new h others)

module _ {E : Type 0} (weigh : List E → ℕ) (ps qs : List (AddedPath E)) (old : List E) where
  -- one of some paths is refused, with others after them
  pub stops_in_first : (new : List E) (e : OverlayError) → StopsAtPath weigh ps old new e →
      StopsAtPath weigh (ps ++ qs) old new e
  stops_in_first new e h = record {
    path = h.path;
    added = record {
      before = h.added.before;
      after = h.added.after ++ qs;
      parts = ap (λ l. l ++ qs) h.added.parts ∙ append_assoc h.added.before (h.path ∷ h.added.after) qs;
      added = h.added.added;
    };
    refused = h.refused;
  }

  -- one of the others is, after all of the first
  pub stops_after : (mid new : List E) (e : OverlayError) → AddsPaths ps old mid → StopsAtPath weigh qs mid new e
      → StopsAtPath weigh (ps ++ qs) old new e
  stops_after mid new e all h = record {
    path = h.path;
    added = record {
      before = ps ++ h.added.before;
      after = h.added.after;
      parts = ap (λ l. ps ++ l) h.added.parts ∙ sym (append_assoc ps h.added.before (h.path ∷ h.added.after));
      added = adds_both ps h.added.before old mid new all h.added.added;
    };
    refused = h.refused;
  }

module _ {E V : Type 0} (weigh : List E → ℕ) (ps qs : List (AddedPath E)) (old mid : Held E) where
  -- where one of the first paths is refused, the others are not added
  pub first_refused : (e : OverlayError) → AddsAsAsked {V = V} weigh ps old mid (Err e)
      → AddsAsAsked {V = V} weigh (ps ++ qs) old mid (Err e)
  first_refused e h = record {
    ok = tt;
    light = h.light;
    kept = h.kept;
    failed = h.failed;
    untouched = h.untouched;
    err = either h.err;
  }
    where
      either : ((e ≡ Failed) ⊎ StopsAtPath weigh ps old.edges mid.edges e)
          → (e ≡ Failed) ⊎ StopsAtPath weigh (ps ++ qs) old.edges mid.edges e
      either (inl same) = inl same
      either (inr stops) = inr (stops_in_first weigh ps qs old.edges mid.edges e stops)

  -- where the first are added, the others are added, or refused, after them
  pub both_added : (new : Held E) (v : V) → AddsAsAsked weigh ps old mid (Ok v) → (r : Result V OverlayError)
      → AddsAsAsked weigh qs mid new r → AddsAsAsked weigh (ps ++ qs) old new r
  both_added new v first r h = record {
    ok = on_ok_weaker r (adds_both ps qs old.edges mid.edges new.edges first.ok) h.ok;
    light = h.light;
    kept = h.kept ∙ first.kept;
    failed = (λ same. sym first.kept ∙ h.failed.0 same, λ had. h.failed.1 (first.kept ∙ had));
    untouched = λ same. absurd (ok_is_no_error (first.failed.1 (sym first.kept ∙ h.failed.0 same)));
    err = IfErr-weaker r _ _ either h.err;
  }
    where
      ok_is_no_error : ¬ (Ok v ≡ Err Failed)
      ok_is_no_error same = true≢false (ap is_ok same)

      either : (e : OverlayError) → ((e ≡ Failed) ⊎ StopsAtPath weigh qs mid.edges new.edges e)
          → (e ≡ Failed) ⊎ StopsAtPath weigh (ps ++ qs) old.edges new.edges e
      either e (inl same) = inl same
      either e (inr stops) = inr (stops_after weigh ps qs old.edges mid.edges new.edges e first.ok stops)
