-- A builder with the paths of two resources, added one after another, or refused.
use Rattle.std.proofs.Common.{◌≡◌, ◌⊎◌, inl, inr, false, List, [], ◌++◌, sym, ap, ◌∙◌}
use Rattle.std.proofs.lemmas.Bool.{false≢true}
use Rattle.std.specs.Prelude.{Ok, Err}
use Rattle.overlay_geom.specs.Edges.{CountedEdge, weight}
use Rattle.overlay_geom.specs.declared.error.OverlayError.{OverlayError}
use Rattle.overlay_geom.specs.declared.error.OverlayError.TheVariants.{Memory, NotSettled, TooManyEdges, Failed}
use Rattle.overlay_builder.specs.PathLists.{AddedPath, AddsPaths, StopsAtPath, HoldsPaths, MayRefuseBuilder}
use Rattle.overlay_builder.proofs.PathLists.{adds_both, stops_in_first, stops_after}
use Rattle.overlay_string.specs.StringBuilder.{StringBuilder, StringBuilderAdds}

module _ (ps qs : List (AddedPath CountedEdge)) where
  -- one of the first paths is refused
  pub first_paths_refused : (e : OverlayError) → MayRefuseBuilder ps e → MayRefuseBuilder (ps ++ qs) e
  first_paths_refused Memory may = tt
  first_paths_refused TooManyEdges may = (may.0, stops_in_first weight ps qs [] may.0 TooManyEdges may.1)
  first_paths_refused NotSettled may = may
  first_paths_refused Failed may = may

  module _ {U : Type 0} (old new : StringBuilder U) (held : AddsPaths ps [] old.edges) where
    -- the others are added after them
    pub both_held : StringBuilderAdds {V = Unit {0}} qs old new (Ok tt) → HoldsPaths (ps ++ qs) new.edges
    both_held h = record { added = adds_both ps qs [] old.edges new.edges held h.added.ok; light = h.added.light }

    -- or one of them is refused
    pub second_paths_refused : old.failed ≡ false → (e : OverlayError)
        → StringBuilderAdds {V = Unit {0}} qs old new (Err e) → MayRefuseBuilder (ps ++ qs) e
    second_paths_refused ready e h = either h.added.err
      where
        by : (e : OverlayError) → StopsAtPath weight qs old.edges new.edges e → MayRefuseBuilder (ps ++ qs) e
        by Memory stops = tt
        by TooManyEdges stops =
            (new.edges, stops_after weight ps qs [] old.edges new.edges TooManyEdges held stops)
        by NotSettled stops = stops.refused
        by Failed stops = stops.refused

        either : ((e ≡ Failed) ⊎ StopsAtPath weight qs old.edges new.edges e) → MayRefuseBuilder (ps ++ qs) e
        either (inl is) = absurd (false≢true (sym ready ∙ h.added.failed.0 (ap Err is)))
        either (inr stops) = by e stops
