-- One more edge stands in the arrays.
use Rattle.std.proofs.Common.{◌≡◌, ℕ, ◌+◌, ℤ, List, [], ◌∷◌, ◌++◌, length, map, refl, sym, ap, ap₂, ◌∙◌, arith}
use Rattle.std.proofs.Common.{length-append, append-nil}
use Rattle.std.proofs.lemmas.List.{map-append}
use Rattle.std.proofs.lemmas.List.Concat.{flat_map-append}
use Rattle.std.proofs.lemmas.List.Elements.{All-nil, All-push}
use Rattle.std.proofs.lemmas.Option.{none-some, same_Some}
use Rattle.std.specs.List.{flat_map}
use Rattle.std.specs.Prelude.{◌≢◌, Option, None, Some}
use Rattle.overlay_vector.specs.DataVectors.{DataVector}
use Rattle.overlay_traced.specs.Marks.{both_known, sources_of}
use Rattle.overlay_traced.specs.Told.{TracedArrays, AreTold, IsKnown, ends_after, ends_of_edge, list_of, named_by}
use Rattle.overlay_traced.specs.declared.mark.Mark.{Mark}
use Rattle.overlay_traced.specs.declared.source.Source.{Source}

-- what is added is known
known_there : (s t : List Source) (o : Option (List Source)) → Some t ≡ both_known (Some s) o →
    (o ≢ None) × (t ≡ s ++ list_of o)
known_there s t None is = absurd (none-some t (sym is))
known_there s t (Some xs) is = ((λ none. none-some xs (sym none)), same_Some t (s ++ xs) is)

-- the ends with one more edge
ends_last : (n : ℕ) (vs : List (DataVector Mark)) (v : DataVector Mark) →
    ends_after n (map named_by (vs ++ v ∷ []))
    ≡ ends_after n (map named_by vs) ++ ((n + length (flat_map named_by vs)) + length (named_by v)) ∷ []
ends_last n [] v = let same : n + length (named_by v) ≡ (n + 0) + length (named_by v) = Prim.omega (arith) in
    ap (λ k. k ∷ []) same
ends_last n (w ∷ ws) v =
    let first = n + length (named_by w) in
    let same : (first + length (flat_map named_by ws)) + length (named_by v)
    ≡ (n + length (named_by w ++ flat_map named_by ws)) + length (named_by v) =
    Prim.omega (arith, length-append (named_by w) (flat_map named_by ws)) in
    ap (λ k. first ∷ k) (ends_last first ws v)
    ∙ ap (λ k. first ∷ ends_after first (map named_by ws) ++ k ∷ []) same

-- no edge stands in empty arrays
pub none_told : {I : Type 0} (whole : I → ℤ) →
    AreTold whole [] (record { coordinates = []; fills = []; source_ends = []; sources = [] })
none_told whole =
    record { known = All-nil IsKnown; coordinates = refl; fills = refl; source_ends = refl; sources = refl }

module _ {I : Type 0} (whole : I → ℤ) (vs : List (DataVector Mark)) (v : DataVector Mark) (old new : TracedArrays I)
    (told : AreTold whole vs old) where
  pub one_more_told : map whole new.coordinates ≡ map whole old.coordinates ++ ends_of_edge v →
      new.fills ≡ old.fills ++ v.fill ∷ [] →
      Some new.sources ≡ both_known (Some old.sources) (sources_of v.data_of) →
      new.source_ends ≡ old.source_ends ++ length new.sources ∷ [] →
      AreTold whole (vs ++ v ∷ []) new
  one_more_told coordinates fills sources ends =
      let added = known_there old.sources new.sources (sources_of v.data_of) sources in
      let all : new.sources ≡ flat_map named_by vs ++ named_by v = added.1 ∙ ap (λ s. s ++ named_by v) told.sources in
      let count : length new.sources ≡ (0 + length (flat_map named_by vs)) + length (named_by v) =
      Prim.omega (arith, ap length all, length-append (flat_map named_by vs) (named_by v)) in
      record {
        known = All-push IsKnown vs v told.known added.0;
        coordinates = coordinates ∙ ap (λ cs. cs ++ ends_of_edge v) told.coordinates
            ∙ sym (flat_map-append ends_of_edge vs (v ∷ []) ∙ ap (λ k. flat_map ends_of_edge vs ++ k)
            (append-nil (ends_of_edge v)));
        fills = fills ∙ ap (λ fs. fs ++ v.fill ∷ []) told.fills ∙ sym (map-append (λ w. w.fill) vs (v ∷ []));
        source_ends = ends ∙ ap₂ (λ es n. es ++ n ∷ []) told.source_ends count ∙ sym (ends_last 0 vs v);
        sources = all ∙ sym (flat_map-append named_by vs (v ∷ []) ∙ ap (λ k. flat_map named_by vs ++ k)
            (append-nil (named_by v)));
      }
