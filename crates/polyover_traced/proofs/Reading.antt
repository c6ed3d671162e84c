-- Edges are read one after another.
use Rattle.std.proofs.Common.{◌≡◌, ℕ, ◌+◌, ◌*◌, ◌<◌, ℤ, List, [], ◌∷◌, ◌++◌, map, length, get_or, drop}
use Rattle.std.proofs.Common.{sym, ap, ◌∙◌, append_assoc, arith}
use Rattle.std.proofs.lemmas.List.{drop_more, map-append}
use Rattle.overlay_traced.specs.Given.{SidedEdge, plain_given}
use Rattle.overlay_traced.specs.declared.given.GivenEdge.{GivenEdge}
use Rattle.polyover_traced.specs.EdgeLists.{sided_at, sided_from}

module _ {I : Type 0} (whole : I → ℤ) (cs : List I) where
  -- one edge more is read
  pub one_more_read : (given new : List (GivenEdge I)) (sides : List ℕ) (i : ℕ) (e : GivenEdge I)
      (all : List SidedEdge) → i < length sides →
      plain_given whole e ≡ sided_at (map whole cs) (4 * i) (get_or sides i 0) → new ≡ given ++ e ∷ [] →
      map (plain_given whole) given ++ sided_from (map whole cs) (4 * i) (drop i sides) ≡ all →
      map (plain_given whole) new ++ sided_from (map whole cs) (4 * (i + 1)) (drop (i + 1) sides) ≡ all
  one_more_read given new sides i e all there plain added so =
      let front = map (plain_given whole) given in
      let rest = sided_from (map whole cs) (4 * (i + 1)) (drop (i + 1) sides) in
      let on : 4 * (i + 1) ≡ 4 * i + 4 = Prim.omega (arith) in
      let side = get_or sides i 0 in
      let left : drop i sides ≡ side ∷ drop (i + 1) sides = drop_more sides i 0 there in
      ap (λ es. es ++ rest) (ap (map (plain_given whole)) added ∙ map-append (plain_given whole) given (e ∷ []))
      ∙ append_assoc front (plain_given whole e ∷ []) rest
      ∙ ap (λ x. front ++ x ∷ rest) plain
      ∙ ap (λ n. front ++ sided_at (map whole cs) (4 * i) side ∷ sided_from (map whole cs) n (drop (i + 1) sides)) on
      ∙ ap (λ ss. front ++ sided_from (map whole cs) (4 * i) ss) (sym left)
      ∙ so
