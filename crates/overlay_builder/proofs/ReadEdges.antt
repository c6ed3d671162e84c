-- A list of edges that have been read is empty exactly where none was read.
use Rattle.std.proofs.Common.{◌≡◌, Bool, true, false, ◌==◌, List, [], ◌∷◌, length, map, sym, ap, ◌∙◌}
use Rattle.std.proofs.Math.Dec.{eqb-suc-zero}
use Rattle.std.proofs.lemmas.Bool.{false≢true}
use Rattle.std.specs.Prelude.{◌≢◌}
use Rattle.overlay_geom.specs.Edges.{CountedEdge}
use Rattle.overlay_plane.specs.Carried.{Carried, edges_in}

-- it has one where one was read
pub some_read : {X C : Type 0} (carried : X → Carried C) (read : List X) (es : List (Carried C)) → map carried read ≡ es
    → (length read == 0) ≡ false → edges_in es ≢ []
some_read carried [] es are none = λ _. false≢true (sym none)
some_read carried (x ∷ read) es are some = λ none. false≢true (ap is_none (sym (ap edges_in are ∙ none)))
  where
    is_none : List CountedEdge → Bool
    is_none [] = false
    is_none (e ∷ es) = true

-- no edge is read if there was none
pub none_read : {X C : Type 0} (carried : X → Carried C) (read : List X) (es : List (Carried C)) → map carried read ≡ es
    → (length read == 0) ≡ true → edges_in es ≡ []
none_read carried [] es are none = sym (ap edges_in are)
none_read carried (x ∷ read) es are some = absurd (false≢true (sym (eqb-suc-zero (length read)) ∙ some))
