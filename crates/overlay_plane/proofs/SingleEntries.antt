-- In a list without equal edges an edge occurs once. Entries with equal ends are equal, and a sum over these is a
-- single term.
use Rattle.std.proofs.Common.{◌≡◌, ⊎_elim, true, false, cond, ℤ, pos, ◌+ℤ◌, List, [], ◌∷◌, Contains, sym, ap, ap₂, ◌∙◌}
use Rattle.std.proofs.Common.{subst}
use Rattle.std.proofs.lemmas.Bool.{false≢true, false_from_ne_true}
use lib.IntN.{+ℤ_idl, +ℤ_idr}
use Rattle.overlay_geom.specs.Plane.{edge_eq, total}
use Rattle.overlay_geom.specs.Edges.{CountedEdge, ends_of}
use Rattle.overlay_geom.proofs.Orders.{edge_eq-exchanged, edge_eq-itself}
use Rattle.overlay_plane.specs.Regions.{HasDistinctEnds}
use Rattle.overlay_plane.proofs.Totals.{total-zero}
use Rattle.overlay_plane.proofs.LaterEntries.{Contains-cases, Each, Each-from_all_pairs}

-- two entries with different ends
abbrev Differ : CountedEdge → CountedEdge → Type 0
Differ e f = edge_eq (ends_of e) (ends_of f) ≡ false

-- of entries that differ from each later one, two with the same ends are equal
one_entry_of : (es : List CountedEdge) → Each Differ es → (e f : CountedEdge) → Contains es e → Contains es f →
    edge_eq (ends_of e) (ends_of f) ≡ true → e ≡ f
one_entry_of [] h e f at_e at_f same = elim at_e.1 [ ]
one_entry_of (x ∷ xs) h e f at_e at_f same = ⊎_elim
    (λ xe. ⊎_elim (λ xf. sym xe ∙ xf)
    (λ later. absurd (false≢true (sym (h.0 f later)
    ∙ subst (λ (y : CountedEdge). edge_eq (ends_of y) (ends_of f) ≡ true) (sym xe) same)))
    (Contains-cases x xs f at_f))
    (λ later_e. ⊎_elim (λ xf. absurd
    (false≢true (sym (h.0 e later_e) ∙ edge_eq-exchanged (ends_of e) (ends_of x)
    (subst (λ (y : CountedEdge). edge_eq (ends_of e) (ends_of y) ≡ true) (sym xf) same))))
    (λ later_f. one_entry_of xs h.1 e f later_e later_f same) (Contains-cases x xs f at_f))
    (Contains-cases x xs e at_e)

-- a sum over these is one term
single_total_of : (es : List CountedEdge) → Each Differ es → (c : CountedEdge → ℤ) (e : CountedEdge) → Contains es e →
    total (λ f. cond (edge_eq (ends_of f) (ends_of e)) (c f) (pos 0)) es ≡ c e
single_total_of [] h c e at = elim at.1 [ ]
single_total_of (x ∷ xs) h c e at = ⊎_elim
    (λ xe. subst (λ (y : CountedEdge). total (λ f. cond (edge_eq (ends_of f) (ends_of y)) (c f) (pos 0)) (x ∷ xs) ≡ c y)
    xe
    (ap₂ (λ a b. a +ℤ b) (ap (λ t. cond t (c x) (pos 0)) (edge_eq-itself (ends_of x)))
    (total-zero (λ f. cond (edge_eq (ends_of f) (ends_of x)) (c f) (pos 0)) xs
    (λ z later. ap (λ t. cond t (c z) (pos 0)) (other_way z (h.0 z later)))) ∙ +ℤ_idr (c x)))
    (λ later. ap₂ (λ a b. a +ℤ b) (ap (λ t. cond t (c x) (pos 0)) (h.0 e later)) (single_total_of xs h.1 c e later)
    ∙ +ℤ_idl (c e))
    (Contains-cases x xs e at)
  where
    other_way : (z : CountedEdge) → Differ x z → edge_eq (ends_of z) (ends_of x) ≡ false
    other_way z differ = false_from_ne_true (edge_eq (ends_of z) (ends_of x))
        (λ same. false≢true (sym differ ∙ edge_eq-exchanged (ends_of z) (ends_of x) same))

-- entries with the same ends are equal
pub one_entry : (es : List CountedEdge) → HasDistinctEnds es → (e f : CountedEdge) → Contains es e → Contains es f →
    edge_eq (ends_of e) (ends_of f) ≡ true → e ≡ f
one_entry es distinct = one_entry_of es (Each-from_all_pairs Differ es distinct)

-- a sum over the entries with the ends of e is the term of e
pub single_total : (es : List CountedEdge) → HasDistinctEnds es → (c : CountedEdge → ℤ) (e : CountedEdge) →
    Contains es e →
    total (λ f. cond (edge_eq (ends_of f) (ends_of e)) (c f) (pos 0)) es ≡ c e
single_total es distinct = single_total_of es (Each-from_all_pairs Differ es distinct)
