-- A list has only one merged list.
use Rattle.std.proofs.Common.{◌≡◌, false, List, [], ◌∷◌, get_or, refl, ap, sym, subst, ◌∙◌, arith, inl, inr}
use Rattle.std.specs.List.{All, Contains}
use Rattle.std.proofs.lemmas.Bool.{both_ways}
use Rattle.std.proofs.lemmas.List.Elements.{All-contains, All-head, All-tail}
use Rattle.overlay_geom.specs.Plane.{edge_lt}
use Rattle.overlay_geom.specs.Edges.{CountedEdge, ends_of, counts_nothing}
use Rattle.overlay_geom.specs.Merged.{joined_edge, IsMerged}
use Rattle.overlay_geom.proofs.Entries.{Contains-cases}
use Rattle.overlay_geom.proofs.Orders.{edge_lt-itself, edge_lt-trans}
use Rattle.overlay_geom.proofs.Merging.{ComesBefore, Ascends, AllPairs-head, AllPairs-tail, JoinAlike, joined_cases}
use Rattle.overlay_geom.proofs.Merging.{joined_none, IsMerged-alike}

-- an edge that comes before another edge differs from it
pub not_before_itself : (e f : CountedEdge) → ComesBefore e f → e ≡ f → ⊥
not_before_itself e f before same = both_ways (edge_lt (ends_of e) (ends_of f))
    (ap (λ g. edge_lt (ends_of e) (ends_of g)) (sym same) ∙ edge_lt-itself (ends_of e)) before

-- two ascending lists with equal edges have equal first edges
same_first : (x : CountedEdge) (xs : List CountedEdge) (y : CountedEdge) (ys : List CountedEdge) →
    All (ComesBefore x) xs → All (ComesBefore y) ys → Contains (y ∷ ys) x → Contains (x ∷ xs) y → x ≡ y
same_first x xs y ys x_first y_first has_x has_y =
    elim (Contains-cases y ys x has_x) [
      | inl same ↦ sym same
      | inr x_later ↦ elim (Contains-cases x xs y has_y) [
        | inl same ↦ same
        | inr y_later ↦
            let back : ComesBefore y x = All-contains (ComesBefore y) ys x y_first x_later in
            let on : ComesBefore x y = All-contains (ComesBefore x) xs y x_first y_later in
            absurd (not_before_itself x x (edge_lt-trans (ends_of x) (ends_of y) (ends_of x) on back) refl)
      ]
    ]

-- the rest has the same edges
same_rest : (x : CountedEdge) (xs ys : List CountedEdge) → All (ComesBefore x) xs → All (Contains (x ∷ ys)) xs →
    All (Contains ys) xs
same_rest x xs ys first has = λ k d l.
    elim (Contains-cases x ys (get_or xs k d) (has k d l)) [
      | inl same ↦ absurd (not_before_itself x (get_or xs k d) (first k d l) same)
      | inr later ↦ later
    ]

-- ascending lists with the same edges are equal
pub same_ascending : (xs ys : List CountedEdge) → Ascends xs → Ascends ys → All (Contains ys) xs →
    All (Contains xs) ys → xs ≡ ys
same_ascending [] [] up_x up_y in_y in_x = refl
same_ascending [] (y ∷ ys) up_x up_y in_y in_x = absurd (let h : Contains [] y = All-head (Contains []) y ys in_x in
    omega (arith, h.1))
same_ascending (x ∷ xs) [] up_x up_y in_y in_x = absurd (let h : Contains [] x = All-head (Contains []) x xs in_y in
    omega (arith, h.1))
same_ascending (x ∷ xs) (y ∷ ys) up_x up_y in_y in_x =
    let x_first : All (ComesBefore x) xs = AllPairs-head ComesBefore x xs up_x in
    let y_first : All (ComesBefore y) ys = AllPairs-head ComesBefore y ys up_y in
    let same : x ≡ y = same_first x xs y ys x_first y_first (All-head (Contains (y ∷ ys)) x xs in_y)
    (All-head (Contains (x ∷ xs)) y ys in_x) in
    let rest_x : All (Contains ys) xs = same_rest x xs ys x_first
    (subst (λ (z : CountedEdge). All (Contains (z ∷ ys)) xs) (sym same) (All-tail (Contains (y ∷ ys)) x xs in_y)) in
    let rest_y : All (Contains xs) ys = same_rest y ys xs y_first
    (subst (λ (z : CountedEdge). All (Contains (z ∷ xs)) ys) same (All-tail (Contains (x ∷ xs)) y ys in_x)) in
    ap (λ z. z ∷ xs) same ∙ ap (λ zs. y ∷ zs) (same_ascending xs ys (AllPairs-tail ComesBefore x xs up_x)
    (AllPairs-tail ComesBefore y ys up_y) rest_x rest_y)

-- each edge of a merged list is in every other merging of the same list
merged_in_other : (old new other : List CountedEdge) → IsMerged old new → IsMerged old other → All (Contains other) new
merged_in_other old new other m n = λ k d l. here (get_or new k d) (m.joined k d l).0 (m.joined k d l).1
  where
    here : (e : CountedEdge) → e ≡ joined_edge old (ends_of e) → counts_nothing e ≡ false → Contains other e
    here e joined full =
        let alike : JoinAlike old other = IsMerged-alike old other n in
        let is : joined_edge other (ends_of e) ≡ e = alike.at (ends_of e) ∙ sym joined in
        elim (joined_cases other (ends_of e) n.ascending) [
          | inl none ↦ absurd (both_ways (counts_nothing e) full (ap counts_nothing (sym is)
              ∙ joined_none other (ends_of e) none))
          | inr has ↦ subst (λ (f : CountedEdge). Contains other f) is has
        ]

-- two lists that one list was merged to are equal
pub IsMerged-unique : (old new other : List CountedEdge) → IsMerged old new → IsMerged old other → new ≡ other
IsMerged-unique old new other m n = same_ascending new other m.ascending n.ascending (merged_in_other old new other m n)
    (merged_in_other old other new n m)
