-- A list is the merged list of another if it ascends, has no edge without counts, and has equal joined edges between
-- any two ends.
use Rattle.std.proofs.Common.{◌≡◌, zero, suc, Bool, true, false, List, [], ◌∷◌, get_or, refl, ap, sym, subst, ◌∙◌}
use Rattle.std.proofs.Common.{arith, ◌⊎◌, inl, inr}
use Rattle.std.specs.List.{All, AllPairs, Contains, list_any}
use Rattle.std.proofs.lemmas.Int.{ints}
use Rattle.std.proofs.lemmas.List.Elements.{All-cons, All-nil, All-contains, All-weaker}
use Rattle.overlay_geom.specs.Plane.{Edge, edge_eq, edge_lt, total}
use Rattle.overlay_geom.specs.Edges.{CountedEdge, ends_of, subj_of, clip_of, goes_along, goes_against, counts_nothing}
use Rattle.overlay_geom.specs.Merged.{edges_between, all_counts, joined_edge, IsMerged}
use Rattle.overlay_geom.proofs.Orders.{edge_eq-itself, edge_eq-from_lt, edge_eq-flip}
use Rattle.overlay_geom.proofs.Marks.{IsUncounted, uncounted, or_false, marked_between}
use Rattle.overlay_geom.proofs.Between.{edges_between-none, edges_between-here, edges_between-past, find_between}

-- e comes before f in the order of edges
abbrev pub ComesBefore : CountedEdge → CountedEdge → Type 0
ComesBefore e f = edge_lt (ends_of e) (ends_of f) ≡ true

-- each edge comes before all later ones
abbrev pub Ascends : List CountedEdge → Type 0
Ascends es = AllPairs ComesBefore es

-- the two lists have the same joined edge between any two ends
pub record JoinAlike (old new : List CountedEdge) : Type 0 where
  pub at : (e : Edge) → joined_edge new e ≡ joined_edge old e

-- a fact of any two items holds of the first and each later one
pub AllPairs-head : {X : Type 0} (R : X → X → Type 0) (x : X) (xs : List X) → AllPairs R (x ∷ xs) → All (R x) xs
AllPairs-head R x xs h = λ k d l. h zero (suc k) d (omega arith) (omega arith)

-- a fact of any two items holds of any two of the rest
pub AllPairs-tail : {X : Type 0} (R : X → X → Type 0) (x : X) (xs : List X) → AllPairs R (x ∷ xs) → AllPairs R xs
AllPairs-tail R x xs h = λ i j d l m. h (suc i) (suc j) d (omega arith) (omega arith)

-- in an ascending list each edge is the only one between its ends
pub alone_between : (es : List CountedEdge) → Ascends es → All (λ f. edges_between es (ends_of f) ≡ f ∷ []) es
alone_between [] up = All-nil (λ f. edges_between [] (ends_of f) ≡ f ∷ [])
alone_between (x ∷ es) up =
    let later : All (ComesBefore x) es = AllPairs-head ComesBefore x es up in
    let apart : All (λ f. edge_eq (ends_of x) (ends_of f) ≡ false) es = All-weaker (ComesBefore x)
    (λ f. edge_eq (ends_of x) (ends_of f) ≡ false) (λ f. edge_eq-from_lt (ends_of x) (ends_of f)) es later in
    let others : All (λ f. edge_eq (ends_of f) (ends_of x) ≡ false) es = All-weaker
    (λ f. edge_eq (ends_of x) (ends_of f) ≡ false) (λ f. edge_eq (ends_of f) (ends_of x) ≡ false)
    (λ f. edge_eq-flip (ends_of x) (ends_of f)) es apart in
    let rest : All (λ f. edges_between es (ends_of f) ≡ f ∷ []) es = alone_between es
    (AllPairs-tail ComesBefore x es up) in
    All-cons (λ f. edges_between (x ∷ es) (ends_of f) ≡ f ∷ []) x es
    (edges_between-here x es (ends_of x) (edge_eq-itself (ends_of x))
    ∙ ap (λ fs. x ∷ fs) (edges_between-none es (ends_of x) others))
    (λ k d l. edges_between-past x es (ends_of (get_or es k d)) (apart k d l) ∙ rest k d l)

-- an edge alone between its ends is its joined edge
pub joined_alone : (es : List CountedEdge) (f : CountedEdge) → edges_between es (ends_of f) ≡ f ∷ [] →
    joined_edge es (ends_of f) ≡ f
joined_alone es f h =
    let s : total subj_of (edges_between es (ends_of f)) ≡ f.counts.subj = ap (total subj_of) h ∙ omega (arith, ints) in
    let c : total clip_of (edges_between es (ends_of f)) ≡ f.counts.clip = ap (total clip_of) h ∙ omega (arith, ints) in
    λ i. record {
      a = f.a;
      b = f.b;
      counts = record { subj = s i; clip = c i; along = marked goes_along i; against = marked goes_against i };
    }
  where
    marked : (mark : CountedEdge → Bool) → marked_between mark es (ends_of f) ≡ mark f
    marked mark = ap (list_any mark) h ∙ or_false (mark f)

-- in an ascending list each edge is the joined edge between its ends
pub joined_itself : (es : List CountedEdge) → Ascends es → All (λ f. joined_edge es (ends_of f) ≡ f) es
joined_itself es up = All-weaker (λ f. edges_between es (ends_of f) ≡ f ∷ []) (λ f. joined_edge es (ends_of f) ≡ f)
    (joined_alone es) es (alone_between es up)

-- the single edge between these ends that all edges of a list become
abbrev pub all_joined : Edge → List CountedEdge → CountedEdge
all_joined e fs = record { a = e.a; b = e.b; counts = all_counts fs }

-- where no edges are, the joined one has count 0
pub joined_none : (es : List CountedEdge) (e : Edge) → edges_between es e ≡ [] →
    counts_nothing (joined_edge es e) ≡ true
joined_none es e h = ap (λ fs. counts_nothing (all_joined e fs)) h

-- the edge of an ascending list between two ends, or none
pub joined_cases : (es : List CountedEdge) (e : Edge) → Ascends es →
    (edges_between es e ≡ []) ⊎ Contains es (joined_edge es e)
joined_cases es e up =
    elim (find_between es e) [
      | inl none ↦ inl none
      | inr found ↦
          let f : CountedEdge = found.0 in
          let is : joined_edge es (ends_of f) ≡ f = All-contains (λ f. joined_edge es (ends_of f) ≡ f) es f
          (joined_itself es up) found.1 in
          inr (subst (λ (g : CountedEdge). Contains es g) (sym is ∙ ap (joined_edge es) found.2) found.1)
    ]

-- an ascending list without empty counts that joins alike is the other merged
pub IsMerged-from_alike : (old new : List CountedEdge) → Ascends new → All (λ e. counts_nothing e ≡ false) new →
    JoinAlike old new → IsMerged old new
IsMerged-from_alike old new up full alike = record {
  ascending = up;
  joined = λ k d l. (sym (joined_itself new up k d l) ∙ alike.at _, full k d l);
  complete = λ k d l. here (ends_of (get_or old k d));
}
  where
    here : (e : Edge) → (counts_nothing (joined_edge old e) ≡ true) ⊎ Contains new (joined_edge old e)
    here e = elim (joined_cases new e up) [
      | inl none ↦ inl (ap counts_nothing (sym (alike.at e)) ∙ joined_none new e none)
      | inr found ↦ inr (subst (λ (g : CountedEdge). Contains new g) (alike.at e) found)
    ]

-- an edge that has count 0 is settled by its ends
pub same_from_nothing : (e f : CountedEdge) → ends_of e ≡ ends_of f → counts_nothing e ≡ true →
    counts_nothing f ≡ true → e ≡ f
same_from_nothing e f ends g h =
    let none : IsUncounted e = uncounted e g in
    let others : IsUncounted f = uncounted f h in
    let s : e.counts.subj ≡ f.counts.subj = none.subj ∙ sym others.subj in
    let c : e.counts.clip ≡ f.counts.clip = none.clip ∙ sym others.clip in
    let l : e.counts.along ≡ f.counts.along = none.along ∙ sym others.along in
    let r : e.counts.against ≡ f.counts.against = none.against ∙ sym others.against in
    λ i. record {
      a = (ends i).a;
      b = (ends i).b;
      counts = record { subj = s i; clip = c i; along = l i; against = r i };
    }

-- a merged list has the joined edges of the list that it was merged from
pub IsMerged-alike : (old new : List CountedEdge) → IsMerged old new → JoinAlike old new
IsMerged-alike old new m = record { at = at }
  where
    -- an edge of the old list whose joined edge the new has no part of has count 0 when joined
    missing : (e : Edge) → edges_between new e ≡ [] → (f : CountedEdge) → Contains old f → ends_of f ≡ e →
        counts_nothing (joined_edge old e) ≡ true
    missing e none f here ends =
        let kept : (counts_nothing (joined_edge old e) ≡ true) ⊎ Contains new (joined_edge old e) =
        subst (λ (g : Edge). (counts_nothing (joined_edge old g) ≡ true) ⊎ Contains new (joined_edge old g)) ends
        (All-contains (λ g. (counts_nothing (joined_edge old (ends_of g)) ≡ true) ⊎ Contains new
        (joined_edge old (ends_of g))) old f m.complete here) in
        elim kept [
          | inl nothing ↦ nothing
          | inr has ↦
              let one : edges_between new e ≡ joined_edge old e ∷ [] = All-contains
              (λ g. edges_between new (ends_of g) ≡ g ∷ []) new (joined_edge old e)
              (alone_between new m.ascending) has in
              let empty : [] ≡ joined_edge old e ∷ [] = sym none ∙ one in
              cc
        ]

    at : (e : Edge) → joined_edge new e ≡ joined_edge old e
    at e =
        elim (joined_cases new e m.ascending) [
          | inr has ↦ (All-contains (λ g. (g ≡ joined_edge old (ends_of g)) × (counts_nothing g ≡ false)) new
              (joined_edge new e) m.joined has).0
          | inl none ↦ same_from_nothing (joined_edge new e) (joined_edge old e) refl (joined_none new e none)
              (elim (find_between old e) [
                | inl none_old ↦ joined_none old e none_old
                | inr found ↦ missing e none found.0 found.1 found.2
              ])
        ]

-- to merge a merged list changes nothing
pub IsMerged-again : (old new : List CountedEdge) → IsMerged old new → IsMerged new new
IsMerged-again old new m = IsMerged-from_alike new new m.ascending (λ k d l. (m.joined k d l).1)
    (record { at = λ e. refl })
