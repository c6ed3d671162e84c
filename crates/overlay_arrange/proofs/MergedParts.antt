-- Values that are merges of parts: a merge of the values is a merge of all parts.
use Rattle.std.proofs.Common.{◌≡◌, List, [], ◌∷◌, ◌++◌, refl, sym, ap, ◌∙◌, subst, append_assoc, append-nil}
use Rattle.std.specs.List.Sorted.{IsPermutation}
use Rattle.std.proofs.lemmas.List.Sorted.{IsPermutation-append_comm, IsPermutation-append_left}
use Rattle.std.proofs.lemmas.List.Sorted.{IsPermutation-append_right, IsPermutation-refl, IsPermutation-sym}
use Rattle.std.proofs.lemmas.List.Sorted.{IsPermutation-trans}
use Rattle.overlay_plane.specs.DerivedData.{AreGiven, none, next, IsMergeOf, one, two}
use Rattle.overlay_arrange.proofs.Exchanges.{of_orders}

-- ---- parts given in another order

module _ {X Y : Type 0} (gives : X → List Y → Type 0) where
  -- the entries of the two lists give the parts of both together
  record AreGivenApart (xs zs : List X) (ys : List Y) : Type 0 where
    parts : List Y
    others : List Y
    is : ys ≡ parts ++ others
    first : AreGiven gives xs parts
    later : AreGiven gives zs others

  given_apart : (xs zs : List X) (ys : List Y) → AreGiven gives (xs ++ zs) ys → AreGivenApart xs zs ys
  given_apart [] zs ys given = record { parts = []; others = ys; is = refl; first = none; later = given }
  given_apart (x ∷ xs) zs _ (next {part = part} {rest = rest} here given) =
      let more = given_apart xs zs rest given in
      record {
        parts = part ++ more.parts;
        others = more.others;
        is = ap (λ ys. part ++ ys) more.is ∙ sym (append_assoc part more.parts more.others);
        first = next here more.first;
        later = more.later;
      }

  -- what the first list gives the second gives, in another order
  abbrev pub GiveAlike : List X → List X → Type 0
  GiveAlike xs zs = (ys : List Y) → AreGiven gives xs ys → (us : List Y) × IsPermutation ys us × AreGiven gives zs us

  -- with a further entry in front
  give_behind : (x : X) (xs zs : List X) → GiveAlike xs zs → GiveAlike (x ∷ xs) (x ∷ zs)
  give_behind x xs zs alike _ (next {part = part} {rest = rest} here given) =
      let more = alike rest given in
      (part ++ more.0, IsPermutation-append_right part rest more.0 more.1, next here more.2)

  -- with the first two entries exchanged
  give_turned : (x y : X) (xs : List X) → GiveAlike (x ∷ y ∷ xs) (y ∷ x ∷ xs)
  give_turned x y xs _ (next {part = us} here (next {part = vs} {rest = rest} there given)) = (
    vs ++ (us ++ rest),
    subst (λ ys. IsPermutation ys (vs ++ (us ++ rest))) (append_assoc us vs rest)
        (subst (λ ys. IsPermutation ((us ++ vs) ++ rest) ys) (append_assoc vs us rest)
        (IsPermutation-append_left rest (us ++ vs) (vs ++ us) (IsPermutation-append_comm us vs))),
    next there (next here given),
  )

  -- in any other order
  pub given_shuffled : (xs zs : List X) → IsPermutation xs zs → GiveAlike xs zs
  given_shuffled = of_orders GiveAlike (record {
    same = λ xs ys given. (ys, IsPermutation-refl ys, given);
    on = λ xs ys zs first later us given. let mid = first us given in let end = later mid.0 mid.2 in
        (end.0, IsPermutation-trans _ _ _ mid.1 end.1, end.2);
    behind = give_behind;
    turned = give_turned;
  })

-- ---- merges of merges

module _ {C : Type 0} (merges : C → C → C → Type 0) where
  -- the value is a merge of the parts
  abbrev pub Merges : C → List C → Type 0
  Merges c parts = IsMergeOf merges parts c

  -- a merge of values is a merge of their parts
  pub merge_of_parts : {values parts : List C} {c : C} → IsMergeOf merges values c → AreGiven Merges values parts →
      IsMergeOf merges parts c
  merge_of_parts {c = c} one (next {part = part} here none) =
      subst (λ cs. IsMergeOf merges cs c) (sym (append-nil part)) here
  merge_of_parts {values} {parts} (two {cs} {ks} order first second makes) given =
      let alike = given_shuffled Merges values (cs ++ ks) (IsPermutation-sym _ _ order) parts given in
      let apart = given_apart Merges cs ks alike.0 alike.2 in
      two (subst (λ vs. IsPermutation vs parts) apart.is (IsPermutation-sym _ _ alike.1))
      (merge_of_parts first apart.first) (merge_of_parts second apart.later) makes

  -- each value is a merge of itself alone
  pub each_alone : (values : List C) → AreGiven Merges values values
  each_alone [] = none
  each_alone (c ∷ cs) = next one (each_alone cs)
