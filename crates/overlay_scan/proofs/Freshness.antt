-- A node for a new entry: a reusable node, or a new node.
use Rattle.std.proofs.Common.{◌≡◌, ⊎_elim, inl, inr, ℕ, zero, suc, ◌<◌, List, [], ◌∷◌, ◌++◌, length, slice_get}
use Rattle.std.proofs.Common.{slice_set, Option, None, Some, refl, sym, ap, subst, ◌∙◌, arith}
use Rattle.std.specs.Option.{MatchOption}
use Rattle.std.proofs.lemmas.Option.{slice_get_within}
use Rattle.overlay_scan.specs.declared.list.LiveEdge.{LiveEdge}
use Rattle.overlay_scan.specs.declared.tree.links.Links.{Links}
use Rattle.overlay_scan.specs.declared.tree.links.NodeIndex.{NodeIndex}
use Rattle.overlay_scan.specs.declared.tree.links.TheConstants.{ALONE}
use Rattle.overlay_scan.specs.Descents.{alone}
use Rattle.overlay_scan.specs.Forests.{first_of, IsChain, IsForest, IsFresh}
use Rattle.overlay_scan.specs.Trees.{Tree, Leaf, Fork, items, AreDistinct, AreKeptBut, IsIn, Stands, IsTreeAt}
use Rattle.overlay_scan.proofs.Distinct.{AreApart}
use Rattle.overlay_scan.proofs.Rotations.{place_of}
use Rattle.overlay_scan.proofs.Settling.{still_chained}
use Rattle.overlay_scan.proofs.Standing.{get_set_same, get_set_other, set_one, still_stands, all_inside}
use Rattle.std.proofs.lemmas.Option.{same_Some}

-- ---- one more element

pub get_pushed : {X : Type 0} (xs : List X) (x : X) → slice_get (xs ++ x ∷ []) (length xs) ≡ Some x
get_pushed [] x = refl
get_pushed (y ∷ xs) x = get_pushed xs x

pub get_before : {X : Type 0} (xs : List X) (x : X) (k : ℕ) → k < length xs → slice_get (xs ++ x ∷ []) k ≡ slice_get xs
    k
get_before [] x k lt = absurd (omega arith)
get_before (y ∷ xs) x zero lt = refl
get_before (y ∷ xs) x (suc k) lt = get_before xs x k (omega arith)

stands_in_more : (ls : List Links) (x : Links) (t : Tree) → Stands ls t → Stands (ls ++ x ∷ []) t
stands_in_more ls x Leaf at = tt
stands_in_more ls x (Fork l i r) at = (
  get_before ls x i (slice_get_within ls i _ at.0) ∙ at.0,
  stands_in_more ls x l at.1,
  stands_in_more ls x r at.2,
)

-- a node is alone
stands_alone : (ls : List Links) (i : NodeIndex) → slice_get ls i.place ≡ Some ALONE → Stands ls (alone (Some i))
stands_alone ls i at = (at, tt, tt)

moved_at : (ls new : List Links) (root : Option NodeIndex) (t : Tree) → IsTreeAt ls root t → Stands new t → IsTreeAt
    new root t
moved_at ls new root t at stands = record {
  is_root = at.is_root;
  stands = stands;
  distinct = at.distinct;
  balanced = at.balanced;
}

module _ {I V : Type 0} (es : List (LiveEdge I V)) (ls : List Links) (root free : Option NodeIndex) (t : Tree)
    (unused : List ℕ) (forest : IsForest ls root free t unused) (entry : LiveEdge I V)
    (same_length : length es ≡ length ls) where
  none_unused : None ≡ free → unused ≡ []
  none_unused is = by unused (is ∙ forest.free_is)
    where
      by : (us : List ℕ) → None ≡ first_of us → us ≡ []
      by [] e = refl
      by (i ∷ us) e = absurd (subst (λ o. MatchOption o (Unit {0}) (λ _. ⊥)) e tt)

  -- one more node
  pub fresh_pushed : None ≡ free → (i : NodeIndex) → i.place ≡ length ls → (new : List Links) → new ≡ ls ++ ALONE ∷ [] →
      (new_entries : List (LiveEdge I V)) → new_entries ≡ es ++ entry ∷ [] → IsFresh es new_entries new root t None i
      entry
  fresh_pushed none i last new new_is new_entries entries_are =
      let stands : Stands new t = subst (λ n. Stands n t) (sym new_is) (stands_in_more ls ALONE t forest.at.stands) in
      record {
        unused = [];
        can = record {
          forest = record {
            at = moved_at ls new root t forest.at stands;
            free_is = refl;
            chain = tt;
            once = tt;
            apart = λ k at none. none;
          };
          can = record {
            at = moved_at ls new root t forest.at stands;
            put_stands = stands_alone new i (ap (λ n. slice_get n i.place) new_is ∙ ap (slice_get (ls ++ ALONE ∷ []))
                last
                ∙ get_pushed ls ALONE);
            other = λ k at also. ⊎_elim (λ here. let low = all_inside ls t forest.at.stands k at in absurd
                (omega arith))
                (λ none. none) also;
          };
          put_apart = λ k none at. none;
        };
        there = ap (λ n. slice_get n i.place) entries_are ∙ ap (slice_get (es ++ entry ∷ [])) (last ∙ sym same_length)
            ∙ get_pushed es entry;
        kept = λ k at. ap (λ n. slice_get n k) entries_are
            ∙ get_before es entry k (let low = all_inside ls t forest.at.stands k at in omega arith);
      }

  -- the first node that may be used again
  module _ (i : NodeIndex) (some : Some i ≡ free) (links : Links) (read : slice_get ls i.place ≡ Some links) where
    abbrev Splits : List ℕ → Type 0
    Splits us = (rest : List ℕ) × (us ≡ i.place ∷ rest) × (links.left ≡ first_of rest)

    split : Splits unused
    split = by unused (some ∙ forest.free_is) forest.chain
      where
        by : (us : List ℕ) → Some i ≡ first_of us → IsChain ls us → Splits us
        by [] e chain = absurd (subst (λ o. MatchOption o ⊥ (λ _. Unit {0})) e tt)
        by (k ∷ us) e chain =
            let same : i.place ≡ k = ap place_of e in
            let links_is : links ≡ chain.0.0 = same_Some links chain.0.0
            (sym read ∙ ap (slice_get ls) same ∙ chain.0.1) in
            (us, ap (λ n. n ∷ us) (sym same), ap (λ n. n.left) links_is ∙ chain.0.2)

    abbrev rest : List ℕ
    rest = split.0

    in_unused : (k : ℕ) → IsIn k (i.place ∷ rest) → IsIn k unused
    in_unused k at = subst (IsIn k) (sym split.1) at

    once : AreDistinct (i.place ∷ rest)
    once = subst AreDistinct split.1 forest.once

    pub inside_unused : i.place < length ls
    inside_unused = slice_get_within ls i.place links read

    pub fresh_again : (new : List Links) → new ≡ slice_set ls i.place ALONE → (new_entries : List (LiveEdge I V)) →
        new_entries ≡ slice_set es i.place entry → IsFresh es new_entries new root t links.left i entry
    fresh_again new new_is new_entries entries_are =
        let kept : AreKeptBut (i.place ∷ []) ls new = subst (AreKeptBut (i.place ∷ []) ls) (sym new_is)
        (set_one ls i.place ALONE) in
        let clear : AreApart (items t) (i.place ∷ []) = (λ k at also. ⊎_elim
        (λ here. forest.apart k at (in_unused k (inl here))) (λ none. none) also) in
        let stands : Stands new t = still_stands (i.place ∷ []) ls new kept t forest.at.stands clear in
        record {
          unused = rest;
          can = record {
            forest = record {
              at = moved_at ls new root t forest.at stands;
              free_is = split.2;
              chain = still_chained (i.place ∷ []) ls new kept rest (subst (IsChain ls) split.1 forest.chain).1
                  (λ k at also. ⊎_elim (λ here. once.0 (subst (λ n. IsIn n rest) here at)) (λ none. none) also);
              once = once.1;
              apart = λ k at also. forest.apart k at (in_unused k (inr also));
            };
            can = record {
              at = moved_at ls new root t forest.at stands;
              put_stands = stands_alone new i (ap (λ n. slice_get n i.place) new_is ∙ get_set_same ls i.place ALONE
                  inside_unused);
              other = λ k at also. clear k at also;
            };
            put_apart = λ k at also. ⊎_elim (λ here. once.0 (subst (λ n. IsIn n rest) here at)) (λ none. none) also;
          };
          there = ap (λ n. slice_get n i.place) entries_are
              ∙ get_set_same es i.place entry (let low = inside_unused in omega arith);
          kept = λ k at. ap (λ n. slice_get n k) entries_are
              ∙ get_set_other es i.place entry k (λ here. forest.apart k at (in_unused k (inl here)));
        }

-- the first unused node is a node
pub first_inside : (ls : List Links) (root free : Option NodeIndex) (t : Tree) (unused : List ℕ) → IsForest ls root
    free t unused →
    (i : NodeIndex) → Some i ≡ free → i.place < length ls
first_inside ls root free t unused forest i some = by unused (some ∙ forest.free_is) forest.chain
  where
    by : (us : List ℕ) → Some i ≡ first_of us → IsChain ls us → i.place < length ls
    by [] e chain = absurd (subst (λ o. MatchOption o ⊥ (λ _. Unit {0})) e tt)
    by (k ∷ us) e chain = let same = ap place_of e in let low = slice_get_within ls k chain.0.0 chain.0.1 in omega arith
