-- A closed walk is cut at its repeated points in one way: the first step that leaves a point left before is determined,
-- and so is the step that left it.
use Rattle.std.proofs.Common.{◌≡◌, false, List, [], ◌∷◌, ◌++◌, Contains, refl, sym, ap, ap₂, ◌∙◌, subst}
use Rattle.std.proofs.lemmas.Bool.{both_ways}
use Rattle.std.proofs.lemmas.List.{append_assoc, append-nil}
use Rattle.std.proofs.lemmas.List.Elements.{Contains-append_right}
use Rattle.overlay_geom.specs.Plane.{Step, point_eq, points_of}
use Rattle.overlay_geom.proofs.Entries.{Contains-head, same_head, same_tail}
use Rattle.overlay_geom.proofs.Orders.{point_eq-of_same}
use Rattle.overlay_plane.specs.Groups.{HasEachPointOnce}
use Rattle.overlay_plane.proofs.Entries.{Contains-map}
use Rattle.overlay_plane.proofs.KeptWalks.{Each-second, Each-across}
use Rattle.overlay_plane.proofs.LaterEntries.{Each, Each-from_all_pairs}
use Rattle.overlay_extract.specs.Repeats.{loop_if_long, IsCutAtRepeats}
use Rattle.overlay_extract.specs.Repeats.IsCutAtRepeats.{left, again}

-- ---- steps that leave different points

abbrev LeaveApart : Step → Step → Type 0
LeaveApart s t = point_eq s.from t.from ≡ false

apart_steps : (ss : List Step) → Each (λ p q. point_eq p q ≡ false) (points_of ss) → Each LeaveApart ss
apart_steps [] h = tt
apart_steps (s ∷ ss) h = ((λ t c. h.0 t.from (Contains-map (λ (u : Step). u.from) ss t c)), apart_steps ss h.1)

once_apart : (ss : List Step) → HasEachPointOnce (points_of ss) → Each LeaveApart ss
once_apart ss once = apart_steps ss (Each-from_all_pairs (λ p q. point_eq p q ≡ false) (points_of ss) once)

-- two that leave one point do not
not_apart : (s t : Step) → s.from ≡ t.from → ¬ (LeaveApart s t)
not_apart s t same apart = both_ways (point_eq s.from t.from) apart (point_eq-of_same s.from t.from same)

-- ---- the first step that leaves a point left before

first_repeat : (front ps qs : List Step) (t u : Step) (ts us : List Step) → Each LeaveApart (front ++ ps) →
    Each LeaveApart (front ++ qs) → (s : Step) → Contains (front ++ ps) s → t.from ≡ s.from → (r : Step) →
    Contains (front ++ qs) r → u.from ≡ r.from → ps ++ t ∷ ts ≡ qs ++ u ∷ us → (ps ≡ qs) × (t ≡ u) × (ts ≡ us)
first_repeat front [] [] t u ts us once once' s c is r d is' same =
    (refl, same_head t u ts us same, same_tail t u ts us same)
first_repeat front [] (q ∷ qs) t u ts us once once' s c is r d is' same = absurd (not_apart s q
    (sym is ∙ ap (λ (v : Step). v.from) (same_head t q ts (qs ++ u ∷ us) same))
    (Each-across LeaveApart front (q ∷ qs) once' s q (subst (λ ss. Contains ss s) (append-nil front) c)
    (Contains-head q qs)))
first_repeat front (p ∷ ps) [] t u ts us once once' s c is r d is' same = absurd (not_apart r p
    (sym is' ∙ ap (λ (v : Step). v.from) (sym (same_head p u (ps ++ t ∷ ts) us same)))
    (Each-across LeaveApart front (p ∷ ps) once r p (subst (λ ss. Contains ss r) (append-nil front) d)
    (Contains-head p ps)))
first_repeat front (p ∷ ps) (q ∷ qs) t u ts us once once' s c is r d is' same =
    let more = first_repeat (front ++ p ∷ []) ps qs t u ts us
    (subst (Each LeaveApart) (sym (append_assoc front (p ∷ []) ps)) once)
    (subst (Each LeaveApart) past once') s
    (subst (λ ss. Contains ss s) (sym (append_assoc front (p ∷ []) ps)) c) is r
    (subst (λ ss. Contains ss r) past d) is' (same_tail p q (ps ++ t ∷ ts) (qs ++ u ∷ us) same) in
    (ap₂ (λ x xs. x ∷ xs) one more.0, more.1, more.2)
  where
    one : p ≡ q
    one = same_head p q (ps ++ t ∷ ts) (qs ++ u ∷ us) same

    past : front ++ q ∷ qs ≡ (front ++ p ∷ []) ++ qs
    past = ap (λ v. front ++ v ∷ qs) (sym one) ∙ sym (append_assoc front (p ∷ []) qs)

-- ---- the step that left it

one_leaver : (before others between ones : List Step) (s t : Step) → Each LeaveApart (before ++ s ∷ between) →
    s.from ≡ t.from → before ++ s ∷ between ≡ others ++ t ∷ ones →
    (before ≡ others) × (s ≡ t) × (between ≡ ones)
one_leaver [] [] between ones s t once is same =
    (refl, same_head s t between ones same, same_tail s t between ones same)
one_leaver [] (q ∷ qs) between ones s t once is same = absurd (not_apart s t is (once.0 t
    (subst (λ ss. Contains ss t) (sym (same_tail s q between (qs ++ t ∷ ones) same))
    (Contains-append_right qs (t ∷ ones) t (Contains-head t ones)))))
one_leaver (p ∷ ps) [] between ones s t once is same = absurd (not_apart p s
    (ap (λ (v : Step). v.from) (same_head p t (ps ++ s ∷ between) ones same) ∙ sym is)
    (once.0 s (Contains-append_right ps (s ∷ between) s (Contains-head s between))))
one_leaver (p ∷ ps) (q ∷ qs) between ones s t once is same =
    let more = one_leaver ps qs between ones s t once.1 is (same_tail p q (ps ++ s ∷ between) (qs ++ t ∷ ones) same) in
    (ap₂ (λ x xs. x ∷ xs) (same_head p q (ps ++ s ∷ between) (qs ++ t ∷ ones) same) more.0, more.1, more.2)

-- ---- cuts

-- a walk with a point that is repeated does not visit each point once
none_repeated : (before between after : List Step) (s t : Step) → t.from ≡ s.from →
    ¬ (HasEachPointOnce (points_of (before ++ (s ∷ between ++ t ∷ after))))
none_repeated before between after s t is once = not_apart s t (sym is)
    ((Each-second LeaveApart before (s ∷ between ++ t ∷ after)
    (once_apart (before ++ (s ∷ between ++ t ∷ after)) once)).0 t
    (Contains-append_right between (t ∷ after) t (Contains-head t after)))

-- two cuts of one walk are one
pub one_cut_at : (walk other : List Step) → walk ≡ other → (loops ones : List (List Step)) →
    IsCutAtRepeats walk loops → IsCutAtRepeats other ones → loops ≡ ones
one_cut_at walk other same loops ones (left once) (left once') = ap loop_if_long same
one_cut_at walk other same loops ones (left once) (again before between after s t fresh is cut) =
    absurd (none_repeated before between after s t is (subst (λ ss. HasEachPointOnce (points_of ss)) same once))
one_cut_at walk other same loops ones (again before between after s t fresh is cut) (left once) =
    absurd (none_repeated before between after s t is
    (subst (λ ss. HasEachPointOnce (points_of ss)) (sym same) once))
one_cut_at walk other same loops ones (again before between after s t {rest = rest} fresh is cut)
    (again before' between' after' s' t' {rest = rest'} fresh' is' cut') =
    ap₂ (λ x y. x ++ y) (ap₂ (λ m v. loop_if_long (m ++ v ∷ [])) left_by.2 left_by.1)
    (one_cut_at (before ++ t ∷ after) (before' ++ t' ∷ after')
    (ap₂ (λ b v. b ++ v ∷ after) left_by.0 first.1 ∙ ap (λ a. before' ++ t' ∷ a) first.2) rest rest' cut cut')
  where
    whole : (before ++ s ∷ between) ++ t ∷ after ≡ (before' ++ s' ∷ between') ++ t' ∷ after'
    whole = append_assoc before (s ∷ between) (t ∷ after) ∙ same
        ∙ sym (append_assoc before' (s' ∷ between') (t' ∷ after'))

    first : (before ++ s ∷ between ≡ before' ++ s' ∷ between') × (t ≡ t') × (after ≡ after')
    first = first_repeat [] (before ++ s ∷ between) (before' ++ s' ∷ between') t t' after after'
        (once_apart (before ++ s ∷ between) fresh) (once_apart (before' ++ s' ∷ between') fresh') s
        (Contains-append_right before (s ∷ between) s (Contains-head s between)) is s'
        (Contains-append_right before' (s' ∷ between') s' (Contains-head s' between')) is' whole

    left_by : (before ≡ before') × (s ≡ s') × (between ≡ between')
    left_by = one_leaver before before' between between' s s' (once_apart (before ++ s ∷ between) fresh)
        (sym is ∙ ap (λ (v : Step). v.from) first.1 ∙ is') first.0
