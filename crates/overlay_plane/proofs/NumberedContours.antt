-- Contours numbered in order: each number belongs to one outline. Without groups it belongs to that outline alone; with
-- groups contours with one number are walks of one group.
use Rattle.std.proofs.Common.{◌≡◌, ◌⊎◌, inl, inr, ⊎_elim, ℕ, suc, ◌≤◌, Bool, true, false, cond, List, [], ◌∷◌}
use Rattle.std.proofs.Common.{◌++◌}
use Rattle.std.proofs.Common.{map, Contains, Some, refl, sym, ap, ◌∙◌, subst, arith}
use Rattle.std.proofs.lemmas.Bool.{false≢true, cases_order}
use Rattle.std.proofs.lemmas.List.Elements.{Contains-append_cases}
use Rattle.std.proofs.lemmas.Option.{none-some}
use Rattle.overlay_geom.specs.Plane.{Step}
use Rattle.overlay_plane.specs.Turn.{Hand}
use Rattle.overlay_plane.specs.Binding.{is_hole}
use Rattle.overlay_plane.specs.RoledContours.{Role, outline, own_hole, free_hole, Contour, stands_in, is_outline}
use Rattle.overlay_plane.specs.RoledContours.{outline_of, hole_to_bind, hole_of_group, contours_from}
use Rattle.overlay_plane.specs.RoledContours.{group_contours_from}
use Rattle.overlay_plane.specs.ContourNumbers.{IsNumber, after, AreNumbers}
use Rattle.overlay_plane.proofs.Entries.{Contains-from_map}
use Rattle.overlay_plane.proofs.LaterEntries.{Contains-cases}
use Rattle.std.proofs.lemmas.Option.{same_Some}
use Rattle.overlay_plane.proofs.Totals.{Contains-head, Contains-later}

-- ---- one outline has a number

-- numbers go up
after_up : (k : ℕ) (r : Role) → k ≤ after k r
after_up k (outline m) = omega arith
after_up k (own_hole m) = omega arith
after_up k free_hole = omega arith

-- the outlines' numbers begin where they are numbered from
outlines_from : (k : ℕ) (cs : List Contour) → AreNumbers k cs → (c : Contour) → Contains cs c → (m : ℕ) →
    c.role ≡ outline m → k ≤ m
outlines_from k [] are c at m is = absurd (elim at.1 [ ])
outlines_from k (d ∷ ds) are c at m is = ⊎_elim
    (λ same. let here : m ≡ k = subst (IsNumber k) (ap (λ (e : Contour). e.role) same ∙ is) are.0 in omega arith)
    (λ later. let rest = outlines_from (after k d.role) ds are.1 c later m is in
    let up = after_up k d.role in omega arith)
    (Contains-cases d ds c at)

-- a number is not that of a later outline too
none_later : (k : ℕ) (x : Contour) (xs : List Contour) → AreNumbers k (x ∷ xs) → (e : Contour) → Contains xs e →
    (m : ℕ) → x.role ≡ outline m → ¬ (e.role ≡ outline m)
none_later k x xs are e later m is_x is_e =
    let here : m ≡ k = subst (IsNumber k) is_x are.0 in
    let next : after k x.role ≡ suc k = ap (after k) is_x in
    let rest = outlines_from (after k x.role) xs are.1 e later m is_e in
    omega arith

pub one_outline : (k : ℕ) (cs : List Contour) → AreNumbers k cs → (c d : Contour) → Contains cs c → Contains cs d →
    (m : ℕ) → c.role ≡ outline m → d.role ≡ outline m → c ≡ d
one_outline k [] are c d at_c at_d m is_c is_d = absurd (elim at_c.1 [ ])
one_outline k (x ∷ xs) are c d at_c at_d m is_c is_d = ⊎_elim
    (λ xc. ⊎_elim (λ xd. sym xc ∙ xd)
    (λ later. absurd (none_later k x xs are d later m (ap (λ (e : Contour). e.role) xc ∙ is_c) is_d))
    (Contains-cases x xs d at_d))
    (λ later_c. ⊎_elim
    (λ xd. absurd (none_later k x xs are c later_c m (ap (λ (e : Contour). e.role) xd ∙ is_d) is_c))
    (λ later_d. one_outline (after k x.role) xs are.1 c d later_c later_d m is_c is_d)
    (Contains-cases x xs d at_d))
    (Contains-cases x xs c at_c)

-- ---- without groups

-- the contour of a shape from the start is its outline, and not a hole
pub record IsFromWalks (filled : Hand) (ws : List (List Step)) (c : Contour) : Type 0 where
  pub among : Contains ws c.steps
  pub is_outline : (m : ℕ) → stands_in c.role ≡ Some m → c.role ≡ outline m
  pub no_hole : (m : ℕ) → stands_in c.role ≡ Some m → is_hole filled c.steps ≡ false

pub from_walks : (filled : Hand) (k : ℕ) (ws : List (List Step)) (c : Contour) →
    Contains (contours_from filled k ws) c → IsFromWalks filled ws c
from_walks filled k [] c at = absurd (elim at.1 [ ])
from_walks filled k (w ∷ ws) c at = by (is_hole filled w) refl at (λ j later. from_walks filled j ws c later)
  where
    further : IsFromWalks filled ws c → IsFromWalks filled (w ∷ ws) c
    further rest = record {
      among = Contains-later w ws c.steps rest.among;
      is_outline = rest.is_outline;
      no_hole = rest.no_hole;
    }

    by : (t : Bool) → is_hole filled w ≡ t →
        Contains (cond t (hole_to_bind w ∷ contours_from filled k ws)
        (outline_of k w ∷ contours_from filled (suc k) ws))
        c → ((j : ℕ) → Contains (contours_from filled j ws) c → IsFromWalks filled ws c) →
        IsFromWalks filled (w ∷ ws) c
    by true is here rest = ⊎_elim
        (λ same. subst (λ d. IsFromWalks filled (w ∷ ws) d) same (record {
          among = Contains-head w ws;
          is_outline = λ m stands. absurd (none-some m stands);
          no_hole = λ m stands. absurd (none-some m stands);
        }))
        (λ later. further (rest k later))
        (Contains-cases (hole_to_bind w) (contours_from filled k ws) c here)
    by false is here rest = ⊎_elim
        (λ same. subst (λ d. IsFromWalks filled (w ∷ ws) d) same (record {
          among = Contains-head w ws;
          is_outline = λ m stands. ap outline (same_Some k m stands);
          no_hole = λ m stands. is;
        }))
        (λ later. further (rest (suc k) later))
        (Contains-cases (outline_of k w) (contours_from filled (suc k) ws) c here)

-- ---- with groups

-- a contour of groups is the first's outline, one of its holes, or one of the other groups
group_cases : (k : ℕ) (o : List Step) (hs : List (List Step)) (gs : List (List (List Step))) (c : Contour) →
    Contains (group_contours_from k ((o ∷ hs) ∷ gs)) c →
    (outline_of k o ≡ c) ⊎ (((h : List Step) × Contains hs h × (hole_of_group k h ≡ c))
    ⊎ Contains (group_contours_from (suc k) gs) c)
group_cases k o hs gs c at = ⊎_elim (λ same. inl same)
    (λ later. ⊎_elim (λ hole. inr (inl (Contains-from_map (hole_of_group k) hs c hole))) (λ rest. inr (inr rest))
    (Contains-append_cases (map (hole_of_group k) hs) (group_contours_from (suc k) gs) c later))
    (Contains-cases (outline_of k o) (map (hole_of_group k) hs ++ group_contours_from (suc k) gs) c at)

-- their numbers begin where they are numbered from
numbers_from : (k : ℕ) (gs : List (List (List Step))) (c : Contour) → Contains (group_contours_from k gs) c → (m : ℕ) →
    stands_in c.role ≡ Some m → k ≤ m
numbers_from k [] c at m stands = absurd (elim at.1 [ ])
numbers_from k ([] ∷ gs) c at m stands = numbers_from k gs c at m stands
numbers_from k ((o ∷ hs) ∷ gs) c at m stands = ⊎_elim
    (λ same. let here : k ≡ m = same_Some k m (ap (λ (d : Contour). stands_in d.role) same ∙ stands) in omega arith)
    (λ later. ⊎_elim
    (λ hole. let here : k ≡ m = same_Some k m (ap (λ (d : Contour). stands_in d.role) hole.2 ∙ stands) in omega arith)
    (λ rest. let more = numbers_from (suc k) gs c rest m stands in omega arith) later)
    (group_cases k o hs gs c at)

-- those with one number are walks of one group, the outline the first of it
pub record AreOfGroup (gs : List (List (List Step))) (k n : ℕ) : Type 0 where
  pub walks : List (List Step)
  pub among : Contains gs walks
  pub each : (c : Contour) → Contains (group_contours_from k gs) c → stands_in c.role ≡ Some n →
      Contains walks c.steps
  pub first : (c : Contour) → Contains (group_contours_from k gs) c → c.role ≡ outline n →
      (hs : List (List Step)) × (walks ≡ c.steps ∷ hs)

pub group_of_number : (k : ℕ) (gs : List (List (List Step))) (n : ℕ) (o : Contour) →
    Contains (group_contours_from k gs) o → o.role ≡ outline n → AreOfGroup gs k n
group_of_number k [] n o at is = absurd (elim at.1 [ ])
group_of_number k ([] ∷ gs) n o at is = let rest = group_of_number k gs n o at is in record {
  walks = rest.walks;
  among = Contains-later [] gs rest.walks rest.among;
  each = rest.each;
  first = rest.first;
}
group_of_number k ((v ∷ hs) ∷ gs) n o at is = ⊎_elim here
    (λ other. there (⊎_elim (λ less same. omega (arith, less, same)) (λ more same. omega (arith, more, same)) other)
    (λ later. group_of_number (suc k) gs n o later is))
    (cases_order k n)
  where
    here : k ≡ n → AreOfGroup ((v ∷ hs) ∷ gs) k n
    here same = record {
      walks = v ∷ hs;
      among = Contains-head (v ∷ hs) gs;
      each = λ c in_c stands. ⊎_elim
          (λ first. subst (λ (d : Contour). Contains (v ∷ hs) d.steps) first (Contains-head v hs))
          (λ later. ⊎_elim
          (λ hole. subst (λ (d : Contour). Contains (v ∷ hs) d.steps) hole.2 (Contains-later v hs hole.0 hole.1))
          (λ rest. absurd (let more = numbers_from (suc k) gs c rest n stands in omega arith)) later)
          (group_cases k v hs gs c in_c);
      first = λ c in_c role. ⊎_elim
          (λ first. (hs, ap (λ (d : Contour). d.steps ∷ hs) first))
          (λ later. ⊎_elim
          (λ hole. absurd (false≢true (ap (λ (d : Contour). is_outline d.role) hole.2 ∙ ap is_outline role)))
          (λ rest. absurd (let more = numbers_from (suc k) gs c rest n (ap stands_in role) in omega arith)) later)
          (group_cases k v hs gs c in_c);
    }

    there : ¬ (k ≡ n) → (Contains (group_contours_from (suc k) gs) o → AreOfGroup gs (suc k) n) →
        AreOfGroup ((v ∷ hs) ∷ gs) k n
    there differ of_rest = let own = of_rest (later_one o at (ap stands_in is)) in record {
      walks = own.walks;
      among = Contains-later (v ∷ hs) gs own.walks own.among;
      each = λ c in_c stands. own.each c (later_one c in_c stands) stands;
      first = λ c in_c role. own.first c (later_one c in_c (ap stands_in role)) role;
    }
      where
        later_one : (c : Contour) → Contains (group_contours_from k ((v ∷ hs) ∷ gs)) c → stands_in c.role ≡ Some n →
            Contains (group_contours_from (suc k) gs) c
        later_one c in_c stands = ⊎_elim
            (λ first. absurd (differ (same_Some k n (ap (λ (d : Contour). stands_in d.role) first ∙ stands))))
            (λ later. ⊎_elim
            (λ hole. absurd (differ (same_Some k n (ap (λ (d : Contour). stands_in d.role) hole.2 ∙ stands))))
            (λ rest. rest) later)
            (group_cases k v hs gs c in_c)
