-- A closed list thinned place by place is thinned wherever it begins, so it has one thinning.
use Rattle.std.proofs.Common.{◌≡◌, ◌↔◌, ℕ, zero, suc, ◌+◌, ◌-◌, ◌<◌, ◌≤◌, pos, List, [], ◌∷◌, ◌++◌, length}
use Rattle.std.proofs.Common.{length-append}
use Rattle.std.proofs.Common.{get_or, take, drop, length-drop, refl, sym, ap, ap₂, subst, ◌∙◌, arith}
use Rattle.std.proofs.Math.Nat.{mod-eq_of_lt}
use Rattle.std.proofs.Math.Seq.{split_at, drop-append-add, take-append_seam, get_or-append_seam}
use Rattle.std.proofs.lemmas.List.{append-nil, length-take}
use Rattle.overlay_geom.specs.Plane.{Point}
use Rattle.overlay_geom.specs.Thinned.{IsOnOneLine, IsStraightAt, IsThinned, point_round}
use Rattle.overlay_geom.specs.Thinned.IsThinned.{thin, drop_one}
use Rattle.overlay_geom.proofs.Entries.{same_head, same_tail}
use Rattle.overlay_plane.specs.Thinning.{AreOneRound, OneThinning}
use Rattle.overlay_plane.proofs.BegunElsewhere.{one_round_itself, first_from, IsStraightIn}
use Rattle.overlay_plane.proofs.Dropping.{origin, others_from, others-first, others-last, last_from-place}
use Rattle.overlay_plane.proofs.OneThinning.{IsWithoutOne, Thins, IsBentRound, thins_elsewhere, one_end}
use Rattle.overlay_plane.proofs.OneThinning.Thins.{ended, one_less}
use Rattle.overlay_plane.proofs.Walks.{last_from}

-- ---- a place of a closed list, and the others from there on

-- the neighbours of a place are the last of the others and the first
pub neighbours : (ps : List Point) (k : ℕ) → k < length ps →
    (last_from (get_or ps k origin) (others_from ps k) ≡ point_round ps (k + length ps - 1))
    × (get_or ps k origin ≡ point_round ps k)
    × (first_from (get_or ps k origin) (others_from ps k) ≡ point_round ps (k + 1))
neighbours [] k within = absurd (omega arith)
neighbours (p ∷ []) zero within = (refl, refl, refl)
neighbours (p ∷ []) (suc k) within = absurd (omega arith)
neighbours (p ∷ q ∷ ps) k within = longer (p ∷ q ∷ ps) (omega arith) within
  where
    ends : (u : Point) (zs : List Point) (n : ℕ) → length zs ≡ suc n →
        (last_from u zs ≡ get_or zs n origin) × (first_from u zs ≡ get_or zs 0 origin)
    ends u [] n size = absurd (omega arith)
    ends u (z ∷ zs) n size = (
      last_from-place z zs origin ∙ (let last : length zs ≡ n = omega arith in
          ap (λ m. get_or (z ∷ zs) m origin) last),
      refl,
    )

    longer : (ps : List Point) → 2 ≤ length ps → k < length ps →
        (last_from (get_or ps k origin) (others_from ps k) ≡ point_round ps (k + length ps - 1))
        × (get_or ps k origin ≡ point_round ps k)
        × (first_from (get_or ps k origin) (others_from ps k) ≡ point_round ps (k + 1))
    longer ps two within =
        let dropped = length-drop (suc k) ps in
        let taken = length-take k ps in
        let joined = length-append (drop (suc k) ps) (take k ps) in
        let at = ends (get_or ps k origin) (others_from ps k) (length ps - 2) (omega arith) in (
          at.0 ∙ others-last ps k within two,
          ap (λ m. get_or ps m origin) (sym (mod-eq_of_lt within)),
          at.1 ∙ others-first ps k within two,
        )

-- a place is collinear with its neighbours in both ways to say it
pub straight_at : (ps : List Point) (k : ℕ) → k < length ps →
    IsStraightIn (get_or ps k origin) (others_from ps k) ↔ IsStraightAt ps k
straight_at ps k within =
    let at = neighbours ps k within in
    let here : Point = get_or ps k origin in
    let others : List Point = others_from ps k in
    let before : Point = point_round ps (k + length ps - 1) in (
      λ straight. subst (λ w. IsOnOneLine before (point_round ps k) w) at.2
          (subst (λ v. IsOnOneLine before v (first_from here others)) at.1
          (subst (λ u. IsOnOneLine u here (first_from here others)) at.0 straight)),
      λ straight. subst (λ u. IsOnOneLine u here (first_from here others)) (sym at.0)
          (subst (λ v. IsOnOneLine before v (first_from here others)) (sym at.1)
          (subst (λ w. IsOnOneLine before (point_round ps k) w) (sym at.2) straight)),
    )

-- the list is its front, the point at the place and the rest
pub parted_at : (ps : List Point) (k : ℕ) → k < length ps → ps ≡ take k ps ++ get_or ps k origin ∷ drop (suc k) ps
parted_at ps k within = split_at ps k origin within

-- of a list parted at a point, that point stands at the place of the front's length
pub place_parted : (front : List Point) (p : Point) (rest : List Point) →
    (length front < length (front ++ p ∷ rest)) × (get_or (front ++ p ∷ rest) (length front) origin ≡ p)
    × (others_from (front ++ p ∷ rest) (length front) ≡ rest ++ front)
place_parted front p rest = (
  let size = length-append front (p ∷ rest) in omega arith,
  get_or-append_seam front p rest origin,
  ap₂ (λ a b. a ++ b)
      (let next : suc (length front) ≡ length front + 1 = omega arith in
      ap (λ m. drop m (front ++ p ∷ rest)) next ∙ drop-append-add front (p ∷ rest) 1)
      (take-append_seam front (p ∷ rest)),
)

-- ---- thinned place by place

-- the point at the head of a list that begins elsewhere stands at a place of the list
parted_elsewhere : (ps : List Point) (p : Point) (others : List Point) → AreOneRound ps (p ∷ others) →
    (front : List Point) × (rest : List Point) × (ps ≡ front ++ p ∷ rest) × (others ≡ rest ++ front)
parted_elsewhere ps p others r = by r.rest r.before r.after
  where
    by : (rest : List Point) → ps ≡ r.front ++ rest → p ∷ others ≡ rest ++ r.front →
        (front : List Point) × (rest : List Point) × (ps ≡ front ++ p ∷ rest) × (others ≡ rest ++ front)
    by [] before after = ([], others, before ∙ append-nil r.front ∙ sym after, sym (append-nil others))
    by (x ∷ xs) before after = (
      r.front,
      xs,
      before ∙ ap (λ z. r.front ++ z ∷ xs) (sym (same_head p x others (xs ++ r.front) after)),
      same_tail p x others (xs ++ r.front) after,
    )

-- a list that is bent at each place is bent wherever it begins
bent_elsewhere : (ps : List Point) → ((k : ℕ) → k < length ps → ¬ (IsStraightAt ps k)) → IsBentRound ps
bent_elsewhere ps bent p others r straight =
    let at = parted_elsewhere ps p others r in
    let place = place_parted at.0 p at.1 in
    bent (length at.0) (subst (λ l. length at.0 < length l) (sym at.2) place.0)
    (subst (λ l. IsStraightAt l (length at.0)) (sym at.2)
    ((straight_at (at.0 ++ p ∷ at.1) (length at.0) place.0).0
    (subst (λ l. IsStraightIn (get_or (at.0 ++ p ∷ at.1) (length at.0) origin) l) (sym place.2)
    (subst (λ v. IsStraightIn v (at.1 ++ at.0)) (sym place.1) (subst (IsStraightIn p) at.3 straight)))))

-- a thinned list is thinned wherever it begins
thinned_round : (ps qs : List Point) → IsThinned ps qs → Thins ps qs
thinned_round ps qs (thin bent) = ended (one_round_itself ps) (bent_elsewhere ps bent)
thinned_round ps qs (drop_one k within straight rest) = one_less (record {
  point = get_or ps k origin;
  others = others_from ps k;
  before = record {
    front = take k ps;
    rest = get_or ps k origin ∷ drop (suc k) ps;
    before = parted_at ps k within;
    after = refl;
  };
  straight = (straight_at ps k within).1 straight;
  after = record { front = drop (suc k) ps; rest = take k ps; before = refl; after = refl };
}) (thinned_round (take k ps ++ drop (suc k) ps) qs rest)

-- the law of one thinning
pub one_thinning : OneThinning
one_thinning ps qs r first second a b =
    one_end ps first second (thinned_round ps first a) (thins_elsewhere ps qs second r (thinned_round qs second b))
