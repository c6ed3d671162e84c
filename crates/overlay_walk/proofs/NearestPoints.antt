-- The point of a list that a turning ray meets first, after a further point at the end of the list.
use Rattle.std.proofs.Common.{◌≡◌, ⊎_elim, ◌≤◌, Bool, true, false, cond, Option, None, Some, option_map, unwrap_or}
use Rattle.std.proofs.Common.{List, [], ◌∷◌, ◌++◌, pos, ◌≤ℤ◌, refl, sym, ap, ◌∙◌, subst, arith}
use Rattle.std.specs.Prelude.{All, Contains, ◌↔◌}
use Rattle.std.proofs.lemmas.Bool.{both_ways, cases_lt}
use Rattle.std.proofs.lemmas.Int.{by_lt_z}
use Rattle.std.proofs.lemmas.List.{append_assoc}
use Rattle.std.proofs.lemmas.List.Elements.{All-nil, All-cons, All-append, All-push, All-weaker, All-contains}
use Rattle.std.proofs.lemmas.List.Elements.{Contains-append_right}
use Rattle.overlay_geom.specs.Plane.{Point}
use Rattle.overlay_geom.proofs.Entries.{Contains-head}
use Rattle.overlay_geom.proofs.Signs.{linear}
use Rattle.overlay_plane.specs.Turn.{Hand, turn, part_of_turn, is_met_before, IsMetBefore}
use Rattle.overlay_plane.proofs.Turning.{turn_exchanged}
use Rattle.overlay_plane.proofs.TurnOrder.{first_cases, first_by_part, first_by_turn, turns_on, met_transitive}
use Rattle.overlay_walk.specs.Nearest.{Nearest, HasSeen, IsMetFirst, IsNearestOf, IsNearer}

module _ (hand : Hand) (v u : Point) (long : ¬ (u ≡ v)) where
  -- a point met before another is met before each point that is not met before that
  pub met_before_later : (p q r : Point) → IsMetBefore hand v u p q → is_met_before hand v u r q ≡ false →
      IsMetBefore hand v u p r
  met_before_later p q r pq later = ⊎_elim
      (λ less. first_by_part (part_of_turn hand v u p) (part_of_turn hand v u r) (turn hand v p r) (let up = part_up in
      omega arith))
      (λ turned. ⊎_elim
      (λ less. first_by_part (part_of_turn hand v u p) (part_of_turn hand v u r) (turn hand v p r)
      (let same = turned.0 in omega arith))
      (λ back. let same : part_of_turn hand v u q ≡ part_of_turn hand v u r = let up = part_up in omega arith in
      first_by_turn (part_of_turn hand v u p) (part_of_turn hand v u r) (turn hand v p r) (turned.0 ∙ same)
      (turns_on hand v u p q r long turned.0 same turned.1 (not_back same)))
      (cases_lt (part_of_turn hand v u q) (part_of_turn hand v u r)))
      (first_cases (part_of_turn hand v u p) (part_of_turn hand v u q) (turn hand v p q) pq)
    where
      part_up : part_of_turn hand v u q ≤ part_of_turn hand v u r
      part_up = ⊎_elim
          (λ less. absurd (both_ways (is_met_before hand v u r q) later
          (first_by_part (part_of_turn hand v u r) (part_of_turn hand v u q) (turn hand v r q) less)))
          (λ up. up) (cases_lt (part_of_turn hand v u r) (part_of_turn hand v u q))

      not_back : part_of_turn hand v u q ≡ part_of_turn hand v u r → pos 0 ≤ℤ (turn hand v q r)
      not_back same = by_lt_z (pos 0) (turn hand v r q)
          (λ on. absurd (both_ways (is_met_before hand v u r q) later
          (first_by_turn (part_of_turn hand v u r) (part_of_turn hand v u q) (turn hand v r q) (sym same) on)))
          (λ none. let exchanged = turn_exchanged hand v q r in omega linear)

  -- a point met before the first of a list is met before each point of it
  before_each : (ps : List Point) (p t : Point) → IsMetFirst hand v u ps t → IsMetBefore hand v u p t →
      All (IsMetBefore hand v u p) ps
  before_each ps p t first nearer = subst (λ qs. All (IsMetBefore hand v u p) qs) (sym first.stands)
      (All-append (IsMetBefore hand v u p) first.front (t ∷ first.back)
      (All-weaker (IsMetBefore hand v u t) (IsMetBefore hand v u p)
      (λ q later. met_transitive hand v u p t q long nearer later) first.front first.before)
      (All-cons (IsMetBefore hand v u p) t first.back nearer
      (All-weaker (λ q. is_met_before hand v u q t ≡ false) (IsMetBefore hand v u p)
      (λ q later. met_before_later p t q nearer later)
      first.back first.not_after)))

  -- a point met before each point of a list is met before its first
  before_first : (ps : List Point) (p t : Point) → IsMetFirst hand v u ps t → All (IsMetBefore hand v u p) ps →
      IsMetBefore hand v u p t
  before_first ps p t first all = All-contains (IsMetBefore hand v u p) ps t all
      (subst (λ qs. Contains qs t) (sym first.stands)
      (Contains-append_right first.front (t ∷ first.back) t (Contains-head t first.back)))

  -- one that is met before all stands first
  nearer_first : (ps : List Point) (p : Point) → All (IsMetBefore hand v u p) ps → IsMetFirst hand v u (ps ++ p ∷ []) p
  nearer_first ps p all = record {
    front = ps;
    back = [];
    stands = refl;
    before = all;
    not_after = All-nil (λ q. is_met_before hand v u q p ≡ false);
  }

  -- one that is not met before the first leaves that where it is
  still_first : (ps : List Point) (p t : Point) → IsMetFirst hand v u ps t → is_met_before hand v u p t ≡ false →
      IsMetFirst hand v u (ps ++ p ∷ []) t
  still_first ps p t first later = record {
    front = first.front;
    back = first.back ++ p ∷ [];
    stands = ap (λ qs. qs ++ p ∷ []) first.stands ∙ append_assoc first.front (t ∷ first.back) (p ∷ []);
    before = first.before;
    not_after = All-push (λ q. is_met_before hand v u q t ≡ false) first.back p first.not_after later;
  }

-- the answer by the point held: p is met before it, or there is none
abbrev pub is_nearer : Nearest → Point → Bool
is_nearer n p = unwrap_or (option_map (is_met_before n.hand n.node n.start p) n.nearest) true

-- the ray once p is added, where this was the answer
abbrev pub and_added : Nearest → Bool → Point → Nearest
and_added n nearer p = record n { nearest = cond nearer (Some p) n.nearest }

-- it is the answer by all points seen
pub nearer_of_all : (n : Nearest) (p : Point) (nearer : Bool) → nearer ≡ is_nearer n p → (seen : List Point) →
    HasSeen n seen →
    (nearer ≡ true) ↔ IsNearer n seen p
nearer_of_all n p nearer is seen h = by n.nearest h.nearest is
  where
    IsBefore : Point → Type 0
    IsBefore = IsMetBefore n.hand n.node n.start p

    by : (m : Option Point) → IsNearestOf n.hand n.node n.start seen m →
        nearer ≡ is_nearer (record n { nearest = m }) p → (nearer ≡ true) ↔ All IsBefore seen
    by None none same = (λ _. subst (λ qs. All IsBefore qs) (sym none) (All-nil IsBefore), λ _. same)
    by (Some t) first same = (
      λ met. before_each n.hand n.node n.start h.apart seen p t first (sym same ∙ met),
      λ all. same ∙ before_first n.hand n.node n.start h.apart seen p t first all,
    )

-- with p the ray has seen the points and p
pub seen_too : (n : Nearest) (p : Point) (nearer : Bool) → nearer ≡ is_nearer n p → (seen : List Point) →
    HasSeen n seen →
    HasSeen (and_added n nearer p) (seen ++ p ∷ [])
seen_too n p nearer is seen h = record { apart = h.apart; nearest = by n.nearest nearer h.nearest is }
  where
    by : (m : Option Point) (b : Bool) → IsNearestOf n.hand n.node n.start seen m →
        b ≡ is_nearer (record n { nearest = m }) p →
        IsNearestOf n.hand n.node n.start (seen ++ p ∷ []) (cond b (Some p) m)
    by None true none same = nearer_first n.hand n.node n.start h.apart seen p
        (subst (λ qs. All (IsMetBefore n.hand n.node n.start p) qs) (sym none)
        (All-nil (IsMetBefore n.hand n.node n.start p)))
    by None false none same = absurd (both_ways true (sym same) refl)
    by (Some t) true first met = nearer_first n.hand n.node n.start h.apart seen p
        (before_each n.hand n.node n.start h.apart seen p t first (sym met))
    by (Some t) false first later = still_first n.hand n.node n.start h.apart seen p t first (sym later)
