-- Closed lists that are one but for where they begin, and a point left out of a closed list.
use Rattle.std.proofs.Common.{◌≡◌, ◌⊎◌, inl, inr, ℕ, suc, ◌+◌, List, [], ◌∷◌, ◌++◌, length, length-append, refl, sym}
use Rattle.std.proofs.Common.{ap}
use Rattle.std.proofs.Common.{append_assoc, ◌∙◌, arith}
use Rattle.std.proofs.lemmas.List.{append-nil}
use Rattle.overlay_geom.specs.Plane.{Point}
use Rattle.overlay_geom.specs.Thinned.{IsOnOneLine}
use Rattle.overlay_geom.proofs.Entries.{same_head, same_tail}
use Rattle.overlay_plane.specs.Thinning.{AreOneRound}
use Rattle.overlay_plane.proofs.Walks.{last_from}

-- of two ways to part a list, one parts the front of the other, or its rest
abbrev pub PartedLater : {X : Type 0} → List X → List X → List X → List X → Type 0
PartedLater {X} xs ys zs ws = (ms : List X) × (zs ≡ xs ++ ms) × (ys ≡ ms ++ ws)

pub two_partings : {X : Type 0} (xs ys zs ws : List X) → xs ++ ys ≡ zs ++ ws →
    PartedLater xs ys zs ws ⊎ PartedLater zs ws xs ys
two_partings [] ys zs ws same = inl (zs, refl, same)
two_partings (x ∷ xs) ys [] ws same = inr (x ∷ xs, refl, sym same)
two_partings {X} (x ∷ xs) ys (z ∷ zs) ws same = by (two_partings xs ys zs ws (same_tail x z (xs ++ ys) (zs ++ ws) same))
  where
    head : x ≡ z
    head = same_head x z (xs ++ ys) (zs ++ ws) same

    by : PartedLater xs ys zs ws ⊎ PartedLater zs ws xs ys →
        PartedLater (x ∷ xs) ys (z ∷ zs) ws ⊎ PartedLater (z ∷ zs) ws (x ∷ xs) ys
    by (inl m) = inl (m.0, ap (λ y. y ∷ zs) (sym head) ∙ ap (λ l. x ∷ l) m.1, m.2)
    by (inr m) = inr (m.0, ap (λ y. y ∷ xs) head ∙ ap (λ l. z ∷ l) m.1, m.2)

-- ---- begun elsewhere

pub one_round_itself : (ps : List Point) → AreOneRound ps ps
one_round_itself ps = record { front = []; rest = ps; before = refl; after = sym (append-nil ps) }

pub one_round_back : (ps qs : List Point) → AreOneRound ps qs → AreOneRound qs ps
one_round_back ps qs r = record { front = r.rest; rest = r.front; before = r.after; after = r.before }

pub one_round_of_same : (ps qs : List Point) → ps ≡ qs → AreOneRound ps qs
one_round_of_same ps qs same = record { front = []; rest = ps; before = refl; after = sym same ∙ sym (append-nil ps) }

pub one_round_twice : (ps qs rs : List Point) → AreOneRound ps qs → AreOneRound qs rs → AreOneRound ps rs
one_round_twice ps qs rs r s = by (two_partings r.rest r.front s.front s.rest (sym r.after ∙ s.before))
  where
    by : PartedLater r.rest r.front s.front s.rest ⊎ PartedLater s.front s.rest r.rest r.front → AreOneRound ps rs
    by (inl m) = record {
      front = m.0;
      rest = s.rest ++ r.rest;
      before = r.before ∙ ap (λ l. l ++ r.rest) m.2 ∙ append_assoc m.0 s.rest r.rest;
      after = s.after ∙ ap (λ l. s.rest ++ l) m.1 ∙ sym (append_assoc s.rest r.rest m.0);
    }
    by (inr m) = record {
      front = r.front ++ s.front;
      rest = m.0;
      before = r.before ∙ ap (λ l. r.front ++ l) m.1 ∙ sym (append_assoc r.front s.front m.0);
      after = s.after ∙ ap (λ l. l ++ s.front) m.2 ∙ append_assoc m.0 r.front s.front;
    }

-- they have one length
pub one_round_length : (ps qs : List Point) → AreOneRound ps qs → length ps ≡ length qs
one_round_length ps qs r =
    let a = ap length r.before ∙ length-append r.front r.rest in
    let b = ap length r.after ∙ length-append r.rest r.front in
    omega arith

-- ---- a point and the others of a closed list, from the next on

-- the first of the points, u where there is none
abbrev pub first_from : Point → List Point → Point
first_from u [] = u
first_from u (v ∷ vs) = v

-- the point is collinear with its neighbours, the last of the others and the first
abbrev pub IsStraightIn : Point → List Point → Type 0
IsStraightIn p others = IsOnOneLine (last_from p others) p (first_from p others)

-- the last of joined lists
pub last_from-joined : (p : Point) (us : List Point) (q : Point) (vs : List Point) →
    last_from p (us ++ q ∷ vs) ≡ last_from q vs
last_from-joined p [] q vs = refl
last_from-joined p (u ∷ us) q vs = last_from-joined u us q vs

-- the last of a list does not hang on what stands for it where there is none
pub last_from-any : (p q : Point) (v : Point) (vs : List Point) → last_from p (v ∷ vs) ≡ last_from q (v ∷ vs)
last_from-any p q v vs = refl
