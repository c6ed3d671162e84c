-- Closed contours in which neighbours are joined one pair after another.
use Rattle.std.proofs.Common.{ℕ, ◌≤◌, Bool, List, [], ◌∷◌, ◌++◌, length, All, sym, subst}
use Rattle.std.proofs.Common.{arith}
use Rattle.std.proofs.lemmas.List.{append-nil, append_assoc, length-append}
use Rattle.std.proofs.lemmas.List.Elements.{All-push}
use Rattle.overlay_plane.proofs.Entries.{All-first, All-rest}
use Rattle.overlay_vector.specs.DataVectors.{DataVector}
use Rattle.overlay_vector.specs.Joining.{AreJoinable, joined, Becomes, stays, begins_later, joins, NoneJoinable}
use Rattle.overlay_vector.specs.Joining.{NoneLeft}
use Rattle.overlay_vector.specs.Joining.{IsJoined, IsInRange, IsAppended}

module _ {D : Type 0} (eq : D → D → Bool) where
  -- one list becomes another, and this a third one
  pub becomes_further : (us vs ws : List (DataVector D)) → Becomes eq us vs → Becomes eq vs ws → Becomes eq us ws
  becomes_further us vs ws stays further = further
  becomes_further (u ∷ us) vs ws (begins_later first) further =
      begins_later (becomes_further (us ++ u ∷ []) vs ws first further)
  becomes_further (u ∷ t ∷ us) vs ws (joins can first) further =
      joins can (becomes_further (joined u t ∷ us) vs ws first further)

  -- a closed list may begin anywhere
  pub becomes_turned : (vs ws : List (DataVector D)) → Becomes eq (vs ++ ws) (ws ++ vs)
  becomes_turned [] ws = subst (Becomes eq ws) (sym (append-nil ws)) stays
  becomes_turned (v ∷ vs) ws =
      begins_later (subst (λ us. Becomes eq us (ws ++ v ∷ vs)) (sym (append_assoc vs ws (v ∷ [])))
      (subst (Becomes eq (vs ++ (ws ++ v ∷ []))) (append_assoc ws (v ∷ []) vs) (becomes_turned vs (ws ++ v ∷ []))))

  -- two neighbours inside a list are joined
  pub becomes_joined : (vs rest : List (DataVector D)) (v w : DataVector D) → AreJoinable eq v w →
      Becomes eq (vs ++ v ∷ w ∷ rest) (vs ++ joined v w ∷ rest)
  becomes_joined vs rest v w can =
      becomes_further (vs ++ v ∷ w ∷ rest) ((v ∷ w ∷ rest) ++ vs) (vs ++ joined v w ∷ rest)
      (becomes_turned vs (v ∷ w ∷ rest)) (joins can (becomes_turned (joined v w ∷ rest) vs))

  -- so is what a third one is joined to
  pub joined_further : (us vs ws : List (DataVector D)) → Becomes eq us vs → IsJoined eq vs ws → IsJoined eq us ws
  joined_further us vs ws first is = record {
    becomes = becomes_further us vs ws first is.becomes;
    none_left = is.none_left;
  }

  -- ---- neighbours that can not be joined

  pub none_in_front : (vs ws : List (DataVector D)) → NoneJoinable eq (vs ++ ws) → NoneJoinable eq vs
  none_in_front [] ws none = tt
  none_in_front (v ∷ []) ws none = tt
  none_in_front (v ∷ w ∷ vs) ws none = (none.0, none_in_front (w ∷ vs) ws none.1)

  pub none_behind : (v : DataVector D) (vs : List (DataVector D)) → NoneJoinable eq (v ∷ vs) → NoneJoinable eq vs
  none_behind v [] none = tt
  none_behind v (w ∷ vs) none = none.1

  -- one more behind the last one, which can not be joined with it
  pub none_more : (vs : List (DataVector D)) (v w : DataVector D) → NoneJoinable eq (vs ++ v ∷ []) →
      ¬ (AreJoinable eq v w) → NoneJoinable eq (vs ++ v ∷ w ∷ [])
  none_more [] v w none not_two = (not_two, tt)
  none_more (u ∷ []) v w none not_two = (none.0, (not_two, tt))
  none_more (u ∷ t ∷ vs) v w none not_two = (none.0, none_more (t ∷ vs) v w none.1 not_two)

  -- so none are left in a list whose last edge can not be joined with the first one
  pub none_left_round : (f : DataVector D) (mid : List (DataVector D)) (l : DataVector D) →
      NoneJoinable eq (f ∷ mid ++ l ∷ []) → ¬ (AreJoinable eq l f) → NoneLeft eq (f ∷ mid ++ l ∷ [])
  none_left_round f [] l none not_two = (none.0, (not_two, tt))
  none_left_round f (m ∷ mid) l none not_two = (
    none.0,
    subst (NoneJoinable eq) (sym (append_assoc (m ∷ mid) (l ∷ []) (f ∷ [])))
        (none_more (m ∷ mid) l f none.1 not_two),
  )

  pub none_left_of_few : (vs : List (DataVector D)) → length vs ≤ 1 → NoneLeft eq vs
  none_left_of_few [] few = tt
  none_left_of_few (v ∷ []) few = tt
  none_left_of_few (v ∷ w ∷ vs) few = absurd (omega arith)

  module _ (limit : ℕ) where
    -- ---- an edge that is joined with the last ones

    pub joined_in_range : (v w : DataVector D) → IsInRange limit v → IsInRange limit w → IsInRange limit (joined v w)
    joined_in_range v w of_v of_w = record { a = of_v.a; b = of_w.b }

    -- the list and the edge behind it become the list `ws` and w, whatever follows
    pub record AreBack (vs : List (DataVector D)) (v : DataVector D) (ws : List (DataVector D))
        (w : DataVector D) : Type 0 where
      pub becomes : (rest : List (DataVector D)) → Becomes eq (vs ++ v ∷ rest) (ws ++ w ∷ rest)
      pub inside : NoneJoinable eq ws
      pub in_range : All (IsInRange limit) ws
      pub vector : IsInRange limit w
      pub at_most : length ws ≤ length vs

    pub back_first : (vs : List (DataVector D)) (v : DataVector D) → NoneJoinable eq vs → All (IsInRange limit) vs →
        IsInRange limit v → AreBack vs v vs v
    back_first vs v none all of_v = record {
      becomes = λ rest. stays;
      inside = none;
      in_range = all;
      vector = of_v;
      at_most = omega arith;
    }

    -- the last edge is joined with w
    pub back_further : (vs : List (DataVector D)) (v : DataVector D) (front : List (DataVector D))
        (l w : DataVector D) → AreBack vs v (front ++ l ∷ []) w → AreJoinable eq l w →
        IsInRange limit l → AreBack vs v front (joined l w)
    back_further vs v front l w back can of_l = record {
      becomes = λ rest. becomes_further (vs ++ v ∷ rest) ((front ++ l ∷ []) ++ w ∷ rest) (front ++ joined l w ∷ rest)
          (back.becomes rest)
          (subst (λ us. Becomes eq us (front ++ joined l w ∷ rest)) (sym (append_assoc front (l ∷ []) (w ∷ rest)))
          (becomes_joined front rest l w can));
      inside = none_in_front front (l ∷ []) back.inside;
      in_range = All-first (IsInRange limit) front (l ∷ []) back.in_range;
      vector = joined_in_range l w of_l back.vector;
      at_most = let long = length-append front (l ∷ []) in let most = back.at_most in omega (arith, long, most);
    }

    -- nothing is in front of it, or an edge that can not be joined with it
    appended : (vs : List (DataVector D)) (v : DataVector D) (ws : List (DataVector D)) (w : DataVector D) →
        AreBack vs v ws w → NoneJoinable eq (ws ++ w ∷ []) → IsAppended eq limit vs v (ws ++ w ∷ [])
    appended vs v ws w back none = record {
      becomes = λ rest. subst (Becomes eq (vs ++ v ∷ rest)) (sym (append_assoc ws (w ∷ []) rest)) (back.becomes rest);
      inside = none;
      in_range = All-push (IsInRange limit) ws w back.in_range back.vector;
      at_most = let long = length-append ws (w ∷ []) in let most = back.at_most in omega (arith, long, most);
    }

    pub appended_alone : (vs : List (DataVector D)) (v w : DataVector D) → AreBack vs v [] w →
        IsAppended eq limit vs v (w ∷ [])
    appended_alone vs v w back = appended vs v [] w back tt

    pub appended_behind : (vs : List (DataVector D)) (v : DataVector D) (front : List (DataVector D))
        (l w : DataVector D) → AreBack vs v (front ++ l ∷ []) w → ¬ (AreJoinable eq l w) →
        IsAppended eq limit vs v ((front ++ l ∷ []) ++ w ∷ [])
    appended_behind vs v front l w back not_two = appended vs v (front ++ l ∷ []) w back
        (subst (NoneJoinable eq) (sym (append_assoc front (l ∷ []) (w ∷ [])))
        (none_more front l w back.inside not_two))

    -- ---- edge by edge

    -- the list `given` becomes this one, whatever follows
    pub record AreGathered (given path : List (DataVector D)) : Type 0 where
      pub becomes : (rest : List (DataVector D)) → Becomes eq (given ++ rest) (path ++ rest)
      pub inside : NoneJoinable eq path
      pub in_range : All (IsInRange limit) path

    pub gathered_none : AreGathered [] []
    gathered_none = record { becomes = λ rest. stays; inside = tt; in_range = λ i d less. absurd (omega (arith, less)) }

    pub gathered_more : (given path : List (DataVector D)) (v : DataVector D) (more : List (DataVector D)) →
        AreGathered given path → IsAppended eq limit path v more → AreGathered (given ++ v ∷ []) more
    gathered_more given path v more are is = record {
      becomes = λ rest. subst (λ us. Becomes eq us (more ++ rest)) (sym (append_assoc given (v ∷ []) rest))
          (becomes_further (given ++ v ∷ rest) (path ++ v ∷ rest) (more ++ rest) (are.becomes (v ∷ rest))
          (is.becomes rest));
      inside = is.inside;
      in_range = is.in_range;
    }

    pub gathered_whole : (given path : List (DataVector D)) → AreGathered given path → Becomes eq given path
    gathered_whole given path are = subst (Becomes eq given) (append-nil path)
        (subst (λ us. Becomes eq us (path ++ [])) (append-nil given) (are.becomes []))

    -- ---- the last one and the first one

    -- the list becomes this one
    pub record AreNarrowed (given path : List (DataVector D)) : Type 0 where
      pub becomes : Becomes eq given path
      pub inside : NoneJoinable eq path
      pub in_range : All (IsInRange limit) path

    -- the two are joined
    pub narrowed_round : (given : List (DataVector D)) (f : DataVector D) (mid : List (DataVector D))
        (l : DataVector D) (more : List (DataVector D)) → AreNarrowed given (f ∷ mid ++ l ∷ []) →
        AreJoinable eq l f → IsAppended eq limit mid (joined l f) more → AreNarrowed given more
    narrowed_round given f mid l more are can is = record {
      becomes = becomes_further given (f ∷ mid ++ l ∷ []) more are.becomes
          (begins_later (subst (λ us. Becomes eq us more) (sym (append_assoc mid (l ∷ []) (f ∷ [])))
          (becomes_further (mid ++ l ∷ f ∷ []) (mid ++ joined l f ∷ []) more (becomes_joined mid [] l f can)
          (subst (Becomes eq (mid ++ joined l f ∷ [])) (append-nil more) (is.becomes [])))));
      inside = is.inside;
      in_range = is.in_range;
    }

    -- what is left in the middle has no neighbours that can be joined
    pub none_in_middle : (given : List (DataVector D)) (f : DataVector D) (mid : List (DataVector D))
        (l : DataVector D) → AreNarrowed given (f ∷ mid ++ l ∷ []) → NoneJoinable eq mid
    none_in_middle given f mid l are = none_in_front mid (l ∷ []) (none_behind f (mid ++ l ∷ []) are.inside)

    pub range_in_middle : (given : List (DataVector D)) (f : DataVector D) (mid : List (DataVector D))
        (l : DataVector D) → AreNarrowed given (f ∷ mid ++ l ∷ []) → All (IsInRange limit) mid
    range_in_middle given f mid l are = All-first (IsInRange limit) mid (l ∷ [])
        (All-rest (IsInRange limit) (f ∷ []) (mid ++ l ∷ []) are.in_range)
