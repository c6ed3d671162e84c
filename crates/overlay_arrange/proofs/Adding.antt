-- Steps added to a list of counted edges one by one: the added steps and those to come stay the whole.
use Rattle.std.proofs.Common.{◌≡◌, ◌≤◌, ◌++◌, [], ◌∷◌, map, take, length, List, sym, ◌∙◌, ap, append_assoc, append-nil}
use Rattle.std.proofs.Common.{arith, length-take}
use Rattle.std.proofs.lemmas.List.{map-append, take-take}
use Rattle.overlay_geom.specs.Plane.{Point, Step, steps_between, steps_through}

-- a list that begins with b begins with the front of b
pub front-trans : {X : Type 0} (a b c : List X) → take (length a) b ≡ a → take (length b) c ≡ b → take (length a) c ≡ a
front-trans a b c ab bc =
    let short : length a ≤ length b = omega (arith, length-take (length a) b, ap length ab) in
    sym (take-take (length a) (length b) c short) ∙ ap (take (length a)) bc ∙ ab

-- the next step moves from the steps to come to those done
pub push-next : {E : Type 0} (f : Step → E) (from to : Point) (rest : List Point) (old new whole : List E)
    → old ++ map f (steps_through from (to ∷ rest)) ≡ whole
    → new ≡ old ++ map f (steps_between from to)
    → new ++ map f (steps_through to rest) ≡ whole
push-next {E = E} f from to rest old new whole h e =
    ap (λ (l : List E). l ++ map f (steps_through to rest)) e
    ∙ append_assoc old (map f (steps_between from to)) (map f (steps_through to rest))
    ∙ ap (λ (l : List E). old ++ l) (sym (map-append f (steps_between from to) (steps_through to rest)))
    ∙ h

-- after the last step the list is the whole
pub push-last : {E : Type 0} (f : Step → E) (from to : Point) (old new whole : List E)
    → old ++ map f (steps_through from (to ∷ [])) ≡ whole
    → new ≡ old ++ map f (steps_between from to)
    → new ≡ whole
push-last f from to old new whole h e = sym (append-nil new) ∙ push-next f from to [] old new whole h e
