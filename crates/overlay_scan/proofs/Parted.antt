-- The live entries of nodes in order, and where those that pass a test end.
use Rattle.std.proofs.Common.{◌≡◌, Bool, true, false, ℕ, ℤ, int_lt, List, [], ◌∷◌, ◌++◌, Option, None, Some}
use Rattle.std.proofs.Common.{slice_get, refl, sym, ap, ◌∙◌}
use Rattle.std.specs.List.{All, filter_map, cons_option, last_or}
use Rattle.std.specs.Option.{option_map}
use Rattle.std.proofs.lemmas.List.Elements.{All-append, All-cons}
use Rattle.std.proofs.lemmas.List.Elements.{filter_map-append}
use Rattle.overlay_scan.specs.HeldEntries.{live_of, IsParted}
use Rattle.overlay_scan.specs.Lists.{plain_entry}
use Rattle.overlay_scan.proofs.LiveParts.{live-append as held-append, live-here as held-here, live-ended as held-ended}
use Rattle.overlay_scan.specs.Scan.{Entry}
use Rattle.overlay_scan.specs.declared.list.LiveEdge.{LiveEdge}
use Rattle.overlay_scan.specs.declared.tree.links.Side.TheVariants.{Left, Right}
use Rattle.overlay_scan.specs.Descents.{live_entries, passed_on}

module _ {I V : Type 0} (whole : I → ℤ) (x : ℤ) (es : List (LiveEdge I V)) where
  pub live-append : (is js : List ℕ) →
      live_entries whole x es (is ++ js) ≡ live_entries whole x es is ++ live_entries whole x es js
  live-append is js = ap (live_of whole x) (filter_map-append (slice_get es) is js)
      ∙ held-append whole x (filter_map (slice_get es) is) (filter_map (slice_get es) js)

  at_head : (i : ℕ) (is : List ℕ) (f : LiveEdge I V) → slice_get es i ≡ Some f →
      live_entries whole x es (i ∷ is) ≡ live_of whole x (f ∷ filter_map (slice_get es) is)
  at_head i is f there = ap (λ o. live_of whole x (cons_option o (filter_map (slice_get es) is))) there

  pub live-here : (i : ℕ) (is : List ℕ) (f : LiveEdge I V) → slice_get es i ≡ Some f → int_lt x (whole f.b.x) ≡ true →
      live_entries whole x es (i ∷ is) ≡ plain_entry whole f ∷ live_entries whole x es is
  live-here i is f there live = at_head i is f there ∙ held-here whole x f (filter_map (slice_get es) is) live

  pub live-ended : (i : ℕ) (is : List ℕ) (f : LiveEdge I V) → slice_get es i ≡ Some f → int_lt x (whole f.b.x) ≡ false →
      live_entries whole x es (i ∷ is) ≡ live_entries whole x es is
  live-ended i is f there ended = at_head i is f there ∙ held-ended whole x f (filter_map (slice_get es) is) ended

  -- in the middle
  pub live-middle : (is : List ℕ) (i : ℕ) (js : List ℕ) (f : LiveEdge I V) → slice_get es i ≡ Some f →
      int_lt x (whole f.b.x) ≡ true → live_entries whole x es (is ++ i ∷ js) ≡ live_entries whole x es is
      ++ plain_entry whole f ∷ live_entries whole x es js
  live-middle is i js f there live = live-append is (i ∷ js)
      ∙ ap (λ fs. live_entries whole x es is ++ fs) (live-here i js f there live)

  pub live-without : (is : List ℕ) (i : ℕ) (js : List ℕ) (f : LiveEdge I V) → slice_get es i ≡ Some f →
      int_lt x (whole f.b.x) ≡ false → live_entries whole x es (is ++ i ∷ js) ≡ live_entries whole x es (is ++ js)
  live-without is i js f there ended = live-append is (i ∷ js)
      ∙ ap (λ fs. live_entries whole x es is ++ fs) (live-ended i js f there ended) ∙ sym (live-append is js)

-- ---- the last entry that passes

module _ {V : Type 0} where
  abbrev value : Entry V → V
  value f = f.value

  some_last : (w : V) (g : Entry V) (fs : List (Entry V)) →
      passed_on Right w (option_map value (last_or (Some g) fs)) ≡ option_map value (last_or (Some g) fs)
  some_last w g [] = refl
  some_last w g (f ∷ fs) = some_last w f fs

  last_with : (f : Entry V) (fs : List (Entry V)) →
      passed_on Right f.value (option_map value (last_or None fs)) ≡ option_map value (last_or (Some f) fs)
  last_with f [] = refl
  last_with f (g ∷ fs) = some_last f.value g fs

  last_after : (o : Option (Entry V)) (gs : List (Entry V)) (f : Entry V) (fs : List (Entry V)) →
      last_or o (gs ++ f ∷ fs) ≡ last_or (Some f) fs
  last_after o [] f fs = refl
  last_after o (g ∷ gs) f fs = last_after (Some g) gs f fs

  module _ (passes : Entry V → Bool) (f : Entry V) (before after : List (Entry V)) (v : Option V)
      (below : IsParted passes before after v) where
    -- the entry does not pass, and all of these stand above it
    pub parted_left : (above : List (Entry V)) → passes f ≡ false → All (λ g. passes g ≡ false) above →
        IsParted passes before (after ++ f ∷ above) (passed_on Left f.value v)
    parted_left above fail fail_above = record {
      pass = below.pass;
      fail = All-append (λ g. passes g ≡ false) after (f ∷ above) below.fail
          (All-cons (λ g. passes g ≡ false) f above fail fail_above);
      value = below.value;
    }

    -- the entry passes, and all of these stand below it
    pub parted_right : (under : List (Entry V)) → passes f ≡ true → All (λ g. passes g ≡ true) under →
        IsParted passes (under ++ f ∷ before) after (passed_on Right f.value v)
    parted_right under pass pass_under = record {
      pass = All-append (λ g. passes g ≡ true) under (f ∷ before) pass_under
          (All-cons (λ g. passes g ≡ true) f before pass below.pass);
      fail = below.fail;
      value = ap (passed_on Right f.value) below.value ∙ last_with f before
          ∙ ap (option_map value) (sym (last_after None under f before));
    }
