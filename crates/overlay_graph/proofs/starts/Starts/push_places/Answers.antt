-- One place more stands among the places so far, in order where it had to go no further.
use Rattle.std.proofs.Common.{◌≡◌, ◌+◌, ◌<◌, ◌≤◌, ◌∷◌, [], ◌++◌, ℕ, List, false, IsTrue, length, take}
use Rattle.std.proofs.Common.{get_or, vec_capacity, All, sym, ap, ◌∙◌, subst, arith, rules}
use Rattle.std.specs.List.Sorted.{IsPermutation, IsSortedWithin}
use Rattle.std.proofs.lemmas.Bool.{and_parts}
use Rattle.std.proofs.lemmas.List.{length-map, length_push, with_items_is}
use Rattle.std.proofs.lemmas.List.Sorted.{IsPermutation-map, IsPermutation-trans, All-permutation, length_permutation}
use Rattle.overlay_geom.specs.Edges.{CountedEdge}
use Rattle.overlay_geom.specs.Numbered.{Numbered, numbered}
use Rattle.overlay_geom.specs.Plane.{point_eq}
use Rattle.overlay_order.specs.Content.{plain_edge, plain_edges}
use Rattle.overlay_graph.specs.Starts.{edge_at, numbered_at, starts_before_at}
use Rattle.overlay_graph.proofs.StartsPushed.{pushed_permutation, pushed_below, pushed_prefix, pushed_apart}
use Rattle.overlay_graph.proofs.starts.Starts.push_places.Goals as goal
use Rattle.overlay_graph.proofs.starts.Starts.push_places.Goals.{then-shares_start, else-shares_start}

pub loop-place-preserved : goal.loop-place-preserved
loop-place-preserved g c =
    let es = plain_edges g.I.IntNumber.whole g.C.EdgeCount.counts c.args.self.now.edges.now in
    let behind = plain_edge g.I.IntNumber.whole g.C.EdgeCount.counts c.args.self.now.behind in
    let lt = starts_before_at es behind in
    let l = c.loop-place in
    let place = l.place in
    let items = l.places.items in
    let same = length-map c.args.self.now.edges.now (plain_edge g.I.IntNumber.whole g.C.EdgeCount.counts) in
    let test = c.loop-place-test.true in
    let inside : place < length es = omega (arith, same, test) in
    let count : length items ≡ place = l.invariant.1 in
    let pushed = items ++ place ∷ [] in
    let after = c.push_reserved.new.self.items in
    let are : after ≡ pushed = c.push_reserved.ensures.items in
    let is_placed = λ (ks : List ℕ). IsPermutation (numbered 0 (take (place + 1) es)) (numbered_at es ks) in
    let are_below = λ (ks : List ℕ). All (λ k. k < place + 1) ks in
    let are_up = λ (ks : List ℕ). IsSortedWithin lt ks 0 place in
    let are_all_up = λ (ks : List ℕ). IsSortedWithin lt ks 0 (place + 1) in
    let placed = subst is_placed (sym are)
    (pushed_permutation es items place inside count l.invariant.0) in
    let below = subst are_below (sym are)
    (pushed_below es items place inside count l.invariant.3) in
    let long : length after ≡ place + 1 =
    let more = length_push items place in ap length are ∙ omega (arith, more, count) in
    let wide : length c.args.self.now.edges.now ≤ vec_capacity c.push_reserved.new.self = search rules in
    let up : IsTrue l.is_sorted → IsSortedWithin lt after 0 place =
    λ sorted. subst are_up (sym are)
    (pushed_prefix es items place inside count lt (l.invariant.4 sorted)) in
    let numbers : ℕ → Numbered CountedEdge = λ k. record { item = edge_at es k; place = k } in
    elim c.if-shares_start.branch [
      | then-shares_start w ↦
          let news = w.move_back-is_sorted.new.places in
          let moved : IsPermutation after news =
          subst (λ (ks : List ℕ). IsPermutation ks news) w.deref_mut.ensures.value
          w.move_back-is_sorted.ensures.permutation in
          let is = with_items_is c.push_reserved.new.self news
          (length_permutation after news moved ∙ sym c.push_reserved.new.self.ok.0) in
          rw w.places-is (rw w.is_sorted-is (
            subst is_placed (sym is)
                (IsPermutation-trans _ _ _ placed (IsPermutation-map numbers after news moved)),
            ap length is ∙ length_permutation after news moved ∙ long,
            wide,
            subst are_below (sym is)
                (All-permutation (λ k. k < place + 1) after news moved below),
            λ sorted.
                let both = and_parts l.is_sorted w.move_back-is_sorted.result sorted in
                subst are_all_up (sym is)
                (w.move_back-is_sorted.ensures.sorted both.1
                (subst are_up (sym w.deref_mut.ensures.value) (up both.0))),
          ))
      | else-shares_start w ↦
          rw w.places-is (rw w.is_sorted-is (
            placed,
            long,
            wide,
            below,
            λ sorted. subst are_all_up (sym are)
                (pushed_apart es items place inside count behind c.requires.ascending l.invariant.3
                (l.invariant.4 sorted)
                (λ k d at. subst
                (λ (ks : List ℕ). point_eq (get_or es (get_or ks k d) behind).a (get_or es place behind).a ≡ false)
                (c.deref.ensures.value ∙ are)
                (c.shares_start.ensures.apart w.if-shares_start.false k d at))),
          ))
    ]
