-- One edge more, vertical or not.
use Rattle.std.proofs.Common.{◌≡◌, ◌+◌, ◌++◌, ◌∷◌, [], cond, map, take, sym, ap, ◌∙◌, append-nil}
use Rattle.std.specs.List.{filter}
use Rattle.std.proofs.lemmas.List.{map-append}
use Rattle.std.proofs.lemmas.List.Elements.{filter-append}
use Rattle.overlay_geom.specs.Resolved.{plain_edge, IsLongEdge}
use Rattle.overlay_geom.proofs.Comparisons.{is_lt-int_cmp}
use Rattle.overlay_geom.proofs.Mapped.{All-mapped_at, mapped_more}
use Rattle.overlay_plane.proofs.Tests.{lt_from_test}
use Rattle.overlay_relate.specs.Sweeps.{wide_edge, wide_edges, is_wide}
use Rattle.overlay_relate.proofs.starts.wide_ones.Goals as goal
use Rattle.overlay_relate.proofs.starts.wide_ones.Goals.{then-is_lt+in_ok-push, else-is_lt}

pub invariant_of-push : goal.invariant_of-push
invariant_of-push g c =
    let whole = g.I.IntNumber.whole in
    let e = plain_edge whole c.e-item.result in
    let test : c.is_lt.result ≡ is_wide e = rw (c.is_lt.ensures, c.compare.ensures) (is_lt-int_cmp e.a.x e.b.x) in
    let long = All-mapped_at (IsLongEdge g.I.IntNumber.limit) (plain_edge whole) c.args.edges.now c.loop-e.e-index
    c.e-item.result
    c.loop-e-test.true c.e-item.is c.requires in
    record {
      a_in_range = long.a_in_range;
      b_in_range = long.b_in_range;
      wide = lt_from_test e.a.x e.b.x
          (sym test ∙ c.if-is_lt.true);
    }

pub loop-e-preserved : goal.loop-e-preserved
loop-e-preserved g c =
    let whole = g.I.IntNumber.whole in
    let plain = plain_edge whole in
    let before = map plain (take c.loop-e.e-index c.args.edges.now) in
    let e = plain c.e-item.result in
    let more : filter is_wide (map plain (take (c.loop-e.e-index + 1) c.args.edges.now)) ≡ filter is_wide before ++ cond
    (is_wide e) (e ∷ []) [] =
    ap (filter is_wide) (mapped_more plain c.args.edges.now c.loop-e.e-index c.e-item.result c.loop-e-test.true
    c.e-item.is) ∙ filter-append is_wide before (e ∷ []) in
    let test : c.is_lt.result ≡ is_wide e = rw (c.is_lt.ensures, c.compare.ensures) (is_lt-int_cmp e.a.x e.b.x) in
    elim c.if-is_lt.branch [
      | then-is_lt+in_ok-push w ↦
          ap (λ (v : _). wide_edges whole v.items) w.wide-is ∙ ap (wide_edges whole) w.in_ok-push.ensures.items
          ∙ map-append (wide_edge whole) c.loop-e.wide.items (_ ∷ []) ∙ ap (λ es. es ++ e ∷ []) c.loop-e.invariant
          ∙ sym (more ∙ ap (λ t. filter is_wide before ++ cond t (e ∷ []) []) (sym test ∙ w.if-is_lt.true))
      | else-is_lt w ↦
          ap (λ (v : _). wide_edges whole v.items) w.wide-is ∙ c.loop-e.invariant
          ∙ sym (append-nil (filter is_wide before))
          ∙ sym (more ∙ ap (λ t. filter is_wide before ++ cond t (e ∷ []) []) (sym test ∙ w.if-is_lt.false))
    ]
