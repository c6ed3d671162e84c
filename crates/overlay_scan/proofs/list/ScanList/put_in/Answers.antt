-- The entry is put in at the place that is found.
use Rattle.std.proofs.Common.{None, [], ◌∷◌, take, refl}
use Rattle.std.specs.List.{last_or}
use Rattle.std.specs.Option.{option_map}
use Rattle.std.proofs.lemmas.Result.{on_ok_weaker}
use Rattle.overlay_scan.specs.HeldEntries.{live_of}
use Rattle.overlay_scan.specs.Lists.{plain_entry}
use Rattle.overlay_scan.proofs.Searching.{looked_up}
use Rattle.overlay_scan.proofs.list.ScanList.put_in.Goals as goal

pub returns-clause-ok : goal.returns-clause-ok
returns-clause-ok g c =
    let whole = g.I.IntNumber.whole in
    let x = whole c.args.x in
    let es = c.find-place.new.self in
    let n = c.find-place.result in
    let v = option_map (λ f. f.value) (last_or None (live_of whole x (take n es))) in
    on_ok_weaker c.put.result (λ now. (
      v,
      looked_up whole x es (goal.F-post g c.args.order.now) c.args.self.now.live
          c.put.new.self n (plain_entry whole c.args.entry ∷ []) v c.find-place.ensures.kept
          c.find-place.ensures.found now refl,
    )) c.put.ensures.ok
