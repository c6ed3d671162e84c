-- The last of the first entries is the entry below the place.
use Rattle.std.proofs.Common.{◌-◌, get_or, sym, ap, subst, ◌≡◌}
use Rattle.std.specs.Option.{option_map}
use Rattle.overlay_scan.proofs.LastEntries.{last_of_first}
use Rattle.overlay_scan.proofs.live.LiveEdges.value_below.Goals as goal

pub returns-else-place-eq0 : goal.returns-else-place-eq0
returns-else-place-eq0 g c =
    let es = c.args.self.now in
    let f = c.index.result.now in
    sym (ap (option_map (λ e. e.value)) (last_of_first es c.args.place f c.if-place-eq0.false c.requires
    (subst (λ fs. f ≡ get_or fs (c.args.place - 1) f) c.self.view_is c.index.ensures)))
