-- By the path, and by what is there.
use Rattle.std.proofs.Common.{ℕ, List, Option, Bor, subst, sym}
use Rattle.std.specs.Prelude.{IfOk, IfSome, None, false}
use Rattle.heapan_top.specs.Parts.{path_bytes, setting_of}
use Rattle.heapan_top.specs.Stores.{Opens, front_of, store_told}
use Rattle.heapan_top.proofs.Fronts.{opens_without, through_error, told_opens}
use Rattle.heapan_top.proofs.opening.open.Goals as goal

pub returns-in_default-clause-opens : goal.returns-in_default-clause-opens
returns-in_default-clause-opens g c =
    subst
    (λ (p : Option (Bor (List ℕ))). IfOk c.map_err.result
    (λ one. IfSome (store_told (g.P.Keeper.kept c.args.keeper.now) (path_bytes p))
    (λ store. Opens store (setting_of one.loaded.value p) (front_of one.unread))))
    (sym c.in_default.is)
    (through_error _ _ c.without_entries.result c.map_err.result c.map_err.ensures.cases c.map_err.ensures.variant
    (opens_without None false false Opens.no_store c.without_entries.result c.without_entries.ensures.loaded
    c.without_entries.ensures.unread))

pub returns-in-Ok-clause-opens : goal.returns-in-Ok-clause-opens
returns-in-Ok-clause-opens g c =
    subst
    (λ (p : Option (Bor (List ℕ))). IfOk c.map_err-in-Ok.result
    (λ one. IfSome (store_told (g.P.Keeper.kept c.args.keeper.now) (path_bytes p))
    (λ store. Opens store (setting_of one.loaded.value p) (front_of one.unread))))
    (sym c.in-Some.is)
    (through_error _ _ c.with_held.result c.map_err-in-Ok.result c.map_err-in-Ok.ensures.cases c.map_err-in-Ok.ensures.variant
    (told_opens (g.P.Keeper.kept c.args.keeper.now c.in-Some.path.now) c.in-Ok.held c.with_held.result c.in-Ok.ensures.held
    c.with_held.ensures))
