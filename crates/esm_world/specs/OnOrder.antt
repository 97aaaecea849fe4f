-- Statements on runs: what the order of deliveries doesn't change where files are clean, which are laws of esm_order_laws and
-- esm_direct_laws; and what ends first, a law of esm_needs_laws (NeedsFirst).
use Rattle.std.specs.Prelude.{◌≡◌, ◌≢◌, Bool, true, List, [], ◌∷◌, ◌++◌, Some, Contains, None}
use Rattle.esm_base.specs.declared.status.Status.TheVariants as statuses
use Rattle.esm_base.specs.Urls.{Url, has}
use Rattle.esm_tree.specs.Syntax.{Item}
use Rattle.esm_import_map.specs.ImportMap.{Maps}
use Rattle.esm_realm.specs.Reach.{Reaches}
use Rattle.esm_loads.specs.Loading.{targets}
use Rattle.esm_rewriting.specs.State.{Event, Begins, Ends}
use Rattle.esm_world.specs.World.{World, opening, stopped}
use Rattle.esm_world.specs.Run.{Runs, Shown, StandardRun}
use Rattle.esm_ast.specs.Deliveries.{Delivery, Files, AreOfFiles}
use Rattle.esm_world.specs.Direct.{IsClean, AreClosure, DirectRun, MeetsNoLimit, ShowsDirect}

-- clean files have a direct run, which shows something
abbrev pub HasDirectRun : Type 0
HasDirectRun = (maps : Maps) (built : List Item → Bool) (files : Files) (entry : Url) (trace : Bool) (modules : List Url)
    → IsClean maps built files entry → AreClosure maps built files entry modules
    → (after : World) × DirectRun maps built files entry trace modules after × (what : Shown) × ShowsDirect after what

-- and all that they have show the same, in whatever order the closure is listed
abbrev pub OneDirectRun : Type 0
OneDirectRun = (maps : Maps) (built : List Item → Bool) (files : Files) (entry : Url) (trace : Bool) (modules others : List Url)
    (one other : World) (what : Shown) → IsClean maps built files entry → DirectRun maps built files entry trace modules one
    → DirectRun maps built files entry trace others other → ShowsDirect one what → ShowsDirect other what

-- where the direct run meets no limit, none stops any run of these files
abbrev pub NeverStops : Type 0
NeverStops = (maps : Maps) (built : List Item → Bool) (files : Files) (entry : Url) (trace : Bool) (deliveries : List Delivery)
    (modules : List Url) (w after : World) → IsClean maps built files entry → AreOfFiles files deliveries
    → Runs (opening maps built entry trace) deliveries w → DirectRun maps built files entry trace modules after
    → MeetsNoLimit maps built files modules after → stopped w ≡ None

-- the order of deliveries doesn't matter: a run of clean files that has ended, and not by a limit, shows the direct run
abbrev pub OrderFreeShown : Type 0
OrderFreeShown = (maps : Maps) (built : List Item → Bool) (files : Files) (entry : Url) (trace : Bool) (deliveries : List Delivery)
    (modules : List Url) (what : Shown) → IsClean maps built files entry → AreClosure maps built files entry modules
    → AreOfFiles files deliveries → StandardRun maps built entry trace deliveries what → what.ended ≡ true
    → what.status ≢ Some statuses.Limit → (after : World) × DirectRun maps built files entry trace modules after × ShowsDirect after what

-- and so each run of clean files that has no open ask shows the direct run, where that meets no limit
abbrev pub OrderFreeWithin : Type 0
OrderFreeWithin = (maps : Maps) (built : List Item → Bool) (files : Files) (entry : Url) (trace : Bool) (deliveries : List Delivery)
    (modules : List Url) (what : Shown) (after : World) → IsClean maps built files entry → AreOfFiles files deliveries
    → StandardRun maps built entry trace deliveries what → what.asks ≡ [] → DirectRun maps built files entry trace modules after
    → MeetsNoLimit maps built files modules after → ShowsDirect after what

-- in each standard run: before the body of x begins, the bodies of what it requests, and of what these reach, have ended normally.
-- Of a request that leads back to x itself nothing is said
abbrev pub NeedsFirst : Type 0
NeedsFirst = (maps : Maps) (built : List Item → Bool) (entry : Url) (trace : Bool) (deliveries : List Delivery) (w : World) (x t y : Url)
    (before rest : List (Event Url)) → Runs (opening maps built entry trace) deliveries w
    → w.engine.events ≡ before ++ Begins x ∷ rest → has (targets w.loading x) t ≡ true
    → (Reaches (targets w.loading) t x → ⊥) → Reaches (targets w.loading) t y → Contains before (Ends y)
