-- Which worlds fit: what is linked is there, values, promises and bodies are of what is linked. Each world of a standard run is so.
use Rattle.std.specs.Prelude.{◌≡◌, ◌<◌, ℕ, true, All, List, [], length, ⊤}
use Rattle.std.specs.List.{AllByRecursion}
use Rattle.esm_base.specs.Urls.{Url, has}
use Rattle.esm_ast.specs.Entries.{requests_of}
use Rattle.esm_ast.specs.ModuleTree.{IsModuleTree}
use Rattle.esm_values.specs.Value.{Value}
use Rattle.esm_promise.specs.Promises.{Settled, Fulfilled, Rejected, Promise, Pending, Done, Promises, Job}
use Rattle.esm_promise.specs.Reactions.{Reaction, Await, BodyEnd, Loaded, Evaluated, EntryLoaded, EntryDone}
use Rattle.esm_env.specs.Modules.{Modules}
use Rattle.esm_loads.specs.UrlTable.{Entries, targets_in, body_in}
use Rattle.esm_loads.specs.Host.{Host}
use Rattle.esm_loads.specs.Whole.{is_module}
use Rattle.esm_loads.specs.Laws.{IsOrderly}
use Rattle.esm_eval.specs.Nodes.{was_entered}
use Rattle.esm_eval.specs.Keeping.{IsNodeOf}
use Rattle.esm_rewriting.specs.Fits.{IsKnown, FitsState}
use Rattle.esm_rewriting.specs.State.{Event, Begins, Ends, Throws}
use Rattle.esm_world.specs.World.{World, EntryState, Underway, Ended, Failed, modules_in, body_state}
use Rattle.esm_loads.specs.LoadsView.{url_at}

-- over these linked modules and these entries of the table
module _ (linked : List Url) (entries : Entries) where
  abbrev pub IsLinkedModule : Url → Type 0
  IsLinkedModule u = has linked u ≡ true

  -- a module stands under each linked URL, its tree is a module's, and its requests lead to linked modules
  pub record AreModules : Type 0 where
    pub stands : (u : Url) → IsLinkedModule u → is_module (entries u) ≡ true
    pub trees : (u : Url) → IsLinkedModule u → IsModuleTree (body_in (entries u))
    pub targets : (u : Url) (request : ℕ) → IsLinkedModule u → request < length (requests_of (body_in (entries u)))
        → IsLinkedModule (url_at (targets_in (entries u)) request)

  -- the trees of the modules. Nothing else of them is asked for
  abbrev pub trees_of : Modules Url
  trees_of = record {
    url = λ u. u;
    tree = λ u. body_in (entries u);
    target = λ u request. u;
    size = 0;
    number = λ u. 0;
    named = λ n. [];
  }

  -- a function is one of a linked module, and a namespace that of one
  abbrev pub IsKnownValue : Value Url → Type 0
  IsKnownValue v = IsKnown trees_of (has linked) v

  -- ---- promises

  abbrev pub FitReaction : Reaction Url → Type 0
  FitReaction (Await m) = IsLinkedModule m
  FitReaction (BodyEnd m) = IsLinkedModule m
  FitReaction (Loaded load) = ⊤
  FitReaction (Evaluated load) = ⊤
  FitReaction EntryLoaded = ⊤
  FitReaction EntryDone = ⊤

  abbrev pub FitSettled : Settled (Value Url) → Type 0
  FitSettled (Fulfilled v) = IsKnownValue v
  FitSettled (Rejected v) = IsKnownValue v

  abbrev pub FitPromise : Promise (Reaction Url) (Value Url) → Type 0
  FitPromise (Pending reactions) = AllByRecursion FitReaction reactions
  FitPromise (Done how) = FitSettled how

  pub record FitPromises (ps : Promises (Reaction Url) (Value Url)) : Type 0 where
    pub all : AllByRecursion FitPromise ps.all
    pub jobs : AllByRecursion (λ (j : Job (Reaction Url)). FitReaction j.reaction) ps.jobs

  -- ---- worlds

  abbrev pub FitEvent : Event Url → Type 0
  FitEvent (Begins m) = IsLinkedModule m
  FitEvent (Ends m) = IsLinkedModule m
  FitEvent (Throws m) = IsLinkedModule m

  abbrev pub FitEntry : EntryState → Type 0
  FitEntry Underway = ⊤
  FitEntry Ended = ⊤
  FitEntry (Failed v) = IsKnownValue v

  pub record FitsHost (h : Host) : Type 0 where
    pub entries_are : h.imports.entries ≡ entries
    pub orderly : IsOrderly h.imports
    pub promises : FitPromises h.promises

  pub record FitsWorld (w : World) : Type 0 where
    pub modules : AreModules
    pub linked_are : w.linked ≡ linked
    pub state : FitsState modules_in (λ l. has linked) FitsHost (body_state w)
    pub nodes : (u : Url) → IsNodeOf IsLinkedModule IsKnownValue (w.nodes u)
    pub stamps : All IsLinkedModule w.stamps
    -- what evaluation has entered is linked
    pub entered : (u : Url) → was_entered (w.nodes u).phase ≡ true → IsLinkedModule u
    -- the bodies that have begun are of linked modules, and the entry failed with a known value
    pub events : AllByRecursion FitEvent w.engine.events
    pub entry : FitEntry w.entry

abbrev pub IsFit : World → Type 0
IsFit w = FitsWorld w.linked w.loading.entries w
