-- What holds of each world of a run, between two of its steps; and what the job of a reaction needs. own
use Rattle.std.specs.Prelude.{◌≡◌, ◌≤◌, ℕ, Bool, true, List, Option, Some, None, ⊤}
use Rattle.std.specs.List.{AllByRecursion}
use Rattle.esm_base.specs.declared.limits.TheConstants.{MAX_STEPS}
use Rattle.esm_base.specs.Urls.{Url, has, same_url}
use Rattle.esm_tree.specs.Syntax.{Item}
use Rattle.esm_import_map.specs.ImportMap.{Maps}
use Rattle.esm_ast.specs.Deliveries.{Delivery}
use Rattle.esm_values.specs.Value.{Value}
use Rattle.esm_promise.specs.Promises.{Promise, Pending, Done, Promises, Settled, Job, next_job, settled}
use Rattle.esm_promise.specs.Reactions.{Reaction, Await, BodyEnd, Loaded, Evaluated, EntryLoaded, EntryDone}
use Rattle.esm_loads.specs.Loading.{Loading, root_of_load}
use Rattle.esm_loads.specs.Host.{Host}
use Rattle.esm_loads.specs.Arrival.{AnswersNext}
use Rattle.esm_link.specs.Faults.{FaultAt}
use Rattle.esm_rewriting.specs.Bodies.{Taken, take_standing}
use Rattle.esm_world.specs.World.{World, opening, stopped, host_of, with_host}
use Rattle.esm_world.specs.Layers.{LinksTo, with_linked, with_promises}
use Rattle.esm_world.specs.Jobs.{Reacts}
use Rattle.esm_world.specs.Turn.{fetched}
use Rattle.esm_world.specs.Run.{IsAllowed}
use Rattle.esm_world.specs.Fits.{FitReaction, FitSettled, IsFit}
use Rattle.esm_world.specs.Loaded.{FitsLoading}
use Rattle.esm_world.specs.Awaits.{AwaitsHaveBodies}
use Rattle.esm_world.specs.Told.{AreTold, IsTold}

-- what is linked is Unlinked, or was
abbrev pub LinkedAreUnlinked : World → Type 0
LinkedAreUnlinked w = (u : Url) → has w.linked u ≡ true → w.loading.unlinked u ≡ true

-- ---- reactions to evaluations

-- the load is complete, and its root is linked
pub record IsLinkedLoad (l : Loading) (linked_are : List Url) (s : ℕ) : Type 0 where
  pub root : Url
  pub is_root : root_of_load l s ≡ Some root
  pub linked : has linked_are root ≡ true

-- the load of a reaction to an evaluation is such
module _ (Q : ℕ → Type 0) where
  abbrev pub OfLoad : Reaction Url → Type 0
  OfLoad (Await m) = ⊤
  OfLoad (BodyEnd m) = ⊤
  OfLoad (Loaded s) = ⊤
  OfLoad (Evaluated s) = Q s
  OfLoad EntryLoaded = ⊤
  OfLoad EntryDone = ⊤

  abbrev pub OnPromise : Promise (Reaction Url) (Value Url) → Type 0
  OnPromise (Pending rs) = AllByRecursion OfLoad rs
  OnPromise (Done how) = ⊤

  abbrev pub InJob : Job (Reaction Url) → Type 0
  InJob j = OfLoad j.reaction

  pub record LoadsAre (ps : Promises (Reaction Url) (Value Url)) : Type 0 where
    pub all : AllByRecursion OnPromise ps.all
    pub jobs : AllByRecursion InJob ps.jobs

abbrev pub Own : World → ℕ → Type 0
Own w s = IsLinkedLoad w.loading w.linked s

abbrev pub EvaluatedAreLinked : World → Type 0
EvaluatedAreLinked w = LoadsAre (Own w) w.promises

-- ---- worlds

-- linking, evaluation and bodies can be called in it
pub record TakesCalls (w : World) : Type 0 where
  pub fit : IsFit w
  pub loading : FitsLoading w.loading
  pub unlinked : LinkedAreUnlinked w
  pub steps : w.engine.steps ≤ MAX_STEPS

-- and each reaction finds what its job looks for
pub record IsSound (w : World) : Type 0 where
  pub ready : TakesCalls w
  pub awaits : AwaitsHaveBodies w
  pub evaluated : EvaluatedAreLinked w
  pub told : AreTold w

-- what the job of a reaction looks for: its body stands at an await, and the root of its load is linked
abbrev pub Finds : World → Reaction Url → Type 0
Finds w (Await m) = (t : Taken Url) × (take_standing same_url w.engine.standing m ≡ Some t)
Finds w (Evaluated s) = IsLinkedLoad w.loading w.linked s
Finds w _ = ⊤

-- the job of the reaction, whose promise was settled so, can be done
pub record MayReact (w : World) (r : Reaction Url) (how : Settled (Value Url)) : Type 0 where
  pub ready : TakesCalls w
  pub reaction : FitReaction w.linked w.loading.entries r
  pub how_fits : FitSettled w.linked w.loading.entries how
  pub told : IsTold w.loading r how
  pub finds : Finds w r

-- a load that is complete has an Unlinked root, linking keeps that a world is ready, and without a fault the root is linked then
pub record LinkingStaysReady : Type 0 where
  pub root : (w : World) (s : ℕ) (root : Url) → TakesCalls w → root_of_load w.loading s ≡ Some root → w.loading.unlinked root ≡ true
  pub links : (w : World) (root : Url) (fault : Option (FaultAt Url)) (linked : List Url) → TakesCalls w
      → w.loading.unlinked root ≡ true → LinksTo w root fault linked → TakesCalls (with_linked w linked)
  pub linked : (w : World) (root : Url) (linked : List Url) → LinksTo w root None linked → has linked root ≡ true

-- the opening world is sound; the end of a fetch that is allowed, the answer of a pending request and a job keep it, and each job can be
-- done
pub record WorldsStaySound : Type 0 where
  pub opens : (maps : Maps) (built : List Item → Bool) (entry : Url) (trace : Bool) → IsSound (opening maps built entry trace)
  pub fetches : (w : World) (d : Delivery) → IsSound w → IsAllowed w d → IsSound (fetched w d.url d.outcome)
  pub answers : (w : World) (h : Host) → IsSound w → stopped w ≡ None → AnswersNext (host_of w) h → IsSound (with_host w h)
  pub may : (w : World) (j : Job (Reaction Url)) (left : Promises (Reaction Url) (Value Url)) (how : Settled (Value Url)) → IsSound w
      → next_job w.promises ≡ Some (j, left) → settled left j.promise ≡ Some how → MayReact (with_promises w left) j.reaction how
  pub reacts : (w after : World) (j : Job (Reaction Url)) (left : Promises (Reaction Url) (Value Url)) (how : Settled (Value Url))
      → IsSound w → next_job w.promises ≡ Some (j, left) → settled left j.promise ≡ Some how
      → Reacts (with_promises w left) j.reaction how after → stopped after ≡ None → IsSound after
  -- each job has a result
  pub result : (w : World) (j : Job (Reaction Url)) (left : Promises (Reaction Url) (Value Url)) → IsSound w
      → next_job w.promises ≡ Some (j, left) → (how : Settled (Value Url)) × (settled left j.promise ≡ Some how)
