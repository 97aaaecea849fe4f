-- Loading a module and all that it reaches: ECMA-262, LoadRequestedModules.
use Rattle.std.specs.Prelude.{◌≡◌, ℕ, suc, true, false, List, [], ◌∷◌, Some, None}
use Rattle.esm_base.specs.Urls.{Url}
use Rattle.esm_loads.specs.UrlTable.{TableEntry, Throw, thrown_by}
use Rattle.esm_loads.specs.Loading.{Loading, PendingRequest, Root, Request, OpenLoad, open_load, begin, is_fresh, visit, throw, finish, ask, targets}

mutual
  -- ECMA-262, InnerModuleLoading: the load s enters the module x
  pub data Enters : Loading → ℕ → Url → Loading → Type 0 where
    -- the load has ended, or hasn't begun
    ended : {l : Loading} {s : ℕ} {x : Url} → open_load l s ≡ None → Enters l s x l
    -- x isn't New, or was visited
    known : {l : Loading} {s : ℕ} {x : Url} (o : OpenLoad) → open_load l s ≡ Some o → is_fresh l o.1 x ≡ false → Enters l s x l
    -- x is visited, and its requests are gone through
    enters : {l after : Loading} {s : ℕ} {x : Url} (o : OpenLoad)
        → open_load l s ≡ Some o → is_fresh l o.1 x ≡ true → Asks (visit l s o x) s x 0 (targets l x) after → Enters l s x after

  -- ECMA-262, InnerModuleLoading, step 2.d: the requests of x from the i-th on, in order
  pub data Asks : Loading → ℕ → Url → ℕ → List Url → Loading → Type 0 where
    no_more : {l : Loading} {s i : ℕ} {x : Url} → Asks l s x i [] l
    -- the load has ended
    over : {l : Loading} {s i : ℕ} {x t : Url} {ts : List Url} → open_load l s ≡ None → Asks l s x i (t ∷ ts) l
    -- the target isn't fetched: HostLoadImportedModule
    waits : {l after : Loading} {s i : ℕ} {x t : Url} {ts : List Url} (o : OpenLoad)
        → open_load l s ≡ Some o → l.entries t ≡ None → Asks (ask l t (Request s x i)) s x (suc i) ts after
        → Asks l s x i (t ∷ ts) after
    -- the target's entry is no module: the load ends
    throws : {l : Loading} {s i : ℕ} {x t : Url} {ts : List Url} (o : OpenLoad) (e : TableEntry) (thrown : Throw)
        → open_load l s ≡ Some o → l.entries t ≡ Some e → thrown_by t e ≡ Some thrown
        → Asks l s x i (t ∷ ts) (throw l s thrown)
    -- the target is a module: it is entered
    loads : {l mid after : Loading} {s i : ℕ} {x t : Url} {ts : List Url} (o : OpenLoad) (e : TableEntry)
        → open_load l s ≡ Some o → l.entries t ≡ Some e → thrown_by t e ≡ None
        → Enters l s t mid → Asks mid s x (suc i) ts after → Asks l s x i (t ∷ ts) after

-- ECMA-262, FinishLoadingImportedModule and ContinueModuleLoading: the pending request is answered with the entry of t.
-- An answer to a load that has ended has no rule here
pub data Answers : Loading → PendingRequest → Url → TableEntry → Loading → Type 0 where
  -- no module: the load ends by a throw
  no_root : {l : Loading} {s : ℕ} {t : Url} {e : TableEntry} (thrown : Throw)
      → thrown_by t e ≡ Some thrown → Answers l (Root s) t e (throw l s thrown)
  no_module : {l : Loading} {s i : ℕ} {x t : Url} {e : TableEntry} (o : OpenLoad) (thrown : Throw)
      → open_load l s ≡ Some o → thrown_by t e ≡ Some thrown → Answers l (Request s x i) t e (throw l s thrown)
  -- a module: it is entered, and the load ends where it has no pending request
  root : {l mid : Loading} {s : ℕ} {t : Url} {e : TableEntry}
      → thrown_by t e ≡ None → Enters (begin l s t) s t mid → Answers l (Root s) t e (finish mid s)
  request : {l mid : Loading} {s i : ℕ} {x t : Url} {e : TableEntry} (o : OpenLoad)
      → open_load l s ≡ Some o → thrown_by t e ≡ None → Enters l s t mid → Answers l (Request s x i) t e (finish mid s)
