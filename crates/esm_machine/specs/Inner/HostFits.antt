-- What fits of promises, errors and loading over URLs stays so by what bodies do to promises and errors, and an import() has an outcome.
use Rattle.std.proofs.Common.{◌≡◌, ℕ, true, List, [], ◌∙◌}
use Rattle.std.specs.Prelude.{Result}
use Rattle.esm_base.specs.declared.limits.Limit.{Limit}
use Rattle.esm_base.specs.Urls.{Url, has}
use Rattle.esm_values.specs.Value.{Value}
use Rattle.esm_expr_eval.specs.Ready.{Holds}
use Rattle.esm_promise.specs.Promises.{Settled, Fulfilled, Rejected, make, settle}
use Rattle.esm_loads.specs.UrlTable.{Entries}
use Rattle.esm_loads.specs.Loading.{Loading}
use Rattle.esm_loads.specs.Host.{Host}
use Rattle.esm_loads.specs.ImportCall.{Imports, BeginsImport}
use Rattle.esm_loads.specs.ImportCall.Imports.{limit, unresolved, asks, answers}
use Rattle.esm_loads.proofs.HasLoad.{has_load}
use Rattle.esm_loads.proofs.Orderly.{stays_orderly, only_grows}
use Rattle.esm_rewriting.specs.Bodies.{await_on, given_by}
use Rattle.esm_rewriting.specs.Fits.{IsKnown}
use Rattle.esm_world.specs.World.{modules_in}
use Rattle.esm_world.specs.Fits.{AreModules, FitPromises, FitSettled, FitsHost}
use Rattle.esm_world.proofs.FitBodies.{known_in, known_out, fit_answered}
use Rattle.esm_world.proofs.FitLists.{made, settled, awaited}

module _ (linked : List Url) (entries : Entries) (modules : AreModules linked entries) where
  abbrev pub Knows : Loading → Value Url → Type 0
  Knows l v = IsKnown (modules_in l) (has linked) v

  holds_settled : (l : Loading) → l.entries ≡ entries → (how : Settled (Value Url)) → Holds (Knows l) ⊥ (given_by how)
      → FitSettled linked entries how
  holds_settled l e (Fulfilled v) k = known_out linked entries modules l e v k
  holds_settled l e (Rejected v) k = known_out linked entries modules l e v k

  pub host_makes : (h : Host) → FitsHost linked entries h → FitsHost linked entries (record h { promises = make h.promises [] })
  host_makes h f = record { entries_are = f.entries_are; orderly = f.orderly; promises = made linked entries h.promises [] tt f.promises }

  pub host_settles : (h : Host) (p : ℕ) (how : Settled (Value Url)) → Holds (Knows h.imports) ⊥ (given_by how) → FitsHost linked entries h
      → FitsHost linked entries (record h { promises = settle h.promises p how })
  host_settles h p how k f =
      record {
        entries_are = f.entries_are;
        orderly = f.orderly;
        promises = settled linked entries h.promises p how
            (holds_settled h.imports f.entries_are how k) f.promises;
      }

  pub host_awaits : (h : Host) (v : Value Url) (u : Url) → Knows h.imports v → has linked u ≡ true → FitsHost linked entries h
      → FitsHost linked entries (record h { promises = await_on h.promises v u })
  host_awaits h v u k l f = record {
    entries_are = f.entries_are;
    orderly = f.orderly;
    promises = awaited linked entries h.promises v u (known_out linked entries modules h.imports f.entries_are v k) l f.promises;
  }

  -- ---- import()

  import_fits : {h after : Host} {referrer : Url} {specifier : List ℕ} {promise : ℕ} → Imports h referrer specifier promise after
      → FitPromises linked entries h.promises → FitPromises linked entries after.promises
  import_fits (limit f) k = k
  import_fits {h} (unresolved f r q) k = settled linked entries h.promises _ _ tt k
  import_fits (asks u r q n) k = k
  import_fits (answers u e r q n a) k = fit_answered linked entries modules a k

  abbrev pub HasBeginning : Host → Url → List ℕ → ℕ → Type 0
  HasBeginning h u text p = (r : Result (Unit {0}) Limit) ×
      ((after : Host) × (BeginsImport h u text p r after ×
      (FitsHost linked entries after × ((v : Value Url) → Knows h.imports v → Knows after.imports v))))

  pub host_begun : (h : Host) (u : Url) (text : List ℕ) (p : ℕ) → FitsHost linked entries h → HasBeginning h u text p
  host_begun h u text p f =
      let b = has_load.begins h u text p f.orderly in
      let e = (only_grows.imports h b.1 u text p b.2.imports).entries ∙ f.entries_are in
      let orderly = stays_orderly.imports h b.1 u text p f.orderly b.2.imports in
      let fits : FitsHost linked entries b.1
      = record { entries_are = e; orderly = orderly; promises = import_fits b.2.imports f.promises } in
      let knows : (v : Value Url) → Knows h.imports v → Knows b.1.imports v = λ v k.
      known_in linked entries modules b.1.imports e v (known_out linked entries modules h.imports f.entries_are v k) in
      (b.0, (b.1, (b.2, (fits, knows))))
