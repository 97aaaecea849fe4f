-- What lies outside of bodies, as the code has it: the modules that are there, and what begins an import().
use Rattle.std.specs.Prelude.{◌≡◌, ◌<◌, ℕ, Bool, true, List, [], length, Result, Ok, Err}
use Rattle.esm_base.specs.declared.limits.Limit.{Limit}
use Rattle.esm_resolve.specs.Graph.{Graph}
use Rattle.esm_values.specs.Value.{Value}
use Rattle.esm_values.specs.Errors.{Errors}
use Rattle.esm_expr_eval.specs.Ready.{Holds}
use Rattle.esm_promise.specs.Code.{Numbered}
use Rattle.esm_promise.specs.Promises.{Settled, make, settle, is_pending}
use Rattle.esm_promise.specs.Outer.{Outer}
use Rattle.esm_env.specs.Modules.{Modules, entries}
use Rattle.esm_env.specs.Faithful.{AreScopesOf}
use Rattle.esm_env.specs.Scopes.{Scopes}
use Rattle.esm_rewriting.specs.State.{Importing}
use Rattle.esm_rewriting.specs.Bodies.{await_on, given_by}
use Rattle.esm_rewriting.specs.Fits.{AreLinked, IsKnown}
use Rattle.esm_rewriting.specs.declared.stop.Stop.{Stop}
use Rattle.esm_rewriting.specs.declared.stop.Stop.TheVariants as stops

abbrev pub outer_with : {I : Type 0} → Numbered → Errors → I → Outer ℕ I
outer_with promises errors imports = record { promises = promises; errors = errors; imports = imports }

-- the code has what is linked: its entries, the targets of its requests and its URL, by ids. Of other ids nothing is said, and as a
-- graph the modules may have other numbers
pub record HasLinked (g : Modules ℕ) (linked : ℕ → Bool) (h : Graph) (urls : ℕ → List ℕ) : Type 0 where
  pub below : (m : ℕ) → linked m ≡ true → m < h.size
  pub same : (m : ℕ) → linked m ≡ true → h.entries m ≡ entries g m
  pub target : (m request : ℕ) → linked m ≡ true → request < length (entries g m).requests → h.target m request ≡ g.target m request
  pub url : (m : ℕ) → linked m ≡ true → urls m ≡ g.url m

module _ {I : Type 0} (modules : I → Modules ℕ) (linked : I → ℕ → Bool) (fits : Outer ℕ I → Type 0) (begins : Importing ℕ I) where
  -- a module that is linked begins an import() whose promise was made
  abbrev pub MayBegin : Outer ℕ I → ℕ → ℕ → Type 0
  MayBegin o m p = fits o × (linked o.imports m ≡ true) × (is_pending o.promises p ≡ true)

  -- what was linked and known is so still, scopes are those of the modules still, and what was linked keeps its URL
  pub record KeepsModules (o after : Outer ℕ I) : Type 0 where
    pub whole : fits after
    pub keeps : (v : Value ℕ) → IsKnown (modules o.imports) (linked o.imports) v → IsKnown (modules after.imports) (linked after.imports) v
    pub scopes : (e : Scopes) → AreScopesOf (modules o.imports) (linked o.imports) e
        → AreScopesOf (modules after.imports) (linked after.imports) e
    pub urls : (m : ℕ) → linked o.imports m ≡ true → (modules after.imports).url m ≡ (modules o.imports).url m

  -- what bodies rely on: what fits stays so by all that bodies do to promises and errors, and import() has one outcome
  pub record ImportsAreLawful : Type 0 where
    pub links : (o : Outer ℕ I) → fits o → AreLinked (modules o.imports) (linked o.imports)
    pub errors : (o : Outer ℕ I) (es : Errors) → fits o → fits (record o { errors = es })
    pub makes : (o : Outer ℕ I) → fits o → fits (record o { promises = make o.promises [] })
    pub settles : (o : Outer ℕ I) (p : ℕ) (how : Settled (Value ℕ))
        → Holds (IsKnown (modules o.imports) (linked o.imports)) ⊥ (given_by how)
        → fits o → fits (record o { promises = settle o.promises p how })
    pub awaits : (o : Outer ℕ I) (v : Value ℕ) (m : ℕ) → IsKnown (modules o.imports) (linked o.imports) v → linked o.imports m ≡ true
        → fits o → fits (record o { promises = await_on o.promises v m })
    pub some : (o : Outer ℕ I) (m : ℕ) (text : List ℕ) (p : ℕ) → fits o
        → (r : Result (Unit {0}) Limit) × ((after : Outer ℕ I) × (begins o m text p r after × KeepsModules o after))
    pub one : (o x y : Outer ℕ I) (m : ℕ) (text : List ℕ) (p : ℕ) (r s : Result (Unit {0}) Limit) → begins o m text p r x
        → begins o m text p s y → (s ≡ r) × (y ≡ x)

module _ {I : Type 0} (begins : Importing ℕ I) where
  -- it is a beginning, but where memory ran out
  abbrev pub Begun : Outer ℕ I → ℕ → List ℕ → ℕ → Result (Unit {0}) Stop → Outer ℕ I → Type 0
  Begun o m text p (Ok u) after = begins o m text p (Ok tt) after
  Begun o m text p (Err (stops.Limit limit)) after = begins o m text p (Err limit) after
  Begun o m text p (Err stops.Memory) after = Unit {0}
