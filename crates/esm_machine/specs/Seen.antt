-- What lies outside of bodies: loading, which names modules by URL, as bodies see it, to which a module is its id. own: the id of a
-- module is the place of its record in the realm's list of records, and only the end of a fetch adds one.
use Rattle.std.specs.Prelude.{◌≡◌, ℕ, Bool, true, List, Result}
use Rattle.esm_base.specs.declared.limits.Limit.{Limit}
use Rattle.esm_base.specs.Lists.{EachOnce}
use Rattle.esm_base.specs.Urls.{Text, Url, has, same_url}
use Rattle.esm_values.specs.Naming.{Naming}
use Rattle.esm_values.specs.Numbering.{numbering, is_total}
use Rattle.esm_promise.specs.Renaming.{renamed}
use Rattle.esm_promise.specs.Outer.{Outer}
use Rattle.esm_env.specs.Modules.{Modules}
use Rattle.esm_env.specs.Naming.{pulled}
use Rattle.esm_loads.specs.Loading.{Loading}
use Rattle.esm_loads.specs.Host.{Host}
use Rattle.esm_loads.specs.ImportCall.{BeginsImport}
use Rattle.esm_world.specs.World.{modules_in}
use Rattle.esm_world.specs.Fits.{AreModules, FitsHost}

pub record Seen : Type 0 where
  -- the table of URLs, pending requests and loads
  pub loading : Loading
  -- the URLs of the records of modules, in order of ids
  pub urls : List Url
  -- the modules that are linked
  pub linked : List Url

-- the URLs of the records differ, and what is linked has a record
pub record HaveIds (urls linked : List Url) : Type 0 where
  pub apart : EachOnce same_url urls
  pub have_ids : (u : Url) → has linked u ≡ true → has urls u ≡ true

-- number i names the i-th of the URLs; each URL has a number
abbrev pub names : Seen → Naming ℕ Url
names s = numbering s.urls

-- the modules that loading has brought, by their numbers. ECMA-262, GetImportedModule
abbrev pub modules : Seen → Modules ℕ
modules s = pulled (names s) (is_total s.urls) (modules_in s.loading)

abbrev pub linked : Seen → ℕ → Bool
linked s m = has s.linked ((names s).name m)

-- promises, errors and loading as the world has them
abbrev pub host : Outer ℕ Seen → Host
host o = record { promises = renamed (names o.imports).name o.promises; errors = o.errors; imports = o.imports.loading }

-- it fits, as a world does: what is linked is there and has an id, and values and reactions are of what is linked
pub record Fits (o : Outer ℕ Seen) : Type 0 where
  pub modules : AreModules o.imports.linked o.imports.loading.entries
  pub host : FitsHost o.imports.linked o.imports.loading.entries (host o)
  pub ids : HaveIds o.imports.urls o.imports.linked

-- ECMA-262, EvaluateImportCall, from a module by its number: no module gets a record, and none is linked
pub record BeginsById
    (o : Outer ℕ Seen) (m : ℕ) (specifier : Text) (promise : ℕ) (end : Result (Unit {0}) Limit) (after : Outer ℕ Seen) : Type 0 where
  pub urls : after.imports.urls ≡ o.imports.urls
  pub linked : after.imports.linked ≡ o.imports.linked
  pub begins : BeginsImport (host o) ((names o.imports).name m) specifier promise end (host after)
