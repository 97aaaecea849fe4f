-- Modules with other numbers: what exports denote, which names a module exports and which keys its namespace has, follow.
use Rattle.std.specs.Prelude.{◌≡◌, ℕ, List, Contains}
use Rattle.esm_ast.specs.declared.entries.IndirectExport.{IndirectExport}
use Rattle.esm_resolve.specs.declared.graph.Resolution.{Resolution}
use Rattle.esm_resolve.specs.declared.graph.Resolution.TheVariants as resolutions
use Rattle.esm_resolve.specs.Graph.{Graph, IsReached}
use Rattle.esm_resolve.specs.Resolution.{module_id, pair_of, IsResolutionOf}
use Rattle.esm_resolve.specs.Names.{AreExportedNamesOf}
use Rattle.esm_resolve.specs.Keys.{AreNamespaceKeysOf}

-- each module that is reached from m by what they export of others has this number in the other graph, with the same entries, and no
-- two have the same
pub record Renumbers (g h : Graph) (number : ℕ → ℕ) (m : ℕ) : Type 0 where
  pub entries : (x : ℕ) → IsReached g m x → h.entries (number x) ≡ g.entries x
  pub by_name : (x : ℕ) (e : IndirectExport) → IsReached g m x → Contains (g.entries x).indirects e
      → h.target (number x) e.request ≡ number (g.target x e.request)
  pub by_star : (x star : ℕ) → IsReached g m x → Contains (g.entries x).stars star
      → h.target (number x) star ≡ number (g.target x star)
  pub apart : (x y : ℕ) → IsReached g m x → IsReached g m y → number x ≡ number y → x ≡ y

abbrev pub renumbered : (ℕ → ℕ) → Resolution → Resolution
renumbered number resolutions.Missing = resolutions.Missing
renumbered number (resolutions.One x b) = resolutions.One (module_id (number x.0)) b
renumbered number resolutions.Ambiguous = resolutions.Ambiguous

pub record FollowsNumbers : Type 0 where
  pub resolution : (g h : Graph) (number : ℕ → ℕ) (m : ℕ) (name : List ℕ) (r : Resolution) → Renumbers g h number m
      → IsResolutionOf g (pair_of m name) r → IsResolutionOf h (pair_of (number m) name) (renumbered number r)
  pub names : (g h : Graph) (number : ℕ → ℕ) (m : ℕ) (names : List (List ℕ)) → Renumbers g h number m
      → AreExportedNamesOf g m names → AreExportedNamesOf h (number m) names
  pub keys : (g h : Graph) (number : ℕ → ℕ) (m : ℕ) (keys : List (List ℕ)) → Renumbers g h number m
      → AreNamespaceKeysOf g m keys → AreNamespaceKeysOf h (number m) keys
