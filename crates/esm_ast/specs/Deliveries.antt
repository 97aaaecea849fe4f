-- Completed fetches, and files as what each URL is answered with.
use Rattle.std.specs.Prelude.{◌≡◌, List, [], ◌∷◌, Option, Some, None}
use Rattle.esm_base.specs.declared.limits.Limit.{Limit}
use Rattle.esm_base.specs.Urls.{Url}
use Rattle.esm_ast.specs.Outcome.{OutcomeView}

-- a completed fetch: a URL, and what its fetch came to
pub record Delivery : Type 0 where
  pub url : Url
  pub outcome : OutcomeView

abbrev pub completed : Url → OutcomeView → Delivery
completed u c = record { url = u; outcome = c }

-- what is asked for still: where a limit has stopped the run, nothing
abbrev pub asks_by : Option Limit → List Url → List Url
asks_by None urls = urls
asks_by (Some limit) urls = []

-- what each URL is answered with
abbrev pub Files : Type 0
Files = Url → Option OutcomeView

-- each completed fetch came to what the files have
abbrev pub AreOfFiles : Files → List Delivery → Type 0
AreOfFiles files [] = Unit {0}
AreOfFiles files (d ∷ ds) = (files d.url ≡ Some d.outcome) × AreOfFiles files ds
