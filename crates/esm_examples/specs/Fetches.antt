-- A run over files that the caller holds.
use Rattle.std.specs.Prelude.{◌≡◌, ℕ, List, map, Vec, Some, true, false, All, MatchOption}
use Rattle.std.specs.declared.alloc.Global.{Global}
use Rattle.esm_base.specs.Urls.{Url}
use Rattle.esm_base.specs.TextMap.{TextMapView, at}
use Rattle.esm_ast.specs.Outcome.{OutcomeView, Absent, OutcomeOf}
use Rattle.esm_import_map.specs.ImportMap.{Maps}
use Rattle.esm_loads.specs.LoadsView.{every_form}
use Rattle.esm_world.specs.Run.{Shown, StandardRun}
use Rattle.esm_ast.specs.Deliveries.{Delivery}
use Rattle.esm_examples.specs.declared.fetches.Ran.{Ran}

abbrev pub Files : Type 0
Files = TextMapView (Vec ℕ Global)

-- the fetch of a URL comes to what its file is read as, or finds nothing
abbrev pub ComesFrom : Files → Url → OutcomeView → Type 0
ComesFrom files url outcome = MatchOption (at url files) (outcome ≡ Absent) (λ body. OutcomeOf body.items outcome)

-- each of these fetches came to what the files have, and these are their URLs
pub record AreFetches (files : Files) (deliveries : List Delivery) (urls : List Url) : Type 0 where
  pub held : All (λ d. ComesFrom files d.url d.outcome) deliveries
  pub urls_are : urls ≡ map (λ d. d.url) deliveries

-- the standard run over fetches of these files has ended so. Every module text can be run
pub record IsRunOver (maps : Maps) (entry : Url) (files : Files) (ran : Ran) : Type 0 where
  pub deliveries : List Delivery
  pub what : Shown
  pub run : StandardRun maps every_form entry false deliveries what
  pub fetches : AreFetches files deliveries ran.fetched.items
  pub ended : what.ended ≡ true
  pub status : what.status ≡ Some ran.status
  pub log : what.log ≡ ran.log.items
  pub last_line : what.last_line ≡ ran.last_line
