-- What a run took, and what the sources were asked.
use Rattle.std.specs.Prelude.{◌≡◌, ◌≢◌, ℕ, List, map, Option, IfSome, drop, Any, All, AllPairs, Contains, flat_map, true}
use Rattle.esm_ports.specs.declared.asked.Asked.{Asked}
use Rattle.esm_base.specs.Urls.{has}
use Rattle.esm_fetch.specs.Answered.{Contents, kind_of, IsToldOutcome}
use Rattle.esm_world.specs.Run.{Shown}
use Rattle.esm_ast.specs.Deliveries.{Delivery}

-- where the source tells what it holds, the delivery is of that
abbrev pub IsTold : Option Contents → Delivery → Type 0
IsTold holds delivery = IfSome holds (λ contents. IsToldOutcome contents delivery.url delivery.outcome)

abbrev pub ask_of : Delivery → Asked
ask_of delivery = record { url = delivery.url; kind = kind_of delivery.outcome }

-- one of these sources was asked for it and answered so
abbrev pub WasDelivered : {S : Type 0} → (S → List Asked) → (S → Option Contents) → List S → Delivery → Type 0
WasDelivered asked_of holds_of sources delivery =
    Any (λ source. Contains (asked_of source) (ask_of delivery) × IsTold (holds_of source) delivery) sources

-- the deliveries are of different URLs, and each was answered so by a source
pub record IsTrueRecord {S : Type 0} (asked_of : S → List Asked) (holds_of : S → Option Contents) (taken : List Delivery)
    (sources : List S) : Type 0 where
  pub delivered : All (WasDelivered asked_of holds_of sources) taken
  pub once : AllPairs (λ a b. a.url ≢ b.url) taken

-- no URL was asked for twice; the sources behind the workers' come back as they were given; and each source that comes back tells what it
-- holds, or tells nothing, just as the one given in its place
pub record IsAskedOnce {S : Type 0} (asked_of : S → List Asked) (holds_of : S → Option Contents) (workers : ℕ)
    (given back : List S) : Type 0 where
  pub once : AllPairs (λ a b. a.url ≢ b.url) (flat_map asked_of back)
  pub idle : drop workers back ≡ drop workers given
  pub kept : map holds_of back ≡ map holds_of given

-- each URL that was asked for is one that the standard run of what was taken asks for
abbrev pub AreStandardAsks : {S : Type 0} → (S → List Asked) → Shown → List S → Type 0
AreStandardAsks asked_of what sources = All (λ ask. has what.asked ask.url ≡ true) (flat_map asked_of sources)
