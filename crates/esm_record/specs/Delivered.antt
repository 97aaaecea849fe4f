-- What contracts see of deliveries in the code.
use Rattle.std.specs.Prelude.{ℕ, List, map}
use Rattle.std.specs.Borrow.{Bor}
use Rattle.esm_ast.specs.Deliveries.{Delivery, completed}
use Rattle.esm_ast.specs.Outcome.{outcome_view}
use Rattle.esm_base.specs.Urls.{Url}
use Rattle.esm_record.specs.declared.delivery.Delivery as code

-- the delivery as the standard run takes it
abbrev pub delivery_of : code.Delivery → Delivery
delivery_of taken = completed taken.url (outcome_view taken.outcome)

abbrev pub deliveries_of : List code.Delivery → List Delivery
deliveries_of taken = map delivery_of taken

-- an import map's URL and bytes, as a call is given them
abbrev pub given_map : Bor (List ℕ) × Bor (List ℕ) → Url × List ℕ
given_map map = (map.0.now, map.1.now)
