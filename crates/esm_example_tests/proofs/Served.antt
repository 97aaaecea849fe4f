-- What a worker has served before its first turn, and between two turns.
use Rattle.std.proofs.Common.{◌≡◌, ◌∙◌, ap, sym, subst, ℕ, List, [], map, Option}
use Rattle.std.specs.Prelude.{All}
use Rattle.std.proofs.lemmas.List.Elements.{All-nil}
use Rattle.esm_ports.specs.declared.asked.Asked.{Asked}
use Rattle.esm_module_map.specs.declared.event.MapEvent.{MapEvent}
use Rattle.esm_module_map.specs.Saying.{SaysNothing}
use Rattle.esm_fetch.specs.declared.posted.Posted.{Posted}
use Rattle.esm_fetch.specs.Answered.{Contents}
use Rattle.esm_fetch.specs.Serving.{weight, url_in, ask_for, IsTrueAnswer, Serves}

module _ {G : Type 0} where
  -- its caller has just enrolled, and its source wasn't asked
  pub serves_new : (holds : Option Contents) (asked : List Asked) (c : ℕ) (h : List (MapEvent Posted G)) → asked ≡ [] → SaysNothing weight c h → Serves holds asked c h
  serves_new holds asked c h none says = record {
    answered = subst (All (IsTrueAnswer holds)) (sym says.1) (All-nil (IsTrueAnswer holds));
    asked_is = none ∙ ap (map ask_for) (sym says.1);
    takes_is = says.0 ∙ ap (map url_in) (sym says.1);
  }

  -- what its source holds and its caller's number are written in another way
  pub served_next : (holds held : Option Contents) (asked : List Asked) (c d : ℕ) (now : List (MapEvent Posted G)) → held ≡ holds → d ≡ c → Serves holds asked c now → Serves held asked d now
  served_next holds held asked c d now same number s = subst (λ h. Serves h asked d now) (sym same) (subst (λ m. Serves holds asked m now) (sym number) s)
