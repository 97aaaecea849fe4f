use Rattle.esm_examples.proofs.DriveLemmas.{has_first}
use Rattle.esm_examples.proofs.fetches.next_ask.Goals as goal

pub returns-in_ok-clone-in-len1-up : goal.returns-in_ok-clone-in-len1-up
returns-in_ok-clone-in-len1-up c = record {
  here = has_first _ _ _ _ c.asks.ensures.open c.in-len1-up.len_at_least c.url-item.is c.in_ok-clone-in-len1-up.ensures;
  standard = λ maps entry trace deliveries what represents run.
      has_first _ _ _ _ (c.asks.ensures.standard maps entry trace deliveries what represents run) c.in-len1-up.len_at_least c.url-item.is c.in_ok-clone-in-len1-up.ensures;
}
