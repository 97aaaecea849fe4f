use Rattle.std.proofs.Common.{◌≡◌, true, bytes_eq, rules}
use Rattle.std.proofs.lemmas.List.{take_min}
use Rattle.esm_examples.proofs.pages.OpenTextSource.fetch.Goals as goal

pub returns-clause-told : goal.returns-clause-told
returns-clause-told c =
    let same : bytes_eq c.args.url.now c.args.self.now.url ≡ true = search rules in
    rw same (rw (c.in_ok-body.ensures.items, c.min-count.ensures, c.len.ensures, ← c.deref.ensures.len, take_min, c.deref.ensures.value))
