-- What is recorded of an answer that is handed on.
use Rattle.std.proofs.Common.{◌≡◌, ◌≢◌, ⊎_elim, ◌∙◌, refl, sym, ap, subst, ℕ, ◌+◌, ◌<◌, List, [], ◌∷◌, Result, Ok, Err, IsErrOf, arith}
use Rattle.esm_ports.specs.declared.asked.Asked.{Asked}
use Rattle.esm_ports.specs.declared.asked.AskKind.TheVariants.{Failed}
use Rattle.esm_ports.specs.declared.source.FetchEnd.{FetchEnd}
use Rattle.esm_ports.specs.declared.source.FetchEnd.TheVariants as end
use Rattle.esm_ports.specs.Asks.{failed_count}
use Rattle.esm_ports.specs.Source.{HandsOn, asks_of, asked_after}
use Rattle.esm_ports.proofs.AskLemmas.{failed_count-append}

-- what holds of the answer and where memory ran out holds of what is handed on
pub handed : {B : Type 0} (P : Result B FetchEnd → Type 0) (answer result : Result B FetchEnd) → HandsOn answer result → P answer → P (Err end.Memory) → P result
handed P answer result hands of_answer of_memory = ⊎_elim (λ same. subst P (sym same) of_answer) (λ out. subst P (sym out) of_memory) hands

-- a failure is one more
pub failed-more : {B : Type 0} (old new : List Asked) (url : List ℕ) (result : Result B FetchEnd) → new ≡ asked_after old url result → IsErrOf result end.Failed → failed_count old < failed_count new
failed-more old new url result is failed =
    let count : failed_count new ≡ failed_count old + 1 =
    ap failed_count (is ∙ ap (asked_after old url) failed)
    ∙ failed_count-append old (record { url = url; kind = Failed } ∷ []) in
    omega (arith, count)

-- where the answer is no failure, what is handed on is none, and none is counted
pub never-failed : {B : Type 0} (answer result : Result B FetchEnd) → HandsOn answer result → answer ≢ Err end.Failed → result ≢ Err end.Failed
never-failed answer result hands sure = handed (λ r. r ≢ Err end.Failed) answer result hands sure (λ e. cc (e))

none_failed : {B : Type 0} (url : List ℕ) (answer : Result B FetchEnd) → answer ≢ Err end.Failed → failed_count (asks_of url answer) ≡ 0
none_failed url (Ok body) sure = refl
none_failed url (Err end.Absent) sure = refl
none_failed url (Err end.Failed) sure = absurd (sure refl)
none_failed url (Err end.Memory) sure = refl

pub stays-sure : {B : Type 0} (old new : List Asked) (url : List ℕ) (answer result : Result B FetchEnd) → new ≡ asked_after old url result → HandsOn answer result → answer ≢ Err end.Failed
    → failed_count old ≡ 0 → failed_count new ≡ 0
stays-sure old new url answer result is hands sure none =
    let more : failed_count new ≡ failed_count old + failed_count (asks_of url result) = ap failed_count is ∙ failed_count-append old (asks_of url result) in
    let zero_more = none_failed url result (never-failed answer result hands sure) in
    omega (arith, more, zero_more, none)
