-- By what stands at the place.
use Rattle.std.proofs.Common.{ap, sym, ◌∙◌, Some, length}
use Rattle.esm_loads.specs.UrlTable.{thrown_by}
use Rattle.esm_loads.specs.Host.{begin_by}
use Rattle.esm_loads.specs.LoadsView.{urls_of, url_at}
use Rattle.esm_loads.specs.LoadsAsLoading.{loading_of, trees_of}
use Rattle.esm_loads.specs.Hosted.{host_of}
use Rattle.esm_loads.specs.declared.data.TargetState.TheVariants as target_states
use Rattle.std.specs.Prelude.{slice_get}
use Rattle.esm_loads.proofs.Places.{some_is}
use Rattle.esm_loads.proofs.EnterFacts as facts
use Rattle.esm_loads.proofs.AnswerFacts.{none_some}
use Rattle.esm_loads.proofs.stepping.begin_load.Goals as goal

pub returns-in-Fetching-clause-begins : goal.returns-in-Fetching-clause-begins
returns-in-Fetching-clause-begins c named maps R errors e at h j =
    let t = c.args.loads.now in
    let none = facts.told (trees_of t) R t.urls.slots (url_at (urls_of t.urls.slots) c.args.place) (Some c.args.place) target_states.Fetching h (facts.place_own t (length R) c.args.place j c.requires.place) (sym c.in-Fetching.is ∙ c.target_state.ensures) in
    absurd (none_some _ e none at)

pub returns-in-Throws-clause-begins : goal.returns-in-Throws-clause-begins
returns-in-Throws-clause-begins c named maps R errors e at h j =
    let t = c.args.loads.now in
    let u = url_at (urls_of t.urls.slots) c.args.place in
    let hosted = host_of named c.args.promises.now errors (loading_of maps t R) in
    let stood = facts.told (trees_of t) R t.urls.slots u (Some c.args.place) (target_states.Throws c.in-Throws._cause) h (facts.place_own t (length R) c.args.place j c.requires.place) (sym c.in-Throws.is ∙ c.target_state.ensures) in
    let same = some_is (sym stood.1 ∙ at) in
    sym (ap (λ o. begin_by hosted c.args.load o (slice_get hosted.imports.purposes c.args.load)) (ap (thrown_by u) (sym same) ∙ stood.2))

pub returns-in-Ok-clause-begins : goal.returns-in-Ok-clause-begins
returns-in-Ok-clause-begins c named maps R errors e at h j =
    let t = c.args.loads.now in
    let u = url_at (urls_of t.urls.slots) c.args.place in
    let hosted = host_of named c.args.promises.now errors (loading_of maps t R) in
    let stood = facts.told (trees_of t) R t.urls.slots u (Some c.args.place) (target_states.Module c.in-Module._at c.in-Module._id) h (facts.place_own t (length R) c.args.place j c.requires.place) (sym c.in-Module.is ∙ c.target_state.ensures) in
    let same = some_is (sym stood.1 ∙ at) in
    c.in-Ok.ensures.begins named maps R errors ∙ sym (ap (λ o. begin_by hosted c.args.load o (slice_get hosted.imports.purposes c.args.load)) (ap (thrown_by u) (sym same) ∙ stood.2))
