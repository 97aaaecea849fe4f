-- The worked examples of loading.
use Rattle.std.proofs.Common.{◌≡◌, ℕ, List, [], ◌∷◌, Ok, Err, refl, subst, sym}
use Rattle.std.specs.Prelude.{codes}
use Rattle.url.proofs.OnLiterals.{url_on_literals}
use Rattle.esm_base.specs.Urls.{Url}
use Rattle.esm_ast.specs.Entries.{requests_after, add_request, request_of, with_text}
use Rattle.esm_ast.specs.Outcome.{Absent}
use Rattle.esm_tree.specs.Syntax.{ImportEffect}
use Rattle.esm_import_map.specs.ImportMap.{no_maps}
use Rattle.esm_specifier.specs.Resolution.{resolution_of_specifier}
use Rattle.esm_loads.specs.UrlTable as table
use Rattle.esm_loads.specs.UrlTable.{TableEntry, New, Kept, no_urls, with_url, fetch_error, specifier_error}
use Rattle.esm_specifier.specs.declared.fault.SpecFault.TheVariants.{S4}
use Rattle.esm_loads.specs.Loading.{Loading, PendingRequest, Root, Request, OpenLoad, begin, visit, throw, finish, ask, load_of}
use Rattle.esm_loads.specs.Load.Enters.{known, enters}
use Rattle.esm_loads.specs.Load.Asks.{no_more, waits}
use Rattle.esm_loads.specs.Load.Answers.{no_root, no_module, root, request}
use Rattle.esm_loads.specs.Host.{Host, opening_host, begin_load, settle_load, with_loading, reject_new}
use Rattle.esm_loads.specs.Host.Answered.{answered, late}
use Rattle.esm_loads.specs.Arrival.{after_fetch, with_entry, Next, without_next, AnswersNext}
use Rattle.esm_loads.specs.ImportCall.{Imports, add_load, counted, ask_root}
use Rattle.esm_loads.specs.Laws.{with_bytes}
use Rattle.esm_loads.specs.Examples.{m_url, x_url, t_url, all_built, empty_text, importing, broken_text, one_waits, x_waits, RefusedRoot, LateAnswer, SharedUrl, KeptError, mapping, m_ran, MappedImport}

-- what is where a request is answered, and the loading is this
abbrev behind : Host → Next → Loading → Host
behind h n l = settle_load (with_loading (begin_load (without_next h n) n.pending_request n.url n.entry) l) (load_of n.pending_request)

abbrev next_of : Url → PendingRequest → TableEntry → List PendingRequest → Next
next_of u a e others = record { url = u; pending_request = a; entry = e; others = others }

-- ---- an entry that isn't there

abbrev absent : Host
absent = after_fetch (opening_host no_maps all_built m_url) m_url Absent

abbrev refusal : Next
refusal = next_of m_url (Root 0) table.Failed []

abbrev refused_is : Host
refused_is = behind absent refusal (throw (without_next absent refusal).imports 0 (New (fetch_error m_url)))

pub refused_root : RefusedRoot
refused_root = record {
  after = refused_is;
  refused = record { who = refusal; is_next = refl; answered = answered (no_root (New (fetch_error m_url)) refl) };
  loads = refl;
  promise = refl;
  text = refl;
  jobs = refl;
  none = refl;
}

-- ---- an answer that comes late

abbrev m_entry : TableEntry
m_entry = table.Module (record { body = ImportEffect (codes "a:/x") ∷ ImportEffect (codes "a:/t") ∷ []; targets = x_url ∷ t_url ∷ [] })

abbrev t_entry : TableEntry
t_entry = table.Module (record { body = []; targets = [] })

-- where an outcome has made an entry
abbrev stored : Host → Url → TableEntry → ℕ → Host
stored h u e bytes = with_loading h (with_entry (with_bytes h bytes).imports u e)

abbrev m_there : Host
m_there = stored (opening_host no_maps all_built m_url) m_url m_entry 29

m_read : after_fetch (opening_host no_maps all_built m_url) m_url importing ≡ m_there
unfolding url_on_literals requests_after add_request request_of with_text
m_read = refl

abbrev of_root : Next
of_root = next_of m_url (Root 0) m_entry []

abbrev unvisited : OpenLoad
unvisited = (m_url, no_urls)

abbrev m_visited : OpenLoad
m_visited = (m_url, with_url no_urls m_url)

abbrev entered : Loading
entered = visit (begin (without_next m_there of_root).imports 0 m_url) 0 unvisited m_url

abbrev asked_both : Loading
asked_both = ask (ask entered x_url (Request 0 m_url 0)) t_url (Request 0 m_url 1)

abbrev begun_is : Host
begun_is = behind m_there of_root (finish asked_both 0)

begins_is : AnswersNext m_there begun_is
begins_is = record { who = of_root; is_next = refl; answered = answered (root refl (enters unvisited refl refl (waits m_visited refl refl (waits m_visited refl refl no_more)))) }

abbrev x_absent : Host
x_absent = after_fetch begun_is x_url Absent

abbrev of_x : Next
of_x = next_of x_url (Request 0 m_url 0) table.Failed []

abbrev ended_is : Host
ended_is = behind x_absent of_x (throw (without_next x_absent of_x).imports 0 (New (fetch_error x_url)))

ends_is : AnswersNext x_absent ended_is
ends_is = record { who = of_x; is_next = refl; answered = answered (no_module m_visited (New (fetch_error x_url)) refl refl) }

abbrev t_late : Host
t_late = stored ended_is t_url t_entry 0

t_read : after_fetch ended_is t_url empty_text ≡ t_late
unfolding requests_after add_request request_of with_text
t_read = refl

abbrev of_t : Next
of_t = next_of t_url (Request 0 m_url 1) t_entry []

late_is : AnswersNext t_late (without_next t_late of_t)
late_is = record { who = of_t; is_next = refl; answered = late refl }

pub late_answer : LateAnswer
late_answer = record {
  begun = begun_is;
  begins = subst (λ h. AnswersNext h begun_is) (sym m_read) begins_is;
  asks = refl;
  ended = ended_is;
  ends = ends_is;
  rejected = refl;
  text = refl;
  after = without_next t_late of_t;
  late = subst (λ h. AnswersNext h (without_next t_late of_t)) (sym t_read) late_is;
  loads = refl;
  promises = refl;
  none = refl;
}

-- ---- two loads that wait for one URL

t_resolves : resolution_of_specifier no_maps m_url (codes "a:/t") ≡ Ok t_url
unfolding url_on_literals
t_resolves = refl

abbrev both_is : Host
both_is = ask_root (add_load (counted one_waits) 3) 2 t_url

abbrev t_there : Host
t_there = stored both_is t_url t_entry 0

t_shared : after_fetch both_is t_url empty_text ≡ t_there
unfolding requests_after add_request request_of with_text
t_shared = refl

abbrev of_load_1 : Next
of_load_1 = next_of t_url (Request 1 x_url 0) t_entry (Root 2 ∷ [])

abbrev x_visited : OpenLoad
x_visited = (x_url, with_url no_urls x_url)

abbrev first_is : Host
first_is = behind t_there of_load_1 (finish (visit (without_next t_there of_load_1).imports 1 x_visited t_url) 1)

answers_first : AnswersNext t_there first_is
answers_first = record { who = of_load_1; is_next = refl; answered = answered (request x_visited refl refl (enters x_visited refl refl no_more)) }

abbrev of_load_2 : Next
of_load_2 = next_of t_url (Root 2) t_entry []

abbrev second_begun : Loading
second_begun = begin (begin_load (without_next first_is of_load_2) (Root 2) t_url t_entry).imports 2 t_url

abbrev second_is : Host
second_is = behind first_is of_load_2 (finish second_begun 2)

answers_second : AnswersNext first_is second_is
answers_second = record { who = of_load_2; is_next = refl; answered = answered (root refl (known (t_url, no_urls) refl refl)) }

pub shared_url : SharedUrl
shared_url = record {
  both = both_is;
  imports = Imports.asks t_url refl t_resolves refl;
  asked = refl;
  pending = refl;
  first = first_is;
  answers = subst (λ h. AnswersNext h first_is) (sym t_shared) answers_first;
  one_loaded = refl;
  one_job = refl;
  second = second_is;
  answers_then = answers_second;
  both_loaded = refl;
  jobs = refl;
  none = refl;
}

-- ---- import() of a URL whose text is broken, and of one that isn't there

x_resolves : resolution_of_specifier no_maps m_url (codes "a:/x") ≡ Ok x_url
unfolding url_on_literals
x_resolves = refl

abbrev x_broken : Host
x_broken = after_fetch x_waits x_url broken_text

abbrev of_import : Next
of_import = next_of x_url (Root 1) (table.Broken 0) []

abbrev one_is : Host
one_is = behind x_broken of_import (throw (without_next x_broken of_import).imports 1 (Kept 0))

-- an import() of this URL with this promise is refused by a throw
abbrev refuses : Host → ℕ → ℕ → Url → TableEntry → table.Throw → Host
refuses h promise s u e thrown =
    let k = begin_load (add_load (counted h) promise) (Root s) u e in settle_load (with_loading k (throw k.imports s thrown)) s

abbrev two_is : Host
two_is = refuses one_is 2 2 x_url (table.Broken 0) (Kept 0)

abbrev three_is : Host
three_is = refuses two_is 3 3 t_url table.Failed (New (fetch_error t_url))

abbrev four_is : Host
four_is = refuses three_is 4 4 t_url table.Failed (New (fetch_error t_url))

pub kept_error : KeptError
kept_error = record {
  one = one_is;
  answers = record { who = of_import; is_next = refl; answered = answered (no_root (Kept 0) refl) };
  errors = refl;
  rejected = refl;
  two = two_is;
  imports = Imports.answers x_url (table.Broken 0) refl x_resolves refl (answered (no_root (Kept 0) refl));
  rejected_alike = refl;
  no_error = refl;
  three = three_is;
  imports_missing = Imports.answers t_url table.Failed refl t_resolves refl (answered (no_root (New (fetch_error t_url)) refl));
  rejected_anew = refl;
  four = four_is;
  imports_again = Imports.answers t_url table.Failed refl t_resolves refl (answered (no_root (New (fetch_error t_url)) refl));
  rejected_again = refl;
  none = refl;
}

-- ---- import() under an import map

t_mapped : resolution_of_specifier mapping m_url (codes "t") ≡ Ok t_url
unfolding url_on_literals
t_mapped = refl

t_bare : resolution_of_specifier no_maps m_url (codes "t") ≡ Err S4
unfolding url_on_literals
t_bare = refl

abbrev mapped_is : Host
mapped_is = ask_root (add_load (counted (m_ran mapping)) 1) 1 t_url

abbrev bare_is : Host
bare_is = reject_new (counted (m_ran no_maps)) 1 (specifier_error m_url (codes "t") S4)

pub mapped_import : MappedImport
mapped_import = record {
  mapped = mapped_is;
  imports = Imports.asks t_url refl t_mapped refl;
  asks = refl;
  pends = refl;
  bare = bare_is;
  refused = Imports.unresolved S4 refl t_bare;
  asks_nothing = refl;
  rejected = refl;
  text = refl;
  counted = refl;
}
