-- Worked examples of loading. A state from which one begins leaves out what nothing in it reads: the items of m, and the bytes.
use Rattle.std.specs.Prelude.{◌≡◌, Bool, true, List, [], ◌∷◌, Option, Some, None, codes}
use Rattle.esm_base.specs.Urls.{Url, url_of}
use Rattle.esm_base.specs.declared.fault.TextFault.TheVariants.{P2}
use Rattle.esm_tree.specs.Syntax.{Item, ImportEffect}
use Rattle.esm_ast.specs.Outcome.{OutcomeView, Script, Broken, Absent}
use Rattle.esm_import_map.specs.ImportMap.{Maps, no_maps}
use Rattle.esm_values.specs.Value.{Undefined, Error}
use Rattle.esm_values.specs.Errors.{Errors, fault, error_text}
use Rattle.esm_values.specs.declared.errors.FaultKind.TheVariants as kinds
use Rattle.esm_promise.specs.Promises.{Pending, Done, job, settled, is_pending}
use Rattle.esm_promise.specs.Promises.Settled.{Fulfilled, Rejected}
use Rattle.esm_promise.specs.Reactions.{Loaded, EntryLoaded}
use Rattle.esm_loads.specs.UrlTable as table
use Rattle.esm_loads.specs.UrlTable.{TableEntry, New, put_at, with_url, no_urls, no_entries, fetch_error}
use Rattle.esm_loads.specs.Loading.{Root, Request, Asked, Open, LoadComplete, Thrown, ForEntry, ForImport, no_pending}
use Rattle.esm_loads.specs.Host.{Host, opening_host}
use Rattle.esm_loads.specs.Arrival.{after_fetch, next, AnswersNext, open_asks}
use Rattle.esm_loads.specs.ImportCall.{Imports}

abbrev pub m_url : Url
m_url = codes "a:/m"

abbrev pub x_url : Url
x_url = codes "a:/x"

abbrev pub t_url : Url
t_url = codes "a:/t"

-- each module text can be run
abbrev pub all_built : List Item → Bool
all_built items = true

abbrev pub module_of : List Item → List Url → Option TableEntry
module_of items targets = Some (table.Module (record { body = items; targets = targets }))

-- a text without items
abbrev pub empty_text : OutcomeView
empty_text = Script (record { bytes = []; items = [] })

-- ---- an entry that isn't there

-- the entry's load ends by a throw, and its promise is rejected with a new error
pub record RefusedRoot : Type 0 where
  pub after : Host
  pub refused : AnswersNext (after_fetch (opening_host no_maps all_built m_url) m_url Absent) after
  pub loads : after.imports.loads ≡ Thrown (New (fetch_error m_url)) ∷ []
  pub promise : settled after.promises 0 ≡ Some (Rejected (Error 0))
  pub text : error_text after.errors 0 ≡ codes "TypeError: cannot fetch a:/m"
  pub jobs : after.promises.jobs ≡ job 0 EntryLoaded ∷ []
  pub none : next after.imports ≡ None

-- ---- m: import "a:/x"; import "a:/t";

abbrev pub importing : OutcomeView
importing = Script (record {
  bytes = codes "import \"a:/x\"; import \"a:/t\";";
  items = ImportEffect (codes "a:/x") ∷ ImportEffect (codes "a:/t") ∷ [];
})

-- both are asked for; x isn't there, and the load ends; t comes late, and nothing more is done
pub record LateAnswer : Type 0 where
  pub begun : Host
  pub begins : AnswersNext (after_fetch (opening_host no_maps all_built m_url) m_url importing) begun
  pub asks : open_asks begun.imports ≡ x_url ∷ t_url ∷ []
  pub ended : Host
  pub ends : AnswersNext (after_fetch begun x_url Absent) ended
  pub rejected : settled ended.promises 0 ≡ Some (Rejected (Error 0))
  pub text : error_text ended.errors 0 ≡ codes "TypeError: cannot fetch a:/x"
  pub after : Host
  pub late : AnswersNext (after_fetch ended t_url empty_text) after
  pub loads : after.imports.loads ≡ ended.imports.loads
  pub promises : after.promises ≡ ended.promises
  pub none : next after.imports ≡ None

-- ---- two loads that wait for one URL

-- m was evaluated, and has called import() of x, which imports t; x is loaded, and the load waits for t. The promise of a
-- second import() is there
abbrev pub one_waits : Host
one_waits = record {
  promises = record { all = Done (Fulfilled Undefined) ∷ Pending [] ∷ Pending (Loaded 1 ∷ []) ∷ Pending [] ∷ []; jobs = [] };
  errors = [];
  imports = record {
    maps = no_maps;
    built = all_built;
    asked = m_url ∷ x_url ∷ t_url ∷ [];
    entries = put_at (put_at no_entries m_url (module_of [] [])) x_url (module_of (ImportEffect (codes "a:/t") ∷ []) (t_url ∷ []));
    pending = put_at no_pending t_url (Request 1 x_url 0 ∷ []);
    loads = LoadComplete m_url ∷ Open x_url (with_url no_urls x_url) ∷ [];
    purposes = ForEntry 0 ∷ ForImport 1 (Some 2) ∷ [];
    unlinked = with_url no_urls m_url;
    bytes = 0;
    import_calls = 1;
    stopped = None;
  };
}

-- an import() of t asks for nothing more. Where t is there, the load of x is answered first and ends; the other load then begins,
-- with a promise of its own, and ends at once
pub record SharedUrl : Type 0 where
  pub both : Host
  pub imports : Imports one_waits m_url (codes "a:/t") 3 both
  pub asked : both.imports.asked ≡ one_waits.imports.asked
  pub pending : both.imports.pending t_url ≡ Request 1 x_url 0 ∷ Root 2 ∷ []
  pub first : Host
  pub answers : AnswersNext (after_fetch both t_url empty_text) first
  pub one_loaded : first.imports.loads ≡ LoadComplete m_url ∷ LoadComplete x_url ∷ Asked ∷ []
  pub one_job : first.promises.jobs ≡ job 2 (Loaded 1) ∷ []
  pub second : Host
  pub answers_then : AnswersNext first second
  pub both_loaded : second.imports.loads ≡ LoadComplete m_url ∷ LoadComplete x_url ∷ LoadComplete t_url ∷ []
  pub jobs : second.promises.jobs ≡ job 2 (Loaded 1) ∷ job 4 (Loaded 2) ∷ []
  pub none : next second.imports ≡ None

-- ---- import() of a URL whose text is broken, and of one that isn't there

-- m was evaluated, and has called import() of x. The promises of three more are there
abbrev pub x_waits : Host
x_waits = record {
  promises = record { all = Done (Fulfilled Undefined) ∷ Pending [] ∷ Pending [] ∷ Pending [] ∷ Pending [] ∷ []; jobs = [] };
  errors = [];
  imports = record {
    maps = no_maps;
    built = all_built;
    asked = m_url ∷ t_url ∷ x_url ∷ [];
    entries = put_at (put_at no_entries m_url (module_of [] [])) t_url (Some table.Failed);
    pending = put_at no_pending x_url (Root 1 ∷ []);
    loads = LoadComplete m_url ∷ Asked ∷ [];
    purposes = ForEntry 0 ∷ ForImport 1 None ∷ [];
    unlinked = with_url no_urls m_url;
    bytes = 0;
    import_calls = 1;
    stopped = None;
  };
}

abbrev pub broken_text : OutcomeView
broken_text = Broken (record { bytes = codes "let"; fault = P2 })

abbrev pub broken_errors : Errors
broken_errors = fault kinds.SyntaxError (codes "a:/x: P2 no module text") ∷ []

-- the first import() of x is rejected with the error of x, and the second at once with the same error value; an import() of t,
-- which isn't there, is rejected with a new error each time
pub record KeptError : Type 0 where
  pub one : Host
  pub answers : AnswersNext (after_fetch x_waits x_url broken_text) one
  pub errors : one.errors ≡ broken_errors
  pub rejected : settled one.promises 1 ≡ Some (Rejected (Error 0))
  pub two : Host
  pub imports : Imports one m_url (codes "a:/x") 2 two
  pub rejected_alike : settled two.promises 2 ≡ Some (Rejected (Error 0))
  pub no_error : two.errors ≡ broken_errors
  pub three : Host
  pub imports_missing : Imports two m_url (codes "a:/t") 3 three
  pub rejected_anew : settled three.promises 3 ≡ Some (Rejected (Error 1))
  pub four : Host
  pub imports_again : Imports three m_url (codes "a:/t") 4 four
  pub rejected_again : settled four.promises 4 ≡ Some (Rejected (Error 2))
  pub none : next four.imports ≡ None

-- ---- import() under an import map

-- the import map that has t at a:/t
abbrev pub mapping : Maps
mapping = record { imports = (codes "t", url_of None (codes "a:/t")) ∷ []; scopes = [] }

-- m was evaluated under this import map. The promise of an import() is there
abbrev pub m_ran : Maps → Host
m_ran maps = record {
  promises = record { all = Done (Fulfilled Undefined) ∷ Pending [] ∷ []; jobs = [] };
  errors = [];
  imports = record {
    maps = maps;
    built = all_built;
    asked = m_url ∷ [];
    entries = put_at no_entries m_url (module_of [] []);
    pending = no_pending;
    loads = LoadComplete m_url ∷ [];
    purposes = ForEntry 0 ∷ [];
    unlinked = with_url no_urls m_url;
    bytes = 0;
    import_calls = 0;
    stopped = None;
  };
}

-- an import() of t asks for a:/t, and without the import map it is rejected at once
pub record MappedImport : Type 0 where
  pub mapped : Host
  pub imports : Imports (m_ran mapping) m_url (codes "t") 1 mapped
  pub asks : open_asks mapped.imports ≡ t_url ∷ []
  pub pends : is_pending mapped.promises 1 ≡ true
  pub bare : Host
  pub refused : Imports (m_ran no_maps) m_url (codes "t") 1 bare
  pub asks_nothing : open_asks bare.imports ≡ []
  pub rejected : settled bare.promises 1 ≡ Some (Rejected (Error 0))
  pub text : error_text bare.errors 0 ≡ codes "TypeError: a:/m: specifier t: S4 bare and not mapped"
  pub counted : bare.imports.import_calls ≡ 1
