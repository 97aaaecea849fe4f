-- The loading that loads are beside the records of a realm, under an import map.
use Rattle.std.specs.Prelude.{◌≡◌, ℕ, List, [], ◌∷◌, ◌++◌, map, length, None}
use Rattle.esm_tree.specs.Syntax.{Item}
use Rattle.esm_import_map.specs.ImportMap.{Maps}
use Rattle.esm_realm.specs.Sound.{RecordParts}
use Rattle.esm_base.specs.Urls.{Url}
use Rattle.esm_loads.specs.UrlTable.{no_entries, no_urls}
use Rattle.esm_loads.specs.Loading.{Loading, Asked, ForEntry, Root, ask, no_pending, opening_loading}
use Rattle.esm_loads.specs.LoadsView.{every_form, tree_items, urls_of, entries_in, pending_in, load_state, purpose_of, modules_in, is_unlinked}
use Rattle.esm_loads.specs.declared.loads.Loads.{Loads}

abbrev pub trees_of : Loads → List (List Item)
trees_of l = map tree_items l.trees.items

-- the loading that these loads are beside these records, under this import map
abbrev pub loading_of : Maps → Loads → List RecordParts → Loading
loading_of maps l records = record {
  maps = maps;
  built = every_form;
  asked = urls_of l.urls.slots;
  entries = entries_in (trees_of l) records l.urls.slots;
  pending = pending_in (urls_of l.urls.slots) l.queues.queues;
  loads = map (load_state l.urls.slots) l.loads.items;
  purposes = map purpose_of l.purposes.items;
  unlinked = modules_in l.urls.slots (is_unlinked records);
  bytes = l.urls.bytes;
  import_calls = l.import_calls;
  stopped = None;
}

-- nothing is asked
abbrev pub no_loading : Maps → Loading
no_loading maps = record {
  maps = maps;
  built = every_form;
  asked = [];
  entries = no_entries;
  pending = no_pending;
  loads = [];
  purposes = [];
  unlinked = no_urls;
  bytes = 0;
  import_calls = 0;
  stopped = None;
}

-- a load for an entry, with the promise that its end settles. Its root isn't there
abbrev pub add_entry : Loading → ℕ → Loading
add_entry l promise = record l { loads = l.loads ++ Asked ∷ []; purposes = l.purposes ++ ForEntry promise ∷ [] }

-- HTML, fetch a module script graph: the entry's load is added, and its root is asked for
abbrev pub asks_entry : Loading → Url → ℕ → Loading
asks_entry l u promise = ask (add_entry l promise) u (Root (length l.loads))

-- the entry alone is asked, where nothing was
abbrev pub OpensWithEntry : Type 0
OpensWithEntry = (maps : Maps) (u : Url) (promise : ℕ) → asks_entry (no_loading maps) u promise ≡ opening_loading maps every_form u promise
