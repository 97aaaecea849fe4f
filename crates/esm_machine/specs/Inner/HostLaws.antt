-- What calls for bodies leave, as evaluation relies on it: modules, values, and which bodies have begun; and what evaluation leaves of
-- what bodies need.
use Rattle.std.proofs.Common.{◌≡◌, ◌⊎◌, inl, inr, ℕ, suc, Bool, true, false, List, [], ◌∷◌, ◌++◌, nat_eq, eqb-true, eq-eqb, refl, ap, subst, sym, ◌∙◌}
use Rattle.std.specs.Prelude.{Result, Ok}
use Rattle.std.specs.List.{list_any}
use Rattle.std.proofs.lemmas.List.Folds.{list_any-append}
use Rattle.esm_base.specs.declared.limits.Limit.{Limit}
use Rattle.esm_base.specs.Urls.{has}
use Rattle.esm_realm.proofs.Urls.{or_cases, or_left, or_true}
use Rattle.esm_ast.specs.Entries.{entries_of}
use Rattle.esm_values.specs.Value.{Value, Undefined, Truth, Text, Func, Error, Namespace, Promise}
use Rattle.esm_values.specs.Code.{CodeValue}
use Rattle.esm_values.specs.Numbering.{numbering}
use Rattle.esm_promise.specs.Promises.{Fulfilled, Rejected, make}
use Rattle.esm_promise.specs.Reactions.{BodyEnd}
use Rattle.esm_promise.specs.Outer.{Outer}
use Rattle.esm_promise.proofs.Renamed.{follows_names}
use Rattle.esm_env.specs.Declarations.{function_at}
use Rattle.esm_env.specs.Modules.{Modules, entries}
use Rattle.esm_loads.specs.UrlTable.{body_in, targets_in}
use Rattle.esm_loads.proofs.Orderly.{only_grows}
use Rattle.esm_link.specs.Link.{targets, targets_from}
use Rattle.esm_eval.specs.Nodes.{Call, CallAnswer, Start, Run, module_of}
use Rattle.esm_eval.specs.Host.{BeginsItsOwn, LeavesModules, Outside, StaysFit}
use Rattle.esm_rewriting.specs.Fits.{IsKnown}
use Rattle.esm_rewriting.specs.Keeps.{started}
use Rattle.esm_rewriting.specs.State.{Engine, has_begun}
use Rattle.esm_rewriting.proofs.BodyKeeps.{Imported, bodies_begin, starts_body_begins, starts_body_keeps, runs_body_begins, runs_body_keeps}
use Rattle.esm_loads.specs.LoadsView.{url_at}
use Rattle.esm_world.specs.Fits.{FitsHost}
use Rattle.esm_world.proofs.FitLists.{made}
use Rattle.esm_machine.specs.Seen.{Seen, names, modules, linked, host, Fits, BeginsById}
use Rattle.esm_machine.specs.Inner.Lawful.{imports_are_lawful}
use Rattle.esm_machine.specs.Inner.Numbers.{number}
use Rattle.esm_machine.specs.Inner.Parts.{CallsBodies, FitsBodies, KnowsBy, awaits_by, begun_by, linked_by, targets_by}
use Rattle.esm_machine.specs.Machine.{engine_by, seen_by}
use Rattle.esm_machine.specs.declared.host.BodyHost.{BodyHost}

-- ---- modules that stay

-- the same modules have records, the same are linked, and under each URL stands the same
pub record SameModules (s t : Seen) : Type 0 where
  pub urls : t.urls ≡ s.urls
  pub linked_are : t.linked ≡ s.linked
  pub table : t.loading.entries ≡ s.loading.entries

pub imports_leave : Imported BeginsById SameModules
imports_leave = record {
  same = λ i. record { urls = refl; linked_are = refl; table = refl };
  on = λ p q. record { urls = q.urls ∙ p.urls; linked_are = q.linked_are ∙ p.linked_are; table = q.table ∙ p.table };
  call = λ {o} {x} {m} {text} {p} {r} b. record {
    urls = b.urls;
    linked_are = b.linked;
    table = (only_grows.imports (host o) (host x) ((names o.imports).name m) text p b.begins.imports).entries;
  };
}

from_same : (g h : Modules ℕ) (m : ℕ) → ((request : ℕ) → h.target m request ≡ g.target m request) → (i : ℕ) (rs : List (List ℕ))
    → targets_from h m i rs ≡ targets_from g m i rs
from_same g h m same i [] = refl
from_same g h m same i (r ∷ rs) = λ j. same i j ∷ from_same g h m same (suc i) rs j

module _ (s t : Seen) (k : SameModules s t) where
  pub linked_same : (m : ℕ) → linked t m ≡ linked s m
  linked_same m = λ i. has (k.linked_are i) ((numbering (k.urls i)).name m)

  tree_same : (m : ℕ) → (modules t).tree m ≡ (modules s).tree m
  tree_same m = λ i. body_in (k.table i ((numbering (k.urls i)).name m))

  target_same : (m request : ℕ) → (modules t).target m request ≡ (modules s).target m request
  target_same m request = λ i. number (k.urls i) (url_at (targets_in (k.table i ((numbering (k.urls i)).name m))) request)

  pub awaits_same : (m : ℕ) → (entries (modules t) m).awaits ≡ (entries (modules s) m).awaits
  awaits_same m = ap (λ items. (entries_of items).awaits) (tree_same m)

  pub targets_same : (m : ℕ) → targets (modules t) m ≡ targets (modules s) m
  targets_same m = ap (λ items. targets_from (modules t) m 0 (entries_of items).requests) (tree_same m)
      ∙ from_same (modules s) (modules t) m (target_same m) 0 (entries (modules s) m).requests

  pub known_same : (v : Value ℕ) → IsKnown (modules s) (linked s) v → IsKnown (modules t) (linked t) v
  known_same Undefined q = tt
  known_same (Truth b) q = tt
  known_same (Text text) q = tt
  known_same (Func m index) q = (linked_same m ∙ q.0, (q.1.0, ap (λ items. function_at items index) (tree_same m) ∙ q.1.1))
  known_same (Error id) q = tt
  known_same (Namespace m) q = linked_same m ∙ q
  known_same (Promise id) q = tt

-- ---- bodies that have begun

pub begun_is : (e : Engine ℕ) (x : ℕ) → has_begun nat_eq e x ≡ list_any (nat_eq x) (started e.events)
begun_is e x = (bodies_begin nat_eq modules BeginsById).begun e x

abbrev any_of : ℕ → List ℕ → Bool
any_of x xs = list_any (nat_eq x) xs

module _ (e after : Engine ℕ) (m : ℕ) where
  abbrev Starts : Type 0
  Starts = (started after.events ≡ started e.events) ⊎ (started after.events ≡ started e.events ++ m ∷ [])

  on_last : (x : ℕ) → started after.events ≡ started e.events ++ m ∷ [] → has_begun nat_eq after x ≡ any_of x (started e.events ++ m ∷ [])
  on_last x h = begun_is after x ∙ ap (λ xs. any_of x xs) h

  last_begins : started after.events ≡ started e.events ++ m ∷ [] → has_begun nat_eq after m ≡ true
  last_begins h = on_last m h ∙ list_any-append (nat_eq m) (started e.events) (m ∷ [])
      ∙ or_true (any_of m (started e.events)) (any_of m (m ∷ [])) (or_left (nat_eq m m) false (eq-eqb m m refl))

  still_begun : (x : ℕ) → Starts → has_begun nat_eq e x ≡ true → has_begun nat_eq after x ≡ true
  still_begun x (inl h) b = begun_is after x ∙ ap (λ xs. any_of x xs) h ∙ sym (begun_is e x) ∙ b
  still_begun x (inr h) b = on_last x h ∙ list_any-append (nat_eq x) (started e.events) (m ∷ [])
      ∙ or_left (any_of x (started e.events)) (any_of x (m ∷ [])) (sym (begun_is e x) ∙ b)

  of_cases : (x : ℕ) → (any_of x (started e.events) ≡ true) ⊎ (any_of x (m ∷ []) ≡ true) → (has_begun nat_eq e x ≡ true) ⊎ (x ≡ m)
  of_cases x (inl h) = inl (begun_is e x ∙ h)
  of_cases x (inr h) = inr (of_own (or_cases (nat_eq x m) false h))
    where
      of_own : (nat_eq x m ≡ true) ⊎ (false ≡ true) → x ≡ m
      of_own (inl h) = eqb-true x m h
      of_own (inr h) = absurd cc

  one_begins : (x : ℕ) → Starts → has_begun nat_eq after x ≡ true → (has_begun nat_eq e x ≡ true) ⊎ (x ≡ m)
  one_begins x (inl h) b = inl (begun_is e x ∙ sym (ap (λ xs. any_of x xs) h) ∙ sym (begun_is after x) ∙ b)
  one_begins x (inr h) b = of_cases x (or_cases (any_of x (started e.events)) (any_of x (m ∷ []))
      (sym (list_any-append (nat_eq x) (started e.events) (m ∷ [])) ∙ sym (on_last x h) ∙ b))

-- ---- calls

pub calls_leave : (o v : Outside BodyHost) (c : Call ℕ) (r : Result (CallAnswer CodeValue c) Limit) → CallsBodies o c r v
    → SameModules (seen_by o.bodies) (seen_by v.bodies)
calls_leave o v (Start m done) r p = (starts_body_keeps nat_eq modules BeginsById SameModules imports_leave p).imports
calls_leave o v (Run m) r p = (runs_body_keeps nat_eq modules BeginsById SameModules imports_leave p).imports

calls_start : (o v : Outside BodyHost) (c : Call ℕ) (r : Result (CallAnswer CodeValue c) Limit) → CallsBodies o c r v
    → Starts (engine_by o.bodies) (engine_by v.bodies) (module_of c)
calls_start o v (Start m done) r p = (starts_body_keeps nat_eq modules BeginsById SameModules imports_leave p).starts
calls_start o v (Run m) r p = (runs_body_keeps nat_eq modules BeginsById SameModules imports_leave p).starts

ok_unit : (u : Unit {0}) → ◌≡◌ {A = Result (Unit {0}) Limit} (Ok u) (Ok tt)
ok_unit tt = refl

calls_begin : (o v : Outside BodyHost) (c : Call ℕ) (r : CallAnswer CodeValue c) → CallsBodies o c (Ok r) v
    → started (engine_by v.bodies).events ≡ started (engine_by o.bodies).events ++ module_of c ∷ []
calls_begin o v (Start m done) r p = starts_body_begins nat_eq modules BeginsById SameModules imports_leave p (ok_unit r)
calls_begin o v (Run m) r p = runs_body_begins nat_eq modules BeginsById SameModules imports_leave p r refl

pub begins_its_own : BeginsItsOwn CallsBodies begun_by
begins_its_own = record {
  stays = λ o v c r p x b. still_begun (engine_by o.bodies) (engine_by v.bodies) (module_of c) x (calls_start o v c r p) b;
  starts = λ o v c r p. last_begins (engine_by o.bodies) (engine_by v.bodies) (module_of c) (calls_begin o v c r p);
  one = λ o v c r p x b. one_begins (engine_by o.bodies) (engine_by v.bodies) (module_of c) x (calls_start o v c r p) b;
}

pub leaves_modules : LeavesModules CallsBodies linked_by targets_by awaits_by KnowsBy
leaves_modules = record {
  links = λ o v c r p x. linked_same (seen_by o.bodies) (seen_by v.bodies) (calls_leave o v c r p) x;
  leads = λ o v c r p x l. targets_same (seen_by o.bodies) (seen_by v.bodies) (calls_leave o v c r p) x;
  waits = λ o v c r p x. awaits_same (seen_by o.bodies) (seen_by v.bodies) (calls_leave o v c r p) x;
  still = λ o v c r p u k. known_same (seen_by o.bodies) (seen_by v.bodies) (calls_leave o v c r p) u k;
}

-- ---- what evaluation does to promises

-- the promise of the end of a body is made
makes_end : (o : Outer ℕ Seen) (m : ℕ) → Fits o → linked o.imports m ≡ true
    → Fits (record o { promises = make o.promises (BodyEnd m ∷ []) })
makes_end o m f l =
    let s : Seen = o.imports in
    let fit : FitsHost s.linked s.loading.entries
    (record (host o) { promises = make (host o).promises (BodyEnd ((names s).name m) ∷ []) }) =
    record {
      entries_are = f.host.entries_are;
      orderly = f.host.orderly;
      promises = made s.linked s.loading.entries (host o).promises (BodyEnd ((names s).name m) ∷ []) (l, tt) f.host.promises;
    } in
    record {
      modules = f.modules;
      host = subst (FitsHost s.linked s.loading.entries)
          (λ i. record (host o) { promises = sym ((follows_names (names s).name).makes o.promises (BodyEnd m ∷ [])) i }) fit;
      ids = f.ids;
    }

abbrev pub outer : Outside BodyHost → Outer ℕ Seen
outer o = record { promises = o.promises; errors = o.bodies.errors; imports = seen_by o.bodies }

pub stays_fit : StaysFit FitsBodies linked_by KnowsBy
stays_fit = record {
  makes = λ o f. record {
    whole = f.whole;
    live = f.live;
    scopes = f.scopes;
    ready = record {
      state = record {
        whole = imports_are_lawful.makes (outer o) f.ready.state.whole;
        cells = f.ready.state.cells;
        standing = f.ready.state.standing;
      };
      made = f.ready.made;
      standing = f.ready.standing;
    };
  };
  makes_end = λ o m f l. record {
    whole = f.whole;
    live = f.live;
    scopes = f.scopes;
    ready = record {
      state = record {
        whole = makes_end (outer o) m f.ready.state.whole l;
        cells = f.ready.state.cells;
        standing = f.ready.state.standing;
      };
      made = f.ready.made;
      standing = f.ready.standing;
    };
  };
  fulfills = λ o p f. record {
    whole = f.whole;
    live = f.live;
    scopes = f.scopes;
    ready = record {
      state = record {
        whole = imports_are_lawful.settles (outer o) p (Fulfilled Undefined) tt f.ready.state.whole;
        cells = f.ready.state.cells;
        standing = f.ready.state.standing;
      };
      made = f.ready.made;
      standing = f.ready.standing;
    };
  };
  rejects = λ o p v f k. record {
    whole = f.whole;
    live = f.live;
    scopes = f.scopes;
    ready = record {
      state = record {
        whole = imports_are_lawful.settles (outer o) p (Rejected v) k f.ready.state.whole;
        cells = f.ready.state.cells;
        standing = f.ready.state.standing;
      };
      made = f.ready.made;
      standing = f.ready.standing;
    };
  };
}
