-- A root is linked: what the parts of a machine are then.
use Rattle.std.proofs.Common.{◌≡◌, ◌<◌, ◌++◌, ℕ, true, List, [], ◌∷◌, Option, Some, None, length, ap, subst, sym, ◌∙◌, arith}
use Rattle.std.specs.Prelude.{Result, Ok, Err, IfOk, OnOk, codes, if◌then◌else◌}
use Rattle.std.proofs.lemmas.List.{append_assoc, length-map}
use Rattle.esm_base.specs.declared.end.End.{End}
use Rattle.esm_base.specs.declared.end.End.TheVariants as ends
use Rattle.esm_base.specs.Lists.{EachOnce}
use Rattle.esm_base.specs.Urls.{Text, Url, has, same_url}
use Rattle.esm_realm.specs.Sound.{url_of}
use Rattle.esm_values.specs.Errors.{Errors, fault, make_error}
use Rattle.esm_values.specs.Code.{value_of}
use Rattle.esm_values.specs.declared.errors.FaultKind.TheVariants as kinds
use Rattle.esm_values.specs.declared.value.Value.{Value}
use Rattle.esm_env.specs.Calls.{scopes_of}
use Rattle.esm_env.specs.Scopes.{cells_of}
use Rattle.esm_env.specs.declared.envs.Envs.{Envs}
use Rattle.esm_loads.specs.Loading.{Loading}
use Rattle.esm_link.specs.Faults.{FaultAt, link_error, message}
use Rattle.esm_link.specs.Link.{IsLinking}
use Rattle.esm_link.specs.Naming.{named_fault}
use Rattle.esm_link.specs.Realm.{fault_of}
use Rattle.esm_link.specs.declared.LinkFault.{LinkFault}
use Rattle.esm_link.specs.declared.LinkKind.{LinkKind}
use Rattle.esm_eval.specs.Begins.{HaveBegunOnce}
use Rattle.esm_body.specs.declared.work.Standing.{Standing}
use Rattle.esm_world.specs.World.{World, modules_in}
use Rattle.esm_world.specs.Layers.{LinksTo, with_linked}
use Rattle.esm_world.specs.Jobs.{link_failed, new_error}
use Rattle.esm_world.specs.Sound.{LinkingStaysReady, TakesCalls}
use Rattle.esm_body.specs.Engines.{AreStanding}
use Rattle.esm_machine.specs.Held.{Held}
use Rattle.esm_machine.specs.ModuleStore.{Imported, seen_of, urls_by_id}
use Rattle.esm_machine.specs.Linking.{HasIds, HaveScopes, KeepsScopes, LinksSeen, NamesRecords, SameMembers}
use Rattle.esm_machine.specs.Represents.{IsLive}
use Rattle.esm_machine.specs.Seen.{linked, modules, names}
use Rattle.esm_machine.specs.Steps as steps
use Rattle.esm_machine.specs.Inner.Importing.{lt_true}
use Rattle.esm_machine.specs.Inner.Leads.{LinksRoot, TellsFault}
use Rattle.esm_machine.specs.Inner.Parts.{AreInOrder, AreLive, TakeCalls, ByIds, seen_in, url_in, value_in, parts_with_errors, with_fault}
use Rattle.esm_machine.specs.Machine.{cells_by, held_of}
use Rattle.esm_machine.specs.declared.parts.Parts.{Parts}
use Rattle.esm_machine.proofs.EntryJobs.{loading_is}
use Rattle.esm_machine.proofs.Steps.{steps_are_of_the_world}
use Rattle.esm_machine.proofs.Whole.{linked_have_ids}

pub if_ok : {A E : Type 0} (r : Result A E) (P Q : A → Type 0) → IfOk r P → ((a : A) → P a → Q a) → IfOk r Q
if_ok (Ok a) P Q h f = f a h
if_ok (Err e) P Q h f = tt

-- ---- the text of a link fault

pub missing : (url name target : Text) → url ++ (codes ": no export " ++ (name ++ (codes " in " ++ target))) ≡ url ++ codes ": no export " ++ name ++ codes " in " ++ target
missing url name target = simp append_assoc

pub doubtful : (url name target : Text)
    → url ++ (codes ": export " ++ (name ++ (codes " in " ++ (target ++ codes " is ambiguous")))) ≡ url ++ codes ": export " ++ name ++ codes " in " ++ target ++ codes " is ambiguous"
doubtful url name target = simp append_assoc

pub unbound : (url name : Text) → url ++ (codes ": no binding for export " ++ name) ≡ url ++ codes ": no binding for export " ++ name
unbound url name = simp append_assoc

pub doubly_bound : (url name : Text)
    → url ++ (codes ": binding for export " ++ (name ++ codes " is ambiguous")) ≡ url ++ codes ": binding for export " ++ name ++ codes " is ambiguous"
doubly_bound url name = simp append_assoc

pub line_told : (url name target text : Text) (kind wanted : LinkKind) → kind ≡ wanted → text ≡ message url name target wanted → text ≡ message url name target kind
line_told url name target text kind wanted e t = t ∙ ap (λ k. message url name target k) (sym e)

-- the URL of a module that has a record
pub url_is : (i : Imported) (m : ℕ) → m < length (seen_of i).urls → urls_by_id i m ≡ (names (seen_of i)).name m
url_is i m h =
    let short : m < length i.records = let l = length-map i.records url_of in omega (arith, h, l) in
    ap (λ b. if b then (names (seen_of i)).name m else []) (lt_true m (length i.records) short)

pub fault_told : (p : Parts) (f : LinkFault) (url name target text : Text) → HasIds (seen_in p) (fault_of f)
    → url ≡ urls_by_id p.host.bodies.imports f.«module».0 → name ≡ f.name → target ≡ urls_by_id p.host.bodies.imports f.target.0
    → text ≡ message url name target f.kind → fault kinds.SyntaxError text ≡ link_error (modules (seen_in p)) (fault_of f)
fault_told p f url name target text h u n t e =
    let one : url ≡ url_in p f.«module».0 = u ∙ url_is p.host.bodies.imports f.«module».0 h.module_has in
    let other : target ≡ url_in p f.target.0 = t ∙ url_is p.host.bodies.imports f.target.0 h.target_has in
    ap (λ x. fault kinds.SyntaxError x) e ∙ (λ i. fault kinds.SyntaxError (message (one i) (n i) (other i) f.kind))

-- ---- errors

-- errors are no part of what calls need
pub ready_with_errors : (w : World) (es : Errors) → TakesCalls w → TakesCalls (record w { errors = es })
ready_with_errors w es t = record {
  fit = record {
    modules = t.fit.modules;
    linked_are = t.fit.linked_are;
    state = record {
      whole = record {
        entries_are = t.fit.state.whole.entries_are;
        orderly = t.fit.state.whole.orderly;
        promises = t.fit.state.whole.promises;
      };
      cells = t.fit.state.cells;
      standing = t.fit.state.standing;
    };
    nodes = t.fit.nodes;
    stamps = t.fit.stamps;
    entered = t.fit.entered;
    events = t.fit.events;
    entry = t.fit.entry;
  };
  loading = t.loading;
  unlinked = t.unlinked;
  steps = t.steps;
}

module _ (p : Parts) (es : Errors) (o : AreInOrder p) where
  begun_with_errors : HaveBegunOnce ByIds (parts_with_errors p es).host
  begun_with_errors = record {
    between = record {
      idle = o.between.between.idle;
      unstamped = o.between.between.unstamped;
      undone = o.between.between.undone;
      free = o.between.between.free;
      stamped = o.between.between.stamped;
      joined = o.between.between.joined;
      waiting = o.between.between.waiting;
    };
    unbegun = o.between.unbegun;
    distinct = o.between.distinct;
  }

  pub with_errors_in_order : AreInOrder (parts_with_errors p es)
  with_errors_in_order = record {
    whole = o.whole;
    nodes = o.nodes;
    ids = o.ids;
    scopes = o.scopes;
    standing = o.standing;
    between = begun_with_errors;
  }

-- ---- linking

-- what lies outside of bodies, and the scopes, are these
abbrev pub with_linking : Parts → Imported → Envs → Parts
with_linking p i e = record p { host = record p.host { bodies = record p.host.bodies { imports = i; envs = e } } }

module _ (p : Parts) (i : Imported) (e : Envs) (loading : (seen_of i).loading ≡ (seen_in p).loading) (urls : (seen_of i).urls ≡ (seen_in p).urls)
    (cells : cells_of (scopes_of e) ≡ cells_by p.host.bodies) where
  abbrev pub New : Parts
  New = with_linking p i e

  held_is : held_of New ≡ steps.with_linked (held_of p) (seen_of i).linked
  held_is = λ k. record (held_of p) { seen = record { loading = loading k; urls = urls k; linked = (seen_of i).linked }; cells = cells k }

  -- the world in which these are linked
  live_linked : (w : World) (after : List Url) → AreLive p w → SameMembers after (seen_of i).linked → AreLive New (with_linked w after)
  live_linked w after live same =
      subst (λ (h : Held). IsLive h (with_linked w after)) (sym held_is) (steps_are_of_the_world.links (held_of p) w (seen_of i).linked after live same)

  -- linking the world's modules is linking those that are seen
  links_in : (w : World) (root : Url) (f : Option (FaultAt Url)) (after : List Url) → AreLive p w
      → IsLinking same_url (modules_in (seen_in p).loading) w.linked root f after → LinksTo w root f after
  links_in w root f after live h = subst (λ (l : Loading). IsLinking same_url (modules_in l) w.linked root f after) (sym (loading_is p w live)) h

  -- the root is loaded in the world too
  unlinked_in : (root : Url) (w : World) → AreLive p w → (seen_in p).loading.unlinked root ≡ true → w.loading.unlinked root ≡ true
  unlinked_in root w live h = ap (λ (l : Loading). l.unlinked root) (loading_is p w live) ∙ h

  -- ---- what is in order still

  stand_still : (ss : List Standing) → AreStanding modules (seen_in p) ss → AreStanding modules (seen_of i) ss
  stand_still [] h = tt
  stand_still (s ∷ ss) h = (
    record {
      code = h.0.code;
      purpose = h.0.purpose;
      belongs = record { tree = same_tree s.body.at.0 ∙ h.0.belongs.tree; sets = h.0.belongs.sets };
    },
    stand_still ss h.1,
  )
    where
      same_tree : (m : ℕ) → (modules (seen_of i)).tree m ≡ (modules (seen_in p)).tree m
      same_tree m = λ k. (modules (record (seen_in p) { loading = loading k; urls = urls k })).tree m

  begun_still : HaveBegunOnce ByIds p.host → HaveBegunOnce ByIds New.host
  begun_still b = record {
    between = record {
      idle = b.between.idle;
      unstamped = b.between.unstamped;
      undone = b.between.undone;
      free = b.between.free;
      stamped = b.between.stamped;
      joined = b.between.joined;
      waiting = b.between.waiting;
    };
    unbegun = b.unbegun;
    distinct = b.distinct;
  }

  linked_in_order : AreInOrder p → HaveScopes i (scopes_of e) → AreInOrder New
  linked_in_order o k = record {
    whole = k.whole;
    nodes = o.nodes ∙ ap length (sym urls);
    ids = record { apart = subst (λ (us : List Url). EachOnce same_url us) (sym urls) o.ids.apart; have_ids = linked_have_ids i };
    scopes = k.scopes;
    standing = stand_still p.host.bodies.engine.standing.items o.standing;
    between = begun_still o.between;
  }

  -- ---- no fault

  module _ (root : ℕ) (links : (these : List Url) → SameMembers these (seen_in p).linked → LinksSeen (seen_in p) these root (Ok tt) (seen_of i)) where
    pub links_root : (w : World) → AreLive p w → LinksRoot w (url_in p root) None New
    links_root w live =
        let l = links w.linked live.stands.linked in
        (l.0, links_in w (url_in p root) None l.0 live l.1, live_linked w l.0 live l.2)

    pub root_is_linked : LinkingStaysReady → (w : World) → AreLive p w → linked (seen_of i) root ≡ true
    root_is_linked stays w live =
        let l = links w.linked live.stands.linked in
        let there : has l.0 (url_in p root) ≡ true = stays.linked w (url_in p root) l.0 (links_in w (url_in p root) None l.0 live l.1) in
        subst (λ us. has (seen_of i).linked ((names (record (seen_in p) { urls = us })).name root) ≡ true) (sym urls) (sym (l.2 (url_in p root)) ∙ there)

    pub linked_ready : LinkingStaysReady → (a : TakeCalls p) → (seen_in p).loading.unlinked (url_in p root) ≡ true → HaveScopes i (scopes_of e) → TakeCalls New
    linked_ready stays a u k =
        let l = links a.world.linked a.live.stands.linked in
        let to : LinksTo a.world (url_in p root) None l.0 = links_in a.world (url_in p root) None l.0 a.live l.1 in
        record {
          world = with_linked a.world l.0;
          live = live_linked a.world l.0 a.live l.2;
          ready = stays.links a.world (url_in p root) None l.0 a.ready (unlinked_in (url_in p root) a.world a.live u) to;
          order = linked_in_order a.order k;
        }

  -- ---- a fault

  -- the modules that it names have their records still
  pub names_still : (end : End LinkFault) → NamesRecords (seen_in p) (Err end) → NamesRecords (seen_of i) (Err end)
  names_still (ends.Fault f) h = record {
    module_has = subst (λ (us : List Url). (fault_of f).module_is < length us) (sym urls) h.module_has;
    target_has = subst (λ (us : List Url). (fault_of f).target < length us) (sym urls) h.target_has;
  }
  names_still ends.Memory h = tt

  module _ (root : ℕ) (f : LinkFault)
      (links : (these : List Url) → SameMembers these (seen_in p).linked → LinksSeen (seen_in p) these root (Err (ends.Fault f)) (seen_of i)) where
    -- the fault, by URLs
    abbrev fault_in : FaultAt Url
    fault_in = named_fault (names (seen_in p)) (fault_of f)

    -- its error is made in the world too
    live_failed : (w : World) (after : List Url) → AreLive p w → SameMembers after (seen_of i).linked
        → AreLive (with_fault New (fault_of f)) (link_failed w fault_in after)
    live_failed w after live same =
        let error : link_error (modules (seen_of i)) (fault_of f) ≡ link_error (modules_in w.loading) fault_in =
        λ k. link_error (modules_in ((loading ∙ sym (loading_is p w live)) k)) (named_fault (names (record (seen_in p) { urls = urls k })) (fault_of f)) in
        subst (λ x. AreLive (with_fault New (fault_of f)) (record (with_linked w after) { errors = make_error w.errors x })) error
        (steps_are_of_the_world.errors (held_of New) (with_linked w after) (link_error (modules (seen_of i)) (fault_of f)) (live_linked w after live same))

    module _ (v : Value) (last : Parts) (told : TellsFault New (ends.Fault f) (Some v) last) where
      fails_root : (w : World) → AreLive p w → LinksRoot w (url_in p root) (Some v) last
      fails_root w live =
          let l = links w.linked live.stands.linked in
          let value : value_in last (value_of v) ≡ new_error w =
          ap (λ u. value_in last u) told.0 ∙ sym (steps_are_of_the_world.error (held_of New) (with_linked w l.0) (live_linked w l.0 live l.2)) in (
            fault_in,
            l.0,
            links_in w (url_in p root) (Some fault_in) l.0 live l.1,
            value,
            subst (λ q. AreLive q (link_failed w fault_in l.0)) (sym told.1) (live_failed w l.0 live l.2),
          )

      failed_ready : LinkingStaysReady → (a : TakeCalls p) → (seen_in p).loading.unlinked (url_in p root) ≡ true → HaveScopes i (scopes_of e) → TakeCalls last
      failed_ready stays a u k =
          let l = links a.world.linked a.live.stands.linked in
          let to : LinksTo a.world (url_in p root) (Some fault_in) l.0 = links_in a.world (url_in p root) (Some fault_in) l.0 a.live l.1 in
          let after : World = with_linked a.world l.0 in
          let ready : TakesCalls after = stays.links a.world (url_in p root) (Some fault_in) l.0 a.ready (unlinked_in (url_in p root) a.world a.live u) to in
          let errors : Errors = make_error New.host.bodies.errors (link_error (modules (seen_of i)) (fault_of f)) in
          subst TakeCalls (sym told.1) (record {
            world = link_failed a.world fault_in l.0;
            live = live_failed a.world l.0 a.live l.2;
            ready = ready_with_errors after (link_failed a.world fault_in l.0).errors ready;
            order = with_errors_in_order New errors (linked_in_order a.order k);
          })

  -- over any refusal, and what was told of it
  module _ (root : ℕ) (end : End LinkFault) (last : Parts)
      (links : (these : List Url) → SameMembers these (seen_in p).linked → LinksSeen (seen_in p) these root (Err end) (seen_of i)) where
    abbrev Told : Option Value → Type 0
    Told error = TellsFault New end error last

    refused_by : (end : End LinkFault) (error : Option Value)
        → ((these : List Url) → SameMembers these (seen_in p).linked → LinksSeen (seen_in p) these root (Err end) (seen_of i)) → TellsFault New end error last
        → (w : World) → AreLive p w → LinksRoot w (url_in p root) error last
    refused_by (ends.Fault f) (Some v) links t = fails_root root f links v last t
    refused_by (ends.Fault f) None links t = absurd t
    refused_by ends.Memory error links t = absurd t

    pub refused_links : {E : Type 0} (result : Result (Option Value) E) → IfOk result Told → (w : World) → AreLive p w
        → IfOk result (λ error. LinksRoot w (url_in p root) error last)
    refused_links (Ok error) t w live = refused_by end error links t w live
    refused_links (Err x) t w live = tt

    none_told : (end : End LinkFault) → TellsFault New end None last → ⊥
    none_told (ends.Fault f) t = t
    none_told ends.Memory t = t

    -- there is an error
    pub refused_some : {E : Type 0} (result : Result (Option Value) E) → IfOk result Told → result ≡ Ok None → ⊥
    refused_some {E} result t h = none_told end (subst (λ (r : Result (Option Value) E). IfOk r Told) h t)

    urls_by : (end : End LinkFault) (error : Option Value) → TellsFault New end error last → (seen_in last).urls ≡ (seen_in p).urls
    urls_by (ends.Fault f) (Some v) t = ap (λ q. (seen_in q).urls) t.1 ∙ urls
    urls_by (ends.Fault f) None t = absurd t
    urls_by ends.Memory error t = absurd t

    pub refused_urls : {E : Type 0} (result : Result (Option Value) E) → IfOk result Told → OnOk result ((seen_in last).urls ≡ (seen_in p).urls)
    refused_urls (Ok error) t = urls_by end error t
    refused_urls (Err x) t = tt

    ready_by : (end : End LinkFault) (error : Option Value)
        → ((these : List Url) → SameMembers these (seen_in p).linked → LinksSeen (seen_in p) these root (Err end) (seen_of i)) → KeepsScopes (Err end) i (scopes_of e)
        → TellsFault New end error last → LinkingStaysReady → TakeCalls p → (seen_in p).loading.unlinked (url_in p root) ≡ true → TakeCalls last
    ready_by (ends.Fault f) (Some v) links k t stays a u = failed_ready root f links v last t stays a u k
    ready_by (ends.Fault f) None links k t stays a u = absurd t
    ready_by ends.Memory error links k t stays a u = absurd t

    pub refused_ready : {E : Type 0} (result : Result (Option Value) E) → KeepsScopes (Err end) i (scopes_of e) → IfOk result Told
        → LinkingStaysReady → TakeCalls p → (seen_in p).loading.unlinked (url_in p root) ≡ true → OnOk result (TakeCalls last)
    refused_ready (Ok error) k t stays a u = ready_by end error links k t stays a u
    refused_ready (Err x) k t stays a u = tt
