-- Stores of which nothing is linked.
use Rattle.std.proofs.Common.{◌≡◌, ℕ, Bool, true, false, List, [], length, Some, None, ◌≤◌, arith, refl, ap, subst, sym, ◌∙◌}
use Rattle.std.specs.Prelude.{get_or, Result, Ok, Err, OnOk}
use Rattle.esm_base.specs.declared.limits.Limit.{Limit}
use Rattle.esm_base.specs.declared.end.End.{End}
use Rattle.esm_base.specs.Urls.{Url, has}
use Rattle.esm_import_map.specs.ImportMap.{Maps}
use Rattle.esm_env.specs.Scopes.{Scopes}
use Rattle.esm_loads.specs.Arrival.{next}
use Rattle.esm_loads.specs.Host.{Host}
use Rattle.esm_loads.proofs.Places.{index_get}
use Rattle.esm_loads.proofs.PlacesOfUrls.{listed}
use Rattle.esm_link.specs.declared.LinkFault.{LinkFault}
use Rattle.esm_rewriting.specs.Fits.{AreLinked}
use Rattle.esm_world.specs.Loaded.{LinkedStaysLinked}
use Rattle.esm_machine.specs.Calls.{AnswersBy, KeepsRecords, UnlessLost, opening_seen}
use Rattle.esm_machine.specs.Linking.{LinksSeen, SameMembers}
use Rattle.esm_machine.specs.ModuleStore.{Imported, is_whole, seen_of}
use Rattle.esm_machine.specs.Seen.{Seen, linked, modules, names}
use Rattle.esm_machine.specs.SeenScopes.{AreScopesIn}
use Rattle.esm_machine.specs.declared.condition.Condition.{Condition}
use Rattle.esm_machine.specs.declared.condition.Condition.TheVariants as conditions
use Rattle.esm_machine_tests.specs.Fresh.{IsFresh}

-- ---- nothing is linked

none_linked : (s : Seen) → s.linked ≡ [] → (m : ℕ) → linked s m ≡ false
none_linked s e m = ap (λ us. has us ((names s).name m)) e

not_both : (b : Bool) → b ≡ false → b ≡ true → ⊥
not_both true e h = cc
not_both false e h = cc

pub nothing_linked : (s : Seen) → s.linked ≡ [] → AreLinked (modules s) (linked s)
nothing_linked s e = record {
  trees = λ m h. absurd (not_both (linked s m) (none_linked s e m) h);
  targets = λ m i h lt. absurd (not_both (linked s m) (none_linked s e m) h);
  below = λ m h. absurd (not_both (linked s m) (none_linked s e m) h);
  named = λ m h. absurd (not_both (linked s m) (none_linked s e m) h);
}

empty_scopes : (s : Seen) → s.linked ≡ [] → AreScopesIn s []
empty_scopes s e = record {
  right = record {
    faithful = λ m t is. cc;
    trees = λ m t is. cc;
    made = λ m h. absurd (not_both (linked s m) (none_linked s e m) h);
    bound = λ m t h is x. cc;
    imports = λ m t h is x. cc;
    inside = λ m t x i is im. cc;
    unwritten = λ m x h. refl;
  };
  loaded = λ m t is. cc;
}

pub no_scopes : (s : Seen) (e : Scopes) → s.linked ≡ [] → e ≡ [] → AreScopesIn s e
no_scopes s e none is = subst (AreScopesIn s) (sym is) (empty_scopes s none)

-- ---- the opening

pub fresh_opened : (i : Imported) (maps : Maps) (entry : Url) → seen_of i ≡ opening_seen maps entry → is_whole i.condition ≡ true → IsFresh i
fresh_opened i maps entry opens whole = record { whole = whole; none = ap (λ (s : Seen). s.linked) opens }

pub none_next : (i : Imported) (maps : Maps) (entry : Url) → seen_of i ≡ opening_seen maps entry → next (seen_of i).loading ≡ None
none_next i maps entry opens = ap (λ (s : Seen). next s.loading) opens

-- ---- answers and fetches

pub step_fresh : (c : Condition) (before after : Seen) → is_whole c ≡ true → UnlessLost c (KeepsRecords before after) → before.linked ≡ [] → after.linked ≡ []
step_fresh conditions.Whole before after w k none = k.linked ∙ none
step_fresh (conditions.Stopped limit) before after w k none = cc
step_fresh conditions.Lost before after w k none = cc

abbrev pub answered : Bool → Result Bool (End Limit)
answered b = Ok b

-- where no request was answered none is left
pub none_left : (b : Bool) (before after : Imported) (h k : Host) → h.imports ≡ (seen_of before).loading → b ≡ false → AnswersBy (Ok b) h k
    → (answered b ≡ answered false → after ≡ before) → next (seen_of after).loading ≡ None
none_left true before after h k is off call same = cc
none_left false before after h k is off call same =
    ap (λ (i : Imported). next (seen_of i).loading) (same refl) ∙ ap next (sym is) ∙ call

-- the list has its first URL
pub has_first : (us : List Url) (u v : Url) → 1 ≤ length us → u ≡ get_or us 0 u → v ≡ u → has us v ≡ true
has_first us u v many first same = listed us 0 v (index_get us 0 u (omega (arith, many)) first ∙ ap (λ w. Some w) (sym same))

-- ---- linking

pub links_root : LinkedStaysLinked → (before after : Imported) (root : ℕ) (result : Result (Unit {0}) (End LinkFault))
    → ((linked_are : List Url) → SameMembers linked_are (seen_of before).linked → LinksSeen (seen_of before) linked_are root result (seen_of after))
    → (seen_of after).urls ≡ (seen_of before).urls → OnOk result (linked (seen_of after) root ≡ true)
links_root stays before after root (Ok done) links urls =
    let l = links (seen_of before).linked (λ u. refl) in
    let there : has l.0 ((names (seen_of before)).name root) ≡ true =
    stays.root (seen_of before).loading (seen_of before).linked l.0 ((names (seen_of before)).name root) l.1 in
    let seen : has (seen_of after).linked ((names (seen_of before)).name root) ≡ true = sym (l.2 ((names (seen_of before)).name root)) ∙ there in
    subst (λ us. has (seen_of after).linked ((names (record (seen_of after) { urls = us })).name root) ≡ true) (sym urls) seen
links_root stays before after root (Err end) links urls = tt
