-- A turn and a standard run have one outcome.
use Rattle.std.proofs.Common.{◌≡◌, ℕ, Bool, List, [], ◌∷◌, ◌++◌, Option, Some, None, refl, ap, subst, sym, ◌∙◌}
use Rattle.std.specs.Prelude.{Result, codes}
use Rattle.esm_base.specs.declared.limits.Limit.{Limit}
use Rattle.esm_base.specs.Urls.{Url, same_url}
use Rattle.esm_tree.specs.Syntax.{Item}
use Rattle.esm_ast.specs.Outcome.{OutcomeView}
use Rattle.esm_import_map.specs.ImportMap.{Maps}
use Rattle.esm_values.specs.Value.{Value, Namespace}
use Rattle.esm_promise.specs.Promises.{Promises, Settled, Fulfilled, Rejected, Job}
use Rattle.esm_promise.specs.Reactions.{Reaction, EntryDone, Evaluated}
use Rattle.esm_loads.specs.Host.{Host}
use Rattle.esm_loads.specs.ImportCall.{BeginsImport}
use Rattle.esm_loads.proofs.OneLoad.{next_one, one_load}
use Rattle.esm_link.specs.Faults.{FaultAt}
use Rattle.esm_link.proofs.OneLink.{linking_one}
use Rattle.esm_eval.specs.Nodes.{Call, CallAnswer}
use Rattle.esm_eval.specs.Evaluation.{HasOneOutcome}
use Rattle.esm_eval.specs.Evaluate.{Evaluates}
use Rattle.esm_eval.proofs.OneEvaluation.{evaluates_one, rejects_one, fulfills_one}
use Rattle.esm_rewriting.proofs.OneAct.{BeginsOne, displays_one}
use Rattle.esm_rewriting.proofs.OneSegment.{starts_body_one, runs_body_one, resumes_body_one}
use Rattle.esm_world.specs.World.{World, Failed, modules_in, body_state, with_state, with_host}
use Rattle.esm_world.specs.Layers.{CallsForBody, evaluation, LinksTo, with_linked, with_promises}
use Rattle.esm_world.specs.Jobs.{LinksLoad, EvaluatesLoad, Reacts, Jobs, when_evaluated, with_entry_state, link_failed, new_error, settle_promise}
use Rattle.esm_world.specs.Jobs.Reacts.{entry_linked, entry_fault, entry_refused, entry_ended, entry_threw, linked, fault, refused, evaluated, threw, body_ended, body_threw, resumes}
use Rattle.esm_world.specs.Turn.{Tasks, Turn}
use Rattle.esm_world.specs.LastLine.{Ending, Stopped, Uncaught, Done, Pending, IsLastLine}
use Rattle.esm_world.specs.Run.{Runs, Shown, StandardRun, ending, shown}
use Rattle.esm_ast.specs.Deliveries.{Delivery}

pub begins_one : BeginsOne BeginsImport
begins_one = record { one = λ {o} {x} {y} {m} {text} {p} {r} {s} a b. let k = one_load.begins o x y m text p r s a b in (sym k.0, sym k.1) }

executes_one : {w : World} {c : Call Url} {r s : Result (CallAnswer (Value Url) c) Limit} {x y : World} → CallsForBody w c r x → CallsForBody w c s y → (s ≡ r) × (y ≡ x)
executes_one {w} (CallsForBody.start p) (CallsForBody.start q) = let k = starts_body_one same_url modules_in BeginsImport begins_one p q in (k.0, ap (with_state w) k.1)
executes_one {w} (CallsForBody.run p) (CallsForBody.run q) = let k = runs_body_one same_url modules_in BeginsImport begins_one p q in (k.0, ap (with_state w) k.1)

pub calls_one : HasOneOutcome evaluation CallsForBody
calls_one = record { one = executes_one }

some_same : {A : Type 0} {o : Option A} {a b : A} → o ≡ Some a → o ≡ Some b → b ≡ a
some_same p q = cc

none_some : {A : Type 0} {a : A} → ◌≡◌ {A = Option A} None (Some a) → ⊥
none_some e = cc

some_of : {A : Type 0} {a b : A} → ◌≡◌ {A = Option A} (Some a) (Some b) → a ≡ b
some_of e = cc

-- what is linked is told by the world and the load
links_one : (w : World) (s : ℕ) {a b : Url} {f h : Option (FaultAt Url)} {x y : List Url} → LinksLoad w s a f x → LinksLoad w s b h y → (b ≡ a) × (h ≡ f) × (y ≡ x)
links_one w s {a} {b} {h = h} {y = y} l k =
    let same : b ≡ a = some_same l.is_root k.is_root in
    let r = linking_one same_url (modules_in w.loading) l.links (subst (λ b. LinksTo w b h y) same k.links) in
    (same, r.0, r.1)

load_one : (w : World) (s : ℕ) {a b : Result ℕ Limit} {x y : World} → EvaluatesLoad w s a x → EvaluatesLoad w s b y → (b ≡ a) × (y ≡ x)
load_one w s {b = b} {y = y} p q =
    let k = links_one w s p.links q.links in
    evaluates_one evaluation CallsForBody calls_one (with_linked w p.linked) p.root p.evaluates
    (subst (λ a. Evaluates evaluation CallsForBody (with_linked w p.linked) a b y) k.0 (subst (λ x. Evaluates evaluation CallsForBody (with_linked w x) q.root b y) k.2 q.evaluates))

apart : (w : World) (s : ℕ) {a : Result ℕ Limit} {x : World} {root : Url} {f : FaultAt Url} {ls : List Url} → EvaluatesLoad w s a x → LinksLoad w s root (Some f) ls → ⊥
apart w s p l = let k = links_one w s p.links l in none_some (sym k.1)

pub reacts_one : {w : World} {r : Reaction Url} {how : Settled (Value Url)} {x y : World} → Reacts w r how x → Reacts w r how y → y ≡ x
reacts_one {w} (entry_linked p) (entry_linked q) = let t = load_one w 0 p q in λ i. when_evaluated (t.1 i) EntryDone (t.0 i)
reacts_one {w} (entry_linked p) (entry_fault b f ys l) = absurd (apart w 0 p l)
reacts_one {w} (entry_fault a f xs l) (entry_linked q) = absurd (apart w 0 q l)
reacts_one {w} (entry_fault a f xs l) (entry_fault b h ys k) =
    let r = links_one w 0 l k in
    let e = some_of r.1 in
    λ i. with_entry_state (link_failed w (e i) (r.2 i)) (Failed (new_error w))
reacts_one entry_refused entry_refused = refl
reacts_one entry_ended entry_ended = refl
reacts_one entry_threw entry_threw = refl
reacts_one {w} (linked {s = s} p) (linked q) = let t = load_one w s p q in λ i. when_evaluated (t.1 i) (Evaluated s) (t.0 i)
reacts_one {w} (linked {s = s} p) (fault pr b f ys i l) = absurd (apart w s p l)
reacts_one {w} (fault {s = s} pr a f xs i l) (linked q) = absurd (apart w s q l)
reacts_one {w} (fault {s = s} p a f xs n l) (fault p' b h ys n' k) =
    let r = links_one w s l k in
    let e = some_of r.1 in
    let same = some_same n n' in
    λ i. settle_promise (link_failed w (e i) (r.2 i)) (same i) (Rejected (new_error w))
reacts_one {w} (refused {v = v} p n) (refused p' n') = ap (λ p. settle_promise w p (Rejected v)) (some_same n n')
reacts_one {w} (evaluated p a n o) (evaluated p' b n' o') = let same = some_same n n' in let root = some_same o o' in λ i. settle_promise w (same i) (Fulfilled (Namespace (root i)))
reacts_one {w} (threw {v = v} p n) (threw p' n') = ap (λ p. settle_promise w p (Rejected v)) (some_same n n')
reacts_one (body_ended p) (body_ended q) = (fulfills_one evaluation CallsForBody calls_one p q).1
reacts_one (body_threw p) (body_threw q) = rejects_one evaluation p q
reacts_one {w} (resumes p) (resumes q) = ap (with_state w) (resumes_body_one same_url modules_in BeginsImport begins_one p q).1

jobs_from : {w v after : World} → w ≡ v → Jobs v after → Jobs w after
jobs_from {after = after} e q = subst (λ w. Jobs w after) (sym e) q

abbrev Queue : Type 0
Queue = Promises (Reaction Url) (Value Url)

-- what follows is told by the job and what is left
reacted_from : (w : World) {mid : World} {j k : Job (Reaction Url)} {left rest : Queue} {how by : Settled (Value Url)} → j ≡ k → left ≡ rest → how ≡ by → Reacts (with_promises w rest) k.reaction by mid → Reacts (with_promises w left) j.reaction how mid
reacted_from w {mid} {j} {k} {left} {rest} {how} {by} e f g q =
    subst (λ j. Reacts (with_promises w left) j.reaction how mid) (sym e)
    (subst (λ ps. Reacts (with_promises w ps) k.reaction how mid) (sym f) (subst (λ h. Reacts (with_promises w rest) k.reaction h mid) (sym g) q))

pair_left : {A B : Type 0} {a b : A} {c d : B} → ◌≡◌ {A = Option (A × B)} (Some (a, c)) (Some (b, d)) → a ≡ b
pair_left {A} {B} {a} {c = c} e = ap (λ p. p.0) (some_of e)

pair_right : {A B : Type 0} {a b : A} {c d : B} → ◌≡◌ {A = Option (A × B)} (Some (a, c)) (Some (b, d)) → c ≡ d
pair_right e = ap (λ p. p.1) (some_of e)

jobs_one : {w a b : World} → Jobs w a → Jobs w b → a ≡ b
jobs_one (Jobs.none n) (Jobs.none m) = refl
jobs_one (Jobs.none n) (Jobs.stops l s) = refl
jobs_one (Jobs.none n) (Jobs.job j left how live i h f q) = cc
jobs_one (Jobs.stops l s) (Jobs.none m) = refl
jobs_one (Jobs.stops l s) (Jobs.stops k t) = refl
jobs_one (Jobs.stops l s) (Jobs.job j left how live i h f q) = cc
jobs_one (Jobs.job j left how live i h f p) (Jobs.none m) = cc
jobs_one (Jobs.job j left how live i h f p) (Jobs.stops l s) = cc
jobs_one {w} (Jobs.job j left how live i h f p) (Jobs.job k rest by still m h' g q) =
    let next = sym i ∙ m in
    let e : j ≡ k = pair_left next in
    let r : left ≡ rest = pair_right next in
    let s : how ≡ by = cc in
    jobs_one p (jobs_from (sym (reacts_one f (reacted_from w e r s g))) q)

tasks_from : {w v after : World} → w ≡ v → Tasks v after → Tasks w after
tasks_from {after = after} p q = subst (λ w. Tasks w after) (sym p) q

jobs_of : (w : World) {after : World} {h k : Host} → h ≡ k → Jobs (with_host w k) after → Jobs (with_host w h) after
jobs_of w {after} e q = subst (λ h. Jobs (with_host w h) after) (sym e) q

tasks_one : {w a b : World} → Tasks w a → Tasks w b → a ≡ b
tasks_one (Tasks.none n) (Tasks.none m) = refl
tasks_one (Tasks.none n) (Tasks.stops k t) = refl
tasks_one (Tasks.none n) (Tasks.task live v j q) = let e = v.is_next in cc
tasks_one (Tasks.stops l s) (Tasks.none m) = refl
tasks_one (Tasks.stops l s) (Tasks.stops k t) = refl
tasks_one (Tasks.stops l s) (Tasks.task live v j q) = cc
tasks_one (Tasks.task live v j p) (Tasks.none m) = let e = v.is_next in cc
tasks_one (Tasks.task live v j p) (Tasks.stops l s) = cc
tasks_one {w} (Tasks.task live v j p) (Tasks.task still v2 j2 q) = tasks_one p (tasks_from (jobs_one j (jobs_of w (next_one v v2) j2)) q)

pub turn_one : {w : World} {u : Url} {c : OutcomeView} {a b : World} → Turn w u c a → Turn w u c b → a ≡ b
turn_one (Turn.limit l s) (Turn.limit k t) = refl
turn_one (Turn.limit l s) (Turn.turn live q) = cc
turn_one (Turn.turn live p) (Turn.limit l s) = cc
turn_one (Turn.turn live p) (Turn.turn still q) = tasks_one p q

pub runs_one : (ds : List Delivery) (w a b : World) → Runs w ds a → Runs w ds b → a ≡ b
runs_one [] w a b p q = p ∙ sym q
runs_one (d ∷ ds) w a b p q = runs_one ds p.1 a b p.3 (subst (λ m. Runs m ds b) (sym (turn_one p.2 q.2)) q.3)

line_one : (w : World) (e : Option Ending) (s t : List ℕ) → IsLastLine w e s → IsLastLine w e t → s ≡ t
line_one w None s t p q = p ∙ sym q
line_one w (Some (Stopped limit)) s t p q = p ∙ sym q
line_one w (Some (Uncaught v)) s t p q = p.2 ∙ ap (λ text. codes "Uncaught " ++ text) (displays_one modules_in (body_state w) v q.1 p.1) ∙ sym q.2
line_one w (Some Done) s t p q = p ∙ sym q
line_one w (Some Pending) s t p q = p ∙ sym q

pub run_one : (maps : Maps) (built : List Item → Bool) (entry : Url) (trace : Bool) (ds : List Delivery) (a b : Shown) → StandardRun maps built entry trace ds a → StandardRun maps built entry trace ds b → a ≡ b
run_one maps built entry trace ds a b p q =
    let w : q.world ≡ p.world = sym (runs_one ds _ _ _ p.runs q.runs) in
    let line = line_one p.world (ending p.world) p.line q.line p.last_line (subst (λ w. IsLastLine w (ending w) q.line) w q.last_line) in
    p.shows ∙ (λ i. shown (sym w i) (line i)) ∙ sym q.shows
