-- What the steps of a job do by ids, they do in the world.
use Rattle.std.proofs.Common.{◌≡◌, ℕ, List, Some, None, refl, ap, subst, sym, ◌∙◌, nat_eq}
use Rattle.std.specs.Prelude.{Result, Ok, Err}
use Rattle.std.specs.Option.{option_map}
use Rattle.esm_base.specs.declared.limits.Limit.{Limit}
use Rattle.esm_base.specs.Urls.{Url, has, same_url}
use Rattle.esm_values.specs.Value.{Value, Error}
use Rattle.esm_values.specs.Errors.{make_error, next_error}
use Rattle.esm_values.specs.Naming.{renamed_value}
use Rattle.esm_values.specs.Numbering.{numbering}
use Rattle.esm_values.specs.declared.errors.Fault.{Fault}
use Rattle.esm_promise.specs.Code.{Numbered}
use Rattle.esm_promise.specs.Promises.{Promises, Settled, Job, settle, settled, register, next_job}
use Rattle.esm_promise.specs.Reactions.{Reaction, Await}
use Rattle.esm_promise.specs.Renaming.{renamed, renamed_job, renamed_reaction, renamed_settled, renamed_taken}
use Rattle.esm_promise.proofs.Renamed.{follows_names}
use Rattle.esm_loads.specs.ImportCall.{BeginsImport}
use Rattle.esm_loads.specs.Loading.{Loading}
use Rattle.esm_rewriting.specs.Bodies.{ResumesBody}
use Rattle.esm_rewriting.specs.Naming.{renamed_state}
use Rattle.esm_rewriting.specs.State.{State}
use Rattle.esm_world.specs.World as world
use Rattle.esm_world.specs.World.{World, modules_in}
use Rattle.esm_world.specs.Layers as layers
use Rattle.esm_world.specs.Jobs as jobs
use Rattle.esm_world.specs.Jobs.{Reacts, settle_promise, with_reaction, with_error, new_error}
use Rattle.esm_rewriting.proofs.BodyKeeps.{Imported, resumes_body_keeps}
use Rattle.esm_world.proofs.LimitsExact.{limits_are_exact}
use Rattle.esm_machine.specs.Seen.{Seen, names, modules, BeginsById}
use Rattle.esm_machine.specs.Following.{seen_loading}
use Rattle.esm_machine.specs.Held.{Held, EntryHeld, StandsFor, renamed_entry, body_state, world_by, world_of}
use Rattle.esm_machine.specs.Represents.{IsLive}
use Rattle.esm_machine.specs.Steps.{with_entry_state, with_promises, with_errors, with_linked, with_state, LeavesHeld, StepsAreOfTheWorld}
use Rattle.esm_machine.proofs.Starts.{starts_renamed}
use Rattle.esm_machine.proofs.Following.{bodies_are_of_the_world}

-- an import() links nothing
abbrev pub SameLinked : Seen → Seen → Type 0
SameLinked i j = j.linked ≡ i.linked

pub links_nothing : Imported BeginsById SameLinked
links_nothing = record { same = λ i. refl; on = λ p q. q ∙ p; call = λ b. b.linked }

module _ (h : Held) (w : World) (s : IsLive h w) where
  abbrev name : ℕ → Url
  name m = (names h.seen).name m

  abbrev W : World
  W = world_of h w.linked

  is : w ≡ W
  is = s.stands.world

  -- other promises, by their URLs
  promises_stand : (ps : Numbered) (qs : Promises (Reaction Url) (Value Url)) → renamed name ps ≡ qs → IsLive (with_promises h ps) (layers.with_promises w qs)
  promises_stand ps qs e = record {
    live = s.live;
    stands = record {
      linked = s.stands.linked;
      world = ap (λ v. layers.with_promises v qs) is ∙ (λ i. record W { promises = sym e i });
    };
  }

  takes : (j : Job (Reaction ℕ)) (left : Numbered) → next_job h.promises ≡ Some (j, left)
      → (next_job w.promises ≡ Some (renamed_job name j, renamed name left)) × IsLive (with_promises h left) (layers.with_promises w (renamed name left))
  takes j left e =
      (ap (λ v. next_job v.promises) is ∙ (follows_names name).takes h.promises ∙ ap (λ o. option_map (renamed_taken name) o) e, promises_stand left (renamed name left) refl)

  none : next_job h.promises ≡ None → next_job w.promises ≡ None
  none e = ap (λ v. next_job v.promises) is ∙ (follows_names name).takes h.promises ∙ ap (λ o. option_map (renamed_taken name) o) e

  result : (p : ℕ) (how : Settled (Value ℕ)) → settled h.promises p ≡ Some how → settled w.promises p ≡ Some (renamed_settled name how)
  result p how e = ap (λ v. settled v.promises p) is ∙ (follows_names name).is_settled h.promises p ∙ ap (λ o. option_map (renamed_settled name) o) e

  entry : (e : EntryHeld) → IsLive (with_entry_state h e) (jobs.with_entry_state w (renamed_entry name e))
  entry e = record {
    live = s.live;
    stands = record { linked = s.stands.linked; world = ap (λ v. jobs.with_entry_state v (renamed_entry name e)) is };
  }

  settles : (p : ℕ) (how : Settled (Value ℕ)) → IsLive (with_promises h (settle h.promises p how)) (settle_promise w p (renamed_settled name how))
  settles p how = promises_stand (settle h.promises p how) (settle w.promises p (renamed_settled name how))
      ((follows_names name).settles h.promises p how ∙ sym (ap (λ v. settle v.promises p (renamed_settled name how)) is))

  registers : (p : ℕ) (r : Reaction ℕ) → IsLive (with_promises h (register h.promises p r)) (with_reaction w p (renamed_reaction name r))
  registers p r = promises_stand (register h.promises p r) (register w.promises p (renamed_reaction name r))
      ((follows_names name).registers h.promises p r ∙ sym (ap (λ v. register v.promises p (renamed_reaction name r)) is))

  errors : (f : Fault) → IsLive (with_errors h (make_error h.errors f)) (with_error w f)
  errors f = record {
    live = s.live;
    stands = record { linked = s.stands.linked; world = ap (λ v. with_error v f) is };
  }

  error : new_error w ≡ renamed_value name (Error (next_error h.errors))
  error = ap (λ v. new_error v) is

  links : (held linked : List Url) → ((u : Url) → has linked u ≡ has held u) → IsLive (with_linked h held) (layers.with_linked w linked)
  links held linked same = record {
    live = s.live;
    stands = record { linked = same; world = ap (λ v. layers.with_linked v linked) is };
  }

  -- ---- a body goes on

  module _ (m : ℕ) (how : Settled (Value ℕ)) (end : Result (Unit {0}) Limit) (t : State ℕ Seen) (p : ResumesBody nat_eq modules BeginsById (body_state h) m how end t) where
    abbrev Late : State Url Loading
    Late = renamed_state (numbering h.seen.urls) seen_loading t

    by_names : ResumesBody same_url modules_in BeginsImport (world.body_state W) (name m) (renamed_settled name how) end Late × (t.outer.imports.urls ≡ h.seen.urls)
    by_names = (bodies_are_of_the_world h.seen.urls).resume (body_state h) t m how end refl p

    in_world : ResumesBody same_url modules_in BeginsImport (world.body_state w) (name m) (renamed_settled name how) end Late
    in_world = subst (λ v. ResumesBody same_url modules_in BeginsImport (world.body_state v) (name m) (renamed_settled name how) end Late) (sym is) by_names.0

    stands : StandsFor (with_state h t) (world.with_state w Late)
    stands = record {
      linked = λ u. s.stands.linked u ∙ sym (ap (λ us. has us u) (resumes_body_keeps nat_eq modules BeginsById SameLinked links_nothing p).imports);
      world = ap (λ v. world.with_state v Late) is ∙ sym (ap (λ us. world_by us (with_state h t) w.linked) by_names.1);
    }

  resumes : (m : ℕ) (how : Settled (Value ℕ)) (end : Result (Unit {0}) Limit) (t : State ℕ Seen) → ResumesBody nat_eq modules BeginsById (body_state h) m how end t
      → LeavesHeld end (Reacts w (Await (name m)) (renamed_settled name how)) (with_state h t)
  resumes m how end t p = by end p
    where
      by : (end : Result (Unit {0}) Limit) → ResumesBody nat_eq modules BeginsById (body_state h) m how end t → LeavesHeld end (Reacts w (Await (name m)) (renamed_settled name how)) (with_state h t)
      by (Ok done) q =
          let late = Late m how (Ok done) t q in
          let there = in_world m how (Ok done) t q in
          (world.with_state w late, Reacts.resumes there, record { live = limits_are_exact.resumes w (name m) (renamed_settled name how) (Ok done) late s.live there; stands = stands m how (Ok done) t q })
      by (Err limit) q =
          let late = Late m how (Err limit) t q in
          let there = in_world m how (Err limit) t q in
          (world.with_state w late, Reacts.resumes there, record { stopped = limits_are_exact.resumes w (name m) (renamed_settled name how) (Err limit) late s.live there; written = refl; begun = starts_renamed (numbering h.seen.urls) t.engine.events })

pub steps_are_of_the_world : StepsAreOfTheWorld
steps_are_of_the_world = record {
  takes = λ h w j left s e. takes h w s j left e;
  none = λ h w s e. none h w s e;
  result = λ h w p how s e. result h w s p how e;
  entry = λ h w e s. entry h w s e;
  settles = λ h w p how s. settles h w s p how;
  registers = λ h w p r s. registers h w s p r;
  errors = λ h w f s. errors h w s f;
  error = λ h w s. error h w s;
  links = λ h w held linked s same. links h w s held linked same;
  resumes = λ h w m how end t s p. resumes h w s m how end t p;
}
