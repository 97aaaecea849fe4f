-- The last line of a machine that no limit has stopped, and the value with which its entry failed.
use Rattle.std.proofs.Common.{◌≡◌, ℕ, [], refl, ap, subst, sym, ◌∙◌}
use Rattle.std.specs.Prelude.{◌++◌, codes, Result, IfOk}
use Rattle.std.proofs.lemmas.Result.{IfOk-weaker}
use Rattle.esm_base.specs.declared.memory.Memory.{Memory}
use Rattle.esm_base.specs.Urls.{Text as Bytes}
use Rattle.esm_values.specs.Value.{Value, Undefined, Truth, Text, Func, Error, Namespace, Promise}
use Rattle.esm_values.specs.Code.{value_of}
use Rattle.esm_values.specs.Naming.{renamed_value}
use Rattle.esm_values.specs.declared.value.Value.{Value as CodeValue}
use Rattle.esm_env.specs.Calls.{scopes_of}
use Rattle.esm_loads.specs.UrlTable.{Entries}
use Rattle.esm_rewriting.specs.Fits.{AreLinked}
use Rattle.esm_body.specs.DisplayText.{IsDisplayText}
use Rattle.esm_world.specs.Fits.{FitEntry, IsKnownValue}
use Rattle.esm_world.specs.World.{World}
use Rattle.esm_machine.specs.FitsById.{FitsById}
use Rattle.esm_machine.specs.Held.{Failed, renamed_entry, body_state}
use Rattle.esm_machine.specs.Represents.{IsLineBy}
use Rattle.esm_machine.specs.Seen.{linked, modules, names}
use Rattle.esm_machine.specs.Inner.Lawful.{imports_are_lawful}
use Rattle.esm_machine.specs.Inner.Parts.{AreSound, KnowsBy, seen_in, url_in}
use Rattle.esm_machine.specs.Machine.{entry_held, held_of}
use Rattle.esm_machine.specs.declared.parts.EntryState.TheVariants as states
use Rattle.esm_machine.specs.declared.parts.Parts.{Parts}
use Rattle.esm_machine.proofs.FitsById.{worlds_fit_by_id}

module _ (p : Parts) (s : AreSound p) where
  fits_by_id : FitsById (held_of p)
  fits_by_id = worlds_fit_by_id (held_of p) s.world s.live.stands s.sound.ready.fit s.order.ids

  are_linked : AreLinked (modules (seen_in p)) (linked (seen_in p))
  are_linked = imports_are_lawful.links (body_state (held_of p)).outer fits_by_id.state.whole

  -- ---- the value with which the entry failed

  known_in : (v : Value ℕ) → IsKnownValue s.world.linked (seen_in p).loading.entries (renamed_value (url_in p) v) → KnowsBy p.host.bodies v
  known_in Undefined q = tt
  known_in (Truth b) q = tt
  known_in (Text t) q = tt
  known_in (Func m i) q = (sym (s.live.stands.linked (url_in p m)) ∙ q.0, q.1)
  known_in (Error id) q = tt
  known_in (Namespace m) q = sym (s.live.stands.linked (url_in p m)) ∙ q
  known_in (Promise id) q = tt

  pub failed_known : (v : CodeValue) → p.entry ≡ states.Failed v → KnowsBy p.host.bodies (value_of v)
  failed_known v e =
      let is : s.world.entry ≡ renamed_entry (names (seen_in p)).name (Failed (value_of v)) =
      ap (λ (w : World). w.entry) s.live.stands.world ∙ ap (λ e. renamed_entry (names (seen_in p)).name (entry_held e)) e in
      let fit : FitEntry s.world.linked s.world.loading.entries (renamed_entry (names (seen_in p)).name (Failed (value_of v))) =
      subst (FitEntry s.world.linked s.world.loading.entries) is s.sound.ready.fit.entry in
      known_in (value_of v) (subst (λ (es : Entries). IsKnownValue s.world.linked es (renamed_value (url_in p) (value_of v)))
      (ap (λ (w : World). w.loading.entries) s.live.stands.world) fit)

  -- ---- its line

  pub uncaught : (v : CodeValue) (text : Bytes) (r : Result Bytes Memory) → KnowsBy p.host.bodies (value_of v)
      → IsDisplayText modules linked (scopes_of p.host.bodies.envs) p.host.bodies.errors (seen_in p) (value_of v) text
      → IfOk r (λ line. line ≡ codes "Uncaught " ++ text) → IfOk r (IsLineBy (held_of p) [] (Failed (value_of v)))
  uncaught v text r known shown h =
      IfOk-weaker r (λ line. line ≡ codes "Uncaught " ++ text) (IsLineBy (held_of p) [] (Failed (value_of v)))
      (λ line e. (text, shown s.order.scopes.right are_linked known (body_state (held_of p)) refl refl, e)) h

  pub failed_line : (v : CodeValue) (r : Result Bytes Memory) → p.entry ≡ states.Failed v → IfOk r (IsLineBy (held_of p) [] (Failed (value_of v)))
      → IfOk r (IsLineBy (held_of p) [] (held_of p).entry)
  failed_line v r e h = subst (λ e. IfOk r (IsLineBy (held_of p) [] (entry_held e))) (sym e) h
