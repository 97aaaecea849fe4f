-- Steps that change promises, errors and what lies outside of bodies alone: what is in order behind them.
use Rattle.std.proofs.Common.{◌≡◌, ℕ, true, List, [], ◌∷◌, map, refl, ap, subst, sym, ◌∙◌, length}
use Rattle.esm_base.specs.Lists.{EachOnce}
use Rattle.esm_base.specs.Urls.{same_url}
use Rattle.esm_values.specs.Errors.{Errors}
use Rattle.esm_promise.specs.Code.{Numbered}
use Rattle.esm_env.specs.Faithful.{AreScopesOf}
use Rattle.esm_env.specs.Scopes.{Scopes}
use Rattle.esm_rewriting.specs.Fits.{FitStanding}
use Rattle.esm_body.specs.View.{standing_of}
use Rattle.esm_body.specs.declared.work.Standing.{Standing}
use Rattle.esm_world.specs.World.{World}
use Rattle.esm_world.specs.Fits.{IsFit}
use Rattle.esm_machine.specs.Calls.{KeepsRecords}
use Rattle.esm_body.specs.Engines.{AreStanding}
use Rattle.esm_machine.specs.ModuleStore.{Imported, is_whole, seen_of}
use Rattle.esm_machine.specs.Seen.{Seen, linked, modules}
use Rattle.esm_machine.specs.SeenScopes.{AreScopesIn}
use Rattle.esm_machine.specs.Inner.Parts.{AreInOrder, AreLive, ByIds, seen_in}
use Rattle.esm_machine.specs.Machine.{held_of, scopes_by}
use Rattle.esm_machine.specs.declared.parts.Parts.{Parts}
use Rattle.esm_machine.proofs.Begun.{begun_alike}
use Rattle.esm_machine.proofs.FitsById.{worlds_fit_by_id}
use Rattle.esm_machine.proofs.Whole.{linked_have_ids}

-- ---- bodies at their awaits

-- where the same scopes are those of the modules before and after, linked modules have the same trees
module _ (e : Scopes) (s t : Seen) (before : AreScopesOf (modules s) (linked s) e) (after : AreScopesOf (modules t) (linked t) e) where
  same_tree : (m : ℕ) → linked s m ≡ true → (modules t).tree m ≡ (modules s).tree m
  same_tree m l = let made = before.made m l in sym (after.trees m made.0 made.1) ∙ before.trees m made.0 made.1

  pub stand_on : (ss : List Standing) → FitStanding modules linked s (map standing_of ss) → AreStanding modules s ss → AreStanding modules t ss
  stand_on [] f h = tt
  stand_on (b ∷ ss) f h = (
    record {
      code = h.0.code;
      purpose = h.0.purpose;
      belongs = record { tree = same_tree b.body.at.0 f.0 ∙ h.0.belongs.tree; sets = h.0.belongs.sets };
    },
    stand_on ss f.2 h.1,
  )

-- ---- promises, errors and what lies outside of bodies

abbrev pub with_outside : Parts → Numbered → Errors → Imported → Parts
with_outside p ps es i = record p { host = record p.host { promises = ps; bodies = record p.host.bodies { errors = es; imports = i } } }

module _ (p : Parts) (o : AreInOrder p) (w : World) (live : AreLive p w) (fit : IsFit w) (ps : Numbered) (es : Errors) (i : Imported)
    (scopes : AreScopesIn (seen_of i) (scopes_by p.host.bodies)) where
  pub standing_on : AreStanding modules (seen_of i) p.host.bodies.engine.standing.items
  standing_on =
      stand_on (scopes_by p.host.bodies) (seen_in p) (seen_of i) o.scopes.right scopes.right p.host.bodies.engine.standing.items
      (worlds_fit_by_id (held_of p) w live.stands fit o.ids).state.standing o.standing

  -- no record has come
  pub in_order_on : is_whole i.condition ≡ true → KeepsRecords (seen_in p) (seen_of i) → AreInOrder (with_outside p ps es i)
  in_order_on whole k = record {
    whole = whole;
    nodes = o.nodes ∙ sym (ap length k.urls);
    ids = record { apart = subst (EachOnce same_url) (sym k.urls) o.ids.apart; have_ids = λ u l. linked_have_ids i u l };
    scopes = scopes;
    standing = standing_on;
    between = begun_alike ByIds p.host (with_outside p ps es i).host (λ x. refl) refl (λ x. refl) o.between;
  }
