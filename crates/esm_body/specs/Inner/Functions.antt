-- What functions that a body calls keep of the code under way.
use Rattle.std.proofs.Common.{◌≡◌, ℕ, nat_eq, ◌≤◌, Bool, true, List, Some, refl, ap, ◌∙◌, arith}
use Rattle.std.specs.Prelude.{Result, Ok, Err}
use Rattle.esm_base.specs.declared.limits.Limit.{Limit}
use Rattle.esm_base.specs.declared.limits.TheConstants.{MAX_STEPS}
use Rattle.esm_promise.specs.Outer.{Outer}
use Rattle.esm_env.specs.Calls.{scopes_of}
use Rattle.esm_env.specs.Declarations.{FunctionCode}
use Rattle.esm_env.specs.Modules.{Modules, function_of}
use Rattle.esm_env.specs.OwnNames.{own_names}
use Rattle.esm_values.specs.Acts.{Act as act}
use Rattle.esm_values.specs.Code.{CodeValue, value_of}
use Rattle.esm_values.specs.declared.value.Value.{Value}
use Rattle.esm_rewriting.specs.Scopes.{Scope}
use Rattle.esm_rewriting.specs.State.{Importing}
use Rattle.esm_rewriting.specs.Acts.{Performs}
use Rattle.esm_rewriting.specs.declared.stop.Stop.{Stop}
use Rattle.esm_rewriting.specs.declared.stop.Stop.TheVariants as stops
use Rattle.esm_rows.specs.Functions.{IsRow}
use Rattle.esm_rows.specs.declared.row.Row.{Row}
use Rattle.esm_row_machine.specs.Outside.{Stays}
use Rattle.esm_row_machine.specs.Tables.{row_in}
use Rattle.esm_row_machine.specs.declared.rows.Rows.{Rows}
use Rattle.esm_body.specs.SameScopes.{HaveSameScopes}
use Rattle.esm_body.specs.Inner.World.{state_in, CodeIsWhole, HasScopes, IsSame}
use Rattle.esm_body.specs.declared.inside.Inside.{Inside}

-- the names that a module declares, which rows know by their places
abbrev pub owned_by : {S : Type 0} → (S → Modules ℕ) → S → ℕ → List (List ℕ)
owned_by modules i m = own_names ((modules i).tree m)

abbrev pub steps_of : {I : Type 0} → Inside I → ℕ
steps_of w = w.engine.now.log.steps

module _ {S : Type 0} (modules : S → Modules ℕ) (linked : S → ℕ → Bool) where
  -- each row is that of a function of a linked module
  abbrev pub AreRowsOf : S → Rows → Type 0
  AreRowsOf i rows = (m k : ℕ) (row : Row) → row_in rows m k ≡ Some row → (linked i m ≡ true)
      × ((f : FunctionCode) × (function_of (modules i) m k ≡ Some f) × IsRow (owned_by modules i m) f row)

module _ {I S : Type 0} (seen : I → S) (modules : S → Modules ℕ) (linked : S → ℕ → Bool) (fits : Outer ℕ S → Type 0)
    (begins : Importing ℕ S) where
  -- the body's code is the same still, in the same loans; what was linked is linked still, with its tree; steps aren't given back
  pub record KeepsBody (w after : Inside I) : Type 0 where
    pub now : after.code.now ≡ w.code.now
    pub code : after.code.ghost_name ≡ w.code.ghost_name
    pub alloc : after.alloc ≡ w.alloc
    pub engine : after.engine.ghost_name ≡ w.engine.ghost_name
    pub standing : after.engine.now.standing ≡ w.engine.now.standing
    pub errors : after.errors.ghost_name ≡ w.errors.ghost_name
    pub envs : after.envs.ghost_name ≡ w.envs.ghost_name
    pub promises : after.promises.ghost_name ≡ w.promises.ghost_name
    pub imports : after.imports.ghost_name ≡ w.imports.ghost_name
    pub made : HasScopes seen modules linked fits begins w → HasScopes seen modules linked fits begins after
    pub links : (m : ℕ) → linked (seen w.imports.now) m ≡ true → linked (seen after.imports.now) m ≡ true
    pub trees : (m : ℕ) → linked (seen w.imports.now) m ≡ true
        → (modules (seen after.imports.now)).tree m ≡ (modules (seen w.imports.now)).tree m
    pub scopes : HaveSameScopes (scopes_of w.envs.now) (scopes_of after.envs.now)
    pub more : steps_of w ≤ steps_of after
    pub bound : steps_of w ≤ MAX_STEPS → steps_of after ≤ MAX_STEPS

  pub keeps_itself : (w : Inside I) → KeepsBody w w
  keeps_itself w = record {
    now = refl;
    code = refl;
    alloc = refl;
    engine = refl;
    standing = refl;
    errors = refl;
    envs = refl;
    promises = refl;
    imports = refl;
    made = λ h. h;
    links = λ m h. h;
    trees = λ m h. refl;
    scopes = λ m. refl;
    more = omega arith;
    bound = λ h. h;
  }

  pub keeps_both : (w mid after : Inside I) → KeepsBody w mid → KeepsBody mid after → KeepsBody w after
  keeps_both w mid after a b = record {
    now = b.now ∙ a.now;
    code = b.code ∙ a.code;
    alloc = b.alloc ∙ a.alloc;
    engine = b.engine ∙ a.engine;
    standing = b.standing ∙ a.standing;
    errors = b.errors ∙ a.errors;
    envs = b.envs ∙ a.envs;
    promises = b.promises ∙ a.promises;
    imports = b.imports ∙ a.imports;
    made = λ h. b.made (a.made h);
    links = λ m h. b.links m (a.links m h);
    trees = λ m h. b.trees m (a.links m h) ∙ a.trees m h;
    scopes = λ m. b.scopes m ∙ a.scopes m;
    more = let x = a.more in let y = b.more in omega (arith, x, y);
    bound = λ h. b.bound (a.bound h);
  }

  -- what rows take of it
  pub still_there : (w after : Inside I) → KeepsBody w after
      → Stays (state_in seen) modules linked begins (CodeIsWhole seen modules linked fits begins) KeepsBody (owned_by modules) w after
  still_there w after k = record { links = k.links; trees = k.trees; names = λ m h. ap own_names (k.trees m h) }

  -- an import() that stands written in a module begins as the definitions say, where its state fits and the value is known
  abbrev pub ImportsIn : ℕ → Inside I → CodeValue → Result CodeValue Limit → Inside I → Type 0
  ImportsIn m w v told after = IsSame w after × (CodeIsWhole seen modules linked fits begins w → linked (seen w.imports.now) m ≡ true
      → ((ss : List (Scope CodeValue))
      → Performs nat_eq modules begins m (record { scopes = ss; state = state_in seen w }) (act.Import v) told
      (record { scopes = ss; state = state_in seen after }))
      × HasScopes seen modules linked fits begins after)

  abbrev pub ImportsFrom : ℕ → Inside I → CodeValue → Result Value Stop → Inside I → Type 0
  ImportsFrom m w v (Ok p) after = ImportsIn m w v (Ok (value_of p)) after
  ImportsFrom m w v (Err (stops.Limit limit)) after = ImportsIn m w v (Err limit) after
  ImportsFrom m w v (Err stops.Memory) after = Unit {0}
