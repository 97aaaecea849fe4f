-- An assignment of a name that no block of the function declares is its module's.
use Rattle.std.proofs.Common.{◌≡◌, ℕ, nat_eq, List, [], Option, Some, None, refl, ap, subst, sym, ◌∙◌}
use Rattle.esm_env.specs.Modules.{Modules}
use Rattle.esm_env.specs.Writing.{Writing, writing_of}
use Rattle.esm_env.specs.Writing.{Writing as writing}
use Rattle.esm_values.specs.Value.{Value}
use Rattle.esm_values.specs.Operators.{values}
use Rattle.esm_expr_eval.specs.Terms.Term.{Val}
use Rattle.esm_rewriting.specs.Scopes.{Scope}
use Rattle.esm_rewriting.specs.Rest.{Use as purposes}
use Rattle.esm_rewriting.specs.Rest.{Rest, more}
use Rattle.esm_rewriting.specs.Rest.Part.{Does}
use Rattle.esm_rewriting.specs.State.{State, Importing}
use Rattle.esm_rewriting.specs.Acts.{Inner as OverScopes, modules_of, module_write, write_in, write_name}
use Rattle.esm_rewriting.specs.BodyRewriting.{RewritesBody, wrote}
use Rattle.esm_rewriting.specs.BodyRewriting.{RewritesBody as rule}
use Rattle.esm_rewriting.specs.Contexts.{scopes_in}
use Rattle.esm_rows.specs.Rows.{found_in}
use Rattle.esm_row_laws.specs.Spots.{Left, Round, names_of}
use Rattle.esm_row_laws.specs.Remaining.{left_rest, contexts}
use Rattle.esm_row_laws.specs.Places.{FitNames}
use Rattle.esm_row_laws.specs.Operations.{Values}
use Rattle.esm_row_laws.specs.Writing.{Assigns}
use Rattle.esm_row_laws.proofs.Placing as placing
use Rattle.esm_row_laws.proofs.SettingNames as setting

module _ {S : Type 0} (modules : S → Modules ℕ) (begins : Importing ℕ S) (m : ℕ) (l : Left) (w : State ℕ S) (name : List ℕ) (v : Value ℕ) where
  abbrev over : List (Scope (Value ℕ)) → State ℕ S → OverScopes ℕ S
  over ss s = record { scopes = ss; state = s }

  abbrev Told : Type 0
  Told = Option (Value ℕ) × OverScopes ℕ S

  -- the same over these scopes
  abbrev again : List (Scope (Value ℕ)) → Told → Told
  again ss told = (told.0, over ss told.1.state)

  abbrev of_module : List (Scope (Value ℕ)) → Writing ℕ → Told
  of_module ss c = module_write nat_eq modules begins m (over ss w) name c

  -- a module's write reads no scopes
  same_write : (ss : List (Scope (Value ℕ))) (c : Writing ℕ) → again ss (of_module [] c) ≡ of_module ss c
  same_write ss (writing.Done cells) = refl
  same_write ss writing.Unset = refl
  same_write ss writing.Constant = refl
  same_write ss writing.Undeclared = refl

  abbrev behind : Rest (Value ℕ)
  behind = left_rest (values nat_eq) l

  abbrev Written : List (Scope (Value ℕ)) → Told → Type 0
  Written ss told = RewritesBody nat_eq modules begins m (over ss w) (more (Does (purposes.Writes name) (Val v)) behind) (wrote behind told.0) told.1

  written : (rs : List Round) (vss : Values) (thrown : Option (Value ℕ)) (late : State ℕ S) → FitNames (names_of rs) vss → found_in (names_of rs) name ≡ None → write_name nat_eq modules begins m (over [] w) name v ≡ (thrown, over [] late)
      → Written (scopes_in (contexts (values nat_eq) rs vss)) (thrown, over (scopes_in (contexts (values nat_eq) rs vss)) late)
  written rs vss thrown late fit e is =
      let ss : List (Scope (Value ℕ)) = scopes_in (contexts (values nat_eq) rs vss) in
      let c : Writing ℕ = writing_of nat_eq (modules_of modules w) w.cells m name v in
      let told : of_module ss c ≡ (thrown, over ss late) = sym (same_write ss c) ∙ ap (again ss) is in
      subst (λ (t : Told). Written ss t) told
      (subst (λ q. Written ss (write_in nat_eq modules begins m (over ss w) name v q)) (placing.none (values nat_eq) name rs vss fit e) rule.writes)

  pub others : (rs : List Round) (vss : Values) (late : State ℕ S) (thrown : Option (Value ℕ)) → FitNames (names_of rs) vss → found_in (names_of rs) name ≡ None → write_name nat_eq modules begins m (over [] w) name v ≡ (thrown, over [] late)
      → Assigns modules begins m l rs vss w name v thrown late
  others rs vss late None fit e is =
      setting.renamed modules begins m rs vss vss w late (more (Does (purposes.Writes name) (Val v)) behind) behind (written rs vss None late fit e is)
  others rs vss late (Some thrown) fit e is = written rs vss (Some thrown) late fit e is
