-- A rewriting of a body has one outcome.
use Rattle.std.proofs.Common.{◌≡◌, Bool, List, [], ◌∷◌, refl, ap}
use Rattle.esm_base.specs.declared.limits.Limit.{Limit}
use Rattle.esm_values.specs.Value.{Value}
use Rattle.esm_values.specs.Plans.{inside}
use Rattle.esm_values.specs.Operators.{values}
use Rattle.esm_values.proofs.Follows.{follows_one}
use Rattle.esm_expr_eval.proofs.Unique.{step_one, no_step}
use Rattle.esm_env.specs.Modules.{Modules}
use Rattle.esm_rewriting.specs.Scopes.{Scope}
use Rattle.esm_rewriting.specs.Rest.{Rest, more}
use Rattle.esm_rewriting.specs.Rest.Part.{Does, In}
use Rattle.esm_rewriting.specs.State.{Importing}
use Rattle.esm_rewriting.specs.Acts.{Inner, Performs}
use Rattle.esm_rewriting.specs.BodyRewriting.{RewrittenBody, On, RewritesBody, own_url, within, caught}
use Rattle.esm_rewriting.specs.BodyRewriting.RewritesBody.{begins_at, does, drops, sets, writes, throws, returns, prints, chooses, awaits, inner, inner_end, tries, tries_end}
use Rattle.esm_rewriting.proofs.OneAct.{BeginsOne, acts_one}

abbrev head : {V : Type 0} → Scope V → List (Scope V) → Scope V
head d [] = d
head d (s ∷ ss) = s

abbrev tail : {V : Type 0} → List (Scope V) → List (Scope V)
tail [] = []
tail (s ∷ ss) = ss

module _ {N I : Type 0} (same : N → N → Bool) (modules : I → Modules N) (begins : Importing N I) (one : BeginsOne begins) (m : N) where
  pub moves_one : {w x y : Inner N I} {r : Rest (Value N)} {a b : RewrittenBody (Value N) Limit} → RewritesBody same modules begins m w r a x → RewritesBody same modules begins m w r b y → (b ≡ a) × (y ≡ x)
  moves_one (begins_at a) (begins_at b) = let k = follows_one _ (acts_one same modules begins one m) a b in (ap On k.0, k.1)
  moves_one (does {purpose = u} {rest = rest} s) (does t) = let k = step_one (values same) (own_url same modules begins m) (Performs same modules begins m) (acts_one same modules begins one m) s t in (ap (λ c. On (inside (λ e. more (Does u e) rest) c)) k.0, k.1)
  moves_one (does s) drops = absurd (no_step (values same) (own_url same modules begins m) (Performs same modules begins m) s)
  moves_one (does s) sets = absurd (no_step (values same) (own_url same modules begins m) (Performs same modules begins m) s)
  moves_one (does s) writes = absurd (no_step (values same) (own_url same modules begins m) (Performs same modules begins m) s)
  moves_one (does s) throws = absurd (no_step (values same) (own_url same modules begins m) (Performs same modules begins m) s)
  moves_one (does s) returns = absurd (no_step (values same) (own_url same modules begins m) (Performs same modules begins m) s)
  moves_one (does s) (prints b) = absurd (no_step (values same) (own_url same modules begins m) (Performs same modules begins m) s)
  moves_one (does s) chooses = absurd (no_step (values same) (own_url same modules begins m) (Performs same modules begins m) s)
  moves_one (does s) awaits = absurd (no_step (values same) (own_url same modules begins m) (Performs same modules begins m) s)
  moves_one drops (does t) = absurd (no_step (values same) (own_url same modules begins m) (Performs same modules begins m) t)
  moves_one drops drops = (refl, refl)
  moves_one sets (does t) = absurd (no_step (values same) (own_url same modules begins m) (Performs same modules begins m) t)
  moves_one sets sets = (refl, refl)
  moves_one writes (does t) = absurd (no_step (values same) (own_url same modules begins m) (Performs same modules begins m) t)
  moves_one writes writes = (refl, refl)
  moves_one throws (does t) = absurd (no_step (values same) (own_url same modules begins m) (Performs same modules begins m) t)
  moves_one throws throws = (refl, refl)
  moves_one returns (does t) = absurd (no_step (values same) (own_url same modules begins m) (Performs same modules begins m) t)
  moves_one returns returns = (refl, refl)
  moves_one (prints a) (does t) = absurd (no_step (values same) (own_url same modules begins m) (Performs same modules begins m) t)
  moves_one (prints a) (prints b) = let k = follows_one _ (acts_one same modules begins one m) a b in (ap On k.0, k.1)
  moves_one chooses (does t) = absurd (no_step (values same) (own_url same modules begins m) (Performs same modules begins m) t)
  moves_one chooses chooses = (refl, refl)
  moves_one awaits (does t) = absurd (no_step (values same) (own_url same modules begins m) (Performs same modules begins m) t)
  moves_one awaits awaits = (refl, refl)
  moves_one {x = x} {y = y} (inner {scope' = s} {rest = rest} {move = a'} a) (inner {scope' = t} {move = b'} b) =
      let k = moves_one a b in
      let scope : t ≡ s = ap (λ (i : Inner N I). head [] i.scopes) k.1 in
      let scopes : y.scopes ≡ x.scopes = ap (λ (i : Inner N I). tail i.scopes) k.1 in
      let state : y.state ≡ x.state = ap (λ (i : Inner N I). i.state) k.1 in
      (λ j. within (λ r. more (In (scope j) r) rest) (k.0 j), λ j. record { scopes = scopes j; state = state j })
  moves_one (inner a) inner_end = elim a [ ]
  moves_one inner_end (inner b) = elim b [ ]
  moves_one inner_end inner_end = (refl, refl)
  moves_one (tries {rest = rest} {x = x} {handler = handler} a) (tries b) = let k = moves_one a b in (ap (caught x handler rest) k.0, k.1)
  moves_one (tries a) tries_end = elim a [ ]
  moves_one tries_end (tries b) = elim b [ ]
  moves_one tries_end tries_end = (refl, refl)
