-- What the job of a reaction is given and finds in the world, the parts of a machine have by ids.
use Rattle.std.proofs.Common.{◌≡◌, ℕ, nat_eq, Bool, true, false, List, [], ◌∷◌, map, Option, Some, None, refl, ap, subst, sym, ◌∙◌}
use Rattle.esm_base.specs.Urls.{Url, same_url}
use Rattle.esm_values.specs.Naming.{Naming}
use Rattle.esm_values.specs.Numbering.{numbering}
use Rattle.esm_values.specs.Value.{Value, Undefined, Truth, Text, Func, Error, Namespace, Promise}
use Rattle.esm_expr_eval.specs.Ready.{Holds}
use Rattle.esm_promise.specs.Promises.{Settled, Fulfilled, Rejected}
use Rattle.esm_promise.specs.Reactions.{Await, BodyEnd}
use Rattle.esm_env.specs.Declarations.{function_at}
use Rattle.esm_loads.specs.Loading.{Loading}
use Rattle.esm_loads.specs.UrlTable.{body_in}
use Rattle.esm_rewriting.specs.Bodies.{Taken, behind, given_by, take_by, take_standing}
use Rattle.esm_rewriting.specs.Fits.{IsKnown}
use Rattle.esm_rewriting.specs.Naming.{renamed_standing}
use Rattle.esm_rewriting.specs.State.{Standing}
use Rattle.esm_world.specs.Fits.{FitSettled, IsKnownValue}
use Rattle.esm_world.specs.World.{World}
use Rattle.esm_machine.specs.Inner.Parts.{AreLive, MayDo, seen_in, settled_in, url_in, value_in}
use Rattle.esm_machine.specs.Machine.{engine_by}
use Rattle.esm_machine.specs.Seen.{linked, modules}
use Rattle.esm_machine.specs.declared.parts.Parts.{Parts}
use Rattle.esm_machine.proofs.EntryJobs.{loading_is}
use Rattle.esm_machine.proofs.Following.{same_names}

-- ---- a body at an await

behind_some : (s : Standing Url) (o : Option (Taken Url)) (t : Taken Url) → behind same_url s o ≡ Some t → (u : Taken Url) × (o ≡ Some u)
behind_some s None t e = let f : ◌≡◌ {A = Option (Taken Url)} None (Some t) = e in absurd cc
behind_some s (Some u) t e = (u, refl)

module _ (urls : List Url) where
  abbrev names : Naming ℕ Url
  names = numbering urls

  abbrev named : List (Standing ℕ) → List (Standing Url)
  named ss = map (renamed_standing names) ss

  found_by : (b : Bool) (s : Standing ℕ) (ss : List (Standing ℕ)) (o : Option (Taken Url)) (p : Option (Taken ℕ)) (t : Taken Url)
      → take_by same_url b (renamed_standing names s) (named ss) o ≡ Some t → ((u : Taken Url) → o ≡ Some u → (v : Taken ℕ) × (p ≡ Some v))
      → (v : Taken ℕ) × (take_by nat_eq b s ss p ≡ Some v)
  found_by true s ss o p t e back = (record { standing = s; others = ss }, refl)
  found_by false s ss o p t e back =
      let u : (u : Taken Url) × (o ≡ Some u) = behind_some (renamed_standing names s) o t e in
      let v : (v : Taken ℕ) × (p ≡ Some v) = back u.0 u.1 in
      (record v.0 { others = s ∷ v.0.others }, ap (λ q. behind nat_eq s q) v.1)

  pub found : (ss : List (Standing ℕ)) (m : ℕ) (t : Taken Url) → take_standing same_url (named ss) (names.name m) ≡ Some t
      → (v : Taken ℕ) × (take_standing nat_eq ss m ≡ Some v)
  found [] m t e = let f : ◌≡◌ {A = Option (Taken Url)} None (Some t) = e in absurd cc
  found (s ∷ ss) m t e =
      let o : Option (Taken Url) = take_standing same_url (named ss) (names.name m) in
      found_by (nat_eq s.at m) s ss o (take_standing nat_eq ss m) t
      (subst (λ b. take_by same_url b (renamed_standing names s) (named ss) o ≡ Some t) (same_names urls s.at m) e) (λ u q. found ss m u q)

module _ (p : Parts) (m : ℕ) (how : Settled (Value ℕ)) where
  pub stands_by_id : MayDo p (Await m) how → (t : Taken ℕ) × (take_standing nat_eq (engine_by p.host.bodies).standing m ≡ Some t)
  stands_by_id d =
      let standing : d.world.engine.standing ≡ map (renamed_standing (numbering (seen_in p).urls)) (engine_by p.host.bodies).standing =
      ap (λ (w : World). w.engine.standing) d.live.stands.world in
      found (seen_in p).urls (engine_by p.host.bodies).standing m d.may.finds.0
      (subst (λ ss. take_standing same_url ss (url_in p m) ≡ Some d.may.finds.0) standing d.may.finds.1)

-- ---- values

module _ (p : Parts) (w : World) (live : AreLive p w) where
  pub known_by_id : (v : Value ℕ) → IsKnownValue w.linked w.loading.entries (value_in p v) → IsKnown (modules (seen_in p)) (linked (seen_in p)) v
  known_by_id Undefined k = tt
  known_by_id (Truth b) k = tt
  known_by_id (Text t) k = tt
  known_by_id (Func m i) k = (
    sym (live.stands.linked (url_in p m)) ∙ k.0,
    (k.1.0, sym (ap (λ (l : Loading). function_at (body_in (l.entries (url_in p m))) i) (loading_is p w live)) ∙ k.1.1),
  )
  known_by_id (Error id) k = tt
  known_by_id (Namespace m) k = sym (live.stands.linked (url_in p m)) ∙ k
  known_by_id (Promise id) k = tt

  -- what an await is given
  pub given_known : (how : Settled (Value ℕ)) → FitSettled w.linked w.loading.entries (settled_in p how)
      → Holds (IsKnown (modules (seen_in p)) (linked (seen_in p))) ⊥ (given_by how)
  given_known (Fulfilled v) k = known_by_id v k
  given_known (Rejected v) k = known_by_id v k

pub knows_given : (p : Parts) (m : ℕ) (how : Settled (Value ℕ)) → MayDo p (Await m) how
    → Holds (IsKnown (modules (seen_in p)) (linked (seen_in p))) ⊥ (given_by how)
knows_given p m how d = given_known p d.world d.live how d.may.how_fits

-- the error of a body
pub knows_thrown : (p : Parts) (m : ℕ) (v : Value ℕ) → MayDo p (BodyEnd m) (Rejected v) → IsKnown (modules (seen_in p)) (linked (seen_in p)) v
knows_thrown p m v d = known_by_id p d.world d.live v d.may.how_fits
